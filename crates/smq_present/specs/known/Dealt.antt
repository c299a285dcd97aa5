-- Known traffic that is dealt to two parts: by key, and so that a receipt is parted from its message.
use Rattle.std.specs.Prelude.{◌≡◌, ◌==◌, not, ℕ, Bool, [], ◌∷◌, Some}
use Rattle.smq_kit.specs.declared.message_id.Form.TheVariants.{Verbatim}
use Rattle.smq_kit.specs.declared.place.Place.{Place}
use Rattle.smq_tally.specs.declared.outcome.Outcome.{Outcome}
use Rattle.smq_tally.specs.declared.outcome.Outcome.TheVariants as o
use Rattle.smq_tally.specs.declared.value.Value.TheVariants as w
use Rattle.smq_tally.specs.declared.view.View.TheVariants as view
use Rattle.smq_tally.specs.Tables.{count_at}
use Rattle.smq_present.specs.present.Content as c
use Rattle.smq_present.specs.pairing.Traffic.{TrafficValue}
use Rattle.smq_present.specs.whole.Dealt.{dealt, other_places, tables_from}
use Rattle.smq_present.specs.known.Join.{known_traffic, settings_with}
use Rattle.smq_present.specs.known.Pairing.{accepted, delivered, pdu, submit}

-- two messages of session 10, at 0 and 49, which are accepted with the ids `1` and `2`, and a receipt of the first, at 34
abbrev pub two_keys : TrafficValue
two_keys =
    known_traffic (submit 0 1 1 ∷ submit 49 2 1 ∷ [])
    (accepted 1 ∷ pdu 17 0x8000_0004 0 2 (c.SubmitAnswer (Some (50 ∷ []))) ∷ delivered 34 5000 ∷ [])

-- the places of all but the second message
abbrev pub of_first_key : Place → Bool
of_first_key place = not (place.offset == 49)

-- the places of all but the receipt
abbrev pub of_messages : Place → Bool
of_messages place = not (place.offset == 34)

-- how many messages of link 1 have an outcome, where ids are taken verbatim
abbrev pub counted : TrafficValue → Outcome → ℕ
counted t outcome =
    count_at (tables_from (settings_with Verbatim Verbatim) t) view.Link (w.Link (record { 0 = 1 })) outcome

-- What is counted of traffic that is written out, and of its parts: by key the parts' counts add, and where the receipt is
-- parted from its message they don't.
pub record KnownParts : Type 0 where
  pub is_delivered : counted two_keys o.Delivered ≡ 1
  pub is_open : counted two_keys o.Open ≡ 1
  pub first_delivered : counted (dealt of_first_key two_keys) o.Delivered ≡ 1
  pub first_open : counted (dealt of_first_key two_keys) o.Open ≡ 0
  pub second_delivered : counted (dealt (other_places of_first_key) two_keys) o.Delivered ≡ 0
  pub second_open : counted (dealt (other_places of_first_key) two_keys) o.Open ≡ 1
  pub parted_delivered : counted (dealt of_messages two_keys) o.Delivered ≡ 0
  pub parted_open : counted (dealt of_messages two_keys) o.Open ≡ 2
  pub receipt_delivered : counted (dealt (other_places of_messages) two_keys) o.Delivered ≡ 0
  pub receipt_open : counted (dealt (other_places of_messages) two_keys) o.Open ≡ 0
