-- What isn't settled at a moment.
use Rattle.std.specs.Prelude.{◌≡◌, ◌&&◌, ◌||◌, ◌++◌, cond, max, nat_lt, not, fold, ℕ, Bool, true, false, List, [], ◌∷◌}
use Rattle.std.specs.Prelude.{Option, Some, None, is_none, option_map, option_to_list}
use Rattle.std.specs.BTreeSet.{BTreeSet, contains}
use Rattle.std.specs.FinMap as fin
use Rattle.std.specs.List.{flat_map, list_any}
use Rattle.smq_kit.specs.LinkKeys.{kept_key_cmp, same_key}
use Rattle.smq_kit.specs.declared.link_key.LinkKey.{LinkKey}
use Rattle.smq_kit.specs.declared.message_id.Key.{Key}
use Rattle.smq_kit.specs.declared.names.LinkId.{LinkId}
use Rattle.smq_kit.specs.declared.place.Dir.TheVariants.{FromCentre}
use Rattle.smq_pdu.specs.Pairing.{is_request, is_response}
use Rattle.smq_tally.specs.declared.outcome.Outcome.{Outcome}
use Rattle.smq_tally.specs.declared.outcome.Outcome.TheVariants as outcome
use Rattle.smq_present.specs.declared.join.lines.ReceiptStanding.{ReceiptStanding}
use Rattle.smq_present.specs.declared.join.lines.ReceiptStanding.TheVariants as standing
use Rattle.smq_present.specs.declared.pairing.pairs.SessionForms.{SessionForms}
use Rattle.smq_present.specs.declared.present.kept.StoredPdu.{StoredPdu}
use Rattle.smq_present.specs.join.Circumstances.{has_ended, window_of}
use Rattle.smq_present.specs.join.Lines.{MessageLineValue, ReceiptLineValue}
use Rattle.smq_present.specs.pairing.Traffic.{with_earlier}
use Rattle.smq_present.specs.present.Kept.{header_of, kept_pdus}
use Rattle.smq_present.specs.present.Present.{PresentValue}
use Rattle.smq_present.specs.present.Settings.{SettingsValue}
use Rattle.smq_present.specs.present.Stream.{last_moment}
use Rattle.smq_present.specs.within.Sourced.{SessionView, sourced_of}
use Rattle.smq_scratch.specs.Lines.{message_lines, receipt_lines}
use Rattle.smq_deal.specs.Keys.{key_with, partner_of}
use Rattle.smq_deal.specs.Parts.{RuleValue}

-- the last moment that is known, in ms since 1970: the clock, or the last moment of a session
abbrev pub last_known : PresentValue → ℕ
last_known p =
    fold (λ last e. max last (max (last_moment e.1.client) (last_moment e.1.centre))) p.settings.clock (fin.entries p.sessions)

-- whether what came on a link at a moment may get its other yet, at the last moment that is known: it is within the link's window
abbrev pub awaits : SettingsValue → ℕ → LinkId → ℕ → Bool
awaits s now link moment = not (has_ended now moment (window_of s link))

-- whether a delivery receipt may come for a message of this outcome
abbrev pub may_get_receipt : Outcome → Bool
may_get_receipt outcome.Open = true
may_get_receipt outcome.Unasked = true
may_get_receipt outcome.Ambiguous = true
may_get_receipt _ = false

-- whether a message may come for a delivery receipt that stands so
abbrev pub may_get_message : ReceiptStanding → Bool
may_get_message standing.Stray = true
may_get_message _ = false

-- a key of a link
abbrev pub on_link : LinkId → Key → LinkKey
on_link link key = record { link = link; key = key }

-- the key of a message for which a delivery receipt may come
abbrev pub open_message : SettingsValue → ℕ → MessageLineValue → List LinkKey
open_message s now line =
    cond (may_get_receipt line.fact.outcome && awaits s now line.fact.link line.moment)
    (option_to_list (option_map (on_link line.fact.link) line.key)) []

-- the key of a delivery receipt for which a message may come
abbrev pub open_receipt : SettingsValue → ℕ → ReceiptLineValue → List LinkKey
open_receipt s now line =
    cond (may_get_message line.standing && awaits s now line.link line.moment) (on_link line.link line.key ∷ []) []

-- the key of a PDU of a centre for which a response may come, where it is a delivery receipt
abbrev pub unanswered : SettingsValue → ℕ → SessionForms → List StoredPdu → List StoredPdu → StoredPdu → List LinkKey
unanswered s now source other earlier p =
    cond (is_none (partner_of other earlier p) && awaits s now source.link p.moment)
    (option_to_list (key_with source FromCentre p None)) []

-- those of the PDUs of a centre, where the other direction has those
abbrev pub unanswered_among : SettingsValue → ℕ → SessionForms → List StoredPdu → List StoredPdu → List LinkKey
unanswered_among s now source other mine = flat_map (λ e. unanswered s now source other e.0 e.1) (with_earlier [] mine)

-- those of a session
abbrev pub unanswered_in : SettingsValue → ℕ → SessionView → List LinkKey
unanswered_in s now view = unanswered_among s now view.source (kept_pdus view.session.client) (kept_pdus view.session.centre)

-- the keys that aren't settled
abbrev pub open_keys : PresentValue → List LinkKey
open_keys p =
    flat_map (open_message p.settings (last_known p)) (message_lines p)
    ++ flat_map (open_receipt p.settings (last_known p)) (receipt_lines p)
    ++ flat_map (unanswered_in p.settings (last_known p)) (sourced_of p)

-- whether a key isn't settled
abbrev pub is_open : PresentValue → LinkKey → Bool
is_open p key = list_any (same_key key) (open_keys p)

-- the keys of a set are those that it had, and these
abbrev pub Gains : BTreeSet LinkKey → BTreeSet LinkKey → List LinkKey → Type 0
Gains old new added =
    (key : LinkKey) → contains kept_key_cmp new key ≡ (contains kept_key_cmp old key || list_any (same_key key) added)

-- what a set and these keys have together is what one has with those
abbrev pub Reaches : BTreeSet LinkKey → BTreeSet LinkKey → List LinkKey → List LinkKey → Type 0
Reaches old now left all = (key : LinkKey)
    → (contains kept_key_cmp now key || list_any (same_key key) left) ≡ (contains kept_key_cmp old key || list_any (same_key key) all)

-- whether a PDU without a key isn't settled that has no partner: it wants one, and is within its link's window
abbrev pub is_lone_open : SettingsValue → ℕ → SessionForms → StoredPdu → Bool
is_lone_open s now source p =
    (is_request (header_of p) || is_response (header_of p)) && awaits s now source.link p.moment

-- what is settled goes to part 0, and the rest to part 1, where these keys are open
abbrev pub settled_by : SettingsValue → ℕ → (LinkKey → Bool) → RuleValue
settled_by s now has = record {
  keyed = λ key. cond (has key) 1 0;
  paired = λ seq. 0;
  lone = λ source p. cond (is_lone_open s now source p) 1 0;
}

-- the clock of what is settled, where it isn't the script's: the last moment that is known, where there is one
abbrev pub settled_clock : PresentValue → Option ℕ
settled_clock p = cond (nat_lt 0 (last_known p)) (Some (last_known p)) None
