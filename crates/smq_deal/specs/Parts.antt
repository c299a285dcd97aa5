-- The parts to which PDUs are dealt by a rule.
use Rattle.std.specs.Prelude.{◌≡◌, ◌≢◌, ◌<◌, ◌+◌, ◌*◌, ◌%◌, ◌==◌, ◌++◌, max, ℕ, zero, suc, Bool, false, List, [], ◌∷◌, length, fold, map, Option, Some, None, option_map, unwrap_or, Contains}
use Rattle.std.specs.FinMap as fin
use Rattle.std.specs.List.{flat_map}
use Rattle.smq_kit.specs.Orders.{place_cmp}
use Rattle.smq_kit.specs.declared.link_key.LinkKey.{LinkKey}
use Rattle.smq_kit.specs.declared.message_id.Key.{Key}
use Rattle.smq_kit.specs.declared.message_id.Key.TheVariants.{Number, Text}
use Rattle.smq_kit.specs.declared.place.Dir.{Dir}
use Rattle.smq_kit.specs.declared.place.Dir.TheVariants.{FromClient, FromCentre}
use Rattle.smq_kit.specs.declared.place.Place.{Place}
use Rattle.smq_present.specs.declared.pairing.pairs.SessionForms.{SessionForms}
use Rattle.smq_present.specs.declared.present.kept.StoredPdu.{StoredPdu}
use Rattle.smq_present.specs.declared.present.session.Session.{Session}
use Rattle.smq_present.specs.pairing.Dealt.{KeepsPairsTogether}
use Rattle.smq_present.specs.pairing.Traffic.{origin_of, place_of, traffic_of, with_earlier}
use Rattle.smq_present.specs.present.Kept.{kept_pdus}
use Rattle.smq_present.specs.present.Present.{PresentValue}
use Rattle.smq_present.specs.whole.Dealt.{KeepsKeysTogether, dealt, tables_from}
use Rattle.smq_present.specs.whole.Scratch.{scratch}
use Rattle.smq_present.specs.within.Lists.{source_of}
use Rattle.smq_tally.specs.Tables.{TablesValue, count_at, listed_in}
use Rattle.smq_tally.specs.declared.list.List as l
use Rattle.smq_tally.specs.declared.list.List.TheVariants.{Broken}
use Rattle.smq_tally.specs.declared.outcome.Outcome.{Outcome}
use Rattle.smq_tally.specs.declared.value.Value.{Value}
use Rattle.smq_tally.specs.declared.view.View.{View}
use Rattle.smq_deal.specs.Keys.{key_with, partner_of}

-- To which part a PDU goes: one with a key by this; a request and its response without one by their sequence number; and what has neither a
-- key nor a partner by where it comes from and what it is.
pub record RuleValue : Type 0 where
  pub keyed : LinkKey → ℕ
  pub paired : ℕ → ℕ
  pub lone : SessionForms → StoredPdu → ℕ

-- the part of a PDU with this key and this partner
abbrev pub part_with : RuleValue → SessionForms → StoredPdu → Option LinkKey → Option StoredPdu → ℕ
part_with rule source p (Some key) partner = rule.keyed key
part_with rule source p None (Some other) = rule.paired p.seq
part_with rule source p None None = rule.lone source p

-- the part of a PDU of a direction that comes after these, where the PDUs of the other direction are those
abbrev pub part_of : RuleValue → SessionForms → Dir → List StoredPdu → List StoredPdu → StoredPdu → ℕ
part_of rule source dir other earlier p =
    part_with rule source p (key_with source dir p (partner_of other earlier p)) (partner_of other earlier p)

-- the parts of the PDUs of a direction, in order
abbrev pub parts_of : RuleValue → SessionForms → Dir → List StoredPdu → List StoredPdu → List ℕ
parts_of rule source dir mine other = map (λ e. part_of rule source dir other e.0 e.1) (with_earlier [] mine)

-- of each direction of a session, the client's first
abbrev pub session_parts : RuleValue → PresentValue → ℕ × Session → List (List ℕ)
session_parts rule p e =
    parts_of rule (source_of p.settings e) FromClient (kept_pdus e.1.client) (kept_pdus e.1.centre)
    ∷ parts_of rule (source_of p.settings e) FromCentre (kept_pdus e.1.centre) (kept_pdus e.1.client) ∷ []

-- of each session, in the order of their numbers
abbrev pub all_parts : RuleValue → PresentValue → List (List ℕ)
all_parts rule p = flat_map (session_parts rule p) (fin.entries p.sessions)

-- ---- by key

-- a number of a text, by all its octets
abbrev pub text_number : List ℕ → ℕ
text_number text = fold (λ number octet. (number * 31 + octet) % 4294967291) 0 text

-- a number of a key
abbrev pub key_number : Key → ℕ
key_number (Number n) = n
key_number (Text text) = text_number text

-- so many parts by key, one at least
abbrev pub by_key : ℕ → RuleValue
by_key parts = record {
  keyed = λ key. key_number key.key % max 1 parts;
  paired = λ seq. seq % max 1 parts;
  lone = λ source p. p.seq % max 1 parts;
}

-- ---- what parts keep together

-- the parts of the PDUs of a direction, by their places
abbrev pub placed_parts : RuleValue → PresentValue → ℕ × Session → Dir → List StoredPdu → List StoredPdu → List (Place × ℕ)
placed_parts rule p e dir mine other =
    map (λ x. (place_of (origin_of e) dir x.1, part_of rule (source_of p.settings e) dir other x.0 x.1)) (with_earlier [] mine)

-- the part of each PDU that is present, by its place
abbrev pub part_map : RuleValue → PresentValue → fin.FinMap place_cmp ℕ
part_map rule p = fin.from_entries (flat_map (λ e.
    placed_parts rule p e FromClient (kept_pdus e.1.client) (kept_pdus e.1.centre)
    ++ placed_parts rule p e FromCentre (kept_pdus e.1.centre) (kept_pdus e.1.client)) (fin.entries p.sessions))

-- whether a place is that of a PDU of a part
abbrev pub is_in_part : RuleValue → PresentValue → ℕ → Place → Bool
is_in_part rule p part place = unwrap_or (option_map (λ it. it == part) (fin.get (part_map rule p) place)) false

-- no part has a request without its response
abbrev pub KeepsAllPairs : RuleValue → Type 0
KeepsAllPairs rule = (p : PresentValue) (part : ℕ) (e : ℕ × Session) → Contains (fin.entries p.sessions) e
    → KeepsPairsTogether (is_in_part rule p part) (origin_of e) (kept_pdus e.1.client) (kept_pdus e.1.centre)

-- and none an accepted message or a delivery receipt without all others of its link that have its key
abbrev pub KeepsAllKeys : RuleValue → Type 0
KeepsAllKeys rule = (p : PresentValue) (part : ℕ)
    → KeepsKeysTogether p.settings (traffic_of p.sessions) (is_in_part rule p part)

-- ---- what the parts add up to

-- All parts of a rule are below this number.
pub record IsBelow (n : ℕ) (rule : RuleValue) : Type 0 where
  pub keyed : (key : LinkKey) → rule.keyed key < n
  pub paired : (seq : ℕ) → rule.paired seq < n
  pub lone : (source : SessionForms) (p : StoredPdu) → rule.lone source p < n

-- the sum over all numbers below one
abbrev pub sum_below : (ℕ → ℕ) → ℕ → ℕ
sum_below f zero = 0
sum_below f (suc n) = sum_below f n + f n

-- the tables of a part
abbrev pub part_tables : RuleValue → PresentValue → ℕ → TablesValue
part_tables rule p part = tables_from p.settings (dealt (is_in_part rule p part) (traffic_of p.sessions))

-- Each count is the sum of the counts of so many parts.
abbrev pub CountsAddUp : ℕ → RuleValue → Type 0
CountsAddUp n rule = (p : PresentValue) (view : View) (value : Value) (outcome : Outcome)
    → count_at (scratch p) view value outcome ≡ sum_below (λ part. count_at (part_tables rule p part) view value outcome) n

-- Each list is as long as those of so many parts together, but the list of the places where directions are broken, at which no PDU stands.
abbrev pub ListsAddUp : ℕ → RuleValue → Type 0
ListsAddUp n rule = (p : PresentValue) (list : l.List) → list ≢ Broken
    → length (listed_in (scratch p) list) ≡ sum_below (λ part. length (listed_in (part_tables rule p part) list)) n
