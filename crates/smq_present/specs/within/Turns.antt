-- Which PDU of the other direction is the partner of one: that of its sequence number and rank; and where these are found.
use Rattle.std.specs.Prelude.{◌≡◌, ◌≤◌, ◌<◌, ◌+◌, ◌==◌, ◌&&◌, if◌then◌else◌, ℕ, Bool, true, List, [], ◌∷◌, take, drop, length, filter, count_by, slice_get, Option, Some, None, option_and_then, unwrap_or}
use Rattle.std.specs.Ordering.{nat_cmp}
use Rattle.std.specs.BTreeMap.{BTreeMap}
use Rattle.std.specs.BTreeMap as tree
use Rattle.smq_pdu.specs.Header.{Header}
use Rattle.smq_pdu.specs.Pairing.{is_request, is_response}
use Rattle.smq_present.specs.declared.present.kept.StoredPdu.{StoredPdu}
use Rattle.smq_present.specs.present.Kept.{header_of, headers_of}
use Rattle.smq_present.specs.declared.pairing.sides.Kind.{Kind}
use Rattle.smq_present.specs.declared.pairing.sides.Kind.TheVariants.{Request, Response}
use Rattle.smq_present.specs.declared.pairing.sides.Turns.{Turns}

-- whether a PDU is of a kind
abbrev pub is_kind : Kind → Header → Bool
is_kind Request h = is_request h
is_kind Response h = is_response h

-- the kind with which it is in pairs
abbrev pub opposite : Kind → Kind
opposite Request = Response
opposite Response = Request

-- whether a PDU is of a kind and has this sequence number
abbrev pub is_turn : Kind → ℕ → Header → Bool
is_turn kind seq h = is_kind kind h && h.seq == seq

-- the PDUs of a kind and a number, in order
abbrev pub turns_of : Kind → ℕ → List StoredPdu → List StoredPdu
turns_of kind seq pdus = filter (λ p. is_turn kind seq (header_of p)) pdus

-- the partner of a PDU of a kind that comes after these: that of its rank among those of the other kind with its number
abbrev pub partner_after : Kind → List StoredPdu → List StoredPdu → StoredPdu → Option StoredPdu
partner_after kind other earlier p =
    slice_get (turns_of (opposite kind) p.seq other) (count_by (is_turn kind p.seq) (headers_of earlier))

-- the PDU at an index that is kept for the i-th of the other direction
abbrev pub partner_at : List (Option ℕ) → List StoredPdu → ℕ → Option StoredPdu
partner_at partners other i = option_and_then (slice_get other) (unwrap_or (slice_get partners i) None)

-- each PDU of a kind has its partner, as far as an index
abbrev pub HasPartnersTo : ℕ → Kind → List StoredPdu → List StoredPdu → List (Option ℕ) → Type 0
HasPartnersTo n kind mine other partners =
    (i : ℕ) (p : StoredPdu) → i < n → slice_get mine i ≡ Some p → is_kind kind (header_of p) ≡ true
    → partner_at partners other i ≡ partner_after kind other (take i mine) p

-- each has
abbrev pub HasPartners : Kind → List StoredPdu → List StoredPdu → List (Option ℕ) → Type 0
HasPartners kind mine other partners = HasPartnersTo (length mine) kind mine other partners

-- ---- turns

-- The PDU at an index is the first of those that are left of a kind and a number.
pub record IsFirst (kind : Kind) (seq : ℕ) (pdus left : List StoredPdu) (j : ℕ) : Type 0 where
  pub pdu : StoredPdu
  pub at : slice_get pdus j ≡ Some pdu
  pub turn : is_turn kind seq (header_of pdu) ≡ true
  pub is : left ≡ pdu ∷ turns_of kind seq (drop (j + 1) pdus)

-- those that are left of a kind and a number begin there, or none is left
abbrev pub BeginsAt : Kind → ℕ → List StoredPdu → List StoredPdu → Option ℕ → Type 0
BeginsAt kind seq pdus left None = left ≡ []
BeginsAt kind seq pdus left (Some j) = IsFirst kind seq pdus left j

-- what a map has for a number
abbrev pub first_in : BTreeMap ℕ (Option ℕ) → ℕ → Option ℕ
first_in first seq = unwrap_or (tree.get nat_cmp first seq) None

-- what is kept for an index
abbrev pub next_at : List (Option ℕ) → ℕ → Option ℕ
next_at next j = unwrap_or (slice_get next j) None

-- the first after the first is taken
abbrev pub advanced : List (Option ℕ) → Option ℕ → Option ℕ
advanced next first = option_and_then (next_at next) first

-- of each PDU from an index on the next of its kind and number is kept
abbrev pub HasNext : Kind → List StoredPdu → ℕ → List (Option ℕ) → Type 0
HasNext kind pdus low next =
    (j : ℕ) (p : StoredPdu) (seq : ℕ) → low ≤ j → slice_get pdus j ≡ Some p → is_turn kind seq (header_of p) ≡ true
    → BeginsAt kind seq pdus (turns_of kind seq (drop (j + 1) pdus)) (next_at next j)

-- Of each number so many are taken.
pub record HasTurns (kind : Kind) (pdus : List StoredPdu) (taken : ℕ → ℕ) (turns : Turns) : Type 0 where
  pub first : (seq : ℕ) → BeginsAt kind seq pdus (drop (taken seq) (turns_of kind seq pdus)) (first_in turns.first seq)
  pub next : HasNext kind pdus 0 turns.next.items

-- one more of a number is taken
abbrev pub taken_more : ℕ → (ℕ → ℕ) → ℕ → ℕ
taken_more seq taken q = if seq == q then taken q + 1 else taken q
