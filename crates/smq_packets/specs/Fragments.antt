-- Datagrams put together from their fragments (RFC 791, 3.2; RFC 8200, 4.5; RFC 5722, 4).
use Rattle.std.specs.Prelude.{◌≡◌, ℕ, zero, suc, ◌+◌, ◌*◌, ◌-◌, ◌%◌, ◌^◌, ◌<◌, min, Bool, true, false, ◌==◌, ◌&&◌, ◌||◌, not, nat_lt, nat_le, filter, if◌then◌else◌, List, [], ◌∷◌, ◌++◌, drop, length, find, vec_len, Option, Some, None, option_map, option_and_then, Result, Ok, Err}
use Rattle.std.specs.List.{list_any}
use Rattle.smq_packets.specs.Addresses.{is_same_address}
use Rattle.smq_packets.specs.Datagrams.{head_of_protocol, head_of_next}
use Rattle.smq_packets.specs.Numbers.{between}
use Rattle.smq_packets.specs.Segments.{SegmentValue, carried_by}
use Rattle.smq_packets.specs.declared.datagram.Fragment.{Fragment}
use Rattle.smq_packets.specs.declared.part.Part.{Part}
use Rattle.smq_packets.specs.declared.fragments.Whole.{Whole}
use Rattle.smq_packets.specs.declared.layer.Address.{Address}
use Rattle.smq_packets.specs.declared.layer.Address.TheVariants.{V4, V6}
use Rattle.smq_packets.specs.declared.layer.Head.{Head}
use Rattle.smq_packets.specs.declared.layer.Unread.{Unread}
use Rattle.smq_packets.specs.declared.layer.Unread.TheVariants.{OtherProtocol}

-- the fragments that are kept, the oldest first, and how many were let go
pub record FragmentsValue : Type 0 where
  pub parts : List Part
  pub dropped : ℕ

-- fragments of one datagram have its ends, its protocol and its identification
abbrev pub belongs : Part → Fragment → Bool
belongs p f =
    is_same_address p.source f.source && is_same_address p.destination f.destination
    && p.identification == f.identification && p.protocol == f.protocol

-- how many octets a fragment has
abbrev pub size_of_fragment : Fragment → ℕ
size_of_fragment f = f.until - f.start

-- A fragment is of no use that wasn't captured as a whole, has no octets, isn't a multiple of 8 where others follow, or ends behind the
-- 65,535th octet of its datagram.
abbrev pub is_unusable_in : List ℕ → Fragment → Bool
is_unusable_in frame f =
    not (nat_lt f.start f.until) || nat_lt (length frame) f.until
    || f.is_followed && not (size_of_fragment f % 8 == 0) || nat_lt 65535 (f.offset + size_of_fragment f)

-- a part says the same place of the same datagram
abbrev pub repeats : Part → Fragment → Bool
repeats p f =
    belongs p f && p.offset == f.offset && vec_len p.octets == size_of_fragment f

-- a part of the same datagram has a place in common, or overlapped another
abbrev pub overlaps : Part → Fragment → Bool
overlaps p f =
    belongs p f && (p.is_overlapping
    || nat_lt p.offset (f.offset + size_of_fragment f) && nat_lt f.offset (p.offset + vec_len p.octets))

-- whether a fragment was kept before, and whether it overlaps one of its datagram, or others there overlapped
unfoldable pub is_repeated : Fragment → List Part → Bool
is_repeated f parts = list_any (λ p. repeats p f) parts

unfoldable pub is_overlapped : Fragment → List Part → Bool
is_overlapped f parts = list_any (λ p. overlaps p f) parts

-- the part that is kept of a fragment
pub record IsPartOf (p : Part) (f : Fragment) (moment : ℕ) (frame : List ℕ) (is_overlapping : Bool) : Type 0 where
  pub source : p.source ≡ f.source
  pub destination : p.destination ≡ f.destination
  pub protocol : p.protocol ≡ f.protocol
  pub identification : p.identification ≡ f.identification
  pub offset : p.offset ≡ f.offset
  pub is_followed : p.is_followed ≡ f.is_followed
  pub moment_is : p.moment ≡ moment
  pub overlapping : p.is_overlapping ≡ is_overlapping
  pub octets : p.octets.items ≡ between f.start f.until frame

-- the part of a datagram at an offset
abbrev pub part_at : List Part → Fragment → ℕ → Option Part
part_at parts f at = find (λ p. belongs p f && p.offset == at) parts

-- the octets of a datagram from an offset on, where each of at most so many parts begins where the one before it ends, none of them
-- overlapped, and no other follows the last
unfoldable pub joined : ℕ → List Part → Fragment → ℕ → Option (List ℕ)
joined zero parts f at = None
joined (suc more) parts f at =
    option_and_then (λ p.
    if p.is_overlapping then None
    else if p.is_followed
    then option_map (λ rest. p.octets.items ++ rest) (joined more parts f (at + length p.octets.items))
    else Some p.octets.items)
    (part_at parts f at)

-- the octets of a datagram whose parts are there
abbrev pub joined_of : List Part → Fragment → Option (List ℕ)
joined_of parts f = joined (length parts) parts f 0

-- ---- what is kept

-- no other has room, or the oldest was kept for more than 60,000 ms
abbrev pub is_full_at : ℕ → List Part → Bool
is_full_at moment [] = false
is_full_at moment (p ∷ ps) = nat_le 128 (length (p ∷ ps)) || nat_lt 60000 (moment - p.moment)

-- So many of the oldest are let go, and no more than are too old or too many.
pub record MakesRoom (moment : ℕ) (before : List Part) (gone : ℕ) : Type 0 where
  pub needed : (k : ℕ) → k < gone → is_full_at moment (drop k before) ≡ true
  pub enough : is_full_at moment (drop gone before) ≡ false

-- so many more that were let go
abbrev pub counted : ℕ → ℕ → ℕ
counted before gone = min (before + gone) (2 ^ 64 - 1)

-- a fragment is let go itself
pub record LetsGo (before after : FragmentsValue) : Type 0 where
  pub parts : after.parts ≡ before.parts
  pub dropped : after.dropped ≡ counted before.dropped 1

-- a fragment waits with those kept before it, but for the oldest: they don't make its datagram whole
pub record Waits (before after : FragmentsValue) (moment : ℕ) (f : Fragment) (frame : List ℕ) : Type 0 where
  pub gone : ℕ
  pub part : Part
  pub room : MakesRoom moment before.parts gone
  pub is_part : IsPartOf part f moment frame (is_overlapped f before.parts)
  pub parts : after.parts ≡ drop gone before.parts ++ part ∷ []
  pub none : joined_of after.parts f ≡ None
  pub dropped : after.dropped ≡ counted before.dropped gone

-- A fragment makes its datagram whole with those kept before it, but for the oldest. No part of it is kept.
pub record PutsTogether (before after : FragmentsValue) (moment : ℕ) (f : Fragment) (frame : List ℕ) (whole : Whole) : Type 0 where
  pub gone : ℕ
  pub part : Part
  pub room : MakesRoom moment before.parts gone
  pub is_part : IsPartOf part f moment frame (is_overlapped f before.parts)
  pub octets : joined_of (drop gone before.parts ++ part ∷ []) f ≡ Some whole.octets.items
  pub parts : after.parts ≡ filter (λ p. not (belongs p f)) (drop gone before.parts ++ part ∷ [])
  pub dropped : after.dropped ≡ counted before.dropped gone
  pub source : whole.source ≡ f.source
  pub destination : whole.destination ≡ f.destination
  pub protocol : whole.protocol ≡ f.protocol

-- the segment of a datagram put together
abbrev pub segment_behind : Option Head → Whole → Result SegmentValue Unread
segment_behind None whole = Err OtherProtocol
segment_behind (Some head) whole = carried_by 32 whole.octets.items (record {
  head = head;
  start = 0;
  until = length whole.octets.items;
  source = whole.source;
  destination = whole.destination;
})

abbrev pub head_behind : Address → ℕ → Option Head
head_behind (V4 a) protocol = head_of_protocol protocol
head_behind (V6 a b) protocol = head_of_next protocol

abbrev pub segment_of_whole : Whole → Result SegmentValue Unread
segment_of_whole whole = segment_behind (head_behind whole.source whole.protocol) whole
