-- The stream of octets of one direction.
use Rattle.std.specs.Prelude.{◌≡◌, ◌≤◌, ℕ, ◌-◌, ◌^◌, List, length, slice_index}
use Rattle.std.specs.List.{flat_map}
use Rattle.smq_frame.specs.Stream.{Octet, values, moments, handed_in}
use Rattle.smq_frame.specs.Tail.{TailValue, tail_of}
use Rattle.smq_present.specs.declared.present.kept.StoredPdu.{StoredPdu}
use Rattle.smq_present.specs.declared.present.session.Piece.{Piece}
use Rattle.smq_present.specs.present.Kept.{kept_pdus}

-- the stream that pieces of one moment each are
abbrev pub stream_of : List Piece → List Octet
stream_of pieces = flat_map (λ p. handed_in p.moment p.octets) pieces

-- the moment of the last octet, and 0 where there is none
unfoldable pub last_moment : List Octet → ℕ
last_moment stream = slice_index (moments stream) (length stream - 1)

-- The tail, the PDUs and the last moment that are kept beside a stream are the stream's, and it has no more octets than a direction
-- may.
pub record Keeps (stream : List Octet) (tail : TailValue) (pdus : List StoredPdu) (last : ℕ) : Type 0 where
  pub tail_is : tail ≡ tail_of (values stream)
  pub pdus_are : pdus ≡ kept_pdus stream
  pub last_is : last ≡ last_moment stream
  pub in_limit : length stream ≤ 2 ^ 48
