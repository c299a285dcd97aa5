-- A piece of octets that is prepared for a direction.
use Rattle.std.specs.Prelude.{ℕ, ◌+◌, ◌^◌, ◌==◌, nat_lt, List, [], ◌∷◌, length, map, Option}
use Rattle.smq_kit.specs.declared.names.LinkId.{LinkId}
use Rattle.smq_kit.specs.declared.names.SessionId.{SessionId}
use Rattle.smq_kit.specs.declared.place.Dir.{Dir}
use Rattle.smq_kit.specs.declared.refusal.Refusal.{Refusal}
use Rattle.smq_kit.specs.declared.refusal.Refusal.TheVariants.{EmptyPiece, StreamFull}
use Rattle.smq_frame.specs.Stream.{frames_after}
use Rattle.smq_frame.specs.Tail.{TailValue, tail_after}
use Rattle.smq_pdu.specs.Placed.{placed_pdu}
use Rattle.smq_present.specs.declared.present.kept.StoredPdu.{StoredPdu}
use Rattle.smq_present.specs.present.Kept.{kept_pdu}
use Rattle.smq_kit.specs.Replies.{first_of, refused_if}

-- octets with their moment, the direction that they are for, and the tail on which they were decoded
pub record BatchValue : Type 0 where
  pub link : LinkId
  pub session : SessionId
  pub dir : Dir
  pub tail : TailValue
  pub moment : ℕ
  pub octets : List ℕ

-- the batch of these parts
abbrev pub batch_of : LinkId → SessionId → Dir → TailValue → ℕ → List ℕ → BatchValue
batch_of link session dir tail moment octets =
    record { link = link; session = session; dir = dir; tail = tail; moment = moment; octets = octets }

-- a batch with these octets in place of its own
abbrev pub with_octets : BatchValue → List ℕ → BatchValue
with_octets batch octets = record batch { octets = octets }

-- the batch of these octets that is prepared, at a moment, on the tail that others of the same direction leave
abbrev pub continued : BatchValue → List ℕ → ℕ → List ℕ → BatchValue
continued batch first moment octets =
    record batch { tail = tail_after batch.tail first; moment = moment; octets = octets }

-- what is kept of the PDUs that a batch completes
abbrev pub batch_pdus : BatchValue → List StoredPdu
batch_pdus batch = map kept_pdu (map placed_pdu (frames_after batch.tail batch.moment batch.octets))

-- the tail after a batch
abbrev pub next_tail : BatchValue → TailValue
next_tail batch = tail_after batch.tail batch.octets

-- the greatest number of octets in one direction
abbrev pub octet_limit : ℕ
octet_limit = 2 ^ 48

-- what refuses a piece, in order: it has no octets; the direction would pass its limit of octets
abbrev pub prepare_refusals : TailValue → List ℕ → List (Option Refusal)
prepare_refusals tail octets =
    refused_if (length octets == 0) EmptyPiece
    ∷ refused_if (nat_lt octet_limit (tail.offset + length octets)) StreamFull
    ∷ []

-- the first of these that holds
abbrev pub prepare_refusal : TailValue → List ℕ → Option Refusal
prepare_refusal tail octets = first_of (prepare_refusals tail octets)
