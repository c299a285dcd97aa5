-- The pieces that the segments of a direction are, one after the other.
use Rattle.std.specs.Prelude.{◌≡◌, ℕ, List, [], ◌∷◌, ◌++◌, length}
use Rattle.std.specs.List.{flat_map}
use Rattle.smq_reassembly.specs.declared.reassembly.Part.{Part}
use Rattle.smq_reassembly.specs.declared.capture.Segment.{Segment}
use Rattle.smq_reassembly.specs.declared.sequence.Place.{Place}
use Rattle.smq_reassembly.specs.Octet.{Octet, octets_of}
use Rattle.smq_reassembly.specs.Piece.{Piece}
use Rattle.smq_reassembly.specs.Stream.{IsStream}
use Rattle.smq_reassembly.specs.Sequence.{IsPlace}
use Rattle.smq_reassembly.specs.Segment.{IsTooFarAhead, piece_of}

-- a segment comes after these pieces: it stands nearest to the end of their stream, and is one of them if it isn't too far ahead
pub record Comes (first : ℕ) (before : List Piece) (segment : Segment) (after : List Piece) : Type 0 where
  pub text : List Octet
  pub stream : IsStream before 0 text
  pub place : Place
  pub stands : IsPlace first (length text) segment.sequence place
  pub far :
      IsTooFarAhead (length text) (piece_of place (length text) segment.packet segment.octets.now)
      → after ≡ before
  pub near :
      (IsTooFarAhead (length text) (piece_of place (length text) segment.packet segment.octets.now) → ⊥)
      → after ≡ before ++ piece_of place (length text) segment.packet segment.octets.now ∷ []

-- segments come one after the other
abbrev pub AllCome : ℕ → List Piece → List Segment → List Piece → Type 0
AllCome first before [] after = after ≡ before
AllCome first before (s ∷ ss) after =
    (middle : List Piece) × Comes first before s middle × AllCome first middle ss after

-- the octets of parts
abbrev pub octets_of_parts : List Part → List Octet
octets_of_parts parts = flat_map (λ p. octets_of p.packet p.begins p.octets.items) parts
