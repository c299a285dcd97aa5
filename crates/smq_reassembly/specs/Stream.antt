-- The octets of a direction, of the pieces that came of it.
use Rattle.std.specs.Prelude.{◌≡◌, ℕ, ◌+◌, ◌<◌, ◌≤◌, List, length, slice_get, IsSome, None}
use Rattle.smq_reassembly.specs.Octet.{Octet}
use Rattle.smq_reassembly.specs.Piece.{Piece, first_octet}

-- text is the stream of pieces from a place on: each octet is the first copy that came, and no piece has the one after the last
pub record IsStream (pieces : List Piece) (start : ℕ) (text : List Octet) : Type 0 where
  pub each : (n : ℕ) → n < length text → slice_get text n ≡ first_octet pieces (start + n)
  pub ends : first_octet pieces (start + length text) ≡ None

-- two lists of octets that are the stream of the same pieces are one
abbrev pub IsOneStream : List Piece → ℕ → List Octet → List Octet → Type 0
IsOneStream pieces start text other =
    IsStream pieces start text → IsStream pieces start other → text ≡ other

-- no piece has an octet from a place up to another, and one has the octet there
pub record IsGap (pieces : List Piece) (from until : ℕ) : Type 0 where
  pub order : from ≤ until
  pub none : (n : ℕ) → from ≤ n → n < until → first_octet pieces n ≡ None
  pub some : IsSome (first_octet pieces until)
