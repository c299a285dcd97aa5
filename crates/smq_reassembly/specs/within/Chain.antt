-- What waits, as the code keeps it: by the place after the last octet of each piece.
use Rattle.std.specs.Prelude.{◌≡◌, ℕ, ◌+◌, ◌-◌, ◌<◌, ◌≤◌, ◌^◌, List, [], ◌∷◌, length, map, Some}
use Rattle.smq_reassembly.specs.declared.waiting.Held.{Held}
use Rattle.smq_reassembly.specs.Octet.{Octet, octets_of}
use Rattle.smq_reassembly.specs.Piece.{Piece, first_octet, octets_in}

-- the piece that ends before a place
abbrev pub piece_of_entry : ℕ × Held → Piece
piece_of_entry e =
    record {
      at = e.0 - length e.1.octets.items;
      octets = octets_of e.1.packet e.1.begins e.1.octets.items;
    }

-- the pieces, in the order of their places
abbrev pub pieces_of : List (ℕ × Held) → List Piece
pieces_of entries = map piece_of_entry entries

-- pieces stand one behind the other from a place on, each with octets
abbrev pub IsChain : ℕ → List (ℕ × Held) → Type 0
IsChain from [] = Unit {0}
IsChain from (e ∷ es) =
    (from + length e.1.octets.items ≤ e.0) × (0 < length e.1.octets.items) × (e.0 ≤ 2 ^ 60) × IsChain e.0 es

-- a count of octets is theirs
pub record IsKept (octets : ℕ) (entries : List (ℕ × Held)) : Type 0 where
  pub chain : IsChain 0 entries
  pub count : octets ≡ octets_in (pieces_of entries)

-- from a place to another each octet waits
abbrev pub AllWait : List Piece → ℕ → ℕ → Type 0
AllWait pieces from until =
    (n : ℕ) → from ≤ n → n < until → (o : Octet) × (first_octet pieces n ≡ Some o)
