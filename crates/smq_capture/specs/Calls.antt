-- Rows as calls put, settle and take them.
use Rattle.std.specs.Prelude.{◌≡◌, ℕ, List, [], ◌∷◌, ◌++◌, map}
use Rattle.smq_capture.specs.declared.direction.Direction.{Direction}
use Rattle.smq_capture.specs.declared.side.Side.{Side}
use Rattle.smq_capture.specs.declared.side.Side.TheVariants.{Client, Centre}
use Rattle.smq_capture.specs.Rows.{AllSettle, IsSettled, Row}

-- a call: it puts a row behind the others, settles octets of a side, or takes the first row
pub data Call : Type 0 where
  Puts : Row → Call
  Settles : Side → Direction → Call
  Takes : Row → Call

-- what rows become by calls
abbrev pub Become : List Call → List Row → List Row → Type 0
Become [] before after = after ≡ before
Become (Puts row ∷ calls) before after = Become calls (before ++ row ∷ []) after
Become (Settles side direction ∷ calls) before after =
    (settled : List Row) × AllSettle side direction before settled × Become calls settled after
Become (Takes row ∷ calls) before after = (rest : List Row) × IsSettled row × (before ≡ row ∷ rest) × Become calls rest after

-- the rows that were put, in order, and those that were taken
abbrev pub rows_put : List Call → List Row
rows_put [] = []
rows_put (Puts row ∷ calls) = row ∷ rows_put calls
rows_put (Settles side direction ∷ calls) = rows_put calls
rows_put (Takes row ∷ calls) = rows_put calls

abbrev pub rows_taken : List Call → List Row
rows_taken [] = []
rows_taken (Puts row ∷ calls) = rows_taken calls
rows_taken (Settles side direction ∷ calls) = rows_taken calls
rows_taken (Takes row ∷ calls) = row ∷ rows_taken calls

-- a row without the sessions of its octets
abbrev pub bare : Row → Row
bare row = record row { sessions = [] }

-- octets where a side sent them, and all that it sent
abbrev pub octets_from : Side → Side → List ℕ → List ℕ
octets_from Client Client octets = octets
octets_from Centre Centre octets = octets
octets_from Client Centre octets = []
octets_from Centre Client octets = []

abbrev pub octets_of : Side → List Row → List ℕ
octets_of side [] = []
octets_of side (r ∷ rs) = octets_from side r.sender r.octets ++ octets_of side rs

-- by any calls the rows that were taken, and those that are there, are those that were put, but for the sessions of their octets
abbrev pub ComeOnce : List Call → List Row → Type 0
ComeOnce calls rows = map bare (rows_taken calls ++ rows) ≡ map bare (rows_put calls)

-- so it is with the octets of a side: none is lost, comes twice, or changes its place among them
abbrev pub OctetsStay : Side → List Call → List Row → Type 0
OctetsStay side calls rows = octets_of side (rows_taken calls) ++ octets_of side rows ≡ octets_of side (rows_put calls)
