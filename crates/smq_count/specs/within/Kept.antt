-- Counts as an ordered map keeps them by tuples.
use Rattle.std.specs.Prelude.{ℕ, List, map, unwrap_or}
use Rattle.std.specs.FinMap.{find}
use Rattle.std.proofs.Common.{Vec, Global}
use Rattle.smq_count.specs.declared.cell.Cell.{Cell}
use Rattle.smq_count.specs.Cells.{Tuple, tuple_cmp}

-- tuples with their numbers, without where they lie in memory
abbrev pub kept : List (Vec Cell Global × ℕ) → List (Tuple × ℕ)
kept entries = map (λ entry. (entry.0.items, entry.1)) entries

-- the number of a tuple, 0 where there is none
abbrev pub number_kept : List (Vec Cell Global × ℕ) → Tuple → ℕ
number_kept entries tuple = unwrap_or (find tuple_cmp tuple (kept entries)) 0
