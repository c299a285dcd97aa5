-- What is known of the reports before, and of the rows of this one that were seen.
use Rattle.std.proofs.Common.{◌≡◌, ◌++◌, ◌∷◌, [], ℕ, Bool, List, length, map, take}
use Rattle.smq_add.specs.declared.row.Row.{Row}
use Rattle.smq_add.specs.Apart.{Knows, Saw, owners_from, owners_in, sections_of}
use Rattle.smq_add.specs.Checks.{section_of}
use Rattle.smq_add.proofs.apart.Checks.see.Given as goal

abbrev pub invariant-loop-row : goal.invariant-loop-row
invariant-loop-row l =
    (of_periods : Bool) (reports : List (List Row)) → Saw of_periods reports l.fn.self
    → Knows of_periods (length reports) (reports ++ l.rows ∷ [])
    (sections_of reports ++ map (λ (row : Row). section_of row.key) (take l.row-index l.rows))
    (owners_from 0 reports ++ owners_in (length reports) (take l.row-index l.rows)) l.self
