-- The name has the columns so far.
use Rattle.std.proofs.Common.{◌≡◌, ◌++◌, ◌∷◌, string_bytes, take}
use Rattle.std.specs.Prelude.{codes}
use Rattle.std.specs.List.{flat_map}
use Rattle.smq_count.specs.Columns.{column_name}
use Rattle.smq_engine.proofs.question.count_name.Given as goal

abbrev pub invariant-loop-column : goal.invariant-loop-column
invariant-loop-column l = string_bytes l.name ≡ codes "count" ++ flat_map (λ column. 32 ∷ column_name column) (take l.column-index l.columns)
