use Rattle.std.proofs.Common.{◌≡◌, map, take}
use Rattle.smq_count.specs.Cells.{cell_text}
use Rattle.smq_count.proofs.counted.texts_of.Given as goal

abbrev pub invariant-loop-cell : goal.invariant-loop-cell
invariant-loop-cell l = map (λ text. text.items) l.texts.items ≡ map cell_text (take l.cell-index l.tuple)
