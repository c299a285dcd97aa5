-- The lines of the keys that are gone are written, or wait on the page.
use Rattle.std.specs.Prelude.{string_bytes}
use Rattle.smq_report.proofs.PageLemmas.{Gathers}
use Rattle.smq_add.specs.Rows.{line_of}
use Rattle.smq_add.proofs.sum.Sum.write.Given as goal

abbrev pub invariant-loop-key : goal.invariant-loop-key
invariant-loop-key g l =
    Gathers (λ entry. line_of entry.0 entry.1) l.fn.self l.key-iterator
    (g.W.Write.contents l.initial.writer) (string_bytes l.initial.page)
    (g.W.Write.contents l.writer) (string_bytes l.page)
