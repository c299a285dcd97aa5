-- The lines of the rows or places that are gone are written, or wait on the page.
use Rattle.std.specs.Prelude.{string_bytes}
use Rattle.smq_report.specs.within.Layouts.{place_line, row_line}
use Rattle.smq_report.proofs.PageLemmas.{Gathers}
use Rattle.smq_report.proofs.report.put_section.Given as goal

abbrev pub invariant-loop-value : goal.invariant-loop-value
invariant-loop-value g l =
    Gathers (row_line l.format l.view) l.initial.value-iterator l.value-iterator
    (g.W.Write.contents l.initial.writer) (string_bytes l.initial.page)
    (g.W.Write.contents l.writer) (string_bytes l.page)

abbrev pub invariant-loop-place : goal.invariant-loop-place
invariant-loop-place g l =
    Gathers (place_line l.format l.list) l.initial.place-iterator l.place-iterator
    (g.W.Write.contents l.initial.writer) (string_bytes l.initial.page)
    (g.W.Write.contents l.writer) (string_bytes l.page)
