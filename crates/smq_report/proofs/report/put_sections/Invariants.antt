-- The sections that are gone are written, or wait on the page.
use Rattle.std.proofs.Common.{drop}
use Rattle.std.specs.Prelude.{string_bytes}
use Rattle.smq_report.specs.within.Layouts.{section_text}
use Rattle.smq_report.proofs.PageLemmas.{Gathers}
use Rattle.smq_report.proofs.report.put_sections.Given as goal

abbrev pub invariant-loop-section : goal.invariant-loop-section
invariant-loop-section g l =
    Gathers (section_text l.format l.tables.shown) l.sections (drop l.section-index l.sections)
    (g.W.Write.contents l.initial.writer) (string_bytes l.initial.page)
    (g.W.Write.contents l.writer) (string_bytes l.page)
