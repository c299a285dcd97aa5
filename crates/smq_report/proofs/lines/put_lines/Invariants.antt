-- A page is at the start of a record, and the lines that are gone are written, or wait on it.
use Rattle.std.proofs.Common.{drop}
use Rattle.smq_report.specs.within.Pages.{IsAtStart, waiting}
use Rattle.smq_report.proofs.PageLemmas.{Gathers}
use Rattle.smq_report.specs.Lines.{csv_record}
use Rattle.smq_report.proofs.lines.put_lines.Given as goal

abbrev pub invariant-loop-line : goal.invariant-loop-line
invariant-loop-line g l = record {
  start : IsAtStart l.page.records;
  gathers :
      Gathers (λ line. csv_record (g.L.Line.fields line)) l.lines (drop l.line-index l.lines)
      (g.W.Write.contents l.initial.writer) (waiting l.initial.page.records)
      (g.W.Write.contents l.writer) (waiting l.page.records);
}
