use Rattle.smq_report.proofs.BeginningLemmas.{whatever_error}
use Rattle.smq_report.proofs.PageLemmas.{gathers-cut, gathers-next, gathers-none, gathers-stop}
use Rattle.smq_report.specs.Lines.{csv_record}
use Rattle.smq_report.proofs.LineLemmas.{drop-item}
use Rattle.smq_report.proofs.lines.put_lines.Goals as goal

pub loop-line-init : goal.loop-line-init
loop-line-init g c = record { start = c.requires; gathers = gathers-none (λ line. csv_record (g.L.Line.fields line)) _ _ _ }

pub loop-line-preserved : goal.loop-line-preserved
loop-line-preserved g c =
    let first = drop-item c.args.lines.now c.loop-line.line-index c.line-item.result c.loop-line-test.true c.line-item.is in
    let sent = c.in_ok-send_full.ensures in
    record {
      start = sent.start;
      gathers = gathers-next (λ line. csv_record (g.L.Line.fields line)) _ _ _ _ _ _ _ _ _ _ first (rw c.in_ok-put_line.ensures.ok at sent.ok)
          c.loop-line.invariant.gathers;
    }

pub returns-in_err-put_line-clause-begun : goal.returns-in_err-put_line-clause-begun
returns-in_err-put_line-clause-begun g c =
    whatever_error c.from_residual.result _ (gathers-stop (λ line. csv_record (g.L.Line.fields line)) _ _ _ _ _ _ c.loop-line.invariant.gathers)

pub returns-in_err-send_full-clause-begun : goal.returns-in_err-send_full-clause-begun
returns-in_err-send_full-clause-begun g c =
    let first = drop-item c.args.lines.now c.loop-line.line-index c.line-item.result c.loop-line-test.true c.line-item.is in
    whatever_error c.from_residual-in_err-send_full.result _ (gathers-cut (λ line. csv_record (g.L.Line.fields line)) _ _ _ _ _ _ _ _ _ _ first
    c.in_ok-put_line.ensures.ok c.in_err-send_full.ensures.begun c.loop-line.invariant.gathers)
