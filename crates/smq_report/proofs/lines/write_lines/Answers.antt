use Rattle.std.proofs.KnownBytes.{Appends-kept}
use Rattle.smq_report.proofs.BeginningLemmas.{appends-then, begins-same, begins-then, begins-whole, whatever_error}
use Rattle.smq_report.proofs.LineLemmas.{behind-columns}
use Rattle.smq_report.proofs.lines.write_lines.Goals as goal

pub returns-in_err-page-clause-begun : goal.returns-in_err-page-clause-begun
returns-in_err-page-clause-begun g c =
    let lines = behind-columns _ _ _ _ c.in_ok-put_columns.ensures.ok c.new-page.ensures.empty in
    whatever_error c.from_residual-in_err-page.result _ (begins-same _ _ _ _ c.in_err-page.ensures.begun lines)

pub returns-in_err-send-clause-begun : goal.returns-in_err-send-clause-begun
returns-in_err-send-clause-begun g c =
    let lines = behind-columns _ _ _ _ c.in_ok-put_columns.ensures.ok c.new-page.ensures.empty in
    whatever_error c.from_residual-in_err-send.result _
    (begins-then _ _ _ _ _ _ c.in_ok-page.ensures.ok lines c.in_err-send.ensures.begun)

pub returns-in_err-flush-clause-begun : goal.returns-in_err-flush-clause-begun
returns-in_err-flush-clause-begun g c =
    let lines = behind-columns _ _ _ _ c.in_ok-put_columns.ensures.ok c.new-page.ensures.empty in
    let written = appends-then _ _ _ _ _ _ c.in_ok-page.ensures.ok lines c.in_ok-send.ensures.written in
    whatever_error c.from_residual-in_err-flush.result _ (begins-whole _ _ _ (Appends-kept _ _ _ _ written c.in_err-flush.ensures.bytes))

pub returns-clause-ok : goal.returns-clause-ok
returns-clause-ok g c =
    let lines = behind-columns _ _ _ _ c.in_ok-put_columns.ensures.ok c.new-page.ensures.empty in
    let written = appends-then _ _ _ _ _ _ c.in_ok-page.ensures.ok lines c.in_ok-send.ensures.written in
    Appends-kept _ _ _ _ written c.in_ok-flush.ensures.bytes
