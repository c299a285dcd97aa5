use Rattle.std.proofs.Common.{rules}
use Rattle.std.proofs.KnownBytes.{Appends-kept}
use Rattle.smq_report.proofs.BeginningLemmas.{appends-then, begins-same, begins-then, begins-whole, whatever_error}
use Rattle.smq_report.proofs.LayoutLemmas.{whole-report}
use Rattle.smq_report.proofs.report.write_report.Goals as goal

pub returns-in_err-put_sections-clause-begun : goal.returns-in_err-put_sections-clause-begun
returns-in_err-put_sections-clause-begun g c =
    let whole = whole-report c.args.format c.args.pick c.args.tables.now.shown _ c.as_slice.result.now (search rules) (search rules) in
    whatever_error c.from_residual-in_err-put_sections.result _ (begins-same _ _ _ _ c.in_err-put_sections.ensures.begun whole)

pub returns-in_err-send-clause-begun : goal.returns-in_err-send-clause-begun
returns-in_err-send-clause-begun g c =
    let whole = whole-report c.args.format c.args.pick c.args.tables.now.shown _ c.as_slice.result.now (search rules) (search rules) in
    whatever_error c.from_residual-in_err-send.result _
    (begins-then _ _ _ _ _ _ c.in_ok-put_sections.ensures.ok whole c.in_err-send.ensures.begun)

pub returns-in_err-flush-clause-begun : goal.returns-in_err-flush-clause-begun
returns-in_err-flush-clause-begun g c =
    let whole = whole-report c.args.format c.args.pick c.args.tables.now.shown _ c.as_slice.result.now (search rules) (search rules) in
    let written = appends-then _ _ _ _ _ _ c.in_ok-put_sections.ensures.ok whole c.in_ok-send.ensures.written in
    whatever_error c.from_residual-in_err-flush.result _ (begins-whole _ _ _ (Appends-kept _ _ _ _ written c.in_err-flush.ensures.bytes))

pub returns-clause-ok : goal.returns-clause-ok
returns-clause-ok g c =
    let whole = whole-report c.args.format c.args.pick c.args.tables.now.shown _ c.as_slice.result.now (search rules) (search rules) in
    let written = appends-then _ _ _ _ _ _ c.in_ok-put_sections.ensures.ok whole c.in_ok-send.ensures.written in
    Appends-kept _ _ _ _ written c.in_ok-flush.ensures.bytes
