use Rattle.smq_report.specs.within.Layouts.{section_text}
use Rattle.smq_report.proofs.BeginningLemmas.{whatever_error}
use Rattle.smq_report.proofs.PageLemmas.{gathers-at, gathers-cut_at}
use Rattle.smq_report.proofs.report.put_sections.Goals as goal

pub loop-section-preserved : goal.loop-section-preserved
loop-section-preserved g c =
    gathers-at (section_text c.args.format c.args.tables.now.shown) _ _ _ _ _ _ _ _ _ c.loop-section-test.true c.in_ok-put_section.ensures.ok
    c.loop-section.invariant

pub returns-in_err-put_section-clause-begun : goal.returns-in_err-put_section-clause-begun
returns-in_err-put_section-clause-begun g c =
    whatever_error c.from_residual.result _ (gathers-cut_at (section_text c.args.format c.args.tables.now.shown) _ _ _ _ _ _ _ _
    c.loop-section-test.true c.in_err-put_section.ensures.begun c.loop-section.invariant)
