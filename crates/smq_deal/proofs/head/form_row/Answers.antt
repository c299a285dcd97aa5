use Rattle.std.specs.Prelude.{string_bytes}
use Rattle.smq_deal.proofs.Lines.{line_is, form-parts}
use Rattle.smq_deal.proofs.head.form_row.Goals as goal

pub returns : goal.returns
returns c = line_is c.format.result string_bytes _ _ c.format.ensures.ok
    (form-parts c.args.link c.args.response c.args.receipt c.form_name-response.result.now c.form_name-receipt.result.now
    c.form_name-response.ensures c.form_name-receipt.ensures)
