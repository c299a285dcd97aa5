use Rattle.std.proofs.Common.{◌∙◌, sym}
use Rattle.smq_add.proofs.RowLemmas.{rise-more, told_less}
use Rattle.smq_add.proofs.reading.comes_after.Goals as goal

pub returns : goal.returns
returns c told rise =
    let less = told_less c.cmp.result (sym c.is_lt.ensures ∙ told) in
    rise-more c.args.rows.now c.in-Some.field-0-1.now c.in-Some.last.now c.args.row.now c.in-Some.ensures.cases.0 (sym c.cmp.ensures ∙ less) rise
