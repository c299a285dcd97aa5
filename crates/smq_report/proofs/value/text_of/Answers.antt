use Rattle.std.proofs.Common.{rules}
use Rattle.smq_report.proofs.PlainLemmas.{plain_error_text}
use Rattle.smq_report.proofs.ValueLemmas.{error_texts_are_text}
use Rattle.smq_report.proofs.value.text_of.Goals as goal

pub unwrap-requires : goal.unwrap-requires
unwrap-requires c =
    let is_text = error_texts_are_text c.args.error.now c.as_slice.ensures.allowed in
    search rules

pub returns-clause-plain : goal.returns-clause-plain
returns-clause-plain c =
    let plain = plain_error_text c.args.error.now c.as_slice.ensures.allowed in
    search rules
