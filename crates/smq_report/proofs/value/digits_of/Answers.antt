use Rattle.std.proofs.Common.{rules}
use Rattle.smq_report.proofs.PlainLemmas.{plain_network}
use Rattle.smq_report.proofs.ValueLemmas.{networks_are_text}
use Rattle.smq_report.proofs.value.digits_of.Goals as goal

pub unwrap-requires : goal.unwrap-requires
unwrap-requires c =
    let is_text = networks_are_text c.args.network.now c.as_slice.ensures.digits in
    search rules

pub returns-clause-plain : goal.returns-clause-plain
returns-clause-plain c =
    let plain = plain_network c.args.network.now c.as_slice.ensures.digits in
    search rules
