use Rattle.std.proofs.Common.{rules}
use Rattle.smq_report.proofs.PlainLemmas.{plain_decimal}
use Rattle.smq_report.proofs.value.push_value.Goals as goal

pub returns-in-Link-clause-plain : goal.returns-in-Link-clause-plain
returns-in-Link-clause-plain c =
    let plain = plain_decimal c.in-Link.link.0 in
    rw c.in-Link.is (search rules)

pub returns-in-Route-clause-plain : goal.returns-in-Route-clause-plain
returns-in-Route-clause-plain c =
    let plain = plain_decimal c.in-Route.route.0 in
    rw c.in-Route.is (search rules)
