use Rattle.std.proofs.Common.{rules}
use Rattle.smq_report.proofs.PlainLemmas.{plain_status}
use Rattle.smq_report.proofs.value.push_error.Goals as goal

pub returns-in-Refused-clause-plain : goal.returns-in-Refused-clause-plain
returns-in-Refused-clause-plain c =
    let plain = plain_status c.in-Refused.status in
    rw c.in-Refused.is (search rules)
