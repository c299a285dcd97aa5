use Rattle.std.proofs.Common.{rules}
use Rattle.smq_report.proofs.PlainLemmas.{plain_net}
use Rattle.smq_report.proofs.value.push_code.Goals as goal

pub returns-in-Network-clause-plain : goal.returns-in-Network-clause-plain
returns-in-Network-clause-plain c =
    let plain = plain_net c.in-Network.kind c.in-Network.code in
    rw c.in-Network.is (search rules)
