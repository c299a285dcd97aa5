use Rattle.std.proofs.Common.{arith}
use Rattle.smq_frame.proofs.Octets.{octets_by_place}
use Rattle.smq_pdu.proofs.BodyLaws.{says_submit, submit_says, says_deliver, deliver_says, says_data_sm, data_sm_says, says_undecodable, undecodable_says, says_other, other_says, body_unique, data_sm_unique}
use Rattle.smq_pdu.proofs.laws.bodies_are_read.Goals as goal

pub returns-clause-submit : goal.returns-clause-submit
returns-clause-submit c = λ submit. (
  says_submit c.args.octets.now submit
      (octets_by_place c.args.octets.now (λ i. omega (arith, c.type_inv.octets i))),
  submit_says c.args.octets.now submit,
)

pub returns-clause-deliver : goal.returns-clause-deliver
returns-clause-deliver c = λ deliver. (
  says_deliver c.args.octets.now deliver
      (octets_by_place c.args.octets.now (λ i. omega (arith, c.type_inv.octets i))),
  deliver_says c.args.octets.now deliver,
)

pub returns-clause-data_sm : goal.returns-clause-data_sm
returns-clause-data_sm c = λ message. (
  says_data_sm c.args.octets.now message
      (octets_by_place c.args.octets.now (λ i. omega (arith, c.type_inv.octets i))),
  data_sm_says c.args.octets.now message,
)

pub returns-clause-undecodable : goal.returns-clause-undecodable
returns-clause-undecodable c = (
  says_undecodable c.args.octets.now,
  undecodable_says c.args.octets.now
      (octets_by_place c.args.octets.now (λ i. omega (arith, c.type_inv.octets i))),
)

pub returns-clause-other : goal.returns-clause-other
returns-clause-other c = λ octets. (says_other octets, other_says octets)

pub returns-clause-unique : goal.returns-clause-unique
returns-clause-unique c = body_unique

pub returns-clause-data_sm_unique : goal.returns-clause-data_sm_unique
returns-clause-data_sm_unique c = data_sm_unique
