-- Read part by part, the fields are the standard's.
use Rattle.std.proofs.Common.{rules}
use Rattle.smq_pdu.specs.within.Parts.{mandatory_by_parts}
use Rattle.smq_pdu.proofs.Mandatory.{by_parts-is}
use Rattle.smq_pdu.proofs.fields.read_mandatory.Goals as goal

pub returns-in_err-front : goal.returns-in_err-front
unfolding mandatory_by_parts
returns-in_err-front c = rw (← by_parts-is c.args.octets.now) (search rules)

pub returns-in_err-middle : goal.returns-in_err-middle
unfolding mandatory_by_parts
returns-in_err-middle c = rw (← by_parts-is c.args.octets.now) (search rules)

pub returns-in_err-back : goal.returns-in_err-back
unfolding mandatory_by_parts
returns-in_err-back c = rw (← by_parts-is c.args.octets.now) (search rules)

pub returns : goal.returns
unfolding mandatory_by_parts
returns c = rw (← by_parts-is c.args.octets.now) (search rules)
