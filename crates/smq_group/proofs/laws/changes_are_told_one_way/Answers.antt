use Rattle.smq_group.proofs.Lawful.{told-one-way, tells-nothing}
use Rattle.smq_group.proofs.laws.changes_are_told_one_way.Goals as goal

pub returns : goal.returns
returns c = record { one = told-one-way; nothing = tells-nothing }
