use Rattle.smq_group.proofs.Lawful.{other-keys-stay}
use Rattle.smq_group.proofs.laws.keys_are_apart.Goals as goal

pub returns : goal.returns
returns c = other-keys-stay
