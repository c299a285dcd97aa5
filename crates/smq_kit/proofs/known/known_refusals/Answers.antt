use Rattle.std.proofs.Common.{refl}
use Rattle.std.specs.Fmt.{digits}
use Rattle.smq_kit.proofs.known.known_refusals.Goals as goal

pub returns : goal.returns
unfolding digits
returns c = refl
