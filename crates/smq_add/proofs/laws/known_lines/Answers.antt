use Rattle.std.proofs.Common.{refl}
use Rattle.std.specs.Fmt.{digits}
use Rattle.smq_add.proofs.laws.known_lines.Goals as goal

pub returns : goal.returns
unfolding digits
returns c = record { count = refl; none = refl; place = refl; length = refl }
