use Rattle.std.proofs.Common.{refl}
use Rattle.std.specs.Fmt.{digits}
use Rattle.smq_report.proofs.laws.known_keys.Goals as goal

pub returns : goal.returns
unfolding digits
returns c = record { zero = refl; some = refl; greatest = refl; text = refl }
