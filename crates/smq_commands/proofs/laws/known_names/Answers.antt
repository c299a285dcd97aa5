use Rattle.std.proofs.Common.{refl}
use Rattle.std.specs.Fmt.{digits}
use Rattle.smq_commands.proofs.laws.known_names.Goals as goal

pub returns : goal.returns
unfolding digits
returns c = record { link = refl; day = refl; hour = refl; of_day = refl; of_hour = refl }
