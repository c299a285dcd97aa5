use Rattle.std.proofs.Common.{refl}
use Rattle.std.specs.Fmt.{digits}
use Rattle.smq_engine.proofs.laws.known_faults.Goals as goal

pub returns : goal.returns
unfolding digits
returns c = record {
  bad_row = refl;
  bad_settings = refl;
  read = refl;
  write = refl;
  memory = refl;
  no_thread = refl;
  desk = refl;
}
