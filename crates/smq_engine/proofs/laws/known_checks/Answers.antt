use Rattle.std.proofs.Common.{refl}
use Rattle.std.specs.Fmt.{digits}
use Rattle.smq_engine.proofs.KnownChecks.{calls, compares, made, not_of_the_script, not_turned}
use Rattle.smq_engine.proofs.laws.known_checks.Goals as goal

pub returns : goal.returns
unfolding digits
returns c = record {
  same = refl;
  different = refl;
  memory = refl;
  no_thread = refl;
  full = refl;
  no_seat = refl;
  workers = refl;
  worker = refl;
  of_first = refl;
  of_third = refl;
  of_fourth = refl;
  plain = refl;
  calls = calls;
  made = made;
  all = not_of_the_script;
  turned = not_turned;
  compares = compares;
}
