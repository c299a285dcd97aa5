use Rattle.std.proofs.Common.{refl}
use Rattle.hex.proofs.OnLiterals.{hex_on_literals}
use Rattle.jiff_core.specs.Calendar.{days_from_civil, day_count, days_of_years, days_of_months}
use Rattle.smq_load.proofs.laws.known_pieces.Goals as goal

pub returns : goal.returns
unfolding hex_on_literals days_from_civil day_count days_of_years days_of_months
returns c = record {
  client = refl;
  centre = refl;
  instant = refl;
  other_dir = refl;
  past = refl;
  odd = refl;
  no_digit = refl;
  other_kind = refl;
  five = refl;
  seven = refl;
}
