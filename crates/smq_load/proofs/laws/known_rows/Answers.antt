use Rattle.std.proofs.Common.{refl}
use Rattle.jiff_core.specs.Calendar.{days_from_civil, day_count, days_of_years, days_of_months}
use Rattle.smq_load.proofs.laws.known_rows.Goals as goal

pub returns : goal.returns
unfolding days_from_civil day_count days_of_years days_of_months
returns c = record {
  withdraw = refl;
  withdraw_none = refl;
  withdraw_two = refl;
  form = refl;
  form_word = refl;
  form_five = refl;
  window = refl;
  window_0 = refl;
  window_alone = refl;
  window_four = refl;
  route = refl;
  route_prefix = refl;
  route_six = refl;
  end = refl;
  end_open = refl;
  end_five = refl;
  correct = refl;
  correct_network = refl;
  correct_six = refl;
  clock = refl;
  clock_instant = refl;
  clock_date = refl;
  clock_two = refl;
  other_word = refl;
  empty = refl;
}
