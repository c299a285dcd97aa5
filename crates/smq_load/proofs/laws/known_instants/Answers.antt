use Rattle.std.proofs.Common.{refl}
use Rattle.jiff_core.specs.Calendar.{days_from_civil, day_count, days_of_years, days_of_months}
use Rattle.smq_load.proofs.laws.known_instants.Goals as goal

pub returns : goal.returns
unfolding days_from_civil day_count days_of_years days_of_months
returns c = record {
  epoch = refl;
  lapsed = refl;
  leap_day = refl;
  last = refl;
  past_last = refl;
  before = refl;
  day_30_of_february = refl;
  no_leap_day = refl;
  day_31_of_june = refl;
  month_13 = refl;
  month_0 = refl;
  day_0 = refl;
  hour_24 = refl;
  minute_60 = refl;
  second_60 = refl;
  fraction = refl;
  offset = refl;
  no_zone = refl;
  first_dash = refl;
  second_dash = refl;
  small_t = refl;
  first_colon = refl;
  second_colon = refl;
  small_z = refl;
  blank = refl;
  no_digit = refl;
}
