use Rattle.std.proofs.Common.{◌++◌, ◌∷◌, List, ℕ, ap, refl}
use Rattle.smq_count.specs.Months.{two_digits}
use Rattle.std.specs.Prelude.{codes}
use Rattle.std.specs.Fmt.{digits}
use Rattle.smq_count.proofs.MonthLemmas.{day_0, day_11016, day_20818, day_47482, month_11016}
use Rattle.smq_count.proofs.laws.known_days.Goals as goal

pub returns : goal.returns
unfolding digits
returns c = record {
  first = day_0;
  leap_day = day_11016;
  last_of_year = day_20818;
  last = day_47482;
  hour = ap (λ (day : List ℕ). day ++ 84 ∷ two_digits 16 ++ codes "Z") day_11016;
  minute = refl;
  time = refl;
  month = month_11016;
}
