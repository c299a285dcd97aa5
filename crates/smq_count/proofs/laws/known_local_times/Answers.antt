use Rattle.std.proofs.Common.{◌+◌, ◌++◌, ◌∷◌, List, ℕ, ap, refl}
use Rattle.std.specs.Prelude.{codes}
use Rattle.std.specs.Fmt.{digits}
use Rattle.smq_count.specs.LocalTime.{local_month_text}
use Rattle.smq_count.specs.Months.{two_digits}
use Rattle.smq_count.proofs.MonthLemmas.{day_20751, day_20786, day_20788, day_20819, day_47482, day_515, month_20819}
use Rattle.smq_count.proofs.Berlin.{berlin}
use Rattle.smq_count.proofs.laws.known_local_times.Goals as goal

pub returns-clause-texts : goal.returns-clause-texts
unfolding digits
returns-clause-texts c = record {
  summer_minute = ap (λ (day : List ℕ). (day ++ 84 ∷ two_digits 2) ++ 58 ∷ two_digits 30 ++ codes "+02:00") day_20751;
  summer_hour = ap (λ (day : List ℕ). (day ++ 84 ∷ two_digits 2) ++ codes "+02:00") day_20751;
  winter_minute = ap (λ (day : List ℕ). (day ++ 84 ∷ two_digits 2) ++ 58 ∷ two_digits 30 ++ codes "+01:00") day_20751;
  winter_hour = ap (λ (day : List ℕ). (day ++ 84 ∷ two_digits 2) ++ codes "+01:00") day_20751;
  day_of_both = refl;
  next_day = day_20819;
  next_month = ap (λ (month : ℕ). local_month_text (month + 1)) month_20819;
  day_before = day_20786;
  half_hour = ap (λ (day : List ℕ). (day ++ 84 ∷ two_digits 0) ++ codes "+05:30") day_20788;
  seconds = ap (λ (day : List ℕ). (day ++ 84 ∷ two_digits 23) ++ 58 ∷ two_digits 15 ++ codes "-00:44:30") day_515;
  first_minute = refl;
  first_month = refl;
  last_day = day_47482;
  no_offset = refl;
}

pub returns-clause-berlin : goal.returns-clause-berlin
returns-clause-berlin c = berlin
