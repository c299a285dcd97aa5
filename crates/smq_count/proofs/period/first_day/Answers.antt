use Rattle.std.proofs.Common.{◌≡◌, ◌+◌, ◌/◌, ◌%◌, ℤ, pos, ◌+ℤ◌, to_z, w16, arith, subst}
use Rattle.jiff_core.specs.Calendar.{days_from_civil}
use Rattle.std.proofs.lemmas.Int.{to_z_pos}
use Rattle.smq_count.proofs.MonthLemmas.{first_day-since_min}
use Rattle.smq_count.specs.Months.{first_day}
use Rattle.smq_count.proofs.period.first_day.Goals as goal

days : (c : goal.After-days_since_min) → c.days_since_min.result ≡ first_day c.args.month + 4371587
days c =
    let year : to_z w16 (1970 + c.args.month / 12) ≡ pos (1970 + c.args.month / 12) =
    to_z_pos w16 (1970 + c.args.month / 12) (omega arith) in
    let since = subst (λ (y : ℤ). days_from_civil y (c.args.month % 12 + 1) 1 +ℤ pos 4371587 ≡ pos c.days_since_min.result) year c.days_since_min.ensures.value in
    first_day-since_min c.args.month c.days_since_min.result since

pub overflow_sub-result : goal.overflow_sub-result
overflow_sub-result c = omega (arith, days c)

pub returns : goal.returns
returns c = omega (arith, days c)
