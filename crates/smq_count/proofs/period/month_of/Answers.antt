use Rattle.std.proofs.Common.{arith, sym}
use Rattle.smq_count.proofs.MonthLemmas.{first_most, late_month, month_begun, month_of_date, number_most, year_fits, year_from, year_kept}
use Rattle.smq_count.proofs.period.month_of.Goals as goal

pub returns-then-day-gt-LAST_DAY-clause-value : goal.returns-then-day-gt-LAST_DAY-clause-value
returns-then-day-gt-LAST_DAY-clause-value c = sym (late_month c.args.day (omega arith))

pub returns-then-day-gt-LAST_DAY-clause-begun : goal.returns-then-day-gt-LAST_DAY-clause-begun
returns-then-day-gt-LAST_DAY-clause-begun c = omega (arith, first_most 1560 (omega arith))

pub overflow_cast-result : goal.overflow_cast-result
overflow_cast-result c =
    let d = c.date_of-date.result in
    let e = c.date_of-date.ensures in
    rw (year_kept d c.args.day e (omega arith)) (year_fits d c.args.day e (omega arith))

pub overflow_sub-result : goal.overflow_sub-result
overflow_sub-result c =
    let d = c.date_of-date.result in
    let e = c.date_of-date.ensures in
    rw (year_kept d c.args.day e (omega arith)) (year_from d c.args.day e (omega arith))

pub returns-clause-value : goal.returns-clause-value
returns-clause-value c =
    let d = c.date_of-date.result in
    let e = c.date_of-date.ensures in
    rw (year_kept d c.args.day e (omega arith)) (month_of_date d c.args.day e (omega arith))

pub returns-clause-bound : goal.returns-clause-bound
returns-clause-bound c =
    let d = c.date_of-date.result in
    let e = c.date_of-date.ensures in
    rw (year_kept d c.args.day e (omega arith)) (number_most d c.args.day e (omega arith))

pub returns-clause-begun : goal.returns-clause-begun
returns-clause-begun c =
    let d = c.date_of-date.result in
    let e = c.date_of-date.ensures in
    rw (year_kept d c.args.day e (omega arith), month_of_date d c.args.day e (omega arith)) (month_begun d c.args.day e (omega arith))
