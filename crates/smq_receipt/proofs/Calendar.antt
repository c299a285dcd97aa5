-- The test of a date is that of the calendar.
use Rattle.std.proofs.Common.{◌≡◌, ℕ, ◌+◌, ◌≤◌, Bool, true, false, IsTrue, pos, ℤ, sym, ap, arith, cond, Some, None}
use Rattle.std.proofs.lemmas.Bool.Decides.{nat_tests}
use Rattle.std.proofs.lemmas.Int.{ints}
use Rattle.jiff.specs.Words.{IsDate, IsYmd, days_in_month, epoch_day}
use Rattle.jiff_core.specs.Calendar.{days_from_civil}
use Rattle.jiff_core.specs.declared.civil.date.Date.{Date}
use Rattle.smq_receipt.specs.Dates.{is_date, day_number_of, DatesAreOfTheCalendar}

pub is_date-from_calendar : (year month day : ℕ) → IsDate (pos (2000 + year)) (pos month) (pos day) → IsTrue (is_date year month day)
unfolding is_date
is_date-from_calendar year month day h =
    let month_low : 1 ≤ month = omega (arith, ints) in
    let month_high : month ≤ 12 = omega (arith, ints) in
    let day_low : 1 ≤ day = omega (arith, ints) in
    let day_high : day ≤ days_in_month (pos (2000 + year)) month = omega (arith, ints) in
    grind (arith, nat_tests)

pub calendar-from_is_date : (year month day : ℕ) → year ≤ 99 → IsTrue (is_date year month day) → IsDate (pos (2000 + year)) (pos month) (pos day)
unfolding is_date
calendar-from_is_date year month day h is =
    let month_low : 1 ≤ month = grind (arith, nat_tests) in
    let month_high : month ≤ 12 = grind (arith, nat_tests) in
    let day_low : 1 ≤ day = grind (arith, nat_tests) in
    let day_high : day ≤ days_in_month (pos (2000 + year)) month = grind (arith, nat_tests) in
    ((omega (arith, ints), omega (arith, ints)), (omega (arith, ints), omega (arith, ints)), (omega (arith, ints), omega (arith, ints)))

day_is : (year month day : ℕ) (z : ℤ) (b : Bool) → b ≡ true → z ≡ days_from_civil (pos (2000 + year)) month day
    → cond b (Some (days_from_civil (pos (2000 + year)) month day)) None ≡ Some z
day_is year month day z true t e = ap (λ (d : ℤ). Some d) (sym e)
day_is year month day z false t e = absurd cc

days : (year : ℕ) (date : Date) → IsYmd (pos (2000 + year)) (pos date.month) (pos date.day) date
    → IsTrue (is_date year date.month date.day) → day_number_of year date.month date.day ≡ Some (epoch_day date)
unfolding day_number_of
days year date ymd is = day_is year date.month date.day (epoch_day date) (is_date year date.month date.day) is
    (ap (λ (y : ℤ). days_from_civil y date.month date.day) ymd.0)

pub calendar : DatesAreOfTheCalendar
calendar = record { dates = λ year month day h. (calendar-from_is_date year month day h, is_date-from_calendar year month day); days = days }
