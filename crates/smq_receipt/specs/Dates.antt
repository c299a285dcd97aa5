-- Dates in the text of a receipt (SMPP 3.4, appendix B). That seconds may follow, and that a year is 20YY, is this
-- project's.
use Rattle.std.specs.Prelude.{◌≡◌, ◌↔◌, ℕ, ◌+◌, ◌-◌, ◌*◌, nat_le, ◌==◌, ◌&&◌, ◌||◌, if◌then◌else◌, Bool, IsTrue, List, length, slice_index, Option, Some, None, option_map, option_and_then, codes, ◌≤◌, ℤ, pos, ◌+ℤ◌, ◌-ℤ◌, ◌*ℤ◌}
use Rattle.std.specs.Option.{option_zip}
use Rattle.std.specs.List.{list_all}
use Rattle.std.specs.Char.{is_ascii_digit}
use Rattle.jiff_core.specs.Calendar.{days_from_civil}
use Rattle.jiff.specs.Words.{IsDate, IsYmd, days_in_month, epoch_day}
use Rattle.jiff_core.specs.declared.civil.date.Date.{Date}
use Rattle.smq_receipt.specs.Texts.{value_of}

-- decimal digits YYMMDDhhmm, or YYMMDDhhmmss
abbrev pub is_date_text : List ℕ → Bool
is_date_text value = list_all is_ascii_digit value && (length value == 10 || length value == 12)

-- the number that the two digits at a place write
unfoldable pub two_digits_at : List ℕ → ℕ → ℕ
two_digits_at value place = 10 * (slice_index value place - 48) + (slice_index value (place + 1) - 48)

-- the seconds of a date's text, or 0 where it has none
abbrev pub seconds_in : List ℕ → ℕ
seconds_in value = if length value == 12 then two_digits_at value 10 else 0

-- the calendar has this day of the year 20YY
unfoldable pub is_date : ℕ → ℕ → ℕ → Bool
is_date year month day =
    nat_le 1 month && nat_le month 12 && nat_le 1 day && nat_le day (days_in_month (pos (2000 + year)) month)

-- the day number of a date of the year 20YY, from 1970-01-01, where the calendar has it
unfoldable pub day_number_of : ℕ → ℕ → ℕ → Option ℤ
day_number_of year month day =
    if is_date year month day then Some (days_from_civil (pos (2000 + year)) month day) else None

-- the seconds since midnight, where a clock shows this time
unfoldable pub second_of_day_of : ℕ → ℕ → ℕ → Option ℕ
second_of_day_of hour minute second =
    if nat_le hour 23 && nat_le minute 59 && nat_le second 59 then Some (hour * 3600 + minute * 60 + second) else None

-- the day and the second of that day, in ms since 1970-01-01 of the same clock
abbrev pub milliseconds_of : ℤ × ℕ → ℤ
milliseconds_of p = (p.0 *ℤ pos 86_400 +ℤ pos p.1) *ℤ pos 1_000

-- the moment of the centre's clock that a date tells, in ms since 1970-01-01, where it is one
unfoldable pub moment_of : List ℕ → Option ℤ
moment_of value =
    if is_date_text value
    then option_map milliseconds_of (option_zip
    (day_number_of (two_digits_at value 0) (two_digits_at value 2) (two_digits_at value 4))
    (second_of_day_of (two_digits_at value 6) (two_digits_at value 8) (seconds_in value)))
    else None

-- done date minus submit date, in ms, where both are dates
unfoldable pub centre_delay_of : List ℕ → Option ℤ
centre_delay_of header =
    option_map (λ p. p.1 -ℤ p.0) (option_zip
    (option_and_then moment_of (value_of (codes "submit date:") header))
    (option_and_then moment_of (value_of (codes "done date:") header)))

-- The dates are those of the calendar, and their day numbers are counted on it.
pub record DatesAreOfTheCalendar : Type 0 where
  pub dates : (year month day : ℕ) → year ≤ 99
      → IsTrue (is_date year month day) ↔ IsDate (pos (2000 + year)) (pos month) (pos day)
  pub days : (year : ℕ) (date : Date) → IsYmd (pos (2000 + year)) (pos date.month) (pos date.day) date
      → IsTrue (is_date year date.month date.day) → day_number_of year date.month date.day ≡ Some (epoch_day date)
