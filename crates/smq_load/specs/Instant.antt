-- Instants: dates and times in UTC, as `YYYY-MM-DDTHH:MM:SSZ` (RFC 3339, section 5.6).
use Rattle.std.specs.Prelude.{ℕ, ◌+◌, ◌*◌, nat_le, ◌==◌, ◌&&◌, Bool, if◌then◌else◌, List, length, slice_index, slice_range, Option, Some, None, ℤ, pos, negsuc, ◌+ℤ◌, ◌*ℤ◌}
use Rattle.jiff.specs.Words.{days_in_month}
use Rattle.jiff_core.specs.Calendar.{days_from_civil}
use Rattle.smq_load.specs.Decimal.{decimal_to, up_to}

-- a text of 20 octets with an instant's marks at their places
abbrev pub has_marks : List ℕ → Bool
has_marks text =
    length text == 20 && slice_index text 4 == 45 && slice_index text 7 == 45 && slice_index text 10 == 84
    && slice_index text 13 == 58 && slice_index text 16 == 58 && slice_index text 19 == 90

-- the calendar has this day
abbrev pub is_date : ℕ → ℕ → ℕ → Bool
is_date year month day =
    nat_le 1 month && nat_le month 12 && nat_le 1 day && nat_le day (days_in_month (pos year) month)

-- the day number of a date, from 1970-01-01, where the calendar has it
abbrev pub day_number_of : ℕ → ℕ → ℕ → Option ℤ
day_number_of year month day =
    if is_date year month day then Some (days_from_civil (pos year) month day) else None

-- the day number of a date's parts, where none is missing
abbrev pub day_from : Option ℕ → Option ℕ → Option ℕ → Option ℤ
day_from (Some year) (Some month) (Some day) = day_number_of year month day
day_from _ _ _ = None

-- the day number that YYYY-MM-DD says
abbrev pub day_of : List ℕ → Option ℤ
day_of date =
    day_from (decimal_to 9999 (slice_range date 0 4)) (decimal_to 12 (slice_range date 5 7))
    (decimal_to 31 (slice_range date 8 10))

-- the second of a day at an hour, a minute and a second
abbrev pub second_from : Option ℕ → Option ℕ → Option ℕ → Option ℕ
second_from (Some hour) (Some minute) (Some second) = Some (hour * 3600 + minute * 60 + second)
second_from _ _ _ = None

-- the second of a day that HH:MM:SS says: hours to 23, minutes and seconds to 59
abbrev pub second_of : List ℕ → Option ℕ
second_of time =
    second_from (decimal_to 23 (slice_range time 0 2)) (decimal_to 59 (slice_range time 3 5))
    (decimal_to 59 (slice_range time 6 8))

-- a number of ms since 1970, where it is a moment
abbrev pub moment_at : ℤ → Option ℕ
moment_at (pos milliseconds) = up_to 4102444800000 (Some milliseconds)
moment_at (negsuc _) = None

-- a second of a day, in ms since 1970-01-01
abbrev pub milliseconds_of : ℤ → ℕ → ℤ
milliseconds_of day second = (day *ℤ pos 86_400 +ℤ pos second) *ℤ pos 1_000

-- the moment of a second of a day, where it is one
abbrev pub moment_from : Option ℤ → Option ℕ → Option ℕ
moment_from (Some day) (Some second) = moment_at (milliseconds_of day second)
moment_from _ _ = None

-- the moment that an instant says in ms since 1970 in UTC, where it is one
abbrev pub instant_of : List ℕ → Option ℕ
instant_of text =
    if has_marks text then moment_from (day_of (slice_range text 0 10)) (second_of (slice_range text 11 19)) else None
