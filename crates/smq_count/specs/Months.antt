-- Days and months of the Gregorian calendar in UTC, as numbers from 1970 on, to the end of 2099, and how they are written (ISO 8601).
use Rattle.std.specs.Prelude.{ℕ, zero, suc, ◌+◌, ◌-◌, ◌/◌, ◌%◌, nat_le, if◌then◌else◌, List, ◌∷◌, ◌++◌, codes, pos, unsigned_abs}
use Rattle.std.specs.Fmt.{decimal}
use Rattle.jiff_core.specs.Calendar.{days_from_civil}

-- the first day of a month, as a number of days since 1 January 1970; the month as a number of months since January 1970
unfoldable pub first_day : ℕ → ℕ
first_day month = unsigned_abs (days_from_civil (pos (1970 + month / 12)) (month % 12 + 1) 1)

-- how many of the months from 1 to this one have begun on a day
unfoldable pub months_begun : ℕ → ℕ → ℕ
months_begun zero day = 0
months_begun (suc month) day = (if nat_le (first_day (suc month)) day then 1 else 0) + months_begun month day

-- the month of a day: how many months have begun since January 1970, up to the first of the year 2100
abbrev pub month_of : ℕ → ℕ
month_of day = months_begun 1560 day

-- the day in its month, from 1
abbrev pub day_of_month : ℕ → ℕ
day_of_month day = day - first_day (month_of day) + 1

-- a number below 100 in two digits
abbrev pub two_digits : ℕ → List ℕ
two_digits n = decimal (n / 10) ++ decimal (n % 10)

-- a month: YYYY-MM
abbrev pub month_text : ℕ → List ℕ
month_text month = decimal (1970 + month / 12) ++ 45 ∷ two_digits (month % 12 + 1)

-- a day: YYYY-MM-DD
abbrev pub day_text : ℕ → List ℕ
day_text day = month_text (month_of day) ++ 45 ∷ two_digits (day_of_month day)

-- an hour, as a number of hours since 1970: YYYY-MM-DDTHHZ
abbrev pub hour_text : ℕ → List ℕ
hour_text hour = day_text (hour / 24) ++ 84 ∷ two_digits (hour % 24) ++ codes "Z"

-- the time of a minute of a day: HH:MMZ
abbrev pub time_text : ℕ → List ℕ
time_text minute = two_digits (minute / 60) ++ 58 ∷ two_digits (minute % 60) ++ codes "Z"

-- a minute, as a number of minutes since 1970: YYYY-MM-DDTHH:MMZ
abbrev pub minute_text : ℕ → List ℕ
minute_text minute = day_text (minute / 1440) ++ 84 ∷ time_text (minute % 1440)
