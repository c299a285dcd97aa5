-- Periods of local time, and how they are written (ISO 8601). Local time is UTC and the offset that a time zone has at the moment, as its file
-- says (TZif, RFC 8536). It is counted from 1 December 1969 on, since the local time of the first moments may lie in that month.
use Rattle.std.specs.Prelude.{◌≡◌, ◌≢◌, ◌⊎◌, ◌<◌, ℕ, ◌+◌, ◌-◌, ◌*◌, ◌/◌, ◌%◌, ◌==◌, nat_lt, int_lt, ℤ, pos, ◌+ℤ◌, ◌*ℤ◌, unsigned_abs, if◌then◌else◌, List, [], ◌∷◌, ◌++◌, length, codes, ⊤, Option, Some, None, Ok, IsErr}
use Rattle.jiff_tz.specs.declared.tzif.Tzif.{Tzif}
use Rattle.jiff_tz.specs.Tzif.{HasBadRule, offset_at, tzif_view}
use Rattle.jiff_tz.specs.TzifReader.{read_tzif}
use Rattle.smq_count.specs.declared.column.Period.{Period}
use Rattle.smq_count.specs.declared.column.Period.TheVariants as p
use Rattle.smq_count.specs.declared.local.Local.{Local}
use Rattle.smq_count.specs.declared.local.Local.TheVariants as l
use Rattle.smq_count.specs.declared.local.Zone.{Zone}
use Rattle.smq_count.specs.declared.local.Zone.TheVariants as z
use Rattle.smq_count.specs.Months.{day_text, month_of, month_text, two_digits}

-- ---- time zones

-- these octets say this time zone
abbrev pub IsZoneOf : List ℕ → Zone → Type 0
IsZoneOf octets z.Utc = ⊥
IsZoneOf octets (z.Local zone) = read_tzif octets ≡ Ok (tzif_view zone)

-- no time zone is found only where the octets are more than 1,048,576, or no TZif, or their rule gives another time than their last row
abbrev pub IfNoZone : List ℕ → Option Zone → Type 0
IfNoZone octets None = (1048576 < length octets) ⊎ IsErr (read_tzif octets) ⊎ HasBadRule (read_tzif octets)
IfNoZone octets (Some zone) = ⊤

-- how far local time is ahead of UTC at a moment in ms since 1970, in seconds
abbrev pub offset_in : Tzif → ℕ → ℤ
offset_in zone moment = (offset_at zone (pos moment *ℤ pos 1000000)).seconds

-- ---- seconds, days and months since 1 December 1969

-- the second of UTC in which a moment is
abbrev pub utc_second : ℕ → ℕ
utc_second moment = moment / 1000 + 2678400

-- the second of local time at one of UTC
abbrev pub local_second : ℕ → ℤ → ℕ
local_second second offset = unsigned_abs (pos second +ℤ offset)

-- the month of a day
abbrev pub local_month : ℕ → ℕ
local_month day = if nat_lt day 31 then 0 else month_of (day - 31) + 1

-- The period of local time in which a moment is. A minute or an hour begins as long before the moment as local time has gone on in it.
abbrev pub local_of : Period → ℤ → ℕ → Local
local_of p.Minute offset moment = l.Minute (utc_second moment - local_second (utc_second moment) offset % 60) offset
local_of p.Hour offset moment = l.Hour (utc_second moment - local_second (utc_second moment) offset % 3600) offset
local_of p.Day offset moment = l.Day (local_second (utc_second moment) offset / 86400)
local_of p.Month offset moment = l.Month (local_month (local_second (utc_second moment) offset / 86400))

-- ---- how they are written

-- a month: YYYY-MM
abbrev pub local_month_text : ℕ → List ℕ
local_month_text month = if month == 0 then codes "1969-12" else month_text (month - 1)

-- a day: YYYY-MM-DD
abbrev pub local_day_text : ℕ → List ℕ
local_day_text day = if nat_lt day 31 then codes "1969-12-" ++ two_digits (day + 1) else day_text (day - 31)

-- the day and the hour of a second: YYYY-MM-DDTHH
abbrev pub local_time_text : ℕ → List ℕ
local_time_text local = local_day_text (local / 86400) ++ 84 ∷ two_digits (local / 3600 % 24)

-- so many seconds: HH:MM, or HH:MM:SS where they are no whole minutes
abbrev pub clock_text : ℕ → List ℕ
clock_text seconds =
    two_digits (seconds / 3600) ++ 58 ∷ two_digits (seconds / 60 % 60) ++ (if seconds % 60 == 0 then [] else 58 ∷ two_digits (seconds % 60))

-- an offset: + or -, and how long it is
abbrev pub offset_text : ℤ → List ℕ
offset_text offset = (if int_lt offset (pos 0) then codes "-" else codes "+") ++ clock_text (unsigned_abs offset)

-- a minute, by its first second of local time: YYYY-MM-DDTHH:MM+HH:MM
abbrev pub local_minute_text : ℕ → ℤ → List ℕ
local_minute_text local offset = local_time_text local ++ 58 ∷ two_digits (local / 60 % 60) ++ offset_text offset

-- an hour in the same way: YYYY-MM-DDTHH+HH:MM
abbrev pub local_hour_text : ℕ → ℤ → List ℕ
local_hour_text local offset = local_time_text local ++ offset_text offset

-- a period
abbrev pub local_text : Local → List ℕ
local_text (l.Minute second offset) = local_minute_text (local_second second offset) offset
local_text (l.Hour second offset) = local_hour_text (local_second second offset) offset
local_text (l.Day day) = local_day_text day
local_text (l.Month month) = local_month_text month
