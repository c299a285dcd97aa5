-- Known columns, days, cells and counts.
use Rattle.std.specs.Prelude.{◌≡◌, ◌++◌, List, [], ◌∷◌, Some, None, codes, find, neg_ℤ, pos}
use Rattle.std.specs.List.Sorted.{IsStrictlySortedBy}
use Rattle.jiff_tz.specs.PosixReader.{read_whole}
use Rattle.jiff_tz.specs.Tzif.{tzif_view}
use Rattle.jiff_tz.specs.declared.tzif.Tzif.{Tzif}
use Rattle.smq_tally.specs.declared.outcome.Outcome.TheVariants as o
use Rattle.smq_tally.specs.declared.value.Value.TheVariants as w
use Rattle.smq_tally.specs.declared.view.View.TheVariants as v
use Rattle.smq_count.specs.declared.cell.Cell.{Cell}
use Rattle.smq_count.specs.declared.cell.Cell.TheVariants as cell
use Rattle.smq_count.specs.declared.column.Column.TheVariants as c
use Rattle.smq_count.specs.declared.column.Period.TheVariants as p
use Rattle.smq_count.specs.declared.local.Local.TheVariants as l
use Rattle.smq_count.specs.LocalTime.{local_of, local_text, offset_in, offset_text}
use Rattle.smq_count.specs.Cells.{cell_cmp, cell_text, period_of}
use Rattle.smq_count.specs.Columns.{columns, is_named}
use Rattle.smq_count.specs.Months.{day_text, hour_text, minute_text, month_of, month_text, time_text}

-- Columns have these names, and no others.
pub record KnowsColumns : Type 0 where
  pub link : find (is_named (codes "link")) columns ≡ Some (c.View v.Link)
  pub session : find (is_named (codes "session")) columns ≡ Some c.Session
  pub route : find (is_named (codes "route")) columns ≡ Some (c.View v.Route)
  pub outcome : find (is_named (codes "outcome")) columns ≡ Some c.Outcome
  pub centre_delay : find (is_named (codes "centre-delay")) columns ≡ Some (c.View v.CentreDelay)
  pub minute : find (is_named (codes "minute")) columns ≡ Some (c.Period p.Minute)
  pub hour : find (is_named (codes "hour")) columns ≡ Some (c.Period p.Hour)
  pub day : find (is_named (codes "day")) columns ≡ Some (c.Period p.Day)
  pub month : find (is_named (codes "month")) columns ≡ Some (c.Period p.Month)
  pub source : find (is_named (codes "source")) columns ≡ Some c.Source
  pub ton : find (is_named (codes "ton")) columns ≡ Some c.SourceTon
  pub least_prefix : find (is_named (codes "prefix:1")) columns ≡ Some (c.Prefix 1)
  pub most_prefix : find (is_named (codes "prefix:15")) columns ≡ Some (c.Prefix 15)
  pub no_prefix : find (is_named (codes "prefix:0")) columns ≡ None
  pub longer_prefix : find (is_named (codes "prefix:16")) columns ≡ None
  pub other : find (is_named (codes "Link")) columns ≡ None

-- Days are written so: the first, the leap day of a century, the last of a year, and the last that there is.
pub record KnowsDays : Type 0 where
  pub first : day_text 0 ≡ codes "1970-01-01"
  pub leap_day : day_text 11016 ≡ codes "2000-02-29"
  pub last_of_year : day_text 20818 ≡ codes "2026-12-31"
  pub last : day_text 47482 ≡ codes "2100-01-01"
  pub hour : hour_text 264400 ≡ codes "2000-02-29T16Z"
  pub minute : minute_text 15864005 ≡ day_text 11016 ++ codes "T16:05Z"
  pub time : time_text 965 ≡ codes "16:05Z"
  pub month : month_text (month_of 11016) ≡ codes "2000-02"

-- Local time is written so, by Python's zoneinfo: on the night in which the clocks of Berlin go back, two hours have the same number, and the
-- one with the longer offset comes first; a day there begins before that of UTC, and the first moments are in December 1969 in New York.
pub record KnowsLocalTime : Type 0 where
  -- 25 October 2026, 00:30 and 01:30 in UTC
  pub summer_minute : local_text (local_of p.Minute (pos 7200) 1792888200000) ≡ codes "2026-10-25T02:30+02:00"
  pub summer_hour : local_text (local_of p.Hour (pos 7200) 1792888200000) ≡ codes "2026-10-25T02+02:00"
  pub winter_minute : local_text (local_of p.Minute (pos 3600) 1792891800000) ≡ codes "2026-10-25T02:30+01:00"
  pub winter_hour : local_text (local_of p.Hour (pos 3600) 1792891800000) ≡ codes "2026-10-25T02+01:00"
  pub day_of_both : local_text (local_of p.Day (pos 7200) 1792888200000) ≡ local_text (local_of p.Day (pos 3600) 1792891800000)
  -- 31 December 2026, 23:10 in UTC
  pub next_day : local_text (local_of p.Day (pos 3600) 1798758600000) ≡ codes "2027-01-01"
  pub next_month : local_text (local_of p.Month (pos 3600) 1798758600000) ≡ codes "2027-01"
  -- 30 November 2026, 03:15 in UTC, in New York
  pub day_before : local_text (local_of p.Day (neg_ℤ (pos 18000)) 1796008500000) ≡ codes "2026-11-29"
  -- 30 November 2026, 18:45 in UTC, in Kolkata
  pub half_hour : local_text (local_of p.Hour (pos 19800) 1796064300000) ≡ codes "2026-12-01T00+05:30"
  -- 1 June 1971, 00:00 in UTC, in Monrovia
  pub seconds : local_text (local_of p.Minute (neg_ℤ (pos 2670)) 44582400000) ≡ codes "1971-05-31T23:15-00:44:30"
  -- the first moment in New York, the last in Kiritimati, and UTC as a time zone
  pub first_minute : local_text (local_of p.Minute (neg_ℤ (pos 18000)) 0) ≡ codes "1969-12-31T19:00-05:00"
  pub first_month : local_text (local_of p.Month (neg_ℤ (pos 18000)) 0) ≡ codes "1969-12"
  pub last_day : local_text (local_of p.Day (pos 50400) 4102444800000) ≡ codes "2100-01-01"
  pub no_offset : offset_text (pos 0) ≡ codes "+00:00"

-- Berlin's rule, which stands at the end of its file: CET-1CEST,M3.5.0,M10.5.0/3
pub record IsBerlin (zone : Tzif) : Type 0 where
  pub transitions : (tzif_view zone).transitions ≡ []
  pub rule : (tzif_view zone).rule ≡ read_whole (codes "CET-1CEST,M3.5.0,M10.5.0/3")

-- By that rule the clocks of Berlin are an hour ahead of UTC, and two from 29 March 2026, 01:00 in UTC, to 25 October, 01:00.
pub record KnowsBerlin (zone : Tzif) : Type 0 where
  pub last_of_winter : offset_in zone 1774745999999 ≡ pos 3600
  pub first_of_summer : offset_in zone 1774746000000 ≡ pos 7200
  pub last_of_summer : offset_in zone 1792889999999 ≡ pos 7200
  pub first_of_winter : offset_in zone 1792890000000 ≡ pos 3600

-- Cells are written so, and moments are of these periods: 1,700,000,000,000 ms is 2023-11-14T22:13:20Z.
pub record KnowsCells : Type 0 where
  pub minute : period_of p.Minute 1700000000000 ≡ 28333333
  pub hour : period_of p.Hour 1700000000000 ≡ 472222
  pub day : period_of p.Day 1700000000000 ≡ 19675
  pub last_of_minute : period_of p.Minute 59999 ≡ 0
  pub session : cell_text (cell.Session (record { 0 = 10 })) ≡ codes "10"
  pub outcome : cell_text (cell.Outcome o.NoId) ≡ codes "noid"
  pub no_route : cell_text (cell.Value w.NoRoute) ≡ codes "none"
  pub source : cell_text (cell.Source (codes "ACME")) ≡ codes "ACME"
  pub ton : cell_text (cell.Ton 5) ≡ codes "5"
  pub prefix : cell_text (cell.Prefix (record { items = codes "447" })) ≡ codes "447"
  pub nothing : cell_text cell.Nothing ≡ []

-- cells of columns, each column's in order
abbrev pub known_routes : List Cell
known_routes = cell.Value (w.Route (record { 0 = 2 })) ∷ cell.Value (w.Route (record { 0 = 10 })) ∷ cell.Value w.NoRoute ∷ []

abbrev pub known_sessions : List Cell
known_sessions = cell.Session (record { 0 = 2 }) ∷ cell.Session (record { 0 = 10 }) ∷ []

abbrev pub known_outcomes : List Cell
known_outcomes = cell.Outcome o.Waiting ∷ cell.Outcome o.Delivered ∷ cell.Outcome o.Open ∷ []

abbrev pub known_prefixes : List Cell
known_prefixes =
    cell.Prefix (record { items = codes "4" }) ∷ cell.Prefix (record { items = codes "44" }) ∷ cell.Prefix (record { items = codes "447" })
    ∷ cell.Prefix (record { items = codes "5" }) ∷ cell.Nothing ∷ []

abbrev pub known_sources : List Cell
known_sources = cell.Source (codes "447") ∷ cell.Source (codes "ACME") ∷ cell.Source (codes "acme") ∷ cell.Nothing ∷ []

-- the hours of that night in Berlin; and two that begin at once, as on a night when clocks go back within an hour
abbrev pub known_hours : List Cell
known_hours =
    cell.Local (local_of p.Hour (pos 7200) 1792886399999)
    ∷ cell.Local (local_of p.Hour (pos 7200) 1792888200000)
    ∷ cell.Local (local_of p.Hour (pos 3600) 1792891800000)
    ∷ cell.Local (local_of p.Hour (pos 3600) 1792893600000)
    ∷ []

abbrev pub hours_at_once : List Cell
hours_at_once = cell.Local (l.Hour 3600 (neg_ℤ (pos 3600))) ∷ cell.Local (l.Hour 3600 (pos 0)) ∷ []

-- What stands in a column has its order.
pub record KnowsOrder : Type 0 where
  pub routes : IsStrictlySortedBy cell_cmp known_routes
  pub sessions : IsStrictlySortedBy cell_cmp known_sessions
  pub outcomes : IsStrictlySortedBy cell_cmp known_outcomes
  pub days : IsStrictlySortedBy cell_cmp (cell.Period p.Day 9 ∷ cell.Period p.Day 10 ∷ [])
  pub sources : IsStrictlySortedBy cell_cmp known_sources
  pub tons : IsStrictlySortedBy cell_cmp (cell.Ton 2 ∷ cell.Ton 10 ∷ [])
  pub hours : IsStrictlySortedBy cell_cmp known_hours
  pub at_once : IsStrictlySortedBy cell_cmp hours_at_once
  pub prefixes : IsStrictlySortedBy cell_cmp known_prefixes
