-- What a message has in a column, in which order this stands, and how it is written.
use Rattle.std.specs.Prelude.{ℕ, ◌/◌, List, [], take, map}
use Rattle.std.specs.Fmt.{decimal}
use Rattle.std.specs.Cmp.Lexicographic.{slice_cmp}
use Rattle.std.specs.Option.{option_map_or}
use Rattle.std.specs.declared.cmp.Ordering.{Ordering}
use Rattle.smq_tally.specs.Names.{outcome_name}
use Rattle.smq_tally.specs.Rows.{value_in}
use Rattle.smq_report.specs.Values.{value_text}
use Rattle.smq_present.specs.join.Lines.{MessageLineValue}
use Rattle.smq_count.specs.declared.cell.Cell.{Cell}
use Rattle.smq_count.specs.declared.cell.Cell.TheVariants as cell
use Rattle.smq_count.specs.contracts.cell.CellOrd.TheImpl as cell_ord
use Rattle.smq_count.specs.declared.column.Column.{Column}
use Rattle.smq_count.specs.declared.column.Column.TheVariants as c
use Rattle.smq_count.specs.declared.column.Period.{Period}
use Rattle.smq_count.specs.declared.column.Period.TheVariants as p
use Rattle.smq_count.specs.declared.local.Zone.{Zone}
use Rattle.smq_count.specs.declared.local.Zone.TheVariants as z
use Rattle.smq_count.specs.LocalTime.{local_of, local_text, offset_in}
use Rattle.smq_count.specs.Months.{day_text, hour_text, minute_text, month_of, month_text}

-- the period of a moment in ms since 1970, as a number of such periods since 1970
abbrev pub period_of : Period → ℕ → ℕ
period_of p.Minute moment = moment / 60000
period_of p.Hour moment = moment / 3600000
period_of p.Day moment = moment / 86400000
period_of p.Month moment = month_of (moment / 86400000)

-- how a period is written
abbrev pub period_text : Period → ℕ → List ℕ
period_text p.Minute number = minute_text number
period_text p.Hour number = hour_text number
period_text p.Day number = day_text number
period_text p.Month number = month_text number

-- what a message has in a column, in UTC
abbrev pub cell_in : Column → MessageLineValue → Cell
cell_in (c.View view) line = option_map_or cell.Value (value_in view line.fact) cell.Nothing
cell_in c.Session line = cell.Session line.fact.place.session
cell_in c.Outcome line = cell.Outcome line.fact.outcome
cell_in (c.Period period) line = cell.Period period (period_of period line.moment)
cell_in c.Source line = option_map_or cell.Source line.source cell.Nothing
cell_in c.SourceTon line = cell.Ton line.source_ton
cell_in (c.Prefix digits) line = option_map_or (λ number. cell.Prefix (record { items = take digits number })) line.number cell.Nothing

-- the same, where periods are of the time of a zone
abbrev pub cell_by : Zone → Column → MessageLineValue → Cell
cell_by z.Utc column line = cell_in column line
cell_by (z.Local zone) (c.Period period) line = cell.Local (local_of period (offset_in zone line.moment) line.moment)
cell_by (z.Local zone) column line = cell_in column line

-- how it is written, as reports do; nothing where there is nothing
abbrev pub cell_text : Cell → List ℕ
cell_text (cell.Value value) = value_text value
cell_text (cell.Session session) = decimal session.0
cell_text (cell.Outcome outcome) = outcome_name outcome
cell_text (cell.Period period number) = period_text period number
cell_text (cell.Local local) = local_text local
cell_text (cell.Source source) = source
cell_text (cell.Ton ton) = decimal ton
cell_text (cell.Prefix digits) = digits.items
cell_text cell.Nothing = []

-- the order of what stands in a column: as views have it, sessions and types of number by number, outcomes as reports have them, periods
-- by time (of local time by their beginning, and then by the offset), sources and prefixes by their octets, and last where there is nothing
abbrev pub cell_cmp : Cell → Cell → Ordering
cell_cmp = (cell_ord.ghosts).cmp

-- what a message has in columns
abbrev pub Tuple : Type 0
Tuple = List Cell

-- the order of these: by the first column in which they differ
abbrev pub tuple_cmp : Tuple → Tuple → Ordering
tuple_cmp = slice_cmp cell_cmp

-- what a message has in these columns, in UTC
abbrev pub tuple_in : List Column → MessageLineValue → Tuple
tuple_in columns line = map (λ column. cell_in column line) columns

-- the same, where periods are of the time of a zone
abbrev pub tuple_by : Zone → List Column → MessageLineValue → Tuple
tuple_by zone columns line = map (λ column. cell_by zone column line) columns
