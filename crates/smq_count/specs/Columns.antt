-- The columns that messages are counted by, and their names.
use Rattle.std.specs.Prelude.{ℕ, Bool, List, [], ◌∷◌, ◌++◌, codes, map}
use Rattle.std.specs.Fmt.{decimal}
use Rattle.std.specs.Str.{bytes_eq}
use Rattle.smq_tally.specs.declared.view.View.TheVariants as v
use Rattle.smq_tally.specs.Names.{view_name}
use Rattle.smq_count.specs.declared.column.Column.{Column}
use Rattle.smq_count.specs.declared.column.Column.TheVariants as c
use Rattle.smq_count.specs.declared.column.Period.{Period}
use Rattle.smq_count.specs.declared.column.Period.TheVariants as p

-- the name of a period
abbrev pub period_name : Period → List ℕ
period_name p.Minute = codes "minute"
period_name p.Hour = codes "hour"
period_name p.Day = codes "day"
period_name p.Month = codes "month"

-- the name of a column
abbrev pub column_name : Column → List ℕ
column_name (c.View view) = view_name view
column_name c.Session = codes "session"
column_name c.Outcome = codes "outcome"
column_name (c.Period period) = period_name period
column_name c.Source = codes "source"
column_name c.SourceTon = codes "ton"
column_name (c.Prefix digits) = codes "prefix:" ++ decimal digits

-- all columns: prefixes have up to 15 digits, as numbers do (E.164, section 6)
abbrev pub columns : List Column
columns =
    c.View v.Link
    ∷ c.Session
    ∷ c.View v.Route
    ∷ c.View v.Network
    ∷ c.Outcome
    ∷ c.View v.Error
    ∷ c.View v.LinkDelay
    ∷ c.View v.CentreDelay
    ∷ c.Period p.Minute
    ∷ c.Period p.Hour
    ∷ c.Period p.Day
    ∷ c.Period p.Month
    ∷ c.Source
    ∷ c.SourceTon
    ∷ map c.Prefix (1 ∷ 2 ∷ 3 ∷ 4 ∷ 5 ∷ 6 ∷ 7 ∷ 8 ∷ 9 ∷ 10 ∷ 11 ∷ 12 ∷ 13 ∷ 14 ∷ 15 ∷ [])

-- whether a column has this name
abbrev pub is_named : List ℕ → Column → Bool
is_named name column = bytes_eq (column_name column) name
