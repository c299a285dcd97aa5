-- The scripts that rows are split into, by their links and days or hours.
use Rattle.std.specs.Prelude.{ℕ, ◌/◌, ◌==◌, ◌&&◌, min, Bool, cond, List, [], ◌∷◌, filter, Option}
use Rattle.std.specs.List.{flat_map}
use Rattle.std.specs.Io.KnownBytes.{Appends, Keeps}
use Rattle.smq_parts.specs.declared.by.By.{By}
use Rattle.smq_parts.specs.declared.by.By.TheVariants as by
use Rattle.smq_parts.specs.declared.by.Part.{Part}

-- the day of a moment in ms since 1970, in UTC, by the number of days since 1970; the last one has all that is past 2099
abbrev pub day_of : ℕ → ℕ
day_of moment = min (moment / 86400000) 47482

-- its hour in the same way
abbrev pub hour_of : ℕ → ℕ
hour_of moment = min (moment / 3600000) 1139568

-- the script of a row of a link, by its moment
abbrev pub part_by : By → ℕ → ℕ → Part
part_by by.Link link moment = record { link = link; period = 0 }
part_by by.Day link moment = record { link = 0; period = day_of moment }
part_by by.Hour link moment = record { link = 0; period = hour_of moment }
part_by by.LinkAndDay link moment = record { link = link; period = day_of moment }
part_by by.LinkAndHour link moment = record { link = link; period = hour_of moment }

-- whether a script is that one
abbrev pub is_part : Part → Part → Bool
is_part part other = part.link == other.link && part.period == other.period

-- the texts of scripts, where they are known
abbrev pub Texts : Type 0
Texts = Part → Option (List ℕ)

-- a text is put after that of one script, and nothing after those of the others
abbrev pub Puts : Part → List ℕ → Texts → Texts → Type 0
Puts to text before after = (part : Part) → Appends (before part) (after part) (cond (is_part part to) text [])

-- a row that is put: its link, its moment in ms since 1970, and its text
pub record Row : Type 0 where
  pub link : ℕ
  pub moment : ℕ
  pub text : List ℕ

-- the rows of a script, in order
abbrev pub rows_of : By → Part → List Row → List Row
rows_of by part rows = filter (λ row. is_part part (part_by by row.link row.moment)) rows

-- what texts become where rows are put, one after the other
abbrev pub Become : By → List Row → Texts → Texts → Type 0
Become by [] before after = (part : Part) → Keeps (before part) (after part)
Become by (row ∷ rows) before after =
    (between : Texts) × Puts (part_by by row.link row.moment) row.text before between × Become by rows between after

-- each script has exactly the rows of its link and period, in order, behind what it had
abbrev pub HaveTheirRows : Type 0
HaveTheirRows = (by : By) (rows : List Row) (before after : Texts) → Become by rows before after
    → (part : Part) → Appends (before part) (after part) (flat_map (λ row. row.text) (rows_of by part rows))
