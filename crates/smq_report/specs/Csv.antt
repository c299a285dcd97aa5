-- The text of a report as CSV: a record of five fields for each row of a view and each place of a list.
use Rattle.std.specs.Prelude.{◌≡◌, ℕ, false, List, [], ◌∷◌, ◌++◌, codes}
use Rattle.std.specs.List.{flat_map}
use Rattle.std.specs.Fmt.{decimal}
use Rattle.csv.specs.Writing.{default_writer, needs_quotes}
use Rattle.smq_kit.specs.declared.place.Place.{Place}
use Rattle.smq_tally.specs.declared.list.List as lists
use Rattle.smq_tally.specs.declared.view.View.{View}
use Rattle.smq_tally.specs.Names.{list_name, outcome_name, view_name}
use Rattle.smq_tally.specs.Tables.{ShownRow, TablesValue, listed_in, rows_of}
use Rattle.smq_report.specs.declared.pick.Pick.{Pick}
use Rattle.smq_report.specs.declared.pick.Section.{Section}
use Rattle.smq_report.specs.declared.pick.Section.TheVariants as section
use Rattle.smq_report.specs.Sections.{sections_of}
use Rattle.smq_report.specs.Values.{dir_text, value_text}

-- CSV takes a field without quotes
abbrev pub IsPlain : List ℕ → Type 0
IsPlain field = needs_quotes default_writer field ≡ false

-- a row of a view: `view,NAME,VALUE,OUTCOME,COUNT` and a line feed
abbrev pub csv_row : View → ShownRow → List ℕ
csv_row view row =
    codes "view," ++ view_name view ++ codes "," ++ value_text row.0
    ++ codes "," ++ outcome_name row.1 ++ codes "," ++ decimal row.2 ++ 10 ∷ []

-- a place of a list: `list,NAME,SESSION,DIR,OFFSET` and a line feed
abbrev pub csv_place : lists.List → Place → List ℕ
csv_place list place =
    codes "list," ++ list_name list ++ codes "," ++ decimal place.session.0
    ++ codes "," ++ dir_text place.dir ++ codes "," ++ decimal place.offset ++ 10 ∷ []

-- a section: the lines of its rows or places, one after the other
abbrev pub csv_section : TablesValue → Section → List ℕ
csv_section tables (section.View view) = flat_map (csv_row view) (rows_of tables view)
csv_section tables (section.List list) = flat_map (csv_place list) (listed_in tables list)

-- a report: its sections, one after the other
abbrev pub csv_text : TablesValue → Pick → List ℕ
csv_text tables pick = flat_map (csv_section tables) (sections_of pick)
