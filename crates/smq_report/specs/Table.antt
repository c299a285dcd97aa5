-- The text of a report as tables: a line for each view and list, and under it a line of columns for each row and place.
use Rattle.std.specs.Prelude.{ℕ, ◌-◌, List, [], ◌∷◌, ◌++◌, codes, length, replicate}
use Rattle.std.specs.List.{flat_map}
use Rattle.std.specs.Fmt.{decimal}
use Rattle.smq_kit.specs.declared.place.Place.{Place}
use Rattle.smq_tally.specs.Names.{list_name, outcome_name, view_name}
use Rattle.smq_tally.specs.Tables.{ShownRow, TablesValue, listed_in, rows_of}
use Rattle.smq_report.specs.declared.pick.Pick.{Pick}
use Rattle.smq_report.specs.declared.pick.Section.{Section}
use Rattle.smq_report.specs.declared.pick.Section.TheVariants as section
use Rattle.smq_report.specs.Sections.{sections_of}
use Rattle.smq_report.specs.Values.{dir_text, value_text}

-- a text left in so many places: spaces after it, up to that many; a longer one stands as it is
abbrev pub left_in : ℕ → List ℕ → List ℕ
left_in places text = text ++ replicate (places - length text) 32

-- a text right in so many places: spaces before it, up to that many; a longer one stands as it is
abbrev pub right_in : ℕ → List ℕ → List ℕ
right_in places text = replicate (places - length text) 32 ++ text

-- a row of a view: two spaces, its value left in 24 places, a space, its outcome left in 10, a space, its count right in 10
abbrev pub table_row : ShownRow → List ℕ
table_row row =
    codes "  " ++ left_in 24 (value_text row.0) ++ codes " " ++ left_in 10 (outcome_name row.1)
    ++ codes " " ++ right_in 10 (decimal row.2) ++ 10 ∷ []

-- a place of a list: two spaces, its session right in 20 places, a space, its direction left in 6, a space, its offset right
-- in 16
abbrev pub table_place : Place → List ℕ
table_place place =
    codes "  " ++ right_in 20 (decimal place.session.0) ++ codes " " ++ left_in 6 (dir_text place.dir)
    ++ codes " " ++ right_in 16 (decimal place.offset) ++ 10 ∷ []

-- a section's own line: `view NAME` or `list NAME`
abbrev pub section_line : Section → List ℕ
section_line (section.View view) = codes "view " ++ view_name view ++ 10 ∷ []
section_line (section.List list) = codes "list " ++ list_name list ++ 10 ∷ []

-- the lines of a section's rows or places
abbrev pub table_lines : TablesValue → Section → List ℕ
table_lines tables (section.View view) = flat_map table_row (rows_of tables view)
table_lines tables (section.List list) = flat_map table_place (listed_in tables list)

-- a section: its own line, which stands also where it has no rows, and the lines under it
abbrev pub table_section : TablesValue → Section → List ℕ
table_section tables part = section_line part ++ table_lines tables part

-- a report: its sections, one after the other
abbrev pub table_text : TablesValue → Pick → List ℕ
table_text tables pick = flat_map (table_section tables) (sections_of pick)
