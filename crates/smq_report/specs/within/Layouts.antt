-- The lines of a report, in either format.
use Rattle.std.specs.Prelude.{ℕ, List, []}
use Rattle.smq_kit.specs.declared.place.Place.{Place}
use Rattle.smq_tally.specs.declared.list.List as lists
use Rattle.smq_tally.specs.declared.view.View.{View}
use Rattle.smq_tally.specs.Tables.{ShownRow, TablesValue}
use Rattle.smq_report.specs.declared.pick.Format.{Format}
use Rattle.smq_report.specs.declared.pick.Format.TheVariants as format
use Rattle.smq_report.specs.declared.pick.Section.{Section}
use Rattle.smq_report.specs.Csv.{csv_place, csv_row, csv_section}
use Rattle.smq_report.specs.Table.{section_line, table_place, table_row, table_section}

-- a section's own line, which CSV hasn't
abbrev pub head_line : Format → Section → List ℕ
head_line format.Csv part = []
head_line format.Table part = section_line part

-- a row of a view
abbrev pub row_line : Format → View → ShownRow → List ℕ
row_line format.Csv view row = csv_row view row
row_line format.Table view row = table_row row

-- a place of a list
abbrev pub place_line : Format → lists.List → Place → List ℕ
place_line format.Csv list place = csv_place list place
place_line format.Table list place = table_place place

-- a section
abbrev pub section_text : Format → TablesValue → Section → List ℕ
section_text format.Csv tables part = csv_section tables part
section_text format.Table tables part = table_section tables part
