use Rattle.std.proofs.Common.{◌≡◌, ℕ, List, [], ◌++◌, append_assoc, append-nil}
use Rattle.std.specs.List.{flat_map}
use Rattle.smq_tally.specs.Lists.{lists}
use Rattle.smq_tally.specs.Rows.{views}
use Rattle.smq_report.specs.declared.pick.Pick.TheVariants as pick
use Rattle.smq_report.specs.declared.pick.Section.{Section}
use Rattle.smq_report.specs.declared.pick.Section.TheVariants as section
use Rattle.smq_report.specs.Csv.{csv_section}
use Rattle.smq_report.specs.Sections.{sections_of}
use Rattle.smq_report.specs.Table.{table_section}
use Rattle.smq_report.proofs.laws.whole_reports_are_those_of_views_and_lists.Goals as goal

parts : (text : Section → List ℕ) → flat_map text (sections_of pick.All)
    ≡ flat_map (λ view. text (section.View view) ++ []) views ++ flat_map (λ list. text (section.List list) ++ []) lists
parts text = simp (append_assoc, append-nil)

pub returns-clause-csv : goal.returns-clause-csv
returns-clause-csv c tables = parts (csv_section tables)

pub returns-clause-table : goal.returns-clause-table
returns-clause-table c tables = parts (table_section tables)
