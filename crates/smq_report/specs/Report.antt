-- The text of a report.
use Rattle.std.specs.Prelude.{ℕ, List}
use Rattle.smq_tally.specs.Tables.{TablesValue}
use Rattle.smq_report.specs.declared.pick.Format.{Format}
use Rattle.smq_report.specs.declared.pick.Format.TheVariants as format
use Rattle.smq_report.specs.declared.pick.Pick.{Pick}
use Rattle.smq_report.specs.Csv.{csv_text}
use Rattle.smq_report.specs.Table.{table_text}

-- the text of what is picked of tables, in a format
abbrev pub report_text : Pick → Format → TablesValue → List ℕ
report_text pick format.Csv tables = csv_text tables pick
report_text pick format.Table tables = table_text tables pick
