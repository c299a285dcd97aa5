use Rattle.std.proofs.Common.{refl, map}
use Rattle.std.specs.Fmt.{digits}
use Rattle.std.specs.FinMap.{entries-from_sorted}
use Rattle.smq_tally.specs.Lists.{listed_cmp}
use Rattle.smq_tally.specs.Rows.{count_cmp}
use Rattle.smq_report.specs.Known.{known_counts, known_places}
use Rattle.smq_report.proofs.laws.known_reports.Goals as goal

pub returns : goal.returns
unfolding digits
returns c =
    let counts = entries-from_sorted count_cmp known_counts (tt {0}) in
    let places = entries-from_sorted listed_cmp (map (λ e. (e, tt {0})) known_places) (tt {0}) in
    record {
      csv = rw (counts, places) refl;
      table = rw (counts, places) refl;
      csv_view = rw counts refl;
      csv_list = rw places refl;
      csv_empty = rw places refl;
      table_view = rw counts refl;
      table_list = rw places refl;
      table_empty = rw places refl;
      in_csv = refl;
      in_table = refl;
    }
