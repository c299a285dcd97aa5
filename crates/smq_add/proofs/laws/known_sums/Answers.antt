use Rattle.std.proofs.Common.{◌≡◌, ◌∙◌, ◌++◌, ℕ, List, ap, map, refl, true}
use Rattle.std.specs.Fmt.{digits}
use Rattle.smq_add.specs.declared.row.Key.{Key}
use Rattle.smq_add.specs.declared.row.Row.{Row}
use Rattle.smq_add.specs.Known.{report_of}
use Rattle.smq_add.specs.Rows.{counts_text}
use Rattle.smq_add.specs.Sums.{as_added, sum_of, total_at}
use Rattle.smq_add.proofs.KeyLemmas.{keys_total}
use Rattle.smq_add.proofs.SumLemmas.{entries-puts, puts}
use Rattle.smq_add.proofs.laws.known_sums.Goals as goal

-- the text of a sum, as it is put together
text-puts : (rows : List Row) → counts_text (sum_of rows) ≡ counts_text (puts keys_total (map (λ (row : Row). (row.key, total_at row.key rows)) rows))
text-puts rows = ap (λ (l : List (Key × ℕ)). counts_text l) (entries-puts keys_total (map (λ (row : Row). (row.key, total_at row.key rows)) rows))

pub returns : goal.returns
unfolding digits
returns c = record {
  links = text-puts (report_of 2 11 ++ report_of 1 10) ∙ refl;
  periods = text-puts (map (as_added true) (report_of 1 10 ++ report_of 1 11)) ∙ refl;
}
