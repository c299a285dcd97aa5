use Rattle.std.proofs.Common.{◌≡◌, ◌+◌, ℕ, List, [], ◌∷◌, cond, drop, map, count_by, refl, ap, sym, ◌∙◌}
use Rattle.std.specs.Ordering.{eq_by_cmp}
use Rattle.std.proofs.lemmas.List.Sums.{sum_by-cons}
use Rattle.smq_present.specs.join.Lines.{MessageLineValue}
use Rattle.smq_count.specs.declared.column.Column.{Column}
use Rattle.smq_count.specs.declared.local.Zone.{Zone}
use Rattle.smq_count.specs.Cells.{Tuple, tuple_by, tuple_cmp}
use Rattle.smq_count.specs.Counts.{number_among}
use Rattle.smq_count.proofs.Sums.{counts-add_up}
use Rattle.smq_count.proofs.Tallied.{tuples_exact, tuples_total}
use Rattle.smq_count.proofs.laws.counts_add_up.Goals as goal

rest : (zone : Zone) (column : Column) (columns : List Column) (lines : List MessageLineValue) (tuple : Tuple)
    → count_by (λ t. eq_by_cmp tuple_cmp tuple (drop 1 t)) (map (tuple_by zone (column ∷ columns)) lines) ≡ number_among (map (tuple_by zone columns) lines) tuple
rest zone column columns [] tuple = refl
rest zone column columns (line ∷ lines) tuple =
    sum_by-cons (λ t. cond (eq_by_cmp tuple_cmp tuple (drop 1 t)) 1 0) (tuple_by zone (column ∷ columns) line) (map (tuple_by zone (column ∷ columns)) lines)
    ∙ ap (λ (n : ℕ). cond (eq_by_cmp tuple_cmp tuple (tuple_by zone columns line)) 1 0 + n) (rest zone column columns lines tuple)
    ∙ sym (sum_by-cons (λ t. cond (eq_by_cmp tuple_cmp tuple t) 1 0) (tuple_by zone columns line) (map (tuple_by zone columns) lines))

pub returns : goal.returns
returns c = λ zone column columns lines tuple.
    counts-add_up tuples_total tuples_exact (λ t. eq_by_cmp tuple_cmp tuple (drop 1 t)) (map (tuple_by zone (column ∷ columns)) lines)
    ∙ rest zone column columns lines tuple
