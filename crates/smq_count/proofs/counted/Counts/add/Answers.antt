use Rattle.std.proofs.Common.{◌≡◌, ◌+◌, List, sym, ◌∙◌, arith}
use Rattle.std.specs.Prelude.{ℕ, unwrap_or}
use Rattle.std.specs.FinMap.{find, put}
use Rattle.smq_present.specs.join.Lines.{MessageLineValue}
use Rattle.smq_count.specs.Cells.{Tuple, tuple_by, tuple_cmp}
use Rattle.smq_count.specs.Counts.{counted_tuples, counts_of, is_counted, number_among}
use Rattle.smq_count.specs.declared.counting.Counting.{Counting}
use Rattle.smq_count.specs.within.Kept.{kept}
use Rattle.smq_count.proofs.Tallied.{keys-most, put-counted, read_number, tuples_exact, tuples_total}
use Rattle.smq_count.proofs.counted.Counts.add.Goals as goal

-- what counts of lines have of a tuple is a number of lines
number-read : (counting : Counting) (lines : List MessageLineValue) (counts : List (Tuple × ℕ)) (tuple : Tuple) → counts ≡ counts_of counting lines
    → unwrap_or (find tuple_cmp tuple counts) 0 ≡ number_among (counted_tuples counting lines) tuple
number-read counting lines counts tuple are =
    (λ i. unwrap_or (find tuple_cmp tuple (are i)) 0) ∙ read_number tuples_total tuples_exact (counted_tuples counting lines) tuple

pub count_one-requires : goal.count_one-requires
count_one-requires c =
    let counting = c.args.counting.now in
    let lines = c.requires.few.0 in
    let tuple = c.in_ok-tuple.tuple.items in
    let number = number-read counting lines (kept c.self.inside.numbers.entries) tuple (c.self.view_is ∙ c.requires.few.1) in
    let most = keys-most tuples_total tuples_exact (is_counted counting) (tuple_by counting.zone counting.columns.items) lines tuple in
    omega (arith, number, most, c.requires.few.2)

pub returns-in_ok-count_one-clause-ok : goal.returns-in_ok-count_one-clause-ok
returns-in_ok-count_one-clause-ok c lines are =
    let counting = c.args.counting.now in
    let tuple = c.in_ok-tuple.tuple.items in
    let counts : kept c.self.inside.numbers.entries ≡ counts_of counting lines = c.self.view_is ∙ are in
    let number = number-read counting lines (kept c.self.inside.numbers.entries) tuple counts in
    c.in_ok-count_one.ensures.ok
    ∙ (λ i. put tuple_cmp tuple (number i + 1) (counts i))
    ∙ put-counted tuples_total tuples_exact (is_counted counting) (tuple_by counting.zone counting.columns.items) lines c.args.line.now tuple
    (sym c.in_ok-is_counted.ensures ∙ c.if-branch.true) c.in_ok-tuple.ensures
