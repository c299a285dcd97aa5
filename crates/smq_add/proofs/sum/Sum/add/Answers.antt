use Rattle.std.proofs.Common.{◌≡◌, ◌+◌, ◌++◌, ◌∷◌, [], ℕ, List, Option, ap, ◌∙◌, arith}
use Rattle.std.specs.Prelude.{unwrap_or}
use Rattle.std.specs.BTreeMap.{insert_entry, is_at}
use Rattle.std.specs.Map.{lookup}
use Rattle.smq_add.specs.declared.row.Key.{Key}
use Rattle.smq_add.specs.declared.row.Row.{Row}
use Rattle.smq_add.specs.Rows.{key_cmp}
use Rattle.smq_add.specs.Sums.{sum_of, total_at}
use Rattle.smq_add.proofs.KeyLemmas.{keys_exact, keys_total}
use Rattle.smq_add.proofs.SumLemmas.{entries-more, lookup-total, total-itself}
use Rattle.smq_add.proofs.sum.Sum.add.Goals as goal

-- what the map has at a key is the sum of its counts
read : (counts : List (Key × ℕ)) (rows : List Row) (key : Key) → counts ≡ sum_of rows
    → unwrap_or (lookup (is_at (key_cmp key)) counts) 0 ≡ total_at key rows
read counts rows key are =
    ap (λ (es : List (Key × ℕ)). unwrap_or (lookup (is_at (key_cmp key)) es) 0) are
    ∙ lookup-total keys_total keys_exact (λ (row : Row). row.key) (λ (row : Row). row.count) rows key

more : (counts : List (Key × ℕ)) (rows : List Row) (row : Row) (count : ℕ) → counts ≡ sum_of rows → count ≡ total_at row.key rows + row.count
    → insert_entry key_cmp counts row.key count ≡ sum_of (rows ++ row ∷ [])
more counts rows row count are is =
    ap (λ (es : List (Key × ℕ)). insert_entry key_cmp es row.key count) are
    ∙ entries-more keys_total keys_exact (λ (row : Row). row.key) (λ (row : Row). row.count) rows row count is

itself : (rows : List Row) (row : Row) → total_at row.key (rows ++ row ∷ []) ≡ total_at row.key rows + row.count
itself rows row = total-itself keys_total keys_exact (λ (row : Row). row.key) (λ (row : Row). row.count) rows row

pub returns-in_default-clause-too_many : goal.returns-in_default-clause-too_many
returns-in_default-clause-too_many c rows are told =
    let before : c.unwrap_or-before.result ≡ total_at c.args.row.key rows =
    c.unwrap_or-before.ensures ∙ ap (λ (o : Option ℕ). unwrap_or o 0) (c.copied.ensures ∙ c.get.ensures.value)
    ∙ read c.self.inside.counts.entries rows c.args.row.key (c.self.view_is ∙ are) in
    let over = c.in_default.ensures in
    omega (arith, before, over, itself rows c.args.row)

pub returns-clause-ok : goal.returns-clause-ok
returns-clause-ok c rows are =
    let before : c.unwrap_or-before.result ≡ total_at c.args.row.key rows =
    c.unwrap_or-before.ensures ∙ ap (λ (o : Option ℕ). unwrap_or o 0) (c.copied.ensures ∙ c.get.ensures.value)
    ∙ read c.self.inside.counts.entries rows c.args.row.key (c.self.view_is ∙ are) in
    c.in-Ok.ensures.entries
    ∙ more c.self.inside.counts.entries rows c.args.row c.in-Some.count (c.self.view_is ∙ are) (c.in-Some.ensures.1 ∙ ap (λ (n : ℕ). n + c.args.row.count) before)
