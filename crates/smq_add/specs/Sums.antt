-- The sum of rows: each key once, with the sum of its counts.
use Rattle.std.specs.Prelude.{ℕ, Bool, true, false, List, None, cond, map}
use Rattle.std.specs.List.{sum_by}
use Rattle.std.specs.FinMap as fin
use Rattle.std.specs.Ordering.{eq_by_cmp}
use Rattle.smq_add.specs.declared.row.Key.{Key}
use Rattle.smq_add.specs.declared.row.Key.TheVariants.{Counted, Listed}
use Rattle.smq_add.specs.declared.row.Row.{Row}
use Rattle.smq_add.specs.Rows.{key_cmp}

-- the sum of the counts that a key has among rows
abbrev pub total_at : Key → List Row → ℕ
total_at key rows = sum_by (λ row. cond (eq_by_cmp key_cmp key row.key) row.count 0) rows

-- each key of rows with this sum
abbrev pub totals : List Row → fin.FinMap key_cmp ℕ
totals rows = fin.from_entries (map (λ row. (row.key, total_at row.key rows)) rows)

-- the sum of rows, in the order of keys
abbrev pub sum_of : List Row → List (Key × ℕ)
sum_of rows = fin.entries (totals rows)

-- a key as it is added: of periods that of a list stands in the place of those of its places
abbrev pub key_added : Bool → Key → Key
key_added of_periods (Counted at) = Counted at
key_added true (Listed list place) = Listed list None
key_added false (Listed list place) = Listed list place

-- a row as it is added
abbrev pub as_added : Bool → Row → Row
as_added of_periods row = record { key = key_added of_periods row.key; count = row.count }
