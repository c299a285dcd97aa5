-- The rows of a report as CSV: what a line says, and in which order lines stand.
use Rattle.std.specs.Prelude.{◌≡◌, ◌<◌, ℕ, Bool, true, false, List, [], ◌∷◌, ◌++◌, Some, None, codes, All}
use Rattle.std.specs.Fmt.{decimal}
use Rattle.std.specs.List.{flat_map}
use Rattle.std.specs.declared.cmp.Ordering.{Ordering}
use Rattle.std.specs.declared.cmp.Ordering.TheVariants.{Less}
use Rattle.smq_tally.specs.declared.list.List as lists
use Rattle.smq_tally.specs.declared.value.Value.{Value}
use Rattle.smq_tally.specs.declared.value.Value.TheVariants as w
use Rattle.smq_tally.specs.declared.view.View.{View}
use Rattle.smq_tally.specs.declared.view.View.TheVariants as v
use Rattle.smq_tally.specs.Names.{list_name}
use Rattle.smq_report.specs.Csv.{csv_place, csv_row}
use Rattle.smq_add.specs.declared.row.Key.{Key}
use Rattle.smq_add.specs.declared.row.Key.TheVariants.{Counted, Listed}
use Rattle.smq_add.specs.declared.row.Row.{Row}
use Rattle.smq_add.specs.contracts.row.KeyOrd.TheImpl as key_ord

-- the length of a list: `count,NAME,COUNT` and a line feed
abbrev pub length_line : lists.List → ℕ → List ℕ
length_line list count = codes "count," ++ list_name list ++ codes "," ++ decimal count ++ 10 ∷ []

-- the line of a key with a count: a row of a view and a place of a list as reports write them, or the length of a list
abbrev pub line_of : Key → ℕ → List ℕ
line_of (Counted at) count = csv_row at.view (at.value, at.outcome, count)
line_of (Listed list (Some place)) count = csv_place list place
line_of (Listed list None) count = length_line list count

-- the line of a row
abbrev pub row_line : Row → List ℕ
row_line row = line_of row.key row.count

-- the lines of rows, one after the other
abbrev pub rows_text : List Row → List ℕ
rows_text rows = flat_map row_line rows

-- the lines of keys with their counts, one after the other
abbrev pub counts_text : List (Key × ℕ) → List ℕ
counts_text counts = flat_map (λ entry. line_of entry.0 entry.1) counts

-- the order of keys: views before lists, then as reports print them; the length of a list before its places
abbrev pub key_cmp : Key → Key → Ordering
key_cmp = (key_ord.ghosts).cmp

-- the keys of rows rise: each is below the next
abbrev pub Rise : List Row → Type 0
Rise [] = Unit {0}
Rise (row ∷ []) = Unit {0}
Rise (row ∷ next ∷ rows) = (key_cmp row.key next.key ≡ Less) × Rise (next ∷ rows)

-- a view counts by such values
abbrev pub is_of_view : View → Value → Bool
is_of_view v.Link (w.Link link) = true
is_of_view v.Route (w.Route route) = true
is_of_view v.Route w.NoRoute = true
is_of_view v.Network (w.Network network) = true
is_of_view v.Network w.NoNetwork = true
is_of_view v.Error (w.Error error) = true
is_of_view v.LinkDelay (w.Band band) = true
is_of_view v.CentreDelay (w.Band band) = true
is_of_view view value = false

-- a key may stand in a report with a count: a value in a view that counts by such values, a place once, and the length of a list where
-- lengths may stand
abbrev pub MayStand : Bool → Key → ℕ → Type 0
MayStand with_lengths (Counted at) count = (is_of_view at.view at.value ≡ true) × (0 < count)
MayStand with_lengths (Listed list (Some place)) count = count ≡ 1
MayStand with_lengths (Listed list None) count = (with_lengths ≡ true) × (0 < count)

-- Rows of a report: each may stand in one, and their keys rise.
pub record AreRows (with_lengths : Bool) (rows : List Row) : Type 0 where
  pub each : All (λ row. MayStand with_lengths row.key row.count) rows
  pub rise : Rise rows
