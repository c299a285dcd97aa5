-- Tables: how many messages are counted at each key, and which places are in each list.
use Rattle.std.specs.Prelude.{◌≡◌, ℕ, ◌==◌, Bool, List, [], ◌∷◌, ◌++◌, None, map, filter, unwrap_or, refl}
use Rattle.std.specs.List.{flat_map}
use Rattle.std.specs.declared.cmp.Ordering.{Ordering}
use Rattle.std.specs.Ordering.{nat_cmp, ordering_then}
use Rattle.std.specs.FinMap as fin
use Rattle.std.specs.FinSet as set
use Rattle.std.specs.Coded.{Coded, code_by, coded×, coded_ℕ}
use Rattle.smq_kit.specs.Maps.{number_of}
use Rattle.smq_kit.specs.declared.place.Place.{Place}
use Rattle.smq_kit.specs.Orders.{place_cmp}
use Rattle.smq_tally.specs.contracts.fact.CountKey as block
use Rattle.smq_tally.specs.contracts.list.Listed as listed_block
use Rattle.smq_tally.specs.declared.list.List as l
use Rattle.smq_tally.specs.declared.view.View.{View}
use Rattle.smq_tally.specs.declared.value.Value.{Value}
use Rattle.smq_tally.specs.declared.outcome.Outcome.{Outcome}
use Rattle.smq_tally.specs.declared.fact.Fact.{Fact}
use Rattle.smq_tally.specs.declared.fact.CountKey.{CountKey}
use Rattle.smq_tally.specs.Lists.{listed_cmp, listed_set, listings_of_fact, in_list}
use Rattle.smq_tally.specs.Rows.{view_rank, outcome_rank, value_cmp, count_key, count_cmp, keys_of_fact, stands_in}

-- tables: the counts at keys, and the places in lists
pub record TablesValue : Type 0 where
  pub counts : fin.FinMap count_cmp ℕ
  pub places : set.FinSet listed_cmp

-- tables are stored as these two
abbrev pub tables_code : Coded TablesValue
tables_code =
    code_by (fin.FinMap count_cmp ℕ × set.FinSet listed_cmp)
    (coded× (fin.code (block.the_row).coded coded_ℕ) (set.code (listed_block.the_row).coded))
    (λ t. (t.counts, t.places)) (λ m. record { counts = m.0; places = m.1 }) (λ _. refl)

-- what tables show, and what they showed when they were last settled
pub record TablesKept : Type 0 where
  pub shown : TablesValue
  pub settled : TablesValue

-- they are stored as these two
abbrev pub tables_kept_code : Coded TablesKept
tables_kept_code =
    code_by (TablesValue × TablesValue) (coded× tables_code tables_code) (λ t. (t.shown, t.settled)) (λ m. record { shown = m.0; settled = m.1 })
    (λ _. refl)

-- how many of the facts at places stand at a key
abbrev pub number_at : CountKey → fin.FinMap place_cmp Fact → ℕ
number_at key facts = number_of (stands_in key) facts

-- the tables of facts and notes: at each key where a fact stands, the number of facts that stand there; listed are the
-- notes, and the messages that stand in a list for their outcome
abbrev pub tables_of : fin.FinMap place_cmp Fact → set.FinSet listed_cmp → TablesValue
tables_of facts notes = record {
  counts = fin.from_entries (map (λ key. (key, number_at key facts)) (flat_map keys_of_fact (fin.values facts)));
  places = listed_set (fin.keys notes ++ flat_map listings_of_fact (fin.values facts));
}

-- facts in a list, each at its place
abbrev pub facts_at : List Fact → fin.FinMap place_cmp Fact
facts_at facts = fin.from_entries (map (λ fact. (fact.place, fact)) facts)

-- No two facts of a list are of one place.
abbrev pub AreOfDifferentPlaces : List Fact → Type 0
AreOfDifferentPlaces [] = Unit {0}
AreOfDifferentPlaces (fact ∷ facts) = (fin.get (facts_at facts) fact.place ≡ None) × AreOfDifferentPlaces facts

-- the count at a view, a value and an outcome, which is 0 where none stands
abbrev pub count_at : TablesValue → View → Value → Outcome → ℕ
count_at t view value outcome = unwrap_or (fin.get t.counts (count_key view value outcome)) 0

-- ---- the rows of a view

-- whether a count is of a view
abbrev pub in_view : View → CountKey × ℕ → Bool
in_view view e = view_rank e.0.view == view_rank view

-- a row as it is shown: its value, its outcome and its count
abbrev pub ShownRow : Type 0
ShownRow = Value × Outcome × ℕ

-- a count as it is shown
abbrev pub shown_row : CountKey × ℕ → ShownRow
shown_row e = (e.0.value, e.0.outcome, e.1)

-- the order of the rows of a view: by value, then by outcome
abbrev pub shown_cmp : ShownRow → ShownRow → Ordering
shown_cmp a b = ordering_then (value_cmp a.0 b.0) (nat_cmp (outcome_rank a.1) (outcome_rank b.1))

-- the rows of a view, in order
abbrev pub rows_of : TablesValue → View → List ShownRow
rows_of t view = map shown_row (filter (in_view view) (fin.entries t.counts))

-- ---- the places of a list

-- the places in a list, in order
abbrev pub listed_in : TablesValue → l.List → List Place
listed_in t list = map (λ e. e.place) (filter (in_list list) (fin.keys t.places))
