-- Notes among the listed places of tables.
use Rattle.std.specs.Prelude.{◌≡◌, Bool, true, not, ◌++◌, filter, refl}
use Rattle.std.specs.FinMap as fin
use Rattle.std.specs.FinSet as set
use Rattle.std.specs.Coded.{Coded, code_by, coded×}
use Rattle.smq_tally.specs.contracts.list.Listed as listed_block
use Rattle.smq_tally.specs.declared.list.Listed.{Listed}
use Rattle.smq_tally.specs.Lists.{listed_cmp, listed_set}
use Rattle.smq_tally.specs.Tables.{TablesValue, TablesKept, tables_kept_code}
use Rattle.smq_tally.specs.within.ListOrder.{takes_facts}

-- tables and notes, now and when they were last settled
pub record NotedValue : Type 0 where
  pub notes : set.FinSet listed_cmp
  pub settled_notes : set.FinSet listed_cmp
  pub shown : TablesValue
  pub settled : TablesValue

-- they are stored as the notes and the tables
abbrev pub noted_code : Coded NotedValue
noted_code =
    code_by ((set.FinSet listed_cmp × set.FinSet listed_cmp) × TablesKept)
    (coded× (coded× (set.code (listed_block.the_row).coded) (set.code (listed_block.the_row).coded)) tables_kept_code)
    (λ t. ((t.notes, t.settled_notes), record { shown = t.shown; settled = t.settled }))
    (λ m. record { notes = m.0.0; settled_notes = m.0.1; shown = m.1.shown; settled = m.1.settled }) (λ _. refl)

-- whether no message stands in the list of a listed place for its outcome
abbrev pub is_untaken : Listed → Bool
is_untaken e = not (takes_facts e.list)

-- the notes: those that are kept apart, and each listed place of a list in which no message stands for its outcome
abbrev pub notes_among : set.FinSet listed_cmp → set.FinSet listed_cmp → set.FinSet listed_cmp
notes_among apart places = listed_set (fin.keys apart ++ filter is_untaken (fin.keys places))

-- Kept apart are only notes of the lists in which messages stand for their outcomes.
pub record AreApart (apart : set.FinSet listed_cmp) : Type 0 where
  pub taken : (q : Listed) → fin.contains_key apart q ≡ true → takes_facts q.list ≡ true
