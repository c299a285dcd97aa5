-- How many messages have the same in columns, and the text of that.
use Rattle.std.specs.Prelude.{ℕ, Bool, List, [], ◌∷◌, ◌++◌, codes, count_by, filter, map}
use Rattle.std.specs.Fmt.{decimal}
use Rattle.std.specs.FinMap as fin
use Rattle.std.specs.List.{flat_map, list_all}
use Rattle.std.specs.Ordering.{eq_by_cmp}
use Rattle.std.specs.Str.{bytes_eq}
use Rattle.smq_present.specs.join.Lines.{MessageLineValue}
use Rattle.smq_report.specs.Lines.{csv_record}
use Rattle.smq_count.specs.declared.column.Column.{Column}
use Rattle.smq_count.specs.declared.counted.Counted.{Counted}
use Rattle.smq_count.specs.declared.counting.Condition.{Condition}
use Rattle.smq_count.specs.declared.counting.Counting.{Counting}
use Rattle.smq_count.specs.declared.local.Zone.{Zone}
use Rattle.smq_count.specs.Cells.{Tuple, cell_by, cell_text, tuple_by, tuple_cmp}
use Rattle.smq_count.specs.Columns.{column_name}

-- ---- what is asked for

-- a condition as it is written
abbrev pub condition_text : Condition → List ℕ
condition_text condition = column_name condition.column ++ 61 ∷ condition.value.items

-- names, each with a comma behind it
abbrev pub with_commas : List Column → List ℕ
with_commas columns = flat_map (λ column. column_name column ++ 44 ∷ []) columns

-- whether a message has a condition's text in its column
abbrev pub has_text : Zone → MessageLineValue → Condition → Bool
has_text zone line condition = bytes_eq (cell_text (cell_by zone condition.column line)) condition.value.items

-- whether a message is counted: where it meets all conditions
abbrev pub is_counted : Counting → MessageLineValue → Bool
is_counted counting line = list_all (has_text counting.zone line) counting.conditions.items

-- ---- counts

-- how many of these tuples are one
abbrev pub number_among : List Tuple → Tuple → ℕ
number_among tuples tuple = count_by (eq_by_cmp tuple_cmp tuple) tuples

-- each of these tuples with the number of times that it is among them
abbrev pub counts_among : List Tuple → fin.FinMap tuple_cmp ℕ
counts_among tuples = fin.from_entries (map (λ tuple. (tuple, number_among tuples tuple)) tuples)

-- the tuples of the messages that are counted
abbrev pub counted_tuples : Counting → List MessageLineValue → List Tuple
counted_tuples counting lines = map (tuple_by counting.zone counting.columns.items) (filter (is_counted counting) lines)

-- each tuple that a counted message has, with the number of these, in order
abbrev pub counts_of : Counting → List MessageLineValue → List (Tuple × ℕ)
counts_of counting lines = fin.entries (counts_among (counted_tuples counting lines))

-- ---- the text

-- the columns of the text
abbrev pub count_columns : Counting → List (List ℕ)
count_columns counting = map column_name counting.columns.items ++ codes "messages" ∷ []

-- the fields of a count
abbrev pub count_fields : Tuple × ℕ → List (List ℕ)
count_fields count = map cell_text count.0 ++ decimal count.1 ∷ []

-- the same of one whose cells are written already
abbrev pub counted_fields : Counted → List (List ℕ)
counted_fields counted = map (λ text. text.items) counted.texts.items ++ decimal counted.messages ∷ []

-- the text of counts: their columns, and then a record for each
abbrev pub counts_text : Counting → List MessageLineValue → List ℕ
counts_text counting lines =
    csv_record (count_columns counting) ++ flat_map (λ count. csv_record (count_fields count)) (counts_of counting lines)
