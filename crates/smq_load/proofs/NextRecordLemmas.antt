-- A script that is read record by record.
use Rattle.std.proofs.Common.{◌≡◌, ◌<◌, ◌≤◌, ◌+◌, ℕ, List, [], ◌∷◌, ◌++◌, length, Option, Some, None, Result, Ok, Err, ◌⊎◌, inl, inr, refl, sym, ap, ◌∙◌, arith, append_assoc}
use Rattle.std.proofs.lemmas.List.{length-map, map-append}
use Rattle.std.specs.Prelude.{IfErr, IsErrAnd}
use Rattle.csv.specs.Reading.{reader_state, strip_bom}
use Rattle.csv.specs.declared.parser.State.TheVariants as st
use Rattle.csv.specs.declared.reader.Reader.{Reader}
use Rattle.smq_load.specs.declared.record.Row.{Row}
use Rattle.smq_load.specs.declared.load_fault.LoadFault.{LoadFault}
use Rattle.smq_load.specs.declared.load_fault.LoadFault.TheVariants.{BadRow, BadSettings, Read, Memory}
use Rattle.smq_load.specs.Row.{row_of}
use Rattle.smq_load.specs.Script.{AreRecordsOf, IsFirstBad, SayRows, Tells, most_records}
use Rattle.smq_load.specs.NextRecord.{AddsRow, HasGiven, HasRead, TellsNext}
use Rattle.smq_load.proofs.ScriptLemmas.{AreRecords-append, AreRecords-exist, Reached-settles}

pub length-SayRows : (records : List (List (List ℕ))) (rows : List Row) → SayRows records rows → length rows ≡ length records
length-SayRows records rows h = sym (simp length-map at (ap length h))

-- the row of one more record
pub SayRows-append : (records : List (List (List ℕ))) (old new : List Row) (fields : List (List ℕ)) → SayRows records old
    → AddsRow old new fields → SayRows (records ++ fields ∷ []) new
SayRows-append records old new fields h adds =
    let same : row_of fields ≡ Some adds.0 = adds.1 in
    let some : Row → Option Row = λ row. Some row in
    rw (adds.2, map-append row_of records (fields ∷ []), map-append some old (adds.0 ∷ []), h, same) refl

-- the records of the rest of the text
pub rest_of_given : {R : Type 0} (remaining : R → Option (List ℕ)) (reader : Reader R) (text : List ℕ) (records : List (List (List ℕ)))
    → HasGiven remaining reader text records → (after : List (List (List ℕ))) × AreRecordsOf text (records ++ after)
rest_of_given remaining reader text records h =
    let settled = Reached-settles st.StartRecord (strip_bom text) records (reader_state reader) h.rest refl h.reached in
    let (after, more) = AreRecords-exist (length h.rest) (reader_state reader) h.rest (omega arith) settled in
    (after, AreRecords-append st.StartRecord (strip_bom text) records after (reader_state reader) h.rest h.reached more)

-- a record after the ones that were read, with those after it
pub AreRecords-around : {R : Type 0} (remaining : R → Option (List ℕ)) (reader : Reader R) (text : List ℕ)
    (before : List (List (List ℕ))) (fields : List (List ℕ))
    → HasGiven remaining reader text (before ++ fields ∷ []) → (after : List (List (List ℕ))) × AreRecordsOf text (before ++ fields ∷ after)
AreRecords-around remaining reader text before fields h =
    let (after, all) = rest_of_given remaining reader text (before ++ fields ∷ []) h in
    (after, rw append_assoc at all)

-- a row more
pub HasRead-more : {R : Type 0} (remaining : R → Option (List ℕ)) (reader after : Reader R) (text : List ℕ) (old new : List Row)
    (fields : List (List ℕ))
    → (h : HasRead remaining reader text old) → HasGiven remaining after text (h.records ++ fields ∷ []) → AddsRow old new fields
    → HasRead remaining after text new
HasRead-more remaining reader after text old new fields h given adds = record {
  records = h.records ++ fields ∷ [];
  given = given;
  say_rows = SayRows-append h.records old new fields h.say_rows adds;
}

-- the next record is bad
pub first_bad-next : {R : Type 0} (remaining : R → Option (List ℕ)) (reader after : Reader R) (text : List ℕ) (rows : List Row)
    (fields : List (List ℕ))
    → (h : HasRead remaining reader text rows) → HasGiven remaining after text (h.records ++ fields ∷ []) → length rows ≤ most_records
    → (row_of fields ≡ None) ⊎ (length rows ≡ most_records) → IsFirstBad text (length rows + 1)
first_bad-next remaining reader after text rows fields h given low bad =
    let count = length-SayRows h.records rows h.say_rows in
    let (others, all) = AreRecords-around remaining after text h.records fields given in
    record {
      before = h.records;
      bad = fields;
      after = others;
      are_records = all;
      numbered = omega (arith, count);
      rows = rows;
      say_rows = h.say_rows;
      in_range = omega (arith, count);
      is_bad = elim bad [ inl none ↦ inl none | inr full ↦ inr (sym count ∙ full) ];
    }

-- what a fault at the next record tells of the text
pub Tells-next : {R : Type 0} (remaining : R → Option (List ℕ)) (reader after : Reader R) (text : List ℕ) (rows : List Row)
    (fields : List (List ℕ)) (fault : LoadFault)
    → (h : HasRead remaining reader text rows) → HasGiven remaining after text (h.records ++ fields ∷ []) → length rows < most_records
    → TellsNext fault rows fields → Tells fault text
Tells-next remaining reader after text rows fields (BadRow row) h given low told =
    rw told.1 (first_bad-next remaining reader after text rows fields h given (omega arith) (inl told.0))
Tells-next remaining reader after text rows fields BadSettings h given low told = absurd told
Tells-next remaining reader after text rows fields Read h given low told = tt
Tells-next remaining reader after text rows fields Memory h given low told = tt

-- what an error that is passed on tells
pub passed_on : {A : Type 0} (P : LoadFault → Type 0) (r : Result A LoadFault) (fault : LoadFault) → IsErrAnd r (λ e. e ≡ fault) → P fault → IfErr r P
passed_on P (Ok a) fault h p = tt
passed_on P (Err e) fault h p = rw h p
