-- The records that a reader has given.
use Rattle.std.proofs.Common.{◌≡◌, ◌+◌, ℕ, List, [], ◌∷◌, ◌++◌, Option, Some, None, refl}
use Rattle.std.proofs.lemmas.List.{map-append}
use Rattle.csv.specs.declared.reader.Reader.{Reader}
use Rattle.smq_load.specs.NextRecord.{HasGiven}
use Rattle.smq_load.proofs.NextRecordLemmas.{AreRecords-around, rest_of_given}
use Rattle.smq_engine.specs.declared.record.Record.{Record}
use Rattle.smq_engine.specs.Record.{Said, record_of, said_by}
use Rattle.smq_engine.specs.Followed.{AreBeforeBadOf, AreFirstOf, SayRecords}
use Rattle.smq_engine.specs.within.Steps.{HasGivenRecords}

SayRecords-more : (fields : List (List (List ℕ))) (records : List Record) (more : List (List ℕ)) (r : Record) → SayRecords fields records
    → record_of more ≡ Some (said_by r) → SayRecords (fields ++ more ∷ []) (records ++ r ∷ [])
SayRecords-more fields records more r h says =
    let some : Record → Option Said = λ r. Some (said_by r) in
    rw (map-append record_of fields (more ∷ []), map-append some records (r ∷ []), h, says) refl

-- one record more
pub given-more : {R : Type 0} (remaining : R → Option (List ℕ)) (reader after : Reader R) (text : List ℕ) (records : List Record)
    (more : List (List ℕ)) (r : Record) → (h : HasGivenRecords remaining reader text records)
    → HasGiven remaining after text (h.fields ++ more ∷ []) → record_of more ≡ Some (said_by r)
    → HasGivenRecords remaining after text (records ++ r ∷ [])
given-more remaining reader after text records more r h given says = record {
  fields = h.fields ++ more ∷ [];
  given = given;
  say_records = SayRecords-more h.fields records more r h.say_records says;
}

-- the records so far are the first
pub given-first : {R : Type 0} (remaining : R → Option (List ℕ)) (reader : Reader R) (text : List ℕ) (records : List Record)
    → HasGivenRecords remaining reader text records → AreFirstOf text records
given-first remaining reader text records h =
    let (after, all) = rest_of_given remaining reader text h.fields h.given in
    record { fields = h.fields; after = after; are_records = all; say_records = h.say_records }

-- the next record is bad
pub given-bad : {R : Type 0} (remaining : R → Option (List ℕ)) (reader after : Reader R) (text : List ℕ) (records : List Record)
    (bad : List (List ℕ)) → (h : HasGivenRecords remaining reader text records)
    → HasGiven remaining after text (h.fields ++ bad ∷ []) → record_of bad ≡ None → AreBeforeBadOf text records
given-bad remaining reader after text records bad h given none =
    let (others, all) = AreRecords-around remaining after text h.fields bad given in
    record { fields = h.fields; bad = bad; after = others; are_records = all; say_records = h.say_records; is_bad = none }
