-- What was written of the records of a text, however their play ended.
use Rattle.std.specs.Prelude.{◌≡◌, ◌⊎◌, ◌+◌, ℕ, List, [], ◌∷◌, ◌++◌, length, map, take, Option, Some, None}
use Rattle.std.specs.Io.KnownBytes.{Appends, Keeps}
use Rattle.smq_load.specs.declared.record.Row as rows
use Rattle.smq_load.specs.Script.{AreRecordsOf}
use Rattle.smq_load.specs.Settings.{settings_of}
use Rattle.smq_report.specs.declared.pick.Format.{Format}
use Rattle.smq_engine.specs.declared.run_fault.RunFault.{RunFault}
use Rattle.smq_engine.specs.declared.run_fault.RunFault.TheVariants.{BadRow, BadSettings, Read, Write, Memory, NoThread, Desk}
use Rattle.smq_engine.specs.declared.record.Record.{Record}
use Rattle.smq_engine.specs.Record.{record_of, said_by}
use Rattle.smq_engine.specs.Answers.{answer_to, answers, refusal_to, refusals, refused_after}

-- each of these lists of fields says the record of the same place
abbrev pub SayRecords : List (List (List ℕ)) → List Record → Type 0
SayRecords fields records = map record_of fields ≡ map (λ r. Some (said_by r)) records

-- these are all the records of a text
pub record AreAllOf (text : List ℕ) (records : List Record) : Type 0 where
  pub fields : List (List (List ℕ))
  pub are_records : AreRecordsOf text fields
  pub say_records : SayRecords fields records

-- these are the first records of a text, which may have more
pub record AreFirstOf (text : List ℕ) (records : List Record) : Type 0 where
  pub fields : List (List (List ℕ))
  pub after : List (List (List ℕ))
  pub are_records : AreRecordsOf text (fields ++ after)
  pub say_records : SayRecords fields records

-- these are the records of a text before its first that says neither a row nor a question
pub record AreBeforeBadOf (text : List ℕ) (records : List Record) : Type 0 where
  pub fields : List (List (List ℕ))
  pub bad : List (List ℕ)
  pub after : List (List (List ℕ))
  pub are_records : AreRecordsOf text (fields ++ bad ∷ after)
  pub say_records : SayRecords fields records
  pub is_bad : record_of bad ≡ None

-- what stood in the two writers before and after: that of answers, and that of refusals
pub record Written : Type 0 where
  pub answers_old : Option (List ℕ)
  pub answers_new : Option (List ℕ)
  pub refusals_old : Option (List ℕ)
  pub refusals_new : Option (List ℕ)

-- what stood in the writer of answers before and after, and in that of refusals
abbrev pub held : Option (List ℕ) → Option (List ℕ) → Option (List ℕ) → Option (List ℕ) → Written
held answers_old answers_new refusals_old refusals_new = record {
  answers_old = answers_old;
  answers_new = answers_new;
  refusals_old = refusals_old;
  refusals_new = refusals_new;
}

-- nothing was written
abbrev pub NothingIsWritten : Written → Type 0
NothingIsWritten w = Keeps w.answers_old w.answers_new × Keeps w.refusals_old w.refusals_new

-- what was written is these answers, and these lines of refusals
abbrev pub AreWritten : Written → List ℕ → List ℕ → Type 0
AreWritten w answered told =
    Appends w.answers_old w.answers_new answered × Appends w.refusals_old w.refusals_new told

-- what was written is the answers to all questions among records, whole and in order, and the lines of all their refused rows
abbrev pub IsSaidOf : Format → List rows.Row → List Record → Written → Type 0
IsSaidOf format settings_rows records w = AreWritten w (answers format settings_rows records) (refusals settings_rows records)

-- what was written is that, and a beginning of what is to be said of the next record
pub record IsCutAt (format : Format) (settings_rows : List rows.Row) (records : List Record) (next : Record) (w : Written) : Type 0 where
  pub answered : ℕ
  pub told : ℕ
  pub written : AreWritten w
      (answers format settings_rows records ++ take answered (answer_to format settings_rows records next))
      (refusals settings_rows records ++ take told (refusal_to settings_rows records next))

-- The settings and all records of the text were played, so many rows were refused, and all is said of them.
pub record IsFollowed (format : Format) (settings : List ℕ) (refused : ℕ) (w : Written) (text : List ℕ) : Type 0 where
  pub settings_rows : List rows.Row
  pub records : List Record
  pub are_settings : settings_of settings ≡ Some settings_rows
  pub are_records : AreAllOf text records
  pub refused_are : refused ≡ refused_after settings_rows records
  pub written : IsSaidOf format settings_rows records w

-- The settings and the records of the text before its first bad one, which has this number, were played, and all is said of them.
pub record EndsAtBadRow (format : Format) (settings : List ℕ) (row : ℕ) (w : Written) (text : List ℕ) : Type 0 where
  pub settings_rows : List rows.Row
  pub records : List Record
  pub are_settings : settings_of settings ≡ Some settings_rows
  pub before_bad : AreBeforeBadOf text records
  pub numbered : row ≡ length records + 1
  pub written : IsSaidOf format settings_rows records w

-- The settings and the first records of the text were played, and all is said of them.
pub record EndsAfter (format : Format) (settings : List ℕ) (w : Written) (text : List ℕ) : Type 0 where
  pub settings_rows : List rows.Row
  pub records : List Record
  pub are_settings : settings_of settings ≡ Some settings_rows
  pub first : AreFirstOf text records
  pub written : IsSaidOf format settings_rows records w

-- The settings and the first records of the text were played; all is said of those before the last of them, and of that one a beginning.
pub record EndsWithin (format : Format) (settings : List ℕ) (w : Written) (text : List ℕ) : Type 0 where
  pub settings_rows : List rows.Row
  pub records : List Record
  pub next : Record
  pub are_settings : settings_of settings ≡ Some settings_rows
  pub first : AreFirstOf text (records ++ next ∷ [])
  pub written : IsCutAt format settings_rows records next w

-- what was written where a fault ended it
abbrev pub EndsBy : RunFault → Format → List ℕ → Written → List ℕ → Type 0
EndsBy (BadRow row) format settings w text = EndsAtBadRow format settings row w text
EndsBy BadSettings format settings w text = (settings_of settings ≡ None) × NothingIsWritten w
EndsBy Read format settings w text = EndsAfter format settings w text
EndsBy Write format settings w text = EndsWithin format settings w text
EndsBy Memory format settings w text = NothingIsWritten w ⊎ EndsAfter format settings w text
EndsBy NoThread format settings w text = ⊥
EndsBy Desk format settings w text = ⊥
