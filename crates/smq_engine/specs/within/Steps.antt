-- What one record adds, and what was done with the records so far.
use Rattle.std.specs.Prelude.{◌≡◌, ◌+◌, ◌*◌, ◌^◌, ◌<◌, ⊤, ℕ, List, [], ◌∷◌, ◌++◌, length, take, Option, None, Some}
use Rattle.std.specs.Io.KnownBytes.{Keeps}
use Rattle.csv.specs.declared.reader.Reader.{Reader}
use Rattle.smq_kit.specs.declared.refusal.Refusal.{Refusal}
use Rattle.smq_present.specs.present.Present.{PresentValue}
use Rattle.smq_load.specs.declared.record.Row as rows
use Rattle.smq_load.specs.NextRecord.{HasGiven}
use Rattle.smq_report.specs.Beginnings.{AppendsBeginning}
use Rattle.smq_report.specs.declared.pick.Format.{Format}
use Rattle.smq_engine.specs.declared.run_fault.RunFault.{RunFault}
use Rattle.smq_engine.specs.declared.run_fault.RunFault.TheVariants.{BadRow, BadSettings, Read, Write, Memory, NoThread, Desk}
use Rattle.smq_engine.specs.declared.record.Record.{Record}
use Rattle.smq_engine.specs.declared.totals.Totals.{Totals}
use Rattle.smq_engine.specs.Answers.{answer_to, present_after, refusal_to, refused_after, totals_after}
use Rattle.smq_engine.specs.Followed.{AreAllOf, AreBeforeBadOf, AreFirstOf, AreWritten, IsCutAt, IsSaidOf, NothingIsWritten, SayRecords, Written}

-- these records are played: this is present, and they came to these totals
pub record ArePlayed (settings_rows : List rows.Row) (records : List Record) (present : PresentValue) (totals : Totals) : Type 0 where
  pub is_present : present ≡ present_after settings_rows records
  pub are_totals : totals ≡ totals_after settings_rows records

-- before the record of a number totals are this low: so they fit
pub record AreBelow (number : ℕ) (totals : Totals) : Type 0 where
  pub refused : totals.refused < number
  pub gaps : totals.gaps < number
  pub octets : totals.octets < number * 2 ^ 64

-- one where there is a refusal
abbrev pub count_of : Option Refusal → ℕ
count_of None = 0
count_of (Some refusal) = 1

-- what a fault of writing a text tells: where a write failed, a beginning of the text was written, and nothing where memory ran out
abbrev pub EndsSaying : RunFault → Option (List ℕ) → Option (List ℕ) → List ℕ → Type 0
EndsSaying (BadRow row) old new text = ⊥
EndsSaying BadSettings old new text = ⊥
EndsSaying Read old new text = ⊥
EndsSaying Write old new text = AppendsBeginning old new text
EndsSaying Memory old new text = Keeps old new
EndsSaying NoThread old new text = ⊥
EndsSaying Desk old new text = ⊥

-- what a fault tells of the record after these
abbrev pub EndsStep : RunFault → Format → List rows.Row → List Record → Record → Written → Type 0
EndsStep (BadRow row) format settings_rows before r w = ⊥
EndsStep BadSettings format settings_rows before r w = ⊥
EndsStep Read format settings_rows before r w = ⊥
EndsStep Write format settings_rows before r w = (answered told : ℕ)
    × AreWritten w (take answered (answer_to format settings_rows before r)) (take told (refusal_to settings_rows before r))
EndsStep Memory format settings_rows before r w = NothingIsWritten w
EndsStep NoThread format settings_rows before r w = ⊥
EndsStep Desk format settings_rows before r w = ⊥

-- a reader of this text has given these records
pub record HasGivenRecords {R : Type 0} (remaining : R → Option (List ℕ)) (reader : Reader R) (text : List ℕ) (records : List Record)
    : Type 0 where
  pub fields : List (List (List ℕ))
  pub given : HasGiven remaining reader text fields
  pub say_records : SayRecords fields records

-- what a fault of reading tells of the record after these
abbrev pub EndsReading : RunFault → List Record → List ℕ → Type 0
EndsReading (BadRow row) records text = AreBeforeBadOf text records × (row ≡ length records + 1)
EndsReading BadSettings records text = ⊥
EndsReading Read records text = ⊤
EndsReading Write records text = ⊥
EndsReading Memory records text = ⊤
EndsReading NoThread records text = ⊥
EndsReading Desk records text = ⊥

-- what a fault tells, where these are the rows of settings
abbrev pub EndsPlay : RunFault → Format → List rows.Row → Written → List ℕ → Type 0
EndsPlay (BadRow row) format settings_rows w text = (records : List Record) × AreBeforeBadOf text records × (row ≡ length records + 1)
    × IsSaidOf format settings_rows records w
EndsPlay BadSettings format settings_rows w text = ⊥
EndsPlay Read format settings_rows w text = (records : List Record) × AreFirstOf text records × IsSaidOf format settings_rows records w
EndsPlay Write format settings_rows w text = (records : List Record) × (next : Record) × AreFirstOf text (records ++ next ∷ [])
    × IsCutAt format settings_rows records next w
EndsPlay Memory format settings_rows w text = (records : List Record) × AreFirstOf text records × IsSaidOf format settings_rows records w
EndsPlay NoThread format settings_rows w text = ⊥
EndsPlay Desk format settings_rows w text = ⊥

-- the rest of the play ends with all records of the text
pub record IsPlayed (format : Format) (settings_rows : List rows.Row) (refused : ℕ) (w : Written) (text : List ℕ) : Type 0 where
  pub records : List Record
  pub are_records : AreAllOf text records
  pub refused_are : refused ≡ refused_after settings_rows records
  pub written : IsSaidOf format settings_rows records w

-- so far these records were given and played, and all is said of them
pub record HasPlayed {R : Type 0} (remaining : R → Option (List ℕ)) (reader : Reader R) (text : List ℕ) (format : Format)
    (settings_rows : List rows.Row) (present : PresentValue) (totals : Totals) (number : ℕ) (w : Written) : Type 0 where
  pub records : List Record
  pub given : HasGivenRecords remaining reader text records
  pub numbered : number ≡ length records + 1
  pub played : ArePlayed settings_rows records present totals
  pub written : IsSaidOf format settings_rows records w
