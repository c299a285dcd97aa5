-- What the program makes of settings and rows: of those of a script, or of any number.
use Rattle.std.specs.Prelude.{◌≡◌, ◌≢◌, ◌⊎◌, ◌+◌, ⊤, ℕ, List, ◌∷◌, ◌++◌, length, IfSome, None, Option, Some}
use Rattle.std.specs.Io.KnownBytes.{Appends, Keeps}
use Rattle.smq_count.specs.declared.counting.Counting.{Counting}
use Rattle.smq_count.specs.Counts.{counts_text}
use Rattle.smq_kit.specs.declared.refusal.Refusal.{Refusal}
use Rattle.smq_present.specs.present.Present.{PresentValue}
use Rattle.smq_present.specs.whole.Scratch.{scratch}
use Rattle.smq_load.specs.declared.load_fault.LoadFault.{LoadFault}
use Rattle.smq_load.specs.declared.load_fault.LoadFault.TheVariants as load
use Rattle.smq_load.specs.declared.record.Row.{Row}
use Rattle.smq_load.specs.Row.{row_of}
use Rattle.smq_load.specs.Script.{AreRecordsOf, IsFirstBad, IsScript, SayRows}
use Rattle.smq_load.specs.Settings.{settings_of}
use Rattle.smq_report.specs.Beginnings.{AppendsBeginning}
use Rattle.smq_report.specs.declared.pick.Output.{Output}
use Rattle.smq_report.specs.declared.pick.Output.TheVariants.{Messages, Receipts, Report}
use Rattle.smq_report.specs.declared.pick.ReportFault.{ReportFault}
use Rattle.smq_report.specs.declared.pick.ReportFault.TheVariants as report
use Rattle.smq_report.specs.Lines.{messages_text, receipts_text}
use Rattle.smq_report.specs.Report.{report_text}
use Rattle.smq_scratch.specs.Lines.{message_lines, receipt_lines}
use Rattle.smq_engine.specs.declared.run_fault.RunFault.{RunFault}
use Rattle.smq_engine.specs.declared.run_fault.RunFault.TheVariants.{BadRow, BadSettings, Read, Write, Memory, NoThread, Desk}
use Rattle.smq_engine.specs.declared.runs.Limit.{Limit}
use Rattle.smq_engine.specs.declared.runs.Limit.TheVariants.{Script, Unlimited}
use Rattle.smq_engine.specs.Play.{present_of, refused_of}

-- ---- the rows of a text

-- the records of a text, however many there are, each say the row of the same place
pub record AreRowsOf (text : List ℕ) (rows : List Row) : Type 0 where
  pub records : List (List (List ℕ))
  pub are_records : AreRecordsOf text records
  pub say_rows : SayRows records rows

-- the first record of a text that says no row, as records are numbered from 1: each record before it says a row
pub record SaysNoRow (text : List ℕ) (number : ℕ) : Type 0 where
  pub before : List (List (List ℕ))
  pub bad : List (List ℕ)
  pub after : List (List (List ℕ))
  pub are_records : AreRecordsOf text (before ++ bad ∷ after)
  pub numbered : number ≡ length before + 1
  pub rows : List Row
  pub say_rows : SayRows before rows
  pub is_bad : row_of bad ≡ None

-- a text says these rows, within a limit
abbrev pub AreRows : Limit → List ℕ → List Row → Type 0
AreRows Script text rows = IsScript text rows
AreRows Unlimited text rows = AreRowsOf text rows

-- the first bad record of a text, within a limit
abbrev pub IsBadRow : Limit → List ℕ → ℕ → Type 0
IsBadRow Script text number = IsFirstBad text number
IsBadRow Unlimited text number = SaysNoRow text number

-- ---- what is read and played

-- settings and a text say rows
pub record WasRead (limit : Limit) (settings text : List ℕ) : Type 0 where
  pub settings_rows : List Row
  pub rows : List Row
  pub are_settings : settings_of settings ≡ Some settings_rows
  pub are_rows : AreRows limit text rows

-- The settings and the text say rows; these are present after both in a new book, and these rows of the text are refused.
pub record WerePlayed (limit : Limit) (settings : List ℕ) (present : PresentValue) (refused : List (ℕ × Refusal)) (text : List ℕ) : Type 0 where
  pub settings_rows : List Row
  pub rows : List Row
  pub are_settings : settings_of settings ≡ Some settings_rows
  pub are_rows : AreRows limit text rows
  pub present_is : present ≡ present_of settings_rows rows
  pub refused_are : refused ≡ refused_of settings_rows rows

-- what a fault tells of a text: a bad row is its first
abbrev pub TellsRow : Limit → RunFault → List ℕ → Type 0
TellsRow limit (BadRow row) text = IsBadRow limit text row
TellsRow limit BadSettings text = ⊤
TellsRow limit Read text = ⊤
TellsRow limit Write text = ⊤
TellsRow limit Memory text = ⊤
TellsRow limit NoThread text = ⊤
TellsRow limit Desk text = ⊤

-- What a fault tells of settings, and of a reader that had these octets and has those left: a bad row is the first of the text; where
-- the settings are bad, they say no rows, and nothing was read.
pub record TellsRead (limit : Limit) (fault : RunFault) (settings : List ℕ) (text left : Option (List ℕ)) : Type 0 where
  pub bad_row : IfSome text (TellsRow limit fault)
  pub bad_settings : fault ≡ BadSettings → settings_of settings ≡ None
  pub unread : fault ≡ BadSettings → left ≡ text

-- ---- what is written

-- the text of an output of what is present: what a query asks of the report of the tables that the definitions give of it, or a line
-- for each message or delivery receipt
abbrev pub output_text : Output → PresentValue → List ℕ
output_text (Report query) p = report_text query.pick query.format (scratch p)
output_text Messages p = messages_text (message_lines p)
output_text Receipts p = receipts_text (receipt_lines p)

-- the text of counts of the messages that are present
abbrev pub count_text : Counting → PresentValue → List ℕ
count_text counting p = counts_text counting (message_lines p)

-- The settings and the text say rows, the refused ones are those of the text after the settings, and what was written after
-- the earlier octets is exactly the text that is made of what the edits of all these rows, in order, leave present in a new book.
pub record IsRun (limit : Limit) (made : PresentValue → List ℕ) (settings : List ℕ) (refused : List (ℕ × Refusal)) (old new : Option (List ℕ))
    (text : List ℕ) : Type 0 where
  pub settings_rows : List Row
  pub rows : List Row
  pub are_settings : settings_of settings ≡ Some settings_rows
  pub are_rows : AreRows limit text rows
  pub refused_are : refused ≡ refused_of settings_rows rows
  pub written : Appends old new (made (present_of settings_rows rows))

-- A run writes its text: the settings and the text say rows, and a beginning of the text was written that `IsRun` tells.
pub record HasBegun (limit : Limit) (made : PresentValue → List ℕ) (settings : List ℕ) (old new : Option (List ℕ)) (text : List ℕ) : Type 0 where
  pub settings_rows : List Row
  pub rows : List Row
  pub are_settings : settings_of settings ≡ Some settings_rows
  pub are_rows : AreRows limit text rows
  pub written : AppendsBeginning old new (made (present_of settings_rows rows))

-- what a run that fails wrote: nothing, or a beginning of its text
abbrev pub StopsRun : Limit → (PresentValue → List ℕ) → List ℕ → Option (List ℕ) → Option (List ℕ) → List ℕ → Type 0
StopsRun limit made settings old new text = Keeps old new ⊎ HasBegun limit made settings old new text

-- A run ends by a fault: it tells of settings and text what is so; nothing was written but where a write failed or memory ran out, and
-- then no more than a beginning of the text.
pub record EndsRun (limit : Limit) (made : PresentValue → List ℕ) (fault : RunFault) (settings : List ℕ) (text left old new : Option (List ℕ))
    : Type 0 where
  pub tells : TellsRead limit fault settings text left
  pub unwritten : fault ≢ Write → fault ≢ Memory → Keeps old new
  pub write : fault ≡ Write → IfSome text (HasBegun limit made settings old new)
  pub begun : IfSome text (StopsRun limit made settings old new)

-- ---- faults

-- the fault of a run whose settings or rows aren't loaded
abbrev pub run_fault : LoadFault → RunFault
run_fault (load.BadRow row) = BadRow row
run_fault load.BadSettings = BadSettings
run_fault load.Read = Read
run_fault load.Memory = Memory

-- the fault of a run whose output isn't written
abbrev pub unwritten_fault : ReportFault → RunFault
unwritten_fault report.Write = Write
unwritten_fault report.Memory = Memory
