-- What a check makes of settings and a script.
use Rattle.std.specs.Prelude.{◌≡◌, ◌≢◌, ◌↔◌, ◌⊎◌, IfSome, ℕ, Bool, true, false, List, [], ◌∷◌, ◌++◌, IsTrue, Option, Some, codes, length}
use Rattle.std.specs.Fmt.{decimal}
use Rattle.std.specs.Io.KnownBytes.{Appends, Keeps}
use Rattle.smq_present.specs.whole.Scratch.{scratch}
use Rattle.smq_desk.specs.declared.entry.Entry.{Entry}
use Rattle.smq_desk.specs.History.{replay, IsLegal}
use Rattle.smq_load.specs.declared.record.Row.{Row}
use Rattle.smq_load.specs.Script.{IsScript}
use Rattle.smq_load.specs.Settings.{settings_of}
use Rattle.smq_engine.specs.declared.comparison.Checked.{Checked}
use Rattle.smq_engine.specs.declared.run_fault.RunFault.{RunFault}
use Rattle.smq_engine.specs.declared.run_fault.RunFault.TheVariants.{Write}
use Rattle.smq_engine.specs.declared.runs.Limit.TheVariants.{Script}
use Rattle.smq_engine.specs.IsRun.{TellsRead, WasRead}
use Rattle.smq_engine.specs.Play.{present_of, refused_of}
use Rattle.smq_engine.specs.Workers.{AreMadeOf}

-- Rows of settings and of a script were made at a desk by workers, and played one after another on a book. The desk's history is
-- legal, and made of all these rows; it is told how many entries it has, whether its tables are those that the definitions give of
-- what the play leaves present, and how many rows of the script the play refused.
pub record Compares (settings_rows rows : List Row) (checked : Checked) : Type 0 where
  pub entries : List Entry
  pub legal : IsLegal entries
  pub made : AreMadeOf (settings_rows ++ rows) entries
  pub counted : checked.entries ≡ length entries
  pub same : IsTrue checked.same ↔ (scratch (replay entries) ≡ scratch (present_of settings_rows rows))
  pub refused : checked.refused ≡ length (refused_of settings_rows rows)

-- whether both have the same tables, in a word
abbrev pub word_of : Bool → List ℕ
word_of true = codes "same"
word_of false = codes "different"

-- what is written of a check: that word, the numbers of entries and of refused rows, and a line feed
abbrev pub check_text : Checked → List ℕ
check_text checked =
    word_of checked.same ++ codes " entries " ++ decimal checked.entries ++ codes " refused " ++ decimal checked.refused ++ 10 ∷ []

-- The settings and the text say rows, what was found of these is told, and what was written after the earlier octets is exactly
-- the line that tells it.
pub record IsCheck (settings : List ℕ) (checked : Checked) (old new : Option (List ℕ)) (text : List ℕ) : Type 0 where
  pub settings_rows : List Row
  pub rows : List Row
  pub are_settings : settings_of settings ≡ Some settings_rows
  pub is_script : IsScript text rows
  pub compares : Compares settings_rows rows checked
  pub written : Appends old new (check_text checked)

-- A check ends by a fault: it tells of settings and script what is so; nothing was written but where a write failed, and then both had
-- been read.
pub record EndsCheck (fault : RunFault) (settings : List ℕ) (text left old new : Option (List ℕ)) : Type 0 where
  pub tells : TellsRead Script fault settings text left
  pub unwritten : fault ≢ Write → Keeps old new
  pub write : fault ≡ Write → IfSome text (WasRead Script settings)
  pub read_first : IfSome text (λ octets. Keeps old new ⊎ WasRead Script settings octets)
