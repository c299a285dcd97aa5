-- What settings and the rows of a script leave, and what these rows set.
use Rattle.std.specs.Prelude.{◌≡◌, ℕ, List, [], ◌∷◌, Option, Some, None}
use Rattle.csv.specs.declared.reader.Reader.{Reader}
use Rattle.smq_kit.specs.declared.refusal.Refusal.{Refusal}
use Rattle.smq_present.specs.present.Present.{PresentValue, empty}
use Rattle.smq_load.specs.declared.record.Row.{Row}
use Rattle.smq_deal.specs.declared.head.Setting.{Setting}
use Rattle.smq_deal.specs.Texts.{IsSetting, Sets, none_set, with_setting}
use Rattle.smq_load.specs.NextRecord.{HasRead}
use Rattle.smq_load.specs.Settings.{settings_of}
use Rattle.smq_engine.specs.IsRun.{AreRowsOf}
use Rattle.smq_engine.specs.Play.{after_row, after_rows, refusal_of}
use Rattle.smq_engine.specs.within.Plays.{ArePlayedFrom, HasPlayedRows}

-- what is set with one more, where there is one
abbrev pub with_made : Sets → Option Setting → Sets
with_made s None = s
with_made s (Some setting) = with_setting s setting

-- what is set once a row was played: nothing more where it was refused
abbrev pub SetsNext : Option Refusal → Row → Sets → Sets → Type 0
SetsNext (Some refusal) row old new = new ≡ old
SetsNext None row old new = (made : Option Setting) × IsSetting row made × (new ≡ with_made old made)

-- what rows set, one after the other, where this was present before them
abbrev pub AreSet : PresentValue → List Row → Sets → Sets → Type 0
AreSet p [] old new = new ≡ old
AreSet p (row ∷ rows) old new =
    (between : Sets) × SetsNext (refusal_of p row) row old between × AreSet (after_row p row) rows between new

-- The settings and the text say rows, and those of the text that aren't refused set this.
pub record AreSetBy (settings : List ℕ) (head : Sets) (text : List ℕ) : Type 0 where
  pub settings_rows : List Row
  pub rows : List Row
  pub are_settings : settings_of settings ≡ Some settings_rows
  pub are_rows : AreRowsOf text rows
  pub set : AreSet (after_rows empty settings_rows) rows none_set head

-- ---- what only private clauses cite

-- all rows of a text were played, where this was present and set first, and that is now
pub record ArePlayedSets (first present : PresentValue) (refused : List (ℕ × Refusal)) (old now : Sets) (text : List ℕ) : Type 0 where
  pub played : ArePlayedFrom first present refused text
  pub rows : List Row
  pub are_rows : AreRowsOf text rows
  pub set : AreSet first rows old now

-- the rows that a reader has given were
pub record HasPlayedSets {R : Type 0} (remaining : R → Option (List ℕ)) (reader : Reader R) (text : List ℕ) (first present : PresentValue)
    (refused : List (ℕ × Refusal)) (old now : Sets) (number : ℕ) : Type 0 where
  pub played : HasPlayedRows remaining reader text first present refused number
  pub rows : List Row
  pub read : HasRead remaining reader text rows
  pub present_is : present ≡ after_rows first rows
  pub set : AreSet first rows old now
