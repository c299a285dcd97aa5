-- Rows that are read and played one by one.
use Rattle.std.proofs.Common.{◌≡◌, ◌+◌, ℕ, suc, List, [], ◌∷◌, ◌++◌, length, Option, Some, None, refl, sym, ap, ◌∙◌, arith, append-nil, append_assoc}
use Rattle.std.proofs.lemmas.List.{length-append}
use Rattle.std.proofs.lemmas.List.Sums.{fold-append}
use Rattle.std.specs.Prelude.{IfSome}
use Rattle.csv.specs.declared.reader.Reader.{Reader}
use Rattle.smq_kit.specs.declared.refusal.Refusal.{Refusal}
use Rattle.smq_present.specs.present.Present.{PresentValue, empty}
use Rattle.smq_present.specs.present.Steps.{step, steps}
use Rattle.smq_load.specs.declared.record.Row.{Row}
use Rattle.smq_load.specs.NextRecord.{HasGiven, HasRead}
use Rattle.smq_load.specs.Row.{row_of}
use Rattle.smq_load.specs.Settings.{settings_of}
use Rattle.smq_load.proofs.NextRecordLemmas.{AreRecords-around, HasRead-more, length-SayRows}
use Rattle.smq_engine.specs.Play.{after_row, after_rows, edits_from, refusal_of, refused_from, refused_rows, row_edits, told}
use Rattle.smq_engine.proofs.PlayLemmas.{rows-played, rows-then}
use Rattle.smq_engine.specs.declared.runs.Limit.TheVariants.{Unlimited}
use Rattle.smq_engine.specs.IsRun.{AreRowsOf, SaysNoRow, WerePlayed}
use Rattle.smq_engine.specs.within.Plays.{ArePlayedFrom, HasPlayedRows}

-- ---- one row more is read

-- the reader has given one row more
pub row-given : {R : Type 0} (remaining : R → Option (List ℕ)) (reader after : Reader R) (text : List ℕ) (rows : List Row) (row : Row)
    (fields : List (List ℕ)) → (h : HasRead remaining reader text rows) → HasGiven remaining after text (h.records ++ fields ∷ [])
    → row_of fields ≡ Some row → HasRead remaining after text (rows ++ row ∷ [])
row-given remaining reader after text rows row fields h given says =
    HasRead-more remaining reader after text rows (rows ++ row ∷ []) fields h given (row, says, refl)

-- the next record says no row
pub row-bad : {R : Type 0} (remaining : R → Option (List ℕ)) (reader after : Reader R) (text : List ℕ) (rows : List Row) (number : ℕ)
    (fields : List (List ℕ)) → (h : HasRead remaining reader text rows) → HasGiven remaining after text (h.records ++ fields ∷ [])
    → row_of fields ≡ None → number ≡ length rows + 1 → SaysNoRow text number
row-bad remaining reader after text rows number fields h given none numbered =
    let count = length-SayRows h.records rows h.say_rows in
    let (others, all) = AreRecords-around remaining after text h.records fields given in
    record {
      before = h.records;
      bad = fields;
      after = others;
      are_records = all;
      numbered = omega (arith, count, numbered);
      rows = rows;
      say_rows = h.say_rows;
      is_bad = none;
    }

-- ---- one row more is played

-- what is present after one row more
present-then : (first : PresentValue) (rows : List Row) (row : Row)
    → after_rows first (rows ++ row ∷ []) ≡ after_row (after_rows first rows) row
present-then first rows row =
    sym (rows-then first rows (row ∷ []))
    ∙ ap (steps (after_rows first rows)) (append-nil (row_edits (after_rows first rows) row))

-- the refused rows of one row more
refused_from-then : (number : ℕ) (p : PresentValue) (rows : List Row) (row : Row)
    → refused_from number p (rows ++ row ∷ [])
    ≡ refused_from number p rows ++ told (number + length rows) (refusal_of (after_rows p rows) row)
refused_from-then number p [] row =
    let same : number ≡ number + 0 = omega arith in
    append-nil (told number (refusal_of p row)) ∙ ap (λ (n : ℕ). told n (refusal_of p row)) same
refused_from-then number p (first ∷ rows) row =
    let next = after_row p first in
    let head = told number (refusal_of p first) in
    let tail = refused_from (suc number) next rows in
    let more = refused_from-then (suc number) next rows row in
    let count : suc number + length rows ≡ number + suc (length rows) = omega arith in
    let same : after_rows p (first ∷ rows) ≡ after_rows next rows = fold-append step p (row_edits p first) (edits_from next rows) in
    ap (λ (l : List (ℕ × Refusal)). head ++ l) more
    ∙ sym (append_assoc head tail (told (suc number + length rows) (refusal_of (after_rows next rows) row)))
    ∙ ap (λ (n : ℕ). (head ++ tail) ++ told n (refusal_of (after_rows next rows) row)) count
    ∙ ap (λ (q : PresentValue). (head ++ tail) ++ told (number + suc (length rows)) (refusal_of q row)) (sym same)

-- no row is read yet
pub streamed-none : {R : Type 0} (remaining : R → Option (List ℕ)) (reader : Reader R) (text : List ℕ) (first : PresentValue)
    (refused : List (ℕ × Refusal)) → HasGiven remaining reader text [] → refused ≡ []
    → HasPlayedRows remaining reader text first first refused 1
streamed-none remaining reader text first refused given none = record {
  rows = [];
  read = record { records = []; given = given; say_rows = refl };
  numbered = refl;
  present_is = refl;
  refused_are = none;
}

-- one row more is read and played
pub streamed-more : {R : Type 0} (remaining : R → Option (List ℕ)) (reader after : Reader R) (text : List ℕ)
    (first present new : PresentValue) (refused noted : List (ℕ × Refusal)) (number : ℕ) (row : Row)
    → (h : HasPlayedRows remaining reader text first present refused number)
    → HasRead remaining after text (h.rows ++ row ∷ []) → new ≡ after_row present row
    → noted ≡ refused ++ told number (refusal_of present row)
    → HasPlayedRows remaining after text first new noted (number + 1)
streamed-more remaining reader after text first present new refused noted number row h read made told_is = record {
  rows = h.rows ++ row ∷ [];
  read = read;
  numbered = let n = h.numbered in omega (arith, n, length-append h.rows (row ∷ []));
  present_is = made ∙ ap (λ (p : PresentValue). after_row p row) h.present_is ∙ sym (present-then first h.rows row);
  refused_are =
      let number_is : number ≡ 1 + length h.rows = (let n = h.numbered in omega (arith, n)) in
      told_is ∙ ap (λ (l : List (ℕ × Refusal)). l ++ told number (refusal_of present row)) h.refused_are
      ∙ ap (λ (n : ℕ). refused_rows first h.rows ++ told n (refusal_of present row)) number_is
      ∙ ap (λ (p : PresentValue). refused_rows first h.rows ++ told (1 + length h.rows) (refusal_of p row)) h.present_is
      ∙ sym (refused_from-then 1 first h.rows row);
}

-- all rows are read and played
pub streamed-all : {R : Type 0} (remaining : R → Option (List ℕ)) (reader : Reader R) (text : List ℕ) (first present : PresentValue)
    (refused : List (ℕ × Refusal)) (number : ℕ) → (h : HasPlayedRows remaining reader text first present refused number)
    → AreRowsOf text h.rows → ArePlayedFrom first present refused text
streamed-all remaining reader text first present refused number h all =
    record { rows = h.rows; are_rows = all; present_is = h.present_is; refused_are = h.refused_are }

-- ---- the settings, and then all rows

-- rows that are played where settings were played first
pub played-after : (settings : List ℕ) (settings_rows : List Row) (first present : PresentValue) (refused : List (ℕ × Refusal)) (text : List ℕ)
    → settings_of settings ≡ Some settings_rows → first ≡ after_rows empty settings_rows → ArePlayedFrom first present refused text
    → WerePlayed Unlimited settings present refused text
played-after settings settings_rows first present refused text are set h = record {
  settings_rows = settings_rows;
  rows = h.rows;
  are_settings = are;
  are_rows = h.are_rows;
  present_is = rows-played empty first present settings_rows h.rows set h.present_is;
  refused_are = h.refused_are ∙ ap (λ (p : PresentValue). refused_rows p h.rows) set;
}

-- of any text that the reader had
pub all-played : (o : Option (List ℕ)) (settings : List ℕ) (settings_rows : List Row) (first present : PresentValue)
    (refused : List (ℕ × Refusal)) → settings_of settings ≡ Some settings_rows → first ≡ after_rows empty settings_rows
    → ((text : List ℕ) → o ≡ Some text → ArePlayedFrom first present refused text) → IfSome o (WerePlayed Unlimited settings present refused)
all-played None settings settings_rows first present refused are set h = tt
all-played (Some text) settings settings_rows first present refused are set h =
    played-after settings settings_rows first present refused text are set (h text refl)
