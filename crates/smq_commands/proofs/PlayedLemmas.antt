-- Rows that are read, played and set one by one.
use Rattle.std.proofs.Common.{◌≡◌, ◌+◌, ℕ, List, [], ◌∷◌, ◌++◌, Option, Some, None, refl, sym, ap, ◌∙◌, subst, append-nil}
use Rattle.std.proofs.lemmas.List.Sums.{fold-append}
use Rattle.std.specs.Prelude.{IfSome}
use Rattle.csv.specs.declared.reader.Reader.{Reader}
use Rattle.smq_kit.specs.declared.refusal.Refusal.{Refusal}
use Rattle.smq_present.specs.present.Present.{PresentValue, empty}
use Rattle.smq_present.specs.present.Steps.{step, steps}
use Rattle.smq_load.specs.declared.record.Row.{Row}
use Rattle.smq_load.specs.NextRecord.{HasGiven, HasRead}
use Rattle.smq_load.specs.Settings.{settings_of}
use Rattle.smq_deal.specs.Texts.{Sets, none_set}
use Rattle.smq_engine.specs.declared.runs.Limit.TheVariants.{Unlimited}
use Rattle.smq_engine.specs.IsRun.{AreRowsOf, WerePlayed}
use Rattle.smq_engine.specs.Play.{after_row, after_rows, edits_from, refusal_of, row_edits, told}
use Rattle.smq_engine.proofs.PlayLemmas.{rows-then}
use Rattle.smq_engine.proofs.StreamLemmas.{all-played, streamed-all, streamed-more, streamed-none}
use Rattle.smq_commands.specs.Played.{ArePlayedSets, AreSet, AreSetBy, HasPlayedSets, SetsNext}

-- what is set with one row more
set-then : (p : PresentValue) (rows : List Row) (row : Row) (old between new : Sets) → AreSet p rows old between
    → SetsNext (refusal_of (after_rows p rows) row) row between new → AreSet p (rows ++ row ∷ []) old new
set-then p [] row old between new are next = (new, subst (λ (s : Sets). SetsNext (refusal_of p row) row s new) are next, refl)
set-then p (first ∷ rows) row old between new are next =
    let same : after_rows p (first ∷ rows) ≡ after_rows (after_row p first) rows =
    fold-append step p (row_edits p first) (edits_from (after_row p first) rows) in (
      are.0,
      are.1,
      set-then (after_row p first) rows row are.0 between new are.2
          (subst (λ (q : PresentValue). SetsNext (refusal_of q row) row between new) same next),
    )

-- what is present after one row more
present-then : (first : PresentValue) (rows : List Row) (row : Row)
    → after_row (after_rows first rows) row ≡ after_rows first (rows ++ row ∷ [])
present-then first rows row =
    sym (ap (steps (after_rows first rows)) (append-nil (row_edits (after_rows first rows) row))) ∙ rows-then first rows (row ∷ [])

-- no row is read yet
pub set-none : {R : Type 0} (remaining : R → Option (List ℕ)) (reader : Reader R) (text : List ℕ) (first : PresentValue)
    (refused : List (ℕ × Refusal)) (old : Sets) → HasGiven remaining reader text [] → refused ≡ []
    → HasPlayedSets remaining reader text first first refused old old 1
set-none remaining reader text first refused old given none = record {
  played = streamed-none remaining reader text first refused given none;
  rows = [];
  read = record { records = []; given = given; say_rows = refl };
  present_is = refl;
  set = refl;
}

-- one row more is read and played
pub set-more : {R : Type 0} (remaining : R → Option (List ℕ)) (reader after : Reader R) (text : List ℕ)
    (first present new : PresentValue) (refused noted : List (ℕ × Refusal)) (old between now : Sets) (number : ℕ) (row : Row)
    → (h : HasPlayedSets remaining reader text first present refused old between number)
    → ((rows : List Row) → HasRead remaining reader text rows → HasRead remaining after text (rows ++ row ∷ []))
    → new ≡ after_row present row → noted ≡ refused ++ told number (refusal_of present row)
    → SetsNext (refusal_of present row) row between now → HasPlayedSets remaining after text first new noted old now (number + 1)
set-more remaining reader after text first present new refused noted old between now number row h read made told_is next = record {
  played =
      streamed-more remaining reader after text first present new refused noted number row h.played (read h.played.rows h.played.read)
      made told_is;
  rows = h.rows ++ row ∷ [];
  read = read h.rows h.read;
  present_is = made ∙ ap (λ (q : PresentValue). after_row q row) h.present_is ∙ present-then first h.rows row;
  set = set-then first h.rows row old between now h.set
      (subst (λ (q : PresentValue). SetsNext (refusal_of q row) row between now) h.present_is next);
}

-- all rows are read and played
pub set-all : {R : Type 0} (remaining : R → Option (List ℕ)) (reader : Reader R) (text : List ℕ) (first present : PresentValue)
    (refused : List (ℕ × Refusal)) (old now : Sets) (number : ℕ)
    → (h : HasPlayedSets remaining reader text first present refused old now number)
    → ((rows : List Row) → HasRead remaining reader text rows → AreRowsOf text rows)
    → ArePlayedSets first present refused old now text
set-all remaining reader text first present refused old now number h all = record {
  played = streamed-all remaining reader text first present refused number h.played (all h.played.rows h.played.read);
  rows = h.rows;
  are_rows = all h.rows h.read;
  set = h.set;
}

-- of any text that the reader had, where settings were played first
pub all-set : (o : Option (List ℕ)) (settings : List ℕ) (settings_rows : List Row) (first present : PresentValue)
    (refused : List (ℕ × Refusal)) (old now : Sets) → settings_of settings ≡ Some settings_rows → first ≡ after_rows empty settings_rows
    → old ≡ none_set → ((text : List ℕ) → o ≡ Some text → ArePlayedSets first present refused old now text)
    → IfSome o (AreSetBy settings now)
all-set None settings settings_rows first present refused old now are is none h = tt
all-set (Some text) settings settings_rows first present refused old now are is none h = record {
  settings_rows = settings_rows;
  rows = (h text refl).rows;
  are_settings = are;
  are_rows = (h text refl).are_rows;
  set = subst (λ (s : Sets). AreSet (after_rows empty settings_rows) (h text refl).rows s now) none
      (subst (λ (q : PresentValue). AreSet q (h text refl).rows old now) is (h text refl).set);
}

-- what they leave
pub all-left : (o : Option (List ℕ)) (settings : List ℕ) (settings_rows : List Row) (first present : PresentValue)
    (refused : List (ℕ × Refusal)) (old now : Sets) → settings_of settings ≡ Some settings_rows → first ≡ after_rows empty settings_rows
    → ((text : List ℕ) → o ≡ Some text → ArePlayedSets first present refused old now text)
    → IfSome o (WerePlayed Unlimited settings present refused)
all-left o settings settings_rows first present refused old now are is h =
    all-played o settings settings_rows first present refused are is (λ text e. (h text e).played)
