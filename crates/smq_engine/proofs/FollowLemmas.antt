-- One record more is read, played and said.
use Rattle.std.proofs.Common.{◌≡◌, ◌+◌, ℕ, List, [], ◌∷◌, ◌++◌, Option, Some, None, Result, Ok, Err, inl, inr, refl, sym, ap, ◌∙◌, subst, arith, append-nil}
use Rattle.std.proofs.lemmas.List.{length-append}
use Rattle.std.proofs.KnownBytes.{Appends-kept, Appends-nil, Appends-trans, Keeps-refl}
use Rattle.std.specs.Prelude.{IfErr, IfOk, IfSome}
use Rattle.std.specs.Io.KnownBytes.{Appends, Keeps}
use Rattle.csv.specs.declared.reader.Reader.{Reader}
use Rattle.smq_present.specs.present.Present.{PresentValue, empty}
use Rattle.smq_load.specs.declared.record.Row as rows
use Rattle.smq_load.specs.NextRecord.{HasGiven}
use Rattle.smq_load.specs.Settings.{settings_of}
use Rattle.smq_report.specs.declared.pick.Format.{Format}
use Rattle.smq_engine.specs.Play.{after_rows}
use Rattle.smq_engine.specs.declared.run_fault.RunFault.{RunFault}
use Rattle.smq_engine.specs.declared.run_fault.RunFault.TheVariants as fault
use Rattle.smq_engine.specs.declared.feed.Followed.{Followed}
use Rattle.smq_engine.specs.declared.record.Record.{Record}
use Rattle.smq_engine.specs.declared.totals.Totals.{Totals}
use Rattle.smq_engine.specs.Answers.{answer_to, refusal_to, said_of}
use Rattle.smq_engine.specs.Followed.{AreAllOf, AreWritten, EndsBy, IsFollowed, Written, held}
use Rattle.smq_engine.specs.within.Steps.{ArePlayed, EndsPlay, EndsReading, EndsStep, HasGivenRecords, HasPlayed, IsPlayed}
use Rattle.smq_engine.proofs.AnswerLemmas.{said-more}
use Rattle.smq_engine.proofs.ReadingLemmas.{given-first}

-- nothing is read yet
pub played-none : {R : Type 0} (remaining : R → Option (List ℕ)) (reader : Reader R) (text : List ℕ) (format : Format)
    (settings_rows : List rows.Row) (present : PresentValue) (w e : Option (List ℕ))
    → HasGiven remaining reader text [] → present ≡ after_rows empty settings_rows
    → HasPlayed remaining reader text format settings_rows present (record { refused = 0; gaps = 0; octets = 0 }) 1 (held w w e e)
played-none remaining reader text format settings_rows present w e given is = record {
  records = [];
  given = record { fields = []; given = given; say_records = refl };
  numbered = refl;
  played = record {
    is_present = is ∙ ap (after_rows empty) (sym (append-nil settings_rows));
    are_totals = refl;
  };
  written = (Appends-nil w, Appends-nil e);
}

-- more is said
said-then : (say : List Record → Record → List ℕ) (records : List Record) (r : Record) (old mid new : Option (List ℕ))
    → Appends old mid (said_of say [] records) → Appends mid new (say records r) → Appends old new (said_of say [] (records ++ r ∷ []))
said-then say records r old mid new first then =
    subst (Appends old new) (sym (said-more say [] records r)) (Appends-trans old mid new _ _ first then)

-- one record more is played and said
pub played-more : {R : Type 0} (remaining : R → Option (List ℕ)) (reader after : Reader R) (text : List ℕ) (format : Format)
    (settings_rows : List rows.Row) (present new : PresentValue) (totals counted : Totals) (number : ℕ) (w0 w1 w2 e0 e1 e2 : Option (List ℕ)) (r : Record)
    → (h : HasPlayed remaining reader text format settings_rows present totals number (held w0 w1 e0 e1))
    → HasGivenRecords remaining after text (h.records ++ r ∷ [])
    → ArePlayed settings_rows (h.records ++ r ∷ []) new counted
    → AreWritten (held w1 w2 e1 e2) (answer_to format settings_rows h.records r) (refusal_to settings_rows h.records r)
    → HasPlayed remaining after text format settings_rows new counted (number + 1) (held w0 w2 e0 e2)
played-more remaining reader after text format settings_rows present new totals counted number w0 w1 w2 e0 e1 e2 r h given played said = record {
  records = h.records ++ r ∷ [];
  given = given;
  numbered = let n = h.numbered in omega (arith, n, length-append h.records (r ∷ []));
  played = played;
  written = (
    said-then (answer_to format settings_rows) h.records r w0 w1 w2 h.written.0 said.0,
    said-then (refusal_to settings_rows) h.records r e0 e1 e2 h.written.1 said.1,
  );
}

-- there is no record more
pub played-all : {R : Type 0} (remaining : R → Option (List ℕ)) (reader : Reader R) (text : List ℕ) (format : Format)
    (settings_rows : List rows.Row) (present : PresentValue) (totals : Totals) (number : ℕ) (w0 w1 e0 e1 : Option (List ℕ))
    → (h : HasPlayed remaining reader text format settings_rows present totals number (held w0 w1 e0 e1))
    → AreAllOf text h.records → IsPlayed format settings_rows totals.refused (held w0 w1 e0 e1) text
played-all remaining reader text format settings_rows present totals number w0 w1 e0 e1 h all = record {
  records = h.records;
  are_records = all;
  refused_are = ap (λ (t : Totals). t.refused) h.played.are_totals;
  written = h.written;
}

-- a fault of reading ends it after the records so far
pub ends-reading : {R : Type 0} (remaining : R → Option (List ℕ)) (reader : Reader R) (text : List ℕ) (format : Format)
    (settings_rows : List rows.Row) (present : PresentValue) (totals : Totals) (number : ℕ) (w0 w1 e0 e1 : Option (List ℕ)) (why : RunFault)
    → (h : HasPlayed remaining reader text format settings_rows present totals number (held w0 w1 e0 e1))
    → EndsReading why h.records text → EndsPlay why format settings_rows (held w0 w1 e0 e1) text
ends-reading remaining reader text format settings_rows present totals number w0 w1 e0 e1 (fault.BadRow row) h told =
    (h.records, told.0, told.1, h.written)
ends-reading remaining reader text format settings_rows present totals number w0 w1 e0 e1 fault.BadSettings h told = told
ends-reading remaining reader text format settings_rows present totals number w0 w1 e0 e1 fault.Read h told =
    (h.records, given-first remaining reader text h.records h.given, h.written)
ends-reading remaining reader text format settings_rows present totals number w0 w1 e0 e1 fault.Write h told = absurd told
ends-reading remaining reader text format settings_rows present totals number w0 w1 e0 e1 fault.Memory h told =
    (h.records, given-first remaining reader text h.records h.given, h.written)
ends-reading remaining reader text format settings_rows present totals number w0 w1 e0 e1 fault.NoThread h told = told
ends-reading remaining reader text format settings_rows present totals number w0 w1 e0 e1 fault.Desk h told = told

kept-then : (old mid new : Option (List ℕ)) (text : List ℕ) → Appends old mid text → Keeps mid new → Appends old new text
kept-then old mid new text p q = Appends-kept old mid new text p q

-- a fault at one record more ends it there
pub ends-step : {R : Type 0} (remaining : R → Option (List ℕ)) (reader after : Reader R) (text : List ℕ) (format : Format)
    (settings_rows : List rows.Row) (present : PresentValue) (totals : Totals) (number : ℕ) (w0 w1 w2 e0 e1 e2 : Option (List ℕ)) (r : Record)
    (why : RunFault)
    → (h : HasPlayed remaining reader text format settings_rows present totals number (held w0 w1 e0 e1))
    → HasGivenRecords remaining after text (h.records ++ r ∷ [])
    → EndsStep why format settings_rows h.records r (held w1 w2 e1 e2) → EndsPlay why format settings_rows (held w0 w2 e0 e2) text
ends-step remaining reader after text format settings_rows present totals number w0 w1 w2 e0 e1 e2 r (fault.BadRow row) h given told = absurd told
ends-step remaining reader after text format settings_rows present totals number w0 w1 w2 e0 e1 e2 r fault.BadSettings h given told = told
ends-step remaining reader after text format settings_rows present totals number w0 w1 w2 e0 e1 e2 r fault.Read h given told = absurd told
ends-step remaining reader after text format settings_rows present totals number w0 w1 w2 e0 e1 e2 r fault.Write h given told = (
  h.records,
  r,
  given-first remaining after text (h.records ++ r ∷ []) given,
  record {
    answered = told.0;
    told = told.1;
    written = (Appends-trans w0 w1 w2 _ _ h.written.0 told.2.0, Appends-trans e0 e1 e2 _ _ h.written.1 told.2.1);
  },
)
ends-step remaining reader after text format settings_rows present totals number w0 w1 w2 e0 e1 e2 r fault.Memory h given told = (
  h.records,
  given-first remaining reader text h.records h.given,
  (kept-then w0 w1 w2 _ h.written.0 told.0, kept-then e0 e1 e2 _ h.written.1 told.1),
)
ends-step remaining reader after text format settings_rows present totals number w0 w1 w2 e0 e1 e2 r fault.NoThread h given told = told
ends-step remaining reader after text format settings_rows present totals number w0 w1 w2 e0 e1 e2 r fault.Desk h given told = told

-- the loop ends
pub ends-full : {R : Type 0} (remaining : R → Option (List ℕ)) (reader : Reader R) (text : List ℕ) (format : Format)
    (settings_rows : List rows.Row) (present : PresentValue) (totals : Totals) (number : ℕ) (w0 w1 e0 e1 : Option (List ℕ))
    → HasPlayed remaining reader text format settings_rows present totals number (held w0 w1 e0 e1)
    → EndsPlay fault.Read format settings_rows (held w0 w1 e0 e1) text
ends-full remaining reader text format settings_rows present totals number w0 w1 e0 e1 h =
    (h.records, given-first remaining reader text h.records h.given, h.written)

-- the settings, and then all records, are played
pub all-followed : (o : Option (List ℕ)) (r : Result Followed RunFault) (format : Format) (settings : List ℕ) (settings_rows : List rows.Row)
    (w : Written) → settings_of settings ≡ Some settings_rows
    → ((text : List ℕ) → o ≡ Some text → IfOk r (λ followed. IsPlayed format settings_rows followed.refused w text))
    → IfOk r (λ followed. IfSome o (IsFollowed format settings followed.refused w))
all-followed None (Ok followed) format settings settings_rows w are h = tt
all-followed (Some text) (Ok followed) format settings settings_rows w are h =
    let played = h text refl in
    record {
      settings_rows = settings_rows;
      records = played.records;
      are_settings = are;
      are_records = played.are_records;
      refused_are = played.refused_are;
      written = played.written;
    }
all-followed o (Err why) format settings settings_rows w are h = tt

ends-by : (why : RunFault) (format : Format) (settings : List ℕ) (settings_rows : List rows.Row) (w : Written) (text : List ℕ)
    → settings_of settings ≡ Some settings_rows → EndsPlay why format settings_rows w text → EndsBy why format settings w text
ends-by (fault.BadRow row) format settings settings_rows w text are h = record {
  settings_rows = settings_rows;
  records = h.0;
  are_settings = are;
  before_bad = h.1;
  numbered = h.2;
  written = h.3;
}
ends-by fault.BadSettings format settings settings_rows w text are h = absurd h
ends-by fault.Read format settings settings_rows w text are h = record {
  settings_rows = settings_rows;
  records = h.0;
  are_settings = are;
  first = h.1;
  written = h.2;
}
ends-by fault.Write format settings settings_rows w text are h = record {
  settings_rows = settings_rows;
  records = h.0;
  next = h.1;
  are_settings = are;
  first = h.2;
  written = h.3;
}
ends-by fault.Memory format settings settings_rows w text are h = inr (record {
  settings_rows = settings_rows;
  records = h.0;
  are_settings = are;
  first = h.1;
  written = h.2;
})
ends-by fault.NoThread format settings settings_rows w text are h = h
ends-by fault.Desk format settings settings_rows w text are h = h

-- a fault ends it after the settings
pub fault-followed : (o : Option (List ℕ)) (r : Result Followed RunFault) (format : Format) (settings : List ℕ) (settings_rows : List rows.Row)
    (w : Written) → settings_of settings ≡ Some settings_rows
    → ((text : List ℕ) → o ≡ Some text → IfErr r (λ why. EndsPlay why format settings_rows w text))
    → IfErr r (λ why. IfSome o (EndsBy why format settings w))
fault-followed o (Ok followed) format settings settings_rows w are h = tt
fault-followed None (Err why) format settings settings_rows w are h = tt
fault-followed (Some text) (Err why) format settings settings_rows w are h = ends-by why format settings settings_rows w text are (h text refl)

-- lack of memory ends it in the settings
pub memory-first : (o : Option (List ℕ)) (format : Format) (settings : List ℕ) (w e : Option (List ℕ))
    → IfSome o (EndsBy fault.Memory format settings (held w w e e))
memory-first None format settings w e = tt
memory-first (Some text) format settings w e = inl (Keeps-refl w, Keeps-refl e)
