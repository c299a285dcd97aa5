-- What was written of known records, however their play ended.
use Rattle.std.proofs.Common.{◌≡◌, ◌∙◌, ◌+◌, ℕ, List, [], ◌∷◌, ◌++◌, length, Option, Some, None, inl, inr, refl, sym, arith}
use Rattle.std.specs.Fmt.{digits}
use Rattle.std.proofs.lemmas.Option.{same_Some}
use Rattle.smq_load.specs.declared.record.Row as rows
use Rattle.smq_load.specs.Settings.{settings_of}
use Rattle.smq_report.specs.declared.pick.Format.{Format}
use Rattle.smq_engine.specs.declared.record.Record.{Record}
use Rattle.smq_engine.specs.declared.record.Record.TheVariants.{Row}
use Rattle.smq_engine.specs.Answers.{refusals, refused_after}
use Rattle.smq_engine.specs.declared.run_fault.RunFault.TheVariants.{Memory}
use Rattle.smq_engine.specs.Followed.{AreBeforeBadOf, AreFirstOf, EndsAfter, EndsAtBadRow, EndsBy, Written}
use Rattle.smq_engine.specs.KnownFollow.{KnowsEndings, clock, clocks, loses_answer, set_clock, told_alone, told_clocks}

-- no octet that stood there is lost
kept_octet : (more : List ℕ) → ◌≡◌ {A = List ℕ} [] (7 ∷ more) → ⊥
kept_octet more e = absurd cc

no_rows : (settings : List ℕ) (some : List rows.Row) → settings_of settings ≡ None → settings_of settings ≡ Some some → ⊥
no_rows settings some none are = apart (sym none ∙ are)
  where
    apart : ◌≡◌ {A = Option (List rows.Row)} None (Some some) → ⊥
    apart e = absurd cc

after_all : (format : Format) (settings text : List ℕ) → settings_of settings ≡ Some set_clock → AreFirstOf text clocks
    → EndsAfter format settings (told_alone told_clocks) text
unfolding digits
after_all format settings text set first =
    record { settings_rows = set_clock; records = clocks; are_settings = set; first = first; written = (refl, refl) }

at_bad_row : (format : Format) (settings text : List ℕ) → settings_of settings ≡ Some set_clock → AreBeforeBadOf text clocks
    → EndsAtBadRow format settings 3 (told_alone told_clocks) text
unfolding digits
at_bad_row format settings text set before = record {
  settings_rows = set_clock;
  records = clocks;
  are_settings = set;
  before_bad = before;
  numbered = refl;
  written = (refl, refl);
}

no_row_0 : (format : Format) (settings text : List ℕ) (w : Written) → EndsAtBadRow format settings 0 w text → ⊥
no_row_0 format settings text w h = past (length h.records) h.numbered
  where
    past : (n : ℕ) → 0 ≡ n + 1 → ⊥
    past n e = omega arith

pub endings : KnowsEndings
unfolding digits
endings = record {
  followed = λ format settings text set all. record {
    settings_rows = set_clock;
    records = clocks;
    are_settings = set;
    are_records = all;
    refused_are = refl;
    written = (refl, refl);
  };
  fewer_refused = λ format settings text w set only h. fewer_refused h.settings_rows h.records (same_Some _ _ (sym h.are_settings ∙ set)) (only h.records h.are_records) h.refused_are;
  unsaid = λ format settings text set only h. unsaid h.settings_rows h.records (same_Some _ _ (sym h.are_settings ∙ set)) (only h.records h.are_records) h.written.1;
  lost = λ format settings text refused old new h. kept_octet _ h.written.0;
  unset = λ format settings text refused w none h. no_rows settings h.settings_rows none h.are_settings;
  bad_row = at_bad_row;
  row_0 = no_row_0;
  lost_at_bad_row = λ format settings text row old new h. kept_octet _ h.written.0;
  by_bad_row = at_bad_row;
  by_row_0 = no_row_0;
  by_bad_settings = λ format settings text none. (none, (refl, refl));
  by_bad_settings_told = λ format settings text h. told h.1.1;
  by_good_settings = λ format settings text w set h. no_rows settings set_clock h.0 set;
  by_read = after_all;
  by_read_lost = λ format settings text old new h. kept_octet _ h.written.0;
  by_write = λ format settings text set first. record {
    settings_rows = set_clock;
    records = Row (clock 6) ∷ [];
    next = Row (clock 4);
    are_settings = set;
    first = first;
    written = record { answered = 0; told = 8; written = (refl, refl) };
  };
  by_write_lost = λ format settings text old new h. kept_octet _ h.written.written.0;
  by_memory_at_once = λ format settings text. inl (refl, refl);
  by_memory = λ format settings text set first. inr (after_all format settings text set first);
  by_memory_lost = λ format settings text old new h. memory_lost format settings text old new h;
  by_no_thread = λ format settings text w h. h;
  by_desk = λ format settings text w h. h;
}
  where
    fewer_refused : (set : List rows.Row) (records : List Record) → set ≡ set_clock → records ≡ clocks → 1 ≡ refused_after set records → ⊥
    fewer_refused set records is are e =
        let two : ◌≡◌ {A = ℕ} 1 2 = e ∙ (λ i. refused_after (is i) (are i)) in
        omega arith

    unsaid : (set : List rows.Row) (records : List Record) → set ≡ set_clock → records ≡ clocks → [] ≡ [] ++ refusals set records → ⊥
    unsaid set records is are e =
        let said : [] ≡ told_clocks = e ∙ (λ i. refusals (is i) (are i)) in
        absurd cc

    told : ◌≡◌ {A = List ℕ} told_clocks [] → ⊥
    told e = absurd cc

    memory_lost : (format : Format) (settings text : List ℕ) (old new : Option (List ℕ))
        → EndsBy Memory format settings (loses_answer old new) text → ⊥
    memory_lost format settings text old new (inl h) = kept_octet [] h.0
    memory_lost format settings text old new (inr h) = kept_octet _ h.written.0
