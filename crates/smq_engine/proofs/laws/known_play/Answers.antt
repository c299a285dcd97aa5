use Rattle.std.proofs.Common.{◌≡◌, ◌∙◌, ℕ, List, [], ◌∷◌, Option, Some, None, refl, sym, inl, inr}
use Rattle.smq_load.specs.declared.record.Row.{Row}
use Rattle.smq_engine.proofs.RunLemmas.{begun-less, begun-two, begun-unread, stopped-less, stopped-unread}
use Rattle.smq_engine.proofs.laws.known_play.Goals as goal

pub returns-clause-play : goal.returns-clause-play
returns-clause-play c = record {
  refused = refl;
  edits = refl;
  left = refl;
  no_octets = λ p link moment dir. refl;
  of_client = λ p. refl;
  of_centre = λ p. refl;
  client_checked = λ p. refl;
  centre_checked = λ p. refl;
  settings_first = refl;
  settings_kept = refl;
  refused_after_settings = refl;
}

pub returns-clause-runs : goal.returns-clause-runs
returns-clause-runs c = record {
  begins = λ query settings text set script. begun-two query settings text set script;
  loses = λ query settings text h. begun-less query settings text h;
  bad_settings = λ query settings text old new none h. begun-unread query settings text old new none h;
  no_script = λ query settings text old new none h. none h.rows h.are_rows;
  stops_before = λ query settings text. inl refl;
  stops_within = λ query settings text set script. inr (begun-two query settings text set script);
  stops_with_less = λ query settings text h. stopped-less query settings text h;
  stops_at_bad_settings = λ query settings text none h. stopped-unread query settings text none h;
}

pub returns-clause-failures : goal.returns-clause-failures
returns-clause-failures c = record {
  row = λ settings text left first. record { bad_row = first; bad_settings = λ e. absurd cc; unread = λ e. absurd cc };
  other_row = λ settings text left other h. other h.bad_row;
  settings = λ settings none. record { bad_row = tt; bad_settings = λ e. none; unread = λ e. refl };
  good_settings = λ settings rows text left are h. apart rows (sym (h.bad_settings refl) ∙ are);
  settings_after_read = λ settings h. read (h.unread refl);
  read = λ query settings text left. record {
    tells = record { bad_row = tt; bad_settings = λ e. absurd cc; unread = λ e. absurd cc };
    unwritten = λ e f. refl;
    write = λ e. absurd cc;
    begun = inl refl;
  };
  read_written = λ query settings text left h. grown (h.unwritten (λ e. absurd cc) (λ e. absurd cc));
  write = λ query settings text left set script. record {
    tells = record { bad_row = tt; bad_settings = λ e. absurd cc; unread = λ e. absurd cc };
    unwritten = λ e f. absurd (e refl);
    write = λ e. begun-two query settings text set script;
    begun = inr (begun-two query settings text set script);
  };
  write_unread = λ query settings text left old new none h. let was = h.write refl in none was.rows was.are_rows;
  memory_lost = λ query settings text left h. stopped-less query settings text h.begun;
  check_read = λ settings text left. record {
    tells = record { bad_row = tt; bad_settings = λ e. absurd cc; unread = λ e. absurd cc };
    unwritten = λ e. refl;
    write = λ e. absurd cc;
    read_first = inl refl;
  };
  check_written = λ settings text left h. grown (h.unwritten (λ e. absurd cc));
  check_write_unread = λ settings text left old new none h. let was = h.write refl in none was.rows was.are_rows;
}
  where
    apart : (rows : List Row) → ◌≡◌ {A = Option (List Row)} None (Some rows) → ⊥
    apart rows e = absurd cc

    read : ◌≡◌ {A = Option (List ℕ)} (Some (8 ∷ [])) (Some (7 ∷ 8 ∷ [])) → ⊥
    read e = absurd cc

    grown : ◌≡◌ {A = List ℕ} (7 ∷ 8 ∷ []) (7 ∷ []) → ⊥
    grown e = absurd cc
