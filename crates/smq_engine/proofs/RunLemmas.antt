-- What known runs that fail have written.
use Rattle.std.proofs.Common.{◌≡◌, List, [], ◌∷◌, ℕ, Option, None, Some, inl, inr, refl, sym, take, ◌∙◌}
use Rattle.smq_load.specs.declared.record.Row.{Row}
use Rattle.smq_load.specs.declared.record.Row.TheVariants.{Plain}
use Rattle.smq_present.specs.declared.present.edit.Edit.TheVariants.{Advance}
use Rattle.smq_load.specs.Script.{IsScript}
use Rattle.smq_load.specs.Settings.{settings_of}
use Rattle.smq_report.specs.declared.pick.Output.TheVariants.{Report}
use Rattle.smq_report.specs.declared.pick.Query.{Query}
use Rattle.smq_engine.specs.IsRun.{HasBegun, StopsRun, output_text}
use Rattle.smq_kit.specs.declared.message_id.Form.TheVariants.{Decimal}
use Rattle.smq_engine.specs.Known.{form_row, known_report}
use Rattle.smq_engine.specs.declared.runs.Limit.TheVariants.{Script}

-- ---- known runs

-- two octets of the report are a beginning
pub begun-two : (query : Query) (settings text : List ℕ) → settings_of settings ≡ Some (form_row Decimal ∷ []) → IsScript text (Plain (Advance 5) ∷ [])
    → HasBegun Script (output_text (Report query)) settings (Some (7 ∷ [])) (Some (7 ∷ take 2 (known_report query))) text
begun-two query settings text set script = record {
  settings_rows = form_row Decimal ∷ [];
  rows = Plain (Advance 5) ∷ [];
  are_settings = set;
  are_rows = script;
  written = (2, refl);
}

-- no octet is lost
pub begun-less : (query : Query) (settings text : List ℕ) → HasBegun Script (output_text (Report query)) settings (Some (7 ∷ [])) (Some []) text → ⊥
begun-less query settings text h = absurd (some_octet _ h.written.1)
  where
    some_octet : (more : List ℕ) → ◌≡◌ {A = List ℕ} [] (7 ∷ more) → ⊥
    some_octet more e = absurd cc

-- settings that say no rows
pub begun-unread : (query : Query) (settings text : List ℕ) (old new : Option (List ℕ)) → settings_of settings ≡ None
    → HasBegun Script (output_text (Report query)) settings old new text → ⊥
begun-unread query settings text old new none h = absurd (apart h.settings_rows (sym none ∙ h.are_settings))
  where
    apart : (rows : List Row) → ◌≡◌ {A = Option (List Row)} None (Some rows) → ⊥
    apart rows e = absurd cc

pub stopped-less : (query : Query) (settings text : List ℕ) → StopsRun Script (output_text (Report query)) settings (Some (7 ∷ [])) (Some []) text → ⊥
stopped-less query settings text (inl e) = absurd cc
stopped-less query settings text (inr h) = begun-less query settings text h

pub stopped-unread : (query : Query) (settings text : List ℕ) → settings_of settings ≡ None
    → StopsRun Script (output_text (Report query)) settings (Some (7 ∷ [])) (Some (7 ∷ 8 ∷ [])) text → ⊥
stopped-unread query settings text none (inl e) = absurd cc
stopped-unread query settings text none (inr h) = begun-unread query settings text _ _ none h
