use Rattle.std.proofs.Common.{ℕ, ◌++◌, List, [], ◌∷◌, refl, ap, ◌∙◌}
use Rattle.std.specs.Fmt.{digits}
use Rattle.std.specs.Prelude.{codes, Option, Some}
use Rattle.std.specs.List.{flat_map}
use Rattle.smq_kit.specs.declared.message_id.Form.{Form}
use Rattle.smq_kit.specs.declared.message_id.Form.TheVariants.{Decimal, Hexadecimal}
use Rattle.smq_kit.specs.declared.names.LinkId.{LinkId}
use Rattle.smq_deal.specs.Known.{link}
use Rattle.smq_deal.specs.Texts.{clock_row, form_row, window_row}
use Rattle.smq_deal.proofs.laws.known_rows.Goals as goal

pub returns-clause-rows : goal.returns-clause-rows
unfolding digits
returns-clause-rows c one two = record {
  row = refl;
  first = refl;
  second = refl;
  bad = refl;
  cut = refl;
  no_row = refl;
  some = refl;
}

pub returns-clause-settings : goal.returns-clause-settings
unfolding digits
returns-clause-settings c = record {
  form = refl;
  verbatim = refl;
  window = refl;
  route = refl;
  end = refl;
  clock = refl;
  no_clock = refl;
  given = refl;
  others = refl;
}

pub returns-clause-edits : goal.returns-clause-edits
unfolding digits
returns-clause-edits c made = record {
  forms = λ e. e;
  window = λ e. e;
  route = λ e. e;
  correct = λ e. e;
  end = λ e. e;
  clock = λ e. e;
  none = λ e. e;
}

pub returns-clause-sets : goal.returns-clause-sets
returns-clause-sets c row = record {
  forms = refl;
  other = refl;
  window = refl;
  route = λ e. ap (λ (x : List ℕ). codes "a" ++ x) e;
  clock = refl;
}

-- the rows that set, of these forms, windows, routes and this clock
abbrev rows : List (LinkId × (Form × Form)) → List (LinkId × ℕ) → List ℕ → Option ℕ → List ℕ
rows forms windows routes clock = flat_map form_row forms ++ flat_map window_row windows ++ routes ++ clock_row clock

pub returns-clause-head : goal.returns-clause-head
unfolding digits
returns-clause-head c head = record {
  own = λ forms windows routes clock.
      ap (λ (x : List (LinkId × (Form × Form))). rows x head.windows.entries head.routes.items head.clock) forms
      ∙ ap (λ (x : List (LinkId × ℕ)). rows ((link, (Decimal, Hexadecimal)) ∷ []) x head.routes.items head.clock) windows
      ∙ ap (λ (x : List ℕ). rows ((link, (Decimal, Hexadecimal)) ∷ []) ((link, 500) ∷ []) x head.clock) routes
      ∙ ap (λ (x : Option ℕ). rows ((link, (Decimal, Hexadecimal)) ∷ []) ((link, 500) ∷ []) (codes "a\n") x) clock;
  given = λ forms windows routes clock.
      ap (λ (x : List (LinkId × (Form × Form))). rows x head.windows.entries head.routes.items (Some 500)) forms
      ∙ ap (λ (x : List (LinkId × ℕ)). rows [] x head.routes.items (Some 500)) windows
      ∙ ap (λ (x : List ℕ). rows [] [] x (Some 500)) routes;
}
