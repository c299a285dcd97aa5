-- Counts by a view's column and outcome are those of the tables.
use Rattle.std.proofs.Common.{◌≡◌, ℕ, ◌+◌, Bool, List, [], ◌∷◌, Option, Some, None, cond, refl, sym, ap, ◌∙◌}
use Rattle.std.specs.Prelude.{count_by, map}
use Rattle.std.specs.Bool.{Decides}
use Rattle.std.specs.Cmp.{eq_by_cmp_equiv}
use Rattle.std.specs.Option.{option_map_or}
use Rattle.std.specs.Ordering.{eq_by_cmp}
use Rattle.std.proofs.lemmas.Bool.Decides.{same_from_decides}
use Rattle.std.proofs.lemmas.List.Sums.{sum_by-cons}
use Rattle.std.proofs.lemmas.Map.Views.{tells_apart}
use Rattle.smq_tally.specs.declared.outcome.Outcome.{Outcome}
use Rattle.smq_tally.specs.declared.value.Value.{Value}
use Rattle.smq_tally.specs.declared.view.View.{View}
use Rattle.smq_tally.specs.Rows.{count_key, stands_in, value_in}
use Rattle.smq_tally.specs.Tables.{count_at}
use Rattle.smq_tally.proofs.Standing.{stands_once}
use Rattle.smq_present.specs.join.Lines.{MessageLineValue}
use Rattle.smq_present.specs.present.Present.{PresentValue}
use Rattle.smq_present.specs.whole.Scratch.{scratch}
use Rattle.smq_scratch.specs.Lines.{message_lines}
use Rattle.smq_scratch.proofs.LineLaws.{lines-counted}
use Rattle.smq_count.specs.declared.cell.Cell.TheVariants as cell
use Rattle.smq_count.specs.declared.column.Column.{Column}
use Rattle.smq_count.specs.declared.column.Column.TheVariants as column
use Rattle.smq_count.specs.Cells.{Tuple, tuple_cmp, tuple_in}
use Rattle.smq_count.specs.Counts.{number_among}
use Rattle.smq_count.proofs.Tallied.{tuples_exact, tuples_total}

-- what is made of items passes a test as often as the items pass it by what is made of them
count-map : {A B : Type 0} (test : B → Bool) (f : A → B) (xs : List A) → count_by test (map f xs) ≡ count_by (λ x. test (f x)) xs
count-map test f [] = refl
count-map test f (x ∷ xs) =
    sum_by-cons (λ y. cond (test y) 1 0) (f x) (map f xs)
    ∙ ap (λ (n : ℕ). cond (test (f x)) 1 0 + n) (count-map test f xs)
    ∙ sym (sum_by-cons (λ y. cond (test (f y)) 1 0) x xs)

module _ (value : Value) (outcome : Outcome) where
  -- what a message of this value and outcome has in the columns
  abbrev wanted : Tuple
  wanted = cell.Value value ∷ cell.Outcome outcome ∷ []

  -- what one has there by its own value, if it has one, and its own outcome
  abbrev had : Option Value → Outcome → Tuple
  had own at = option_map_or cell.Value own cell.Nothing ∷ cell.Outcome at ∷ []

  -- the two are one where value and outcome are
  has-both : (own : Option Value) (at : Outcome) → Decides (eq_by_cmp tuple_cmp wanted (had own at)) ((own ≡ Some value) × (at ≡ outcome))
  has-both None at = (
    λ h. absurd (let same : wanted ≡ had None at = tells_apart tuples_exact _ _ h in cc),
    λ e. absurd (let none : None ≡ Some value = e.0 in cc),
  )
  has-both (Some x) at = (
    λ h.
        let same : wanted ≡ had (Some x) at = tells_apart tuples_exact _ _ h in
        let own : x ≡ value = cc in
        let of : at ≡ outcome = cc in
        (ap Some own, of),
    λ e.
        let own : x ≡ value = let s : Some x ≡ Some value = e.0 in cc in
        (λ i. eq_by_cmp tuple_cmp wanted (had (Some (own i)) (e.1 i))) ∙ (eq_by_cmp_equiv tuples_total).refl wanted,
  )

module _ (view : View) where
  -- a view's column and that of outcomes
  abbrev both : List Column
  both = column.View view ∷ column.Outcome ∷ []

  -- a message is counted at a value and an outcome where it has these two in the columns
  stands-tuple : (value : Value) (outcome : Outcome) (line : MessageLineValue)
      → stands_in (count_key view value outcome) line.fact ≡ eq_by_cmp tuple_cmp (wanted value outcome) (tuple_in both line)
  stands-tuple value outcome line =
      same_from_decides _ _ (stands_once line.fact view value outcome) (has-both value outcome (value_in view line.fact) line.fact.outcome)

  pub counts-view : (p : PresentValue) (value : Value) (outcome : Outcome)
      → count_at (scratch p) view value outcome ≡ number_among (map (tuple_in both) (message_lines p)) (wanted value outcome)
  counts-view p value outcome =
      lines-counted p (count_key view value outcome)
      ∙ (λ i. count_by (λ line. stands-tuple value outcome line i) (message_lines p))
      ∙ sym (count-map (eq_by_cmp tuple_cmp (wanted value outcome)) (tuple_in both) (message_lines p))
