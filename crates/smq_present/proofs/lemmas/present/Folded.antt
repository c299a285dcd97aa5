-- Edits that are applied one after the other.
use Rattle.std.proofs.Common.{◌≡◌, Bool, true, false, List, [], ◌∷◌, ◌++◌, length, Option, refl, ap, ◌∙◌, subst, arith}
use Rattle.std.specs.Prelude.{if◌then◌else◌}
use Rattle.smq_kit.specs.declared.refusal.Refusal.{Refusal}
use Rattle.smq_present.specs.declared.present.edit.Edit.{Edit}
use Rattle.smq_present.specs.present.Judged.{judged, IsAnswer, AreAnswers}
use Rattle.smq_present.specs.present.Present.{PresentValue}
use Rattle.smq_present.specs.present.Steps.{steps}

-- an edit's answer, and what it leaves
abbrev pub Answers : PresentValue → PresentValue → Edit → Option Refusal → Type 0
Answers p q edit answer = IsAnswer p edit answer × (q ≡ steps p (judged (edit ∷ []) (answer ∷ [])))

-- what is left of the edits goes on from what is present to what all of them come to
pub record Folds (old now : PresentValue) (edits left : List Edit) (answers : List (Option Refusal)) : Type 0 where
  pub answered : (more : List (Option Refusal)) → AreAnswers now left more → AreAnswers old edits (answers ++ more)
  pub present : (more : List (Option Refusal)) → AreAnswers now left more → steps now (judged left more) ≡ steps old (judged edits (answers ++ more))

one_more : (q : PresentValue) (edit : Edit) (left : List Edit) (answer : Option Refusal) (more : List (Option Refusal)) (b : Bool)
    → steps (steps q (if b then [] else edit ∷ [])) (judged left more) ≡ steps q (if b then judged left more else edit ∷ judged left more)
one_more q edit left answer more true = refl
one_more q edit left answer more false = refl

-- all are applied
append-none : (all : List (Option Refusal)) → all ++ [] ≡ all
append-none [] = refl
append-none (a ∷ all) = ap (λ (more : List (Option Refusal)). a ∷ more) (append-none all)

none_left : (left : List Edit) → length left ≡ 0 → left ≡ []
none_left [] h = refl
none_left (e ∷ left) h = absurd (omega (arith, h))

pub folds-last : (old now : PresentValue) (edits left : List Edit) (answers : List (Option Refusal)) → length left ≡ 0
    → Folds old now edits left answers
    → AreAnswers old edits answers × (now ≡ steps old (judged edits answers))
folds-last old now edits left answers none folds =
    let last = subst (λ (es : List Edit). Folds old now edits es answers) (none_left left none) folds in (
      subst (λ (all : List (Option Refusal)). AreAnswers old edits all) (append-none answers) (last.answered [] tt),
      last.present [] tt ∙ ap (λ (all : List (Option Refusal)). steps old (judged edits all)) (append-none answers),
    )
