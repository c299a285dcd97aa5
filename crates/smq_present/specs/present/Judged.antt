-- What edits that are applied one after the other come to, where memory may run out at any of them.
use Rattle.std.specs.Prelude.{◌≡◌, ◌==◌, ◌⊎◌, ⊤, Bool, false, if◌then◌else◌, List, [], ◌∷◌, Option, Some, None}
use Rattle.smq_kit.specs.declared.refusal.Refusal.{Refusal}
use Rattle.smq_kit.specs.declared.refusal.Refusal.TheVariants.{Memory}
use Rattle.smq_kit.specs.Refusals.{number_of}
use Rattle.smq_present.specs.declared.present.edit.Edit.{Edit}
use Rattle.smq_present.specs.present.Present.{PresentValue}
use Rattle.smq_present.specs.present.Replies.{reply}
use Rattle.smq_present.specs.present.Steps.{steps}

-- whether an answer is lack of memory
abbrev pub is_memory : Option Refusal → Bool
is_memory None = false
is_memory (Some refusal) = number_of refusal == number_of Memory

-- the edits that weren't refused for lack of memory, where each edit has its answer
abbrev pub judged : List Edit → List (Option Refusal) → List Edit
judged [] answers = []
judged (edit ∷ edits) [] = []
judged (edit ∷ edits) (answer ∷ answers) =
    if is_memory answer then judged edits answers else edit ∷ judged edits answers

-- an edit answers its reply, or lack of memory where that is none
abbrev pub IsAnswer : PresentValue → Edit → Option Refusal → Type 0
IsAnswer p edit answer = (answer ≡ reply p edit) ⊎ ((reply p edit ≡ None) × (answer ≡ Some Memory))

-- Each edit has its answer, at what the earlier ones left: what those of them leave that weren't refused for lack of memory.
abbrev pub AreAnswers : PresentValue → List Edit → List (Option Refusal) → Type 0
AreAnswers p [] [] = ⊤
AreAnswers p [] (answer ∷ answers) = ⊥
AreAnswers p (edit ∷ edits) [] = ⊥
AreAnswers p (edit ∷ edits) (answer ∷ answers) =
    IsAnswer p edit answer × AreAnswers (steps p (judged (edit ∷ []) (answer ∷ []))) edits answers
