-- Edits in whatever order: what they come to depends on the order of each session's edits and on that of the settings' edits alone.
use Rattle.std.specs.Prelude.{◌≡◌, Bool, true, false, List, [], ◌∷◌, filter, Option}
use Rattle.smq_kit.specs.declared.names.SessionId.{SessionId}
use Rattle.smq_kit.specs.declared.refusal.Refusal.{Refusal}
use Rattle.smq_present.specs.declared.present.edit.Edit.{Edit}
use Rattle.smq_present.specs.declared.present.edit.Edit.TheVariants.{Append, Withdraw, SetForm, SetWindow, AddRoute, EndRoute, CorrectRoute, Advance}
use Rattle.smq_present.specs.present.Present.{PresentValue}
use Rattle.smq_present.specs.present.Replies.{reply}
use Rattle.smq_present.specs.present.Steps.{step, steps, is_of_session}

-- whether an edit is of what is set: of forms, of windows, of routes or of the clock
abbrev pub is_of_settings : Edit → Bool
is_of_settings (Append batch) = false
is_of_settings (Withdraw session) = false
is_of_settings (SetForm link response receipt) = true
is_of_settings (SetWindow link window) = true
is_of_settings (AddRoute prefix from route network) = true
is_of_settings (EndRoute prefix from until) = true
is_of_settings (CorrectRoute prefix from route network) = true
is_of_settings (Advance clock) = true

-- Of each session, and of what is set, two lists have the same edits in the same order.
pub record AreInterleaved (one two : List Edit) : Type 0 where
  pub sessions : (session : SessionId) → filter (is_of_session session) one ≡ filter (is_of_session session) two
  pub settings : filter is_of_settings one ≡ filter is_of_settings two

-- an edit and the book's reply to it
pub record Answered : Type 0 where
  pub edit : Edit
  pub answer : Option Refusal

-- edits, each with the book's reply at its place
abbrev pub answered : PresentValue → List Edit → List Answered
answered p [] = []
answered p (edit ∷ edits) = record { edit = edit; answer = reply p edit } ∷ answered (step p edit) edits

-- Two lists of edits leave the same, and each edit has the same reply in both.
pub record ComeToTheSame (p : PresentValue) (one two : List Edit) : Type 0 where
  pub left : steps p one ≡ steps p two
  pub sessions : (session : SessionId)
      → filter (λ a. is_of_session session a.edit) (answered p one) ≡ filter (λ a. is_of_session session a.edit) (answered p two)
  pub settings : filter (λ a. is_of_settings a.edit) (answered p one) ≡ filter (λ a. is_of_settings a.edit) (answered p two)

-- Whatever is present at first, lists of edits that differ in their interleaving alone come to the same.
abbrev pub InterleavingsAgree : Type 0
InterleavingsAgree = (p : PresentValue) (one two : List Edit) → AreInterleaved one two → ComeToTheSame p one two
