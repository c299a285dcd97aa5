-- Lists of edits that differ in their interleaving alone come to the same. Each session's edits are followed for themselves, and so
-- are those of what is set.
use Rattle.std.proofs.Common.{◌≡◌, ◌⊎◌, ◌==◌, Bool, true, false, not, List, [], ◌++◌, filter, inl, inr, refl, sym, ap, ◌∙◌, append-nil, eq-eqb}
use Rattle.std.proofs.lemmas.Bool.{both_ways}
use Rattle.std.proofs.lemmas.List.Elements.{filter-append}
use Rattle.smq_kit.specs.declared.names.SessionId.{SessionId}
use Rattle.smq_present.specs.declared.present.edit.Edit.{Edit}
use Rattle.smq_present.specs.declared.present.edit.Edit.TheVariants.{Append, Withdraw, SetForm, SetWindow, AddRoute, EndRoute, CorrectRoute, Advance}
use Rattle.smq_present.specs.present.Present.{PresentValue, session_of}
use Rattle.smq_present.specs.present.Steps.{steps, is_of_session}
use Rattle.smq_desk.specs.Interleaving.{is_of_settings, AreInterleaved, answered, InterleavingsAgree}
use Rattle.smq_desk.proofs.FilterLemmas.{filter_within, filter_apart}
use Rattle.smq_desk.proofs.Scopes.{Agree, is_within, agree_itself, same_present, follow}

abbrev alone : SessionId → SessionId → Bool
alone s t = t.0 == s.0

of_session : (s : SessionId) (e : Edit) → is_within (alone s) false e ≡ is_of_session s e
of_session s (Append b) = refl
of_session s (Withdraw t) = refl
of_session s (SetForm link response receipt) = refl
of_session s (SetWindow link window) = refl
of_session s (AddRoute prefix from route network) = refl
of_session s (EndRoute prefix from until) = refl
of_session s (CorrectRoute prefix from route network) = refl
of_session s (Advance clock) = refl

of_settings : (e : Edit) → is_within (λ s. false) true e ≡ is_of_settings e
of_settings (Append b) = refl
of_settings (Withdraw t) = refl
of_settings (SetForm link response receipt) = refl
of_settings (SetWindow link window) = refl
of_settings (AddRoute prefix from route network) = refl
of_settings (EndRoute prefix from until) = refl
of_settings (CorrectRoute prefix from route network) = refl
of_settings (Advance clock) = refl

-- a session of its own edits, and what is set of its own
abbrev IsFollowed : PresentValue → List Edit → (SessionId → Bool) → Bool → (Edit → Bool) → Type 0
IsFollowed p edits mine set test =
    (filter (λ a. test a.edit) (answered p edits) ≡ answered p (filter test edits))
    × Agree mine set (steps p edits) (steps p (filter test edits))

session : (p : PresentValue) (edits : List Edit) (s : SessionId) → IsFollowed p edits (alone s) false (is_of_session s)
session p edits s = follow (alone s) false (is_of_session s) (of_session s) edits p p (agree_itself (alone s) false p)

settings : (p : PresentValue) (edits : List Edit) → IsFollowed p edits (λ s. false) true is_of_settings
settings p edits = follow (λ s. false) true is_of_settings of_settings edits p p (agree_itself (λ s. false) true p)

at_session : (p : PresentValue) (one two : List Edit) (s : SessionId) → filter (is_of_session s) one ≡ filter (is_of_session s) two
    → session_of (steps p one) s.0 ≡ session_of (steps p two) s.0
at_session p one two s same =
    let itself : alone s s ≡ true = eq-eqb s.0 s.0 refl in
    (session p one s).1.sessions s itself ∙ ap (λ (es : List Edit). session_of (steps p es) s.0) same
    ∙ sym ((session p two s).1.sessions s itself)

pub interleavings_agree : InterleavingsAgree
interleavings_agree p one two h = record {
  left = same_present (steps p one) (steps p two) (λ s. at_session p one two s (h.sessions s))
      ((settings p one).1.settings refl ∙ ap (λ (es : List Edit). (steps p es).settings) h.settings
      ∙ sym ((settings p two).1.settings refl));
  sessions = λ s. (session p one s).0 ∙ ap (λ (es : List Edit). answered p es) (h.sessions s) ∙ sym (session p two s).0;
  settings = (settings p one).0 ∙ ap (λ (es : List Edit). answered p es) h.settings ∙ sym (settings p two).0;
}

-- ---- two parts of a list

-- a test is one answer for all edits of a session, and another for what is set
pub record IsWhole (test : Edit → Bool) : Type 0 where
  pub sessions : (s : SessionId)
      → ((e : Edit) → is_of_session s e ≡ true → test e ≡ true) ⊎ ((e : Edit) → is_of_session s e ≡ true → test e ≡ false)
  pub settings : (e : Edit) → is_of_settings e ≡ true → test e ≡ false

flipped : (b t : Bool) → b ≡ t → not b ≡ not t
flipped b t e = ap not e

-- the edits that pass such a test may be made first
pub parted : (test : Edit → Bool) (edits : List Edit) → IsWhole test
    → AreInterleaved edits (filter test edits ++ filter (λ e. not (test e)) edits)
parted test edits w = record {
  sessions = λ s. sym (filter-append (is_of_session s) (filter test edits) (filter (λ e. not (test e)) edits)
      ∙ elim (w.sessions s) [
        | inl holds ↦ (λ i. filter_within (is_of_session s) test holds edits i
            ++ filter_apart (is_of_session s) (λ e. not (test e)) (λ e h. flipped (test e) true (holds e h)) edits i)
            ∙ append-nil (filter (is_of_session s) edits)
        | inr fails ↦ λ i. filter_apart (is_of_session s) test fails edits i
            ++ filter_within (is_of_session s) (λ e. not (test e)) (λ e h. flipped (test e) false (fails e h)) edits i
      ]);
  settings = sym (filter-append is_of_settings (filter test edits) (filter (λ e. not (test e)) edits)
      ∙ (λ i. filter_apart is_of_settings test w.settings edits i
      ++ filter_within is_of_settings (λ e. not (test e)) (λ e h. flipped (test e) false (w.settings e h)) edits i));
}

either_first : (f : Edit → Bool) (xs ys : List Edit) → (filter f xs ≡ []) ⊎ (filter f ys ≡ []) → filter f (xs ++ ys) ≡ filter f (ys ++ xs)
either_first f xs ys (inl none) = filter-append f xs ys ∙ ap (λ (es : List Edit). es ++ filter f ys) none
    ∙ sym (filter-append f ys xs ∙ ap (λ (es : List Edit). filter f ys ++ es) none ∙ append-nil (filter f ys))
either_first f xs ys (inr none) = filter-append f xs ys ∙ ap (λ (es : List Edit). filter f xs ++ es) none ∙ append-nil (filter f xs)
    ∙ sym (filter-append f ys xs ∙ ap (λ (es : List Edit). es ++ filter f xs) none)

-- edits that pass such a test, and edits that don't, may be made in either order
pub exchanged : (test other : Edit → Bool) (edits more : List Edit) → IsWhole test → ((e : Edit) → other e ≡ true → test e ≡ false)
    → AreInterleaved (filter test edits ++ filter other more) (filter other more ++ filter test edits)
exchanged test other edits more w apart = record {
  sessions = λ s. either_first (is_of_session s) (filter test edits) (filter other more) (elim (w.sessions s) [
    | inl holds ↦ inr (filter_apart (is_of_session s) other (λ e h. others_fail (test e) (other e) (holds e h) (apart e)) more)
    | inr fails ↦ inl (filter_apart (is_of_session s) test fails edits)
  ]);
  settings = either_first is_of_settings (filter test edits) (filter other more) (inl (filter_apart is_of_settings test w.settings edits));
}
  where
    others_fail : (t o : Bool) → t ≡ true → (o ≡ true → t ≡ false) → o ≡ false
    others_fail t true holds h = absurd (both_ways t (h refl) holds)
    others_fail t false holds h = refl
