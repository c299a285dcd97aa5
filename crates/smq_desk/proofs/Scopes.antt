-- Some sessions, and what is set or not: an edit of these reads and changes them alone, and any other leaves them.
use Rattle.std.proofs.Common.{◌≡◌, ◌≢◌, ℕ, Bool, true, false, cond, List, [], ◌∷◌, filter, Option, Some, None, inl, inr, refl, sym, ap, ◌∙◌, subst}
use Rattle.std.proofs.lemmas.Bool.{both_ways, cases_eq}
use Rattle.std.specs.Cmp.{nat_cmp_total, tied_itself}
use Rattle.std.specs.FinMap.{FinMap, get, insert, get-insert, same_map, nat_cmp-IsAntisymmetric}
use Rattle.std.specs.Ordering.{nat_cmp, is_eq}
use Rattle.smq_kit.specs.declared.names.SessionId.{SessionId}
use Rattle.smq_kit.specs.declared.refusal.Refusal.{Refusal}
use Rattle.smq_kit.specs.Replies.{first_of}
use Rattle.smq_present.specs.declared.present.edit.Edit.{Edit}
use Rattle.smq_present.specs.declared.present.edit.Edit.TheVariants.{Append, Withdraw, SetForm, SetWindow, AddRoute, EndRoute, CorrectRoute, Advance}
use Rattle.smq_present.specs.declared.present.session.Session.{Session}
use Rattle.smq_present.specs.present.Batch.{BatchValue}
use Rattle.smq_present.specs.present.Present.{PresentValue, session_of}
use Rattle.smq_present.specs.present.Replies.{append_refusals, no_session, reply}
use Rattle.smq_present.specs.present.Settings.{SettingsValue}
use Rattle.smq_present.specs.present.Steps.{session_after, change, step_unless, step, steps}
use Rattle.smq_present.proofs.lemmas.present.Changes.{appends-change, withdraws-change}
use Rattle.smq_desk.specs.declared.entry.Entry.{Entry}
use Rattle.smq_desk.specs.History.{reply_by, IsLegalFrom}
use Rattle.smq_desk.specs.Interleaving.{is_of_settings, answered}

-- whether an edit is of one of these sessions, or of what is set where that is among them
abbrev pub is_within : (SessionId → Bool) → Bool → Edit → Bool
is_within mine set (Append batch) = mine batch.session
is_within mine set (Withdraw session) = mine session
is_within mine set (SetForm link response receipt) = set
is_within mine set (SetWindow link window) = set
is_within mine set (AddRoute prefix from route network) = set
is_within mine set (EndRoute prefix from until) = set
is_within mine set (CorrectRoute prefix from route network) = set
is_within mine set (Advance clock) = set

-- the same of these is present
pub record Agree (mine : SessionId → Bool) (set : Bool) (p r : PresentValue) : Type 0 where
  pub sessions : (s : SessionId) → mine s ≡ true → session_of p s.0 ≡ session_of r s.0
  pub settings : set ≡ true → p.settings ≡ r.settings

pub agree_itself : (mine : SessionId → Bool) (set : Bool) (p : PresentValue) → Agree mine set p p
agree_itself mine set p = record { sessions = λ s m. refl; settings = λ y. refl }

pub agree_back : (mine : SessionId → Bool) (set : Bool) (p r : PresentValue) → Agree mine set p r → Agree mine set r p
agree_back mine set p r a = record { sessions = λ s m. sym (a.sessions s m); settings = λ y. sym (a.settings y) }

pub same_present : (p r : PresentValue) → ((s : SessionId) → session_of p s.0 ≡ session_of r s.0) → p.settings ≡ r.settings → p ≡ r
same_present p r h e =
    let same : p.sessions ≡ r.sessions =
    same_map nat_cmp_total nat_cmp-IsAntisymmetric p.sessions r.sessions (λ q. h (record { 0 = q })) in
    λ i. record { sessions = same i; settings = e i }

-- ---- replies

abbrev with_settings : PresentValue → SettingsValue → PresentValue
with_settings p s = record p { settings = s }

reply_same : (mine : SessionId → Bool) (set : Bool) (p r : PresentValue) (e : Edit) → is_within mine set e ≡ true → Agree mine set p r
    → reply p e ≡ reply r e
reply_same mine set p r (Append b) h a = ap (λ (o : Option Session). first_of (append_refusals o b)) (a.sessions b.session h)
reply_same mine set p r (Withdraw s) h a = ap no_session (a.sessions s h)
reply_same mine set p r (SetForm link response receipt) h a = refl
reply_same mine set p r (SetWindow link window) h a = refl
reply_same mine set p r (AddRoute prefix from route network) h a =
    ap (λ (s : SettingsValue). reply (with_settings p s) (AddRoute prefix from route network)) (a.settings h)
reply_same mine set p r (EndRoute prefix from until) h a =
    ap (λ (s : SettingsValue). reply (with_settings p s) (EndRoute prefix from until)) (a.settings h)
reply_same mine set p r (CorrectRoute prefix from route network) h a =
    ap (λ (s : SettingsValue). reply (with_settings p s) (CorrectRoute prefix from route network)) (a.settings h)
reply_same mine set p r (Advance clock) h a = ap (λ (s : SettingsValue). reply (with_settings p s) (Advance clock)) (a.settings h)

-- ---- the session of an edit, and all others

get-here : {X : Type 0} (m : FinMap nat_cmp X) (k : ℕ) (v : X) → get (insert m k v) k ≡ Some v
get-here m k v = get-insert nat_cmp_total m k v k ∙ (λ i. cond (is_eq (tied_itself nat_cmp_total k i)) (Some v) (get m k))

pub append-here : (o : Option Refusal) (p r : PresentValue) (b : BatchValue) → session_of p b.session.0 ≡ session_of r b.session.0
    → session_of (step_unless o p (Append b)) b.session.0 ≡ session_of (step_unless o r (Append b)) b.session.0
append-here None p r b e =
    get-here p.sessions b.session.0 (session_after (session_of p b.session.0) b)
    ∙ ap (λ (o : Option Session). Some (session_after o b)) e
    ∙ sym (get-here r.sessions b.session.0 (session_after (session_of r b.session.0) b))
append-here (Some q) p r b e = e

pub append-elsewhere : (o : Option Refusal) (p : PresentValue) (b : BatchValue) (s : SessionId) → s.0 ≢ b.session.0
    → session_of (step_unless o p (Append b)) s.0 ≡ session_of p s.0
append-elsewhere None p b s ne = let c = appends-change p b in c.elsewhere s.0 ne
append-elsewhere (Some q) p b s ne = refl

pub append-settings : (o : Option Refusal) (p : PresentValue) (b : BatchValue) → (step_unless o p (Append b)).settings ≡ p.settings
append-settings None p b = refl
append-settings (Some q) p b = refl

withdraw-here : (o : Option Refusal) (p r : PresentValue) (s : SessionId) → session_of p s.0 ≡ session_of r s.0
    → session_of (step_unless o p (Withdraw s)) s.0 ≡ session_of (step_unless o r (Withdraw s)) s.0
withdraw-here None p r s e = let c = withdraws-change p s in let d = withdraws-change r s in c.absent ∙ sym d.absent
withdraw-here (Some q) p r s e = e

withdraw-elsewhere : (o : Option Refusal) (p : PresentValue) (t s : SessionId) → s.0 ≢ t.0
    → session_of (step_unless o p (Withdraw t)) s.0 ≡ session_of p s.0
withdraw-elsewhere None p t s ne = let c = withdraws-change p t in c.elsewhere s.0 ne
withdraw-elsewhere (Some q) p t s ne = refl

withdraw-settings : (o : Option Refusal) (p : PresentValue) (t : SessionId) → (step_unless o p (Withdraw t)).settings ≡ p.settings
withdraw-settings None p t = refl
withdraw-settings (Some q) p t = refl

-- ---- what is set

set-sessions : (o : Option Refusal) (p : PresentValue) (e : Edit) → is_of_settings e ≡ true → (step_unless o p e).sessions ≡ p.sessions
set-sessions (Some q) p e h = refl
set-sessions None p (Append b) h = absurd cc
set-sessions None p (Withdraw s) h = absurd cc
set-sessions None p (SetForm link response receipt) h = refl
set-sessions None p (SetWindow link window) h = refl
set-sessions None p (AddRoute prefix from route network) h = refl
set-sessions None p (EndRoute prefix from until) h = refl
set-sessions None p (CorrectRoute prefix from route network) h = refl
set-sessions None p (Advance clock) h = refl

set-settings : (o : Option Refusal) (p r : PresentValue) (e : Edit) → is_of_settings e ≡ true → p.settings ≡ r.settings
    → (step_unless o p e).settings ≡ (step_unless o r e).settings
set-settings (Some q) p r e h a = a
set-settings None p r (Append b) h a = absurd cc
set-settings None p r (Withdraw s) h a = absurd cc
set-settings None p r (SetForm link response receipt) h a =
    ap (λ (s : SettingsValue). (change (with_settings p s) (SetForm link response receipt)).settings) a
set-settings None p r (SetWindow link window) h a =
    ap (λ (s : SettingsValue). (change (with_settings p s) (SetWindow link window)).settings) a
set-settings None p r (AddRoute prefix from route network) h a =
    ap (λ (s : SettingsValue). (change (with_settings p s) (AddRoute prefix from route network)).settings) a
set-settings None p r (EndRoute prefix from until) h a =
    ap (λ (s : SettingsValue). (change (with_settings p s) (EndRoute prefix from until)).settings) a
set-settings None p r (CorrectRoute prefix from route network) h a =
    ap (λ (s : SettingsValue). (change (with_settings p s) (CorrectRoute prefix from route network)).settings) a
set-settings None p r (Advance clock) h a = ap (λ (s : SettingsValue). (change (with_settings p s) (Advance clock)).settings) a

-- ---- an edit of these

append-both : (mine : SessionId → Bool) (set : Bool) (p r : PresentValue) (b : BatchValue) (o u : Option Refusal) → o ≡ u
    → mine b.session ≡ true → Agree mine set p r → Agree mine set (step_unless o p (Append b)) (step_unless u r (Append b))
append-both mine set p r b o u same h a = record {
  sessions = λ s m. elim (cases_eq s.0 b.session.0) [
    | inl at ↦ subst (λ (n : ℕ). session_of (step_unless o p (Append b)) n ≡ session_of (step_unless u r (Append b)) n) (sym at)
        (append-here o p r b (a.sessions b.session h)
        ∙ ap (λ (x : Option Refusal). session_of (step_unless x r (Append b)) b.session.0) same)
    | inr ne ↦ append-elsewhere o p b s ne ∙ a.sessions s m ∙ sym (append-elsewhere u r b s ne)
  ];
  settings = λ y. append-settings o p b ∙ a.settings y ∙ sym (append-settings u r b);
}

withdraw-both : (mine : SessionId → Bool) (set : Bool) (p r : PresentValue) (t : SessionId) (o u : Option Refusal) → o ≡ u
    → mine t ≡ true → Agree mine set p r → Agree mine set (step_unless o p (Withdraw t)) (step_unless u r (Withdraw t))
withdraw-both mine set p r t o u same h a = record {
  sessions = λ s m. elim (cases_eq s.0 t.0) [
    | inl at ↦ subst (λ (n : ℕ). session_of (step_unless o p (Withdraw t)) n ≡ session_of (step_unless u r (Withdraw t)) n) (sym at)
        (withdraw-here o p r t (a.sessions t h) ∙ ap (λ (x : Option Refusal). session_of (step_unless x r (Withdraw t)) t.0) same)
    | inr ne ↦ withdraw-elsewhere o p t s ne ∙ a.sessions s m ∙ sym (withdraw-elsewhere u r t s ne)
  ];
  settings = λ y. withdraw-settings o p t ∙ a.settings y ∙ sym (withdraw-settings u r t);
}

set-both : (mine : SessionId → Bool) (set : Bool) (p r : PresentValue) (e : Edit) → reply p e ≡ reply r e → is_of_settings e ≡ true
    → Agree mine set p r → Agree mine set (step p e) (step r e)
set-both mine set p r e same h a = record {
  sessions = λ s m. ap (λ (x : FinMap nat_cmp Session). get x s.0) (set-sessions (reply p e) p e h) ∙ a.sessions s m
      ∙ sym (ap (λ (x : FinMap nat_cmp Session). get x s.0) (set-sessions (reply r e) r e h));
  settings = λ y. set-settings (reply p e) p r e h (a.settings y) ∙ ap (λ (x : Option Refusal). (step_unless x r e).settings) same;
}

both : (mine : SessionId → Bool) (set : Bool) (p r : PresentValue) (e : Edit) → is_within mine set e ≡ true → reply p e ≡ reply r e
    → Agree mine set p r → Agree mine set (step p e) (step r e)
both mine set p r (Append b) h same a = append-both mine set p r b _ _ same h a
both mine set p r (Withdraw t) h same a = withdraw-both mine set p r t _ _ same h a
both mine set p r (SetForm link response receipt) h same a = set-both mine set p r (SetForm link response receipt) same refl a
both mine set p r (SetWindow link window) h same a = set-both mine set p r (SetWindow link window) same refl a
both mine set p r (AddRoute prefix from route network) h same a =
    set-both mine set p r (AddRoute prefix from route network) same refl a
both mine set p r (EndRoute prefix from until) h same a = set-both mine set p r (EndRoute prefix from until) same refl a
both mine set p r (CorrectRoute prefix from route network) h same a =
    set-both mine set p r (CorrectRoute prefix from route network) same refl a
both mine set p r (Advance clock) h same a = set-both mine set p r (Advance clock) same refl a

-- ---- any other

other_number : (mine : SessionId → Bool) (s t : SessionId) → mine s ≡ true → mine t ≡ false → s.0 ≢ t.0
other_number mine s t m h at =
    let same : s ≡ t = λ i. record { 0 = at i } in both_ways (mine t) h (ap mine (sym same) ∙ m)

set-others : (mine : SessionId → Bool) (set : Bool) (p r : PresentValue) (e : Edit) → set ≡ false → is_of_settings e ≡ true
    → Agree mine set p r → Agree mine set (step p e) r
set-others mine set p r e fails h a = record {
  sessions = λ s m. ap (λ (x : FinMap nat_cmp Session). get x s.0) (set-sessions (reply p e) p e h) ∙ a.sessions s m;
  settings = λ y. absurd (both_ways set fails y);
}

others : (mine : SessionId → Bool) (set : Bool) (p r : PresentValue) (e : Edit) → is_within mine set e ≡ false → Agree mine set p r
    → Agree mine set (step p e) r
others mine set p r (Append b) h a = record {
  sessions = λ s m. append-elsewhere (reply p (Append b)) p b s (other_number mine s b.session m h) ∙ a.sessions s m;
  settings = λ y. append-settings (reply p (Append b)) p b ∙ a.settings y;
}
others mine set p r (Withdraw t) h a = record {
  sessions = λ s m. withdraw-elsewhere (reply p (Withdraw t)) p t s (other_number mine s t m h) ∙ a.sessions s m;
  settings = λ y. withdraw-settings (reply p (Withdraw t)) p t ∙ a.settings y;
}
others mine set p r (SetForm link response receipt) h a = set-others mine set p r (SetForm link response receipt) h refl a
others mine set p r (SetWindow link window) h a = set-others mine set p r (SetWindow link window) h refl a
others mine set p r (AddRoute prefix from route network) h a = set-others mine set p r (AddRoute prefix from route network) h refl a
others mine set p r (EndRoute prefix from until) h a = set-others mine set p r (EndRoute prefix from until) h refl a
others mine set p r (CorrectRoute prefix from route network) h a =
    set-others mine set p r (CorrectRoute prefix from route network) h refl a
others mine set p r (Advance clock) h a = set-others mine set p r (Advance clock) h refl a

-- ---- lists of edits, and histories

module _ (mine : SessionId → Bool) (set : Bool) (test : Edit → Bool) (is : (e : Edit) → is_within mine set e ≡ test e) where
  -- what edits do to these is what those of them do that are of these
  pub follow : (edits : List Edit) (p r : PresentValue) → Agree mine set p r
      → (filter (λ a. test a.edit) (answered p edits) ≡ answered r (filter test edits))
      × Agree mine set (steps p edits) (steps r (filter test edits))
  follow [] p r a = (refl, a)
  follow (e ∷ edits) p r a = by (test e) refl (follow edits)
    where
      by : (b : Bool) → test e ≡ b
          → ((q u : PresentValue) → Agree mine set q u
          → (filter (λ x. test x.edit) (answered q edits) ≡ answered u (filter test edits))
          × Agree mine set (steps q edits) (steps u (filter test edits)))
          → (filter (λ x. test x.edit) (answered p (e ∷ edits)) ≡ answered r (filter test (e ∷ edits)))
          × Agree mine set (steps p (e ∷ edits)) (steps r (filter test (e ∷ edits)))
      by true holds ih =
          let same : reply p e ≡ reply r e = reply_same mine set p r e (is e ∙ holds) a in
          let rest = ih (step p e) (step r e) (both mine set p r e (is e ∙ holds) same a) in
          rw holds ((λ i. record { edit = e; answer = same i } ∷ rest.0 i), rest.1)
      by false fails ih = rw fails (ih (step p e) r (others mine set p r e (is e ∙ fails) a))

  -- those of a legal history that are of these are one, too, from where the same of these is present
  pub legal_within : (entries : List Entry) (p r : PresentValue) → Agree mine set p r → IsLegalFrom p entries
      → IsLegalFrom r (filter (λ e. test e.edit) entries)
  legal_within [] p r a legal = tt
  legal_within (e ∷ entries) p r a legal = by (test e.edit) refl (legal_within entries)
    where
      by : (b : Bool) → test e.edit ≡ b
          → ((q u : PresentValue) → Agree mine set q u → IsLegalFrom q entries → IsLegalFrom u (filter (λ x. test x.edit) entries))
          → IsLegalFrom r (filter (λ x. test x.edit) (e ∷ entries))
      by true holds ih =
          let same : reply p e.edit ≡ reply r e.edit = reply_same mine set p r e.edit (is e.edit ∙ holds) a in
          let next = both mine set p r e.edit (is e.edit ∙ holds) same a in
          rw holds (legal.0 ∙ ap reply_by same, ih (step p e.edit) (step r e.edit) next legal.1)
      by false fails ih = rw fails (ih (step p e.edit) r (others mine set p r e.edit (is e.edit ∙ fails) a) legal.1)

  -- edits of which none is of these leave them
  pub unchanged : (edits : List Edit) (p : PresentValue) → filter test edits ≡ [] → Agree mine set (steps p edits) p
  unchanged edits p none = subst (λ (es : List Edit). Agree mine set (steps p edits) (steps p es)) none
      (follow edits p p (agree_itself mine set p)).1
