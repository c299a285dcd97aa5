-- The pairs of each session where one session is put in, or taken out.
use Rattle.std.proofs.Common.{◌≡◌, ◌≢◌, ℕ, Bool, true, false, cond, Option, Some, None, Result, Ok, Err, refl, sym, ap, subst, ◌∙◌}
use Rattle.std.specs.Prelude.{option_map, unwrap_or}
use Rattle.std.specs.Cmp.{nat_cmp_total, tied_itself}
use Rattle.std.specs.FinMap as fin
use Rattle.std.specs.FinMap.{FinMap, get, insert, remove, get-empty, get-insert, get-remove, nat_cmp-IsAntisymmetric}
use Rattle.std.specs.Ordering.{eq_by_cmp, is_eq, nat_cmp}
use Rattle.std.proofs.lemmas.Bool.{false≢true}
use Rattle.smq_kit.proofs.MapLemmas.{same_key}
use Rattle.smq_kit.specs.declared.refusal.Refusal.{Refusal}
use Rattle.smq_kit.specs.declared.refusal.Refusal.TheVariants.{Memory, NoSession}
use Rattle.smq_kit.specs.Replies.{IsReply, IsReplyInPlace}
use Rattle.smq_pair.specs.Paired.{no_pdus}
use Rattle.smq_pair.specs.Pairing.{PairingValue}
use Rattle.smq_present.specs.declared.present.edit.Edit.{Edit}
use Rattle.smq_present.specs.declared.present.session.Session.{Session}
use Rattle.smq_book.specs.declared.index.index.Index.{Index}
use Rattle.smq_book.specs.declared.index.pairings.Pairings.{Pairings}
use Rattle.smq_book.specs.index.Opening.{nothing_held}
use Rattle.smq_book.specs.index.Held.{Holding, IsHeld, held_now, held_settled, traffic_held}
use Rattle.smq_book.specs.index.Kept.{IsIndexed, IsKept}
use Rattle.smq_book.specs.index.Pairs.{pairing_in, pairs_now, pairs_pending, pairs_settled}
use Rattle.smq_book.specs.index.Touches.{HasNothingPending}
use Rattle.smq_present.specs.pairing.Traffic.{session_pairing, traffic_of}
use Rattle.smq_present.specs.present.Present.{PresentValue, empty}
use Rattle.smq_present.specs.present.Replies.{no_session, reply}
use Rattle.smq_present.specs.present.Steps.{change}
use Rattle.smq_book.proofs.lemmas.index.Nothing.{nothing-is-held, nothing-is-said}

-- the PDUs of what stands under a number
abbrev said : ℕ → Option Session → PairingValue
said number found = unwrap_or (option_map (λ (s : Session). session_pairing (number, s)) found) no_pdus

module _ (n : ℕ) (before after : ℕ → PairingValue) (sessions : FinMap nat_cmp Session) (others : (number : ℕ) → number ≢ n → after number ≡ before number)
    (were : (number : ℕ) → before number ≡ pairing_in sessions number) where
  apart : (number : ℕ) → eq_by_cmp nat_cmp number n ≡ false → number ≢ n
  apart number f same = false≢true (sym f ∙ ap (λ (m : ℕ). eq_by_cmp nat_cmp m n) same ∙ ap is_eq (tied_itself nat_cmp_total n))

  module _ (new : FinMap nat_cmp Session) (found : Option Session)
      (at : (number : ℕ) → get new number ≡ cond (eq_by_cmp nat_cmp number n) found (get sessions number)) (own : after n ≡ said n found) where
    pub pairs-by : (number : ℕ) → after number ≡ pairing_in new number
    pairs-by number = by (eq_by_cmp nat_cmp number n) refl
      where
        by : (b : Bool) → eq_by_cmp nat_cmp number n ≡ b → after number ≡ pairing_in new number
        by true t =
            let same : number ≡ n = same_key nat_cmp_total nat_cmp-IsAntisymmetric number n t in
            ap after same ∙ own ∙ ap (λ (m : ℕ). said m found) (sym same)
            ∙ ap (said number) (sym (at number ∙ ap (λ b. cond b found (get sessions number)) t))
        by false f =
            others number (apart number f) ∙ were number
            ∙ ap (said number) (sym (at number ∙ ap (λ b. cond b found (get sessions number)) f))

  pub pairs-removed : after n ≡ no_pdus → (number : ℕ) → after number ≡ pairing_in (remove sessions n) number
  pairs-removed own = pairs-by (remove sessions n) None (λ number. get-remove nat_cmp_total sessions n number) own

  pub pairs-put : (s : Session) → after n ≡ pairing_in (insert sessions n s) n → (number : ℕ) → after number ≡ pairing_in (insert sessions n s) number
  pairs-put s own = pairs-by (insert sessions n s) (Some s) (λ number. get-insert nat_cmp_total sessions n s number)
      (own ∙ ap (said n) (get-insert nat_cmp_total sessions n s n ∙ ap (λ b. cond b (Some s) (get sessions n)) (ap is_eq (tied_itself nat_cmp_total n))))

-- no change of pairs is pending, where none of one session is, and those of the others stay
pub none-pending : (n : ℕ) (before after : ℕ → ℕ) → after n ≡ 0 → ((number : ℕ) → number ≢ n → after number ≡ before number)
    → ((number : ℕ) → before number ≡ 0) → (number : ℕ) → after number ≡ 0
none-pending n before after own others were number = by (eq_by_cmp nat_cmp number n) refl
  where
    by : (b : Bool) → eq_by_cmp nat_cmp number n ≡ b → after number ≡ 0
    by true t = ap after (same_key nat_cmp_total nat_cmp-IsAntisymmetric number n t) ∙ own
    by false f =
        others number (λ same. false≢true (sym f ∙ ap (λ (m : ℕ). eq_by_cmp nat_cmp m n) same ∙ ap is_eq (tied_itself nat_cmp_total n)))
        ∙ were number

-- what is of one number as it was, where all others are, too, is as it was
pub as-was : {X : Type 0} (n : ℕ) (before after : ℕ → X) → after n ≡ before n → ((number : ℕ) → number ≢ n → after number ≡ before number)
    → (number : ℕ) → after number ≡ before number
as-was n before after own others number = by (eq_by_cmp nat_cmp number n) refl
  where
    by : (b : Bool) → eq_by_cmp nat_cmp number n ≡ b → after number ≡ before number
    by true t =
        let same : number ≡ n = same_key nat_cmp_total nat_cmp-IsAntisymmetric number n t in
        ap after same ∙ own ∙ ap before (sym same)
    by false f = others number (λ same. false≢true (sym f ∙ ap (λ (m : ℕ). eq_by_cmp nat_cmp m n) same ∙ ap is_eq (tied_itself nat_cmp_total n)))

-- what was refused is as it was
pub unmade : (T : Type 0) (r : Option Refusal) (e : Refusal) (Made Unchanged : Type 0) → IsReply {T = T} r (Err e) Made Unchanged → Unchanged
unmade T None e Made Unchanged is = is.1
unmade T (Some refusal) e Made Unchanged is = is.1

-- ---- what is kept, once it is settled

module _ (p : PresentValue) (j : Index) (k : Pairings) (h : Holding) where
  pub kept-settled : held_now j ≡ h → held_settled j ≡ h → IsHeld p.settings h → traffic_held h ≡ traffic_of p.sessions
      → ((number : ℕ) → pairs_now k number ≡ pairing_in p.sessions number) → ((number : ℕ) → pairs_settled k number ≡ pairing_in p.sessions number)
      → HasNothingPending j → ((number : ℕ) → pairs_pending k number ≡ 0)
      → IsKept p j k
  kept-settled now settled held traffic pairs settled_pairs pending pending_pairs = record {
    held = subst (IsHeld p.settings) (sym now) held;
    traffic = ap traffic_held now ∙ traffic;
    settled = settled ∙ sym now;
    pairs = pairs;
    settled_pairs = settled_pairs;
    pending = pending;
    pending_pairs = pending_pairs;
  }

-- what is kept is indexed
pub indexed : {p : PresentValue} {i : Index} {k : Pairings} → IsKept p i k → IsIndexed p i
indexed kept = record { held = kept.held; traffic = kept.traffic; settled = kept.settled; pending = kept.pending }

-- and what is indexed is kept, where sessions and pairs stay
pub kept-again : {p q : PresentValue} {i j : Index} {k : Pairings} → p.sessions ≡ q.sessions → IsIndexed q j → IsKept p i k → IsKept q j k
kept-again same is kept = record {
  held = is.held;
  traffic = is.traffic;
  settled = is.settled;
  pairs = λ number. kept.pairs number ∙ ap (λ (m : FinMap nat_cmp Session). pairing_in m number) same;
  settled_pairs = λ number. kept.settled_pairs number ∙ ap (λ (m : FinMap nat_cmp Session). pairing_in m number) same;
  pending = is.pending;
  pending_pairs = kept.pending_pairs;
}

-- so it is after an edit of settings, whether made or refused
pub kept-edit : {p q : PresentValue} {i j : Index} {k : Pairings} (edit e : Edit) → edit ≡ e → (r : Result (Unit {0}) Refusal)
    → p.sessions ≡ (change p e).sessions → IsReply (reply p e) r (q ≡ change p e) (q ≡ p) → IsIndexed q j → IsKept p i k → IsKept q j k
kept-edit {p} {q} edit e it r same told is kept = kept-again (by (reply p e) r told) is kept
  where
    stays : (made : PresentValue) → p.sessions ≡ made.sessions → q ≡ made → p.sessions ≡ q.sessions
    stays made same made_is = same ∙ sym (ap (λ (x : PresentValue). x.sessions) made_is)

    by : (refusal : Option Refusal) (x : Result (Unit {0}) Refusal) → IsReply refusal x (q ≡ change p e) (q ≡ p) → p.sessions ≡ q.sessions
    by None (Ok x) told = stays (change p e) same told
    by (Some refusal) (Ok x) told = absurd told
    by None (Err x) told = stays p refl told.1
    by (Some refusal) (Err x) told = stays p refl told.1

-- what is undone is indexed as it was
pub undone : {p q : PresentValue} {i j : Index} → q ≡ p → held_now j ≡ held_settled i → held_settled j ≡ held_settled i → HasNothingPending j
    → IsIndexed p i → IsIndexed q j
undone {p} {q} {i} {j} same now settled pending is = subst (λ (r : PresentValue). IsIndexed r j) (sym same) (record {
  held = subst (IsHeld p.settings) (sym (now ∙ is.settled)) is.held;
  traffic = ap traffic_held (now ∙ is.settled) ∙ is.traffic;
  settled = settled ∙ sym now;
  pending = pending;
})

-- and so is what is settled, where sessions stay
pub settled-again : {p q : PresentValue} {i k : Index} (j : Index) → p.sessions ≡ q.sessions → IsHeld q.settings (held_now j)
    → traffic_held (held_now j) ≡ traffic_held (held_now i) → held_now k ≡ held_now j → held_settled k ≡ held_now j → HasNothingPending k
    → IsIndexed p i → IsIndexed q k
settled-again {p} {q} j same held traffic now settled pending is = record {
  held = subst (IsHeld q.settings) (sym now) held;
  traffic = ap traffic_held now ∙ traffic ∙ is.traffic ∙ ap traffic_of same;
  settled = settled ∙ sym now;
  pending = pending;
}

no-pairs : (number : ℕ) → pairing_in fin.empty number ≡ no_pdus
no-pairs number = ap (said number) (get-empty nat_cmp number)

-- what is kept of nothing
pub kept-nothing : (p : PresentValue) (i : Index) (k : Pairings) → p ≡ empty → held_now i ≡ nothing_held → held_settled i ≡ nothing_held
    → ((number : ℕ) → pairs_now k number ≡ no_pdus) → ((number : ℕ) → pairs_settled k number ≡ no_pdus)
    → HasNothingPending i → ((number : ℕ) → pairs_pending k number ≡ 0) → IsKept p i k
kept-nothing p i k none now settled pairs settled_pairs pending pending_pairs =
    subst (λ (q : PresentValue). IsKept q i k) (sym none)
    (kept-settled empty i k nothing_held now settled nothing-is-held nothing-is-said
    (λ number. pairs number ∙ sym (no-pairs number)) (λ number. settled_pairs number ∙ sym (no-pairs number))
    pending pending_pairs)

-- ---- the reply to a withdrawal

module _ (T : Type 0) (found : Option Session) (Made Unchanged : Type 0) where
  pub absent-reply : found ≡ None → Unchanged → IsReply {T = T} (no_session found) (Err NoSession) Made Unchanged
  absent-reply none same = subst (λ (o : Option Session). IsReply {T = T} (no_session o) (Err NoSession) Made Unchanged) (sym none) (refl, same)

  module _ (s : Session) (there : found ≡ Some s) where
    pub wanting-reply : Unchanged → IsReply {T = T} (no_session found) (Err Memory) Made Unchanged
    wanting-reply same = subst (λ (o : Option Session). IsReply {T = T} (no_session o) (Err Memory) Made Unchanged) (sym there) (refl, same)

    pub made-there : (x : T) → IsReplyInPlace {T = T} (no_session found) (Ok x) Made Unchanged → Made
    made-there x is = subst (λ (o : Option Session). IsReplyInPlace {T = T} (no_session o) (Ok x) Made Unchanged) there is

    pub not-refused : (e : Refusal) → IsReplyInPlace {T = T} (no_session found) (Err e) Made Unchanged → ⊥
    not-refused e is = subst (λ (o : Option Session). IsReplyInPlace {T = T} (no_session o) (Err e) Made Unchanged) there is
