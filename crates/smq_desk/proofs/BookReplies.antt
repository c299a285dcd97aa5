-- What a book replies to an edit, and what is kept of it.
use Rattle.std.proofs.Common.{◌≡◌, ℕ, Bool, true, false, List, [], ◌∷◌, ◌++◌, Option, Some, None, Ok, Err, inl, inr, refl, sym, ap, ◌∙◌, subst, arith}
use Rattle.std.proofs.lemmas.Bool.{ne_eqb}
use Rattle.std.specs.Prelude.{◌≢◌, ◌==◌, IfSome, IfNone, ◌⊎◌, MatchBool}
use Rattle.smq_kit.specs.declared.refusal.Refusal.{Refusal}
use Rattle.smq_kit.specs.declared.refusal.Refusal.TheVariants.{Memory, HistoryFull}
use Rattle.smq_kit.specs.Refusals.{number_of}
use Rattle.smq_kit.specs.Replies.{IsReply}
use Rattle.smq_present.specs.declared.present.edit.Edit.{Edit}
use Rattle.smq_present.specs.present.Present.{PresentValue}
use Rattle.smq_present.specs.present.Replies.{IsOfEdits, reply}
use Rattle.smq_present.specs.present.Steps.{step, step_unless}
use Rattle.smq_present.proofs.lemmas.present.Replied.{replies_of_edits}
use Rattle.smq_desk.specs.declared.entry.Call.{Call}
use Rattle.smq_desk.specs.declared.entry.Reply.{Reply}
use Rattle.smq_desk.specs.declared.entry.Reply.TheVariants.{Done, Refused}
use Rattle.smq_desk.specs.History.{reply_by, reply_to}
use Rattle.smq_desk.specs.Seats.{SeatValue, call_of, with_call, is_own, IsRefused}

made_by : (T : Type 0) (x : T) (o : Option Refusal) (p new : PresentValue) (edit : Edit)
    → IsReply {T = T} o (Ok x) (new ≡ step_unless o p edit) (new ≡ p) → (Done ≡ reply_by o) × (new ≡ step_unless o p edit)
made_by T x None p new edit a = (refl, a)
made_by T x (Some r) p new edit a = absurd a

-- an edit that is made is replied to so
pub made : (T : Type 0) (x : T) (p new : PresentValue) (edit : Edit)
    → IsReply {T = T} (reply p edit) (Ok x) (new ≡ step p edit) (new ≡ p) → (Done ≡ reply_to p edit) × (new ≡ step p edit)
made T x p new edit a = made_by T x (reply p edit) p new edit a

refused_by : (T : Type 0) (e : Refusal) (o : Option Refusal) (p new : PresentValue) (edit : Edit)
    → IsReply {T = T} o (Err e) (new ≡ step_unless o p edit) (new ≡ p)
    → (t : Reply) → t ≡ Refused e → e ≢ Memory → (t ≡ reply_by o) × (new ≡ step_unless o p edit)
refused_by T e None p new edit a t is other = absurd (other a.0)
refused_by T e (Some r) p new edit a t is other = (is ∙ ap (λ (x : Refusal). Refused x) a.0, a.1)

left_by : (T : Type 0) (e : Refusal) (o : Option Refusal) (p new : PresentValue) (edit : Edit)
    → IsReply {T = T} o (Err e) (new ≡ step_unless o p edit) (new ≡ p) → new ≡ p
left_by T e None p new edit a = a.1
left_by T e (Some r) p new edit a = a.1

-- an edit that is refused otherwise than for lack of memory is replied to so, and lack of memory changes nothing
pub refused : (T : Type 0) (e : Refusal) (p new : PresentValue) (edit : Edit)
    → IsReply {T = T} (reply p edit) (Err e) (new ≡ step p edit) (new ≡ p)
    → (told : Option Reply) → IfSome told (λ t. (t ≡ Refused e) × (e ≢ Memory))
    → IfSome told (λ t. (t ≡ reply_to p edit) × (new ≡ step p edit)) × IfNone told (new ≡ p)
refused T e p new edit a None h = (tt, left_by T e (reply p edit) p new edit a)
refused T e p new edit a (Some t) h = (refused_by T e (reply p edit) p new edit a t h.0 h.1, tt)

-- ---- a book never replies with what the ledger alone refuses

not_own : (r : Refusal) → IsOfEdits r → is_own r ≡ false
not_own r h =
    let full : (number_of r == number_of HistoryFull) ≡ false = ne_eqb (number_of r) 12 (λ e. omega (arith, h.1, e)) in
    let memory : (number_of r == number_of Memory) ≡ false = ne_eqb (number_of r) 13 (λ e. omega (arith, h.1, e)) in
    rw (full, memory) refl

others_by : (o : Option Refusal) (r : Refusal) → ((q : Refusal) → o ≡ Some q → IsOfEdits q) → reply_by o ≡ Refused r → is_own r ≡ false
others_by None r h e = absurd cc
others_by (Some x) r h e = let same : x ≡ r = cc in subst (λ (y : Refusal). is_own y ≡ false) same (not_own x (h x refl))

reply_is_not_own : (p : PresentValue) (edit : Edit) (r : Refusal) → reply_to p edit ≡ Refused r → is_own r ≡ false
reply_is_not_own p edit r e = others_by (reply p edit) r (replies_of_edits p edit) e

refusal_is_own : (r : Refusal) → (r ≡ HistoryFull) ⊎ (r ≡ Memory) → is_own r ≡ true
refusal_is_own r (inl e) = rw e refl
refusal_is_own r (inr e) = rw e refl

-- ---- what a refusal leaves of a seat

by_test : (b t : Bool) (P Q : Type 0) → b ≡ t → MatchBool t P Q → MatchBool b P Q
by_test b t P Q e h = subst (λ (x : Bool). MatchBool x P Q) (sym e) h

pub left_alone : (old new : SeatValue) (edit : Edit) (r : Refusal) → (r ≡ HistoryFull) ⊎ (r ≡ Memory) → new ≡ old
    → IsRefused old new edit r
left_alone old new edit r own same = by_test (is_own r) true _ _ (refusal_is_own r own) same

abbrev pub seat_of : ℕ → List Call → SeatValue
seat_of number calls = record { number = number; calls = calls }

put : (number : ℕ) (calls new : List Call) (old : SeatValue) (call : Call) → new ≡ calls ++ call ∷ []
    → seat_of number calls ≡ old → seat_of number new ≡ with_call old call
put number calls new old call more is = ap (seat_of number) more ∙ ap (λ (s : SeatValue). with_call s call) is

-- a refusal of the book is a call, too
pub called : (p : PresentValue) (old : SeatValue) (number : ℕ) (calls new : List Call) (edit theirs : Edit) (answer : Reply)
    (refusal : Option Refusal) (r : Refusal) (n : ℕ)
    → theirs ≡ edit → answer ≡ reply_to p theirs → answer ≡ reply_by refusal → refusal ≡ Some r
    → new ≡ calls ++ call_of n edit answer ∷ [] → seat_of number calls ≡ old → IsRefused old (seat_of number new) edit r
called p old number calls new edit theirs answer refusal r n same given by is more seat =
    let told : answer ≡ Refused r = by ∙ ap reply_by is in
    let asked : reply_to p edit ≡ Refused r = ap (reply_to p) (sym same) ∙ sym given ∙ told in
    by_test (is_own r) false _ _ (reply_is_not_own p edit r asked)
    (n, put number calls new old (call_of n edit answer) more seat ∙ ap (λ (x : Reply). with_call old (call_of n edit x)) told)
