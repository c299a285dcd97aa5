-- A clock that lapses no message is never refused for lack of memory.
use Rattle.std.proofs.Common.{◌≡◌, ◌≤◌, ℕ, List, [], ◌∷◌, length, Option, Some, None, Result, Err, refl, sym, ap, subst, ◌∙◌, arith}
use Rattle.std.specs.FinMap.{keys}
use Rattle.smq_kit.specs.declared.refusal.Refusal.{Refusal}
use Rattle.smq_kit.specs.declared.refusal.Refusal.TheVariants.{Memory}
use Rattle.smq_kit.specs.Replies.{IsReply}
use Rattle.smq_present.specs.declared.present.edit.Edit.{Edit}
use Rattle.smq_present.specs.declared.present.edit.Edit.TheVariants.{Advance}
use Rattle.smq_book.specs.edits.Reach.{reach}
use Rattle.smq_book.specs.edits.Reached.{due_by}
use Rattle.smq_present.specs.pairing.Traffic.{TrafficValue, traffic_of}
use Rattle.smq_present.specs.present.Present.{PresentValue}
use Rattle.smq_present.specs.present.Replies.{reply}
use Rattle.smq_book.proofs.lemmas.edits.ReachBounds.{due-number}
use Rattle.smq_present.proofs.lemmas.present.Replied.{replies_of_edits}

no_items : {A : Type 0} (xs : List A) → length xs ≡ 0 → xs ≡ []
no_items [] e = refl
no_items (x ∷ xs) e = absurd (omega (arith, e))

-- the clock of an edit, if it is one of the clock
abbrev pub clock_of : Edit → Option ℕ
clock_of (Advance clock) = Some clock
clock_of _ = None

pub another : (A : Type 0) (edit : Edit) (clock : ℕ) → clock_of edit ≡ None → edit ≡ Advance clock → A
another A edit clock none is = by (sym none ∙ ap clock_of is)
  where
    by : None ≡ Some clock → A
    by e = absurd cc

pub unreached : (p : PresentValue) (t : TrafficValue) (clock : ℕ) (result : Result (Unit {0}) Refusal) (Made Unchanged : Type 0) → t ≡ traffic_of p.sessions
    → IsReply (reply p (Advance clock)) result Made Unchanged → (keys (due_by p.settings t clock) ≡ [] → result ≡ Err Memory → ⊥)
    → reach p (Advance clock) ≡ 0 → result ≡ Err Memory → ⊥
unreached p t clock result Made Unchanged are is never few wanting = by (reply p (Advance clock)) refl
  where
    by : (o : Option Refusal) → reply p (Advance clock) ≡ o → ⊥
    by None none =
        never (ap (λ (u : TrafficValue). keys (due_by p.settings u clock)) are
        ∙ no_items (keys (due_by p.settings (traffic_of p.sessions) clock)) (due-number p clock none ∙ few)) wanting
    by (Some r) some =
        let told : IsReply {T = Unit {0}} (Some r) (Err Memory) Made Unchanged =
        subst (λ (o : Option Refusal). IsReply {T = Unit {0}} o (Err Memory) Made Unchanged) some
        (subst (λ (x : Result (Unit {0}) Refusal). IsReply (reply p (Advance clock)) x Made Unchanged) wanting is) in
        let many : 13 ≤ 11 = (replies_of_edits p (Advance clock) Memory (some ∙ ap Some (sym told.0))).1 in
        absurd (omega (arith, many))
