-- Rows that are played, one at a time.
use Rattle.std.proofs.Common.{◌≡◌, ℕ, suc, List, [], ◌∷◌, ◌++◌, Option, Some, None, Result, Ok, Err, refl, sym, ap, ◌∙◌, append_assoc}
use Rattle.std.proofs.lemmas.List.Sums.{fold-append}
use Rattle.std.specs.Prelude.{◌≢◌, IfOk}
use Rattle.smq_kit.specs.declared.refusal.Refusal.{Refusal}
use Rattle.smq_kit.specs.declared.refusal.Refusal.TheVariants.{Memory}
use Rattle.smq_kit.specs.Replies.{IsReply}
use Rattle.smq_present.specs.declared.present.edit.Edit.{Edit}
use Rattle.smq_present.specs.present.Present.{PresentValue}
use Rattle.smq_present.specs.present.Replies.{reply}
use Rattle.smq_present.specs.present.Steps.{step, step_unless, steps}
use Rattle.smq_load.specs.declared.record.Row.{Row}
use Rattle.smq_engine.specs.Play.{after_row, after_rows, edits_from, refusal_of, refused_from, row_edits, told}

refused_by : (T : Type 0) (o : Option Refusal) (e : Refusal) (p new : PresentValue) (edit : Edit)
    → IsReply {T = T} o (Err e) (new ≡ step_unless o p edit) (new ≡ p)
    → (refusal : Option Refusal) → refusal ≡ Some e → e ≢ Memory → (refusal ≡ o) × (new ≡ step_unless o p edit)
refused_by T None e p new edit a refusal is other = absurd (other a.0)
refused_by T (Some r) e p new edit a refusal is other = (is ∙ ap Some a.0, a.1)

-- an edit that answers something else than lack of memory answers its refusal
pub refused_edit : (T : Type 0) {E : Type 0} (e : Refusal) (p new : PresentValue) (edit : Edit) (r : Result (Option Refusal) E)
    → IsReply {T = T} (reply p edit) (Err e) (new ≡ step p edit) (new ≡ p)
    → IfOk r (λ noted. (noted ≡ Some e) × (e ≢ Memory)) → IfOk r (λ refusal. (refusal ≡ reply p edit) × (new ≡ step p edit))
refused_edit T e p new edit (Ok noted) a h = refused_by T (reply p edit) e p new edit a noted h.0 h.1
refused_edit T e p new edit (Err f) a h = tt

made_by : (T : Type 0) (x : T) (o : Option Refusal) (p new : PresentValue) (edit : Edit)
    → IsReply {T = T} o (Ok x) (new ≡ step_unless o p edit) (new ≡ p)
    → (None ≡ o) × (new ≡ step_unless o p edit)
made_by T x None p new edit a = (refl, a)
made_by T x (Some r) p new edit a = absurd a

-- an edit that is made has no refusal
pub made_edit : (T : Type 0) (x : T) (p new : PresentValue) (edit : Edit) → IsReply {T = T} (reply p edit) (Ok x) (new ≡ step p edit) (new ≡ p)
    → (None ≡ reply p edit) × (new ≡ step p edit)
made_edit T x p new edit a = made_by T x (reply p edit) p new edit a

-- one more row is played
pub present-step : (p : PresentValue) (row : Row) (left rows : List Row) (new all : PresentValue) → rows ≡ row ∷ left → new ≡ after_row p row
    → steps p (edits_from p rows) ≡ all → steps new (edits_from new left) ≡ all
present-step p row left rows new all e made h =
    rw made (sym (fold-append step p (row_edits p row) (edits_from (after_row p row) left)))
    ∙ ap (λ (rs : List Row). steps p (edits_from p rs)) (sym e) ∙ h

pub refused-step : (p : PresentValue) (row : Row) (left rows : List Row) (new : PresentValue) (n m : ℕ)
    (old noted all : List (ℕ × Refusal)) → rows ≡ row ∷ left → new ≡ after_row p row
    → m ≡ suc n → noted ≡ old ++ told m (refusal_of p row) → old ++ refused_from (suc n) p rows ≡ all → noted ++ refused_from (suc m) new left ≡ all
refused-step p row left rows new n m old noted all e made next told_is h =
    rw (told_is, made, next) (append_assoc old (told (suc n) (refusal_of p row)) (refused_from (suc (suc n)) (after_row p row) left))
    ∙ ap (λ (rs : List Row). old ++ refused_from (suc n) p rs) (sym e) ∙ h

-- the edits of rows and of more rows after them
edits-append : (p : PresentValue) (rows more : List Row) → edits_from p (rows ++ more) ≡ edits_from p rows ++ edits_from (after_rows p rows) more
edits-append p [] more = refl
edits-append p (row ∷ rows) more =
    let next = after_row p row in
    ap (λ es. row_edits p row ++ es) (edits-append next rows more)
    ∙ sym (append_assoc (row_edits p row) (edits_from next rows) (edits_from (after_rows next rows) more))
    ∙ ap (λ q. (row_edits p row ++ edits_from next rows) ++ edits_from q more) (sym (fold-append step p (row_edits p row) (edits_from next rows)))

-- rows, and then more rows on what those leave present, leave what all of them leave
pub rows-then : (p : PresentValue) (rows more : List Row) → after_rows (after_rows p rows) more ≡ steps p (edits_from p (rows ++ more))
rows-then p rows more =
    sym (fold-append step p (edits_from p rows) (edits_from (after_rows p rows) more)) ∙ ap (steps p) (sym (edits-append p rows more))

-- what is present after rows, and then after more rows, is what the edits of all of them leave
pub rows-played : (p q r : PresentValue) (rows more : List Row) → q ≡ after_rows p rows → r ≡ after_rows q more
    → r ≡ steps p (edits_from p (rows ++ more))
rows-played p q r rows more first then = then ∙ ap (λ present. after_rows present more) first ∙ rows-then p rows more
