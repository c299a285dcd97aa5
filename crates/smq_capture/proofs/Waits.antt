-- The rows of a side, as they are settled.
use Rattle.std.proofs.Common.{inl, inr, ◌≡◌, ◌≢◌, ◌⊎◌, ◌↔◌, Bool, true, false, ◌||◌, ℕ, zero, suc, ◌+◌, ◌-◌, ◌<◌, ◌≤◌, List, [], ◌∷◌, ◌++◌, length, take, drop, set, get_or, refl, sym, ap, subst, ◌∙◌, drop-cons, arith, length-append}
use Rattle.std.proofs.lemmas.List.{drop-drop, drop-set-lt, take_more, take_more_set, take_all, take-append-le, set_split, take-append-drop, get_or-drop, set-get_or}
use Rattle.std.proofs.lemmas.List.Sums.{sum_by-cons}
use Rattle.std.specs.List.{AllByRecursion, AllZip}
use Rattle.std.specs.Prelude.{IsTrue, Option, Some, None}
use Rattle.smq_capture.specs.declared.direction.Direction.{Direction}
use Rattle.smq_capture.specs.declared.side.Side.{Side}
use Rattle.smq_capture.specs.declared.side.Side.TheVariants.{Client, Centre}
use Rattle.smq_capture.specs.Rows.{AllDealt, AllSettle, AreInOrder, AreSettledTo, EndsIn, IsSettled, IsSettledTo, MayDeal, Row, Settles, SettlesBefore, SomeEndsIn, weight_in, weight_of}
use Rattle.smq_capture.specs.within.Runs.{IsDone}
use Rattle.smq_capture.specs.Sessions.{Goes}
use Rattle.smq_capture.proofs.Runs.{settle-later, settle-none}

all-append : (P : Row → Type 0) (xs ys : List Row) → AllByRecursion P xs → AllByRecursion P ys → AllByRecursion P (xs ++ ys)
all-append P [] ys h k = k
all-append P (x ∷ xs) ys h k = (h.0, all-append P xs ys h.1 k)

-- ---- which rows change

pub settle-all-none : (side : Side) (d : Direction) (rows : List Row) → AllSettle side d rows rows
settle-all-none side d [] = tt
settle-all-none side d (r ∷ rs) = (settle-none d r, λ _. refl, settle-all-none side d rs)

pub settle-at : (side : Side) (d : Direction) (rows now : List Row) (at : ℕ) (after e : Row) → AllSettle side d rows now
    → at < length rows → (get_or rows at e).sender ≡ side → Settles d (get_or rows at e) after
    → AllSettle side d rows (set now at after)
settle-at side d [] [] at after e h l s t = absurd (omega arith)
settle-at side d [] (u ∷ us) at after e h l s t = absurd h
settle-at side d (r ∷ rs) [] at after e h l s t = absurd h
settle-at side d (r ∷ rs) (u ∷ us) zero after e h l s t = (t, λ n. absurd (n s), h.2)
settle-at side d (r ∷ rs) (u ∷ us) (suc at) after e h l s t =
    let less : at < length rs = omega arith in
    (h.0, h.1, settle-at side d rs us at after e h.2 less s t)

pub settle-length : (side : Side) (d : Direction) (rows now : List Row) → AllSettle side d rows now → length now ≡ length rows
settle-length side d [] [] h = refl
settle-length side d [] (u ∷ us) h = absurd h
settle-length side d (r ∷ rs) [] h = absurd h
settle-length side d (r ∷ rs) (u ∷ us) h = ap (λ (n : ℕ). suc n) (settle-length side d rs us h.2)

-- ---- those that are done

abbrev IsDoneRow : Side → Row → Type 0
IsDoneRow side row = row.sender ≡ side → IsSettled row

pub done-more : (side : Side) (rows : List Row) (at : ℕ) (e : Row) → at < length rows
    → AllByRecursion (λ row. row.sender ≡ side → IsSettled row) (take at rows)
    → ((get_or rows at e).sender ≡ side → IsSettled (get_or rows at e))
    → AllByRecursion (λ row. row.sender ≡ side → IsSettled row) (take (at + 1) rows)
done-more side rows at e l h k =
    subst (λ (xs : List Row). AllByRecursion (IsDoneRow side) xs) (sym (take_more rows at e l))
    (all-append (IsDoneRow side) (take at rows) (get_or rows at e ∷ []) h (k, tt))

pub done-set : (side : Side) (rows : List Row) (at : ℕ) (after : Row) → at < length rows
    → AllByRecursion (λ row. row.sender ≡ side → IsSettled row) (take at rows) → IsSettled after
    → AllByRecursion (λ row. row.sender ≡ side → IsSettled row) (take (at + 1) (set rows at after))
done-set side rows at after l h k =
    subst (λ (xs : List Row). AllByRecursion (IsDoneRow side) xs) (sym (take_more_set rows at after l))
    (all-append (IsDoneRow side) (take at rows) (after ∷ []) h (λ _. k, tt))

pub done-push : (side : Side) (count : ℕ) (rows : List Row) (row : Row) → IsDone side count rows → IsDone side count (rows ++ row ∷ [])
done-push side count rows row d = record {
  within = omega (arith, d.within, length-append rows (row ∷ []));
  settled = subst (λ (xs : List Row). AllByRecursion (IsDoneRow side) xs) (sym (take-append-le count rows (row ∷ []) d.within)) d.settled;
}

less-done : (side : Side) (count : ℕ) (row : Row) (rows : List Row) → IsDone side count (row ∷ rows) → IsDone side (count - 1) rows
less-done side zero row rows d = record { within = omega arith; settled = tt }
less-done side (suc n) row rows d =
    let less : suc n - 1 ≡ n = omega arith in
    subst (λ (m : ℕ). IsDone side m rows) (sym less) (record { within = omega (arith, d.within); settled = d.settled.1 })

pub done-taken : (side : Side) (count : ℕ) (old new : List Row) (row : Row) → old ≡ row ∷ new → IsDone side count old
    → IsDone side (count - 1) new
done-taken side count old new row e d = less-done side count row new (subst (λ (xs : List Row). IsDone side count xs) e d)

-- ---- how far rows are settled

-- one that was settled to its end is settled to any place
settled-still : (until : Option ℕ) (row : Row) → IsSettled row → IsSettledTo until row row
settled-still None row h = h
settled-still (Some place) row h = omega arith

zip-same : (P : Row → Type 0) (R : Row → Row → Type 0) → ((r : Row) → P r → R r r) → (xs : List Row) → AllByRecursion P xs
    → AllZip R xs xs
zip-same P R f [] h = tt
zip-same P R f (x ∷ xs) h = (f x h.0, zip-same P R f xs h.1)

zip-append : (R : Row → Row → Type 0) (xs ys us vs : List Row) → AllZip R xs ys → AllZip R us vs → AllZip R (xs ++ us) (ys ++ vs)
zip-append R [] [] us vs h k = k
zip-append R [] (y ∷ ys) us vs h k = absurd h
zip-append R (x ∷ xs) [] us vs h k = absurd h
zip-append R (x ∷ xs) (y ∷ ys) us vs h k = (h.0, zip-append R xs ys us vs h.1 k)

zip-set : (R : Row → Row → Type 0) (rows now : List Row) (at : ℕ) (after e : Row) → AllZip R rows now → at < length rows
    → R (get_or rows at e) after → AllZip R rows (set now at after)
zip-set R [] now at after e h l k = absurd (omega arith)
zip-set R (r ∷ rs) [] at after e h l k = absurd h
zip-set R (r ∷ rs) (u ∷ us) zero after e h l k = (k, h.1)
zip-set R (r ∷ rs) (u ∷ us) (suc at) after e h l k =
    let less : at < length rs = omega arith in (h.0, zip-set R rs us at after e h.1 less k)

abbrev IsToRow : Option ℕ → Side → Row → Row → Type 0
IsToRow until side r t = r.sender ≡ side → IsSettledTo until r t

pub settled-none : (until : Option ℕ) (side : Side) (rows : List Row)
    → AllByRecursion (λ row. row.sender ≡ side → IsSettled row) rows → AreSettledTo until side rows rows
settled-none until side rows h = zip-same (IsDoneRow side) (IsToRow until side) (λ r k s. settled-still until r (k s)) rows h

-- those behind one of a side that isn't settled to its end
behind : (side : Side) (rows : List Row) (at : ℕ) (e : Row) → AreInOrder side rows → at < length rows
    → (get_or rows at e).sender ≡ side
    → AllByRecursion (λ row. row.sender ≡ side → (get_or rows at e).place + length (get_or rows at e).octets ≤ row.place)
    (drop (suc at) rows)
behind side [] at e o l s = absurd (omega arith)
behind side (r ∷ rs) zero e o l s = o.0 s
behind side (r ∷ rs) (suc at) e o l s =
    let less : at < length rs = omega arith in behind side rs at e o.1 less s

beyond : (until : Option ℕ) (row after other : Row) → after.octets ≡ row.octets → IsSettledTo until row after
    → length after.sessions < length after.octets → row.place + length row.octets ≤ other.place → IsSettledTo until other other
beyond None row after other o k w h =
    let same : length after.octets ≡ length row.octets = ap (λ (xs : List ℕ). length xs) o in absurd (omega (arith, k, w, same))
beyond (Some place) row after other o k w h =
    let same : length after.octets ≡ length row.octets = ap (λ (xs : List ℕ). length xs) o in omega (arith, k, same, w, h)

-- ---- the rows that weren't looked at

pub rest-more : (rows now : List Row) (at : ℕ) → drop at now ≡ drop at rows → drop (at + 1) now ≡ drop (at + 1) rows
rest-more rows now at h =
    sym (drop-drop 1 at now) ∙ ap (λ (xs : List Row). drop 1 xs) h ∙ drop-drop 1 at rows

pub rest-set : (rows now : List Row) (at : ℕ) (after : Row) → drop at now ≡ drop at rows
    → drop (at + 1) (set now at after) ≡ drop (at + 1) rows
rest-set rows now at after h =
    let less : at < at + 1 = omega arith in drop-set-lt (at + 1) now at after less ∙ rest-more rows now at h

same-at : (rows now : List Row) (at : ℕ) (e : Row) → drop at now ≡ drop at rows → get_or now at e ≡ get_or rows at e
same-at rows now at e h =
    let same : at ≡ at + 0 = omega arith in
    ap (λ (n : ℕ). get_or now n e) same ∙ sym (get_or-drop at now 0 e) ∙ ap (λ (xs : List Row). get_or xs 0 e) h
    ∙ get_or-drop at rows 0 e ∙ ap (λ (n : ℕ). get_or rows n e) (sym same)

-- ---- one row is settled further

pub set-same : (rows : List Row) (at : ℕ) (row : Row) → row ≡ get_or rows at row → set rows at row ≡ rows
set-same rows at row e = ap (λ (r : Row). set rows at r) e ∙ set-get_or rows at row

pub settle-step : (side : Side) (d b : Direction) (rows now : List Row) (at : ℕ) (row after : Row) → AllSettle side d rows now
    → drop at now ≡ drop at rows → at < length rows → row ≡ get_or now at row → row.sender ≡ side → Goes d b → Settles b row after
    → AllSettle side d rows (set now at after)
settle-step side d b rows now at row after h r l e s g t =
    let is : row ≡ get_or rows at row = e ∙ same-at rows now at row r in
    settle-at side d rows now at after row h l (ap (λ (x : Row). x.sender) (sym is) ∙ s)
    (subst (λ (x : Row). Settles d x after) is (settle-later d b row after g t))

pub settled-step : (until : Option ℕ) (side : Side) (rows now : List Row) (at : ℕ) (row after : Row)
    → AreSettledTo until side (take at rows) (take at now) → drop at now ≡ drop at rows → at < length rows → at < length now
    → row ≡ get_or now at row → (row.sender ≡ side → IsSettledTo until row after)
    → AreSettledTo until side (take (at + 1) rows) (take (at + 1) (set now at after))
settled-step until side rows now at row after h r l m e k =
    let is : row ≡ get_or rows at row = e ∙ same-at rows now at row r in
    subst (λ (xs : List Row). AreSettledTo until side xs (take (at + 1) (set now at after)))
    (ap (λ (x : Row). take at rows ++ x ∷ []) is ∙ sym (take_more rows at row l))
    (subst (λ (xs : List Row). AreSettledTo until side (take at rows ++ row ∷ []) xs) (sym (take_more_set now at after m))
    (zip-append (IsToRow until side) (take at rows) (take at now) (row ∷ []) (after ∷ []) h (k, tt)))

-- a row of the other side stays
pub settled-more : (until : Option ℕ) (side : Side) (rows now : List Row) (at : ℕ) (row : Row)
    → AreSettledTo until side (take at rows) (take at now) → drop at now ≡ drop at rows → at < length rows → at < length now
    → row ≡ get_or now at row → (row.sender ≡ side → ⊥) → AreSettledTo until side (take (at + 1) rows) (take (at + 1) now)
settled-more until side rows now at row h r l m e n =
    subst (λ (xs : List Row). AreSettledTo until side (take (at + 1) rows) (take (at + 1) xs)) (set-same now at row e)
    (settled-step until side rows now at row row h r l m e (λ s. absurd (n s)))

pub settled-last : (until : Option ℕ) (side : Side) (b : Direction) (rows now : List Row) (at : ℕ) (row after : Row)
    → AreSettledTo until side (take at rows) (take at now) → drop at now ≡ drop at rows → at < length rows → at < length now
    → row ≡ get_or now at row → row.sender ≡ side → Settles b row after → IsSettledTo until row after
    → length after.sessions < length after.octets → AreInOrder side rows → AreSettledTo until side rows (set now at after)
settled-last until side b rows now at row after h r l m e s t k w o =
    let is : row ≡ get_or rows at row = e ∙ same-at rows now at row r in
    let one : suc at ≡ at + 1 = omega arith in
    let rest : drop (suc at) now ≡ drop (suc at) rows =
    ap (λ (n : ℕ). drop n now) one ∙ rest-more rows now at r ∙ ap (λ (n : ℕ). drop n rows) (sym one) in
    let all : rows ≡ take at rows ++ row ∷ drop (suc at) rows =
    sym (take-append-drop at rows)
    ∙ ap (λ (xs : List Row). take at rows ++ xs) (drop-cons rows at row l)
    ∙ ap (λ (x : Row). take at rows ++ x ∷ drop (suc at) rows) (sym is) in
    let stay : AreSettledTo until side (drop (suc at) rows) (drop (suc at) rows) =
    zip-same (λ x. x.sender ≡ side → row.place + length row.octets ≤ x.place) (IsToRow until side)
    (λ x f u. beyond until row after x (ap (λ (x : Row). x.octets) t.after_is) k w (f u)) (drop (suc at) rows)
    (subst (λ (y : Row). AllByRecursion (λ x. x.sender ≡ side → y.place + length y.octets ≤ x.place) (drop (suc at) rows)) (sym is)
    (behind side rows at row o l (ap (λ (x : Row). x.sender) (sym is) ∙ s))) in
    subst (λ (xs : List Row). AreSettledTo until side xs (set now at after)) (sym all)
    (subst (λ (xs : List Row). AreSettledTo until side (take at rows ++ row ∷ drop (suc at) rows) xs)
    (sym (set_split now at after m ∙ ap (λ (xs : List Row). take at now ++ after ∷ xs) rest))
    (zip-append (IsToRow until side) (take at rows) (take at now) (row ∷ drop (suc at) rows) (after ∷ drop (suc at) rows) h
    (λ _. k, stay)))

-- where all are to be settled, none waits
pub none-waits : (until : Option ℕ) (b : Direction) (row after : Row) → Settles b row after → IsSettledTo until row after
    → length after.sessions < length after.octets → until ≡ None → ⊥
none-waits None b row after t k w e =
    let same : length after.octets ≡ length row.octets = ap (λ (x : Row). length x.octets) t.after_is in omega (arith, k, w, same)
none-waits (Some place) b row after t k w e = absurd (cc)

pub settled-all : (until : Option ℕ) (side : Side) (rows now : List Row) (at : ℕ)
    → AreSettledTo until side (take at rows) (take at now) → length rows ≤ at → length now ≤ at → AreSettledTo until side rows now
settled-all until side rows now at h l m =
    subst (λ (xs : List Row). AreSettledTo until side xs now) (take_all at rows l)
    (subst (λ (xs : List Row). AreSettledTo until side (take at rows) xs) (take_all at now m) h)

-- ---- none behind the place

pub before-none : (place : ℕ) (rows : List Row) → AllZip (SettlesBefore place) rows rows
before-none place [] = tt
before-none place (r ∷ rs) = (omega arith, before-none place rs)

pub before-step : (place : ℕ) (rows now : List Row) (at : ℕ) (row after : Row) → AllZip (SettlesBefore place) rows now
    → drop at now ≡ drop at rows → at < length rows → row ≡ get_or now at row → SettlesBefore place row after
    → AllZip (SettlesBefore place) rows (set now at after)
before-step place rows now at row after h r l e k =
    let is : row ≡ get_or rows at row = e ∙ same-at rows now at row r in
    zip-set (SettlesBefore place) rows now at after row h l (subst (λ (x : Row). SettlesBefore place x after) is k)

-- ---- whether some of a session were settled

pub ends-none : (s : ℕ) (rows : List Row) → SomeEndsIn s rows rows → ⊥
ends-none s [] h = h
ends-none s (r ∷ rs) (inl e) = omega (arith, e.0)
ends-none s (r ∷ rs) (inr h) = ends-none s rs h

ends-set : (s : ℕ) (rows now : List Row) (at : ℕ) (after e : Row) → at < length rows → SomeEndsIn s rows (set now at after)
    → SomeEndsIn s rows now ⊎ EndsIn s (get_or rows at e) after
ends-set s [] now at after e l h = absurd (omega arith)
ends-set s (r ∷ rs) [] at after e l h = absurd h
ends-set s (r ∷ rs) (u ∷ us) zero after e l (inl h) = inr h
ends-set s (r ∷ rs) (u ∷ us) zero after e l (inr h) = inl (inr h)
ends-set s (r ∷ rs) (u ∷ us) (suc at) after e l (inl h) = inl (inl h)
ends-set s (r ∷ rs) (u ∷ us) (suc at) after e l (inr h) =
    let less : at < length rs = omega arith in
    elim (ends-set s rs us at after e less h) [ inl a ↦ inl (inr a) | inr b ↦ inr b ]

ends-before : (s : ℕ) (rows now : List Row) (at : ℕ) (after e : Row) → at < length rows → get_or now at e ≡ get_or rows at e
    → SomeEndsIn s rows now → SomeEndsIn s rows (set now at after)
ends-before s [] now at after e l g h = absurd (omega arith)
ends-before s (r ∷ rs) [] at after e l g h = absurd h
ends-before s (r ∷ rs) (u ∷ us) zero after e l g (inl h) =
    let same : length u.sessions ≡ length r.sessions = ap (λ (x : Row). length x.sessions) g in absurd (omega (arith, same, h.0))
ends-before s (r ∷ rs) (u ∷ us) zero after e l g (inr h) = inr h
ends-before s (r ∷ rs) (u ∷ us) (suc at) after e l g (inl h) = inl h
ends-before s (r ∷ rs) (u ∷ us) (suc at) after e l g (inr h) =
    let less : at < length rs = omega arith in inr (ends-before s rs us at after e less g h)

ends-here : (s : ℕ) (rows now : List Row) (at : ℕ) (after e : Row) → at < length rows → at < length now
    → EndsIn s (get_or rows at e) after → SomeEndsIn s rows (set now at after)
ends-here s [] now at after e l m h = absurd (omega arith)
ends-here s (r ∷ rs) [] at after e l m h = absurd (omega arith)
ends-here s (r ∷ rs) (u ∷ us) zero after e l m h = inl h
ends-here s (r ∷ rs) (u ∷ us) (suc at) after e l m h =
    let less : at < length rs = omega arith in
    let few : at < length us = omega arith in inr (ends-here s rs us at after e less few h)

pub ends-step : (s : ℕ) (rows now : List Row) (at : ℕ) (row after : Row) (was one : Bool) → (IsTrue was ↔ SomeEndsIn s rows now)
    → drop at now ≡ drop at rows → at < length rows → at < length now → row ≡ get_or now at row → (IsTrue one ↔ EndsIn s row after)
    → IsTrue (was || one) ↔ SomeEndsIn s rows (set now at after)
ends-step s rows now at row after true one h r l m e k =
    (λ _. ends-before s rows now at after row l (same-at rows now at row r) (h.0 refl), λ _. refl)
ends-step s rows now at row after false true h r l m e k =
    let is : row ≡ get_or rows at row = e ∙ same-at rows now at row r in
    (λ _. ends-here s rows now at after row l m (subst (λ (x : Row). EndsIn s x after) is (k.0 refl)), λ _. refl)
ends-step s rows now at row after false false h r l m e k =
    let is : row ≡ get_or rows at row = e ∙ same-at rows now at row r in (
      λ t. absurd (cc),
      λ n. elim (ends-set s rows now at after row l n) [
        | inl a ↦ h.1 a
        | inr b ↦ k.1 (subst (λ (x : Row). EndsIn s x after) (sym is) b)
      ],
    )

-- ---- what rows take

pub weight-settled : (side : Side) (d : Direction) (rows now : List Row) → AllSettle side d rows now → weight_in now ≡ weight_in rows
weight-settled side d [] [] h = refl
weight-settled side d [] (u ∷ us) h = absurd h
weight-settled side d (r ∷ rs) [] h = absurd h
weight-settled side d (r ∷ rs) (u ∷ us) h =
    sum_by-cons weight_of u us ∙ ap (λ (x : Row). weight_of x + weight_in us) h.0.after_is
    ∙ ap (λ (n : ℕ). weight_of r + n) (weight-settled side d rs us h.2) ∙ sym (sum_by-cons weight_of r rs)

pub weight-taken : (old new : List Row) (row : Row) (weight one : ℕ) → old ≡ row ∷ new → weight ≡ weight_in old
    → one ≡ weight_of row → weight - one ≡ weight_in new
weight-taken old new row weight one e w o =
    let all : weight_in old ≡ weight_of row + weight_in new =
    ap (λ (xs : List Row). weight_in xs) e ∙ sum_by-cons weight_of row new in omega (arith, all, w, o)

-- ---- the rows that need no look, once others were settled

done-kept : (side : Side) (n : ℕ) (rows now : List Row) → length now ≡ length rows → take n now ≡ take n rows
    → IsDone side n rows → IsDone side n now
done-kept side n rows now l e d = record {
  within = omega (arith, d.within, l);
  settled = subst (λ (xs : List Row). AllByRecursion (IsDoneRow side) xs) (sym e) d.settled;
}

other-row : (side other : Side) (d : Direction) (row after : Row) → other ≢ side → Settles d row after → (row.sender ≢ side → after ≡ row)
    → (row.sender ≡ other → IsSettled row) → after.sender ≡ other → IsSettled after
other-row side other d row after o t h k s =
    let e : row.sender ≡ other = ap (λ (x : Row). x.sender) (sym t.after_is) ∙ s in
    let same : after ≡ row = h (λ f. o (sym e ∙ f)) in subst (λ (x : Row). IsSettled x) (sym same) (k e)

others-done : (side other : Side) (d : Direction) (n : ℕ) (rows now : List Row) → other ≢ side → AllSettle side d rows now
    → AllByRecursion (λ row. row.sender ≡ other → IsSettled row) (take n rows)
    → AllByRecursion (λ row. row.sender ≡ other → IsSettled row) (take n now)
others-done side other d zero [] [] o h k = k
others-done side other d zero [] (u ∷ us) o h k = absurd h
others-done side other d zero (r ∷ rs) [] o h k = absurd h
others-done side other d zero (r ∷ rs) (u ∷ us) o h k = k
others-done side other d (suc n) [] [] o h k = k
others-done side other d (suc n) [] (u ∷ us) o h k = absurd h
others-done side other d (suc n) (r ∷ rs) [] o h k = absurd h
others-done side other d (suc n) (r ∷ rs) (u ∷ us) o h k = (
  λ s. other-row side other d r u o h.0 h.1 k.0 s,
  others-done side other d n rs us o h.2 k.1,
)

done-other : (side other : Side) (d : Direction) (n : ℕ) (rows now : List Row) → other ≢ side → AllSettle side d rows now
    → IsDone other n rows → IsDone other n now
done-other side other d n rows now o h k = record {
  within = omega (arith, k.within, settle-length side d rows now h);
  settled = others-done side other d n rows now o h k.settled;
}

-- both counts, where one side was settled
pub still-client : (side : Side) (d : Direction) (rows now : List Row) (m n : ℕ) → side ≡ Client → AllSettle side d rows now
    → take m now ≡ take m rows → IsDone Client m rows × IsDone Centre n rows → IsDone Client m now × IsDone Centre n now
still-client side d rows now m n e h k p = (
  done-kept Client m rows now (settle-length side d rows now h) k p.0,
  done-other side Centre d n rows now (λ f. let g : Centre ≡ Client = f ∙ e in absurd (cc)) h p.1,
)

pub still-centre : (side : Side) (d : Direction) (rows now : List Row) (m n : ℕ) → side ≡ Centre → AllSettle side d rows now
    → take n now ≡ take n rows → IsDone Client m rows × IsDone Centre n rows → IsDone Client m now × IsDone Centre n now
still-centre side d rows now m n e h k p = (
  done-other side Client d m rows now (λ f. let g : Client ≡ Centre = f ∙ e in absurd (cc)) h p.0,
  done-kept Centre n rows now (settle-length side d rows now h) k p.1,
)

pub now-client : (side : Side) (d : Direction) (rows now : List Row) (m n k : ℕ) → side ≡ Client → AllSettle side d rows now
    → IsDone side k now → IsDone Client m rows × IsDone Centre n rows → IsDone Client k now × IsDone Centre n now
now-client side d rows now m n k e h t p = (
  subst (λ (x : Side). IsDone x k now) e t,
  done-other side Centre d n rows now (λ f. let g : Centre ≡ Client = f ∙ e in absurd (cc)) h p.1,
)

pub now-centre : (side : Side) (d : Direction) (rows now : List Row) (m n k : ℕ) → side ≡ Centre → AllSettle side d rows now
    → IsDone side k now → IsDone Client m rows × IsDone Centre n rows → IsDone Client m now × IsDone Centre k now
now-centre side d rows now m n k e h t p = (
  done-other side Client d m rows now (λ f. let g : Client ≡ Centre = f ∙ e in absurd (cc)) h p.0,
  subst (λ (x : Side). IsDone x k now) e t,
)

-- ---- octets as they are dealt, row by row

dealt-append : (side : Side) (a b c : Direction) (rows now others then : List Row) → AllDealt side a b rows now
    → AllDealt side b c others then → AllDealt side a c (rows ++ others) (now ++ then)
dealt-append side a b c [] [] others then h k = subst (λ (x : Direction). AllDealt side x c others then) h k
dealt-append side a b c [] (u ∷ us) others then h k = absurd h
dealt-append side a b c (r ∷ rs) [] others then h k = absurd h
dealt-append side a b c (r ∷ rs) (u ∷ us) others then h k = (h.0, h.1, h.2, dealt-append side h.0 b c rs us others then h.3 k)

pub dealt-none : (side : Side) (d : Direction) (rows : List Row) → AllDealt side d d rows rows
dealt-none side d [] = refl
dealt-none side d (r ∷ rs) = (d, inl (refl, refl), λ _. refl, dealt-none side d rs)

dealt-at : (side : Side) (a b c : Direction) (rows now : List Row) (at : ℕ) (before after : Row) (rest : List Row)
    → AllDealt side a b (take at rows) (take at now) → before.sender ≡ side → MayDeal b c before after
    → AllDealt side a c (take at rows ++ before ∷ rest) (take at now ++ after ∷ rest)
dealt-at side a b c rows now at before after rest h s k =
    dealt-append side a b c (take at rows) (take at now) (before ∷ rest) (after ∷ rest) h
    (c, k, λ n. absurd (n s), dealt-none side c rest)

pub dealt-step : (side : Side) (a b c : Direction) (rows now : List Row) (at : ℕ) (row after : Row)
    → AllDealt side a b (take at rows) (take at now) → drop at now ≡ drop at rows → at < length rows → at < length now
    → row ≡ get_or now at row → row.sender ≡ side → MayDeal b c row after
    → AllDealt side a c (take (at + 1) rows) (take (at + 1) (set now at after))
dealt-step side a b c rows now at row after h r l m e s k =
    let is : row ≡ get_or rows at row = e ∙ same-at rows now at row r in
    subst (λ (xs : List Row). AllDealt side a c xs (take (at + 1) (set now at after)))
    (ap (λ (x : Row). take at rows ++ x ∷ []) is ∙ sym (take_more rows at row l))
    (subst (λ (xs : List Row). AllDealt side a c (take at rows ++ row ∷ []) xs) (sym (take_more_set now at after m))
    (dealt-at side a b c rows now at row after [] h s k))

pub dealt-more : (side : Side) (a b : Direction) (rows now : List Row) (at : ℕ) (row : Row)
    → AllDealt side a b (take at rows) (take at now) → drop at now ≡ drop at rows → at < length rows → at < length now
    → AllDealt side a b (take (at + 1) rows) (take (at + 1) now)
dealt-more side a b rows now at row h r l m =
    let same : get_or now at row ≡ get_or rows at row = same-at rows now at row r in
    subst (λ (xs : List Row). AllDealt side a b xs (take (at + 1) now))
    (ap (λ (x : Row). take at rows ++ x ∷ []) same ∙ sym (take_more rows at row l))
    (subst (λ (xs : List Row). AllDealt side a b (take at rows ++ get_or now at row ∷ []) xs) (sym (take_more now at row m))
    (dealt-append side a b b (take at rows) (take at now) (get_or now at row ∷ []) (get_or now at row ∷ []) h
    (dealt-none side b (get_or now at row ∷ []))))

pub dealt-last : (side : Side) (a b c : Direction) (rows now : List Row) (at : ℕ) (row after : Row)
    → AllDealt side a b (take at rows) (take at now) → drop at now ≡ drop at rows → at < length rows → at < length now
    → row ≡ get_or now at row → row.sender ≡ side → MayDeal b c row after → AllDealt side a c rows (set now at after)
dealt-last side a b c rows now at row after h r l m e s k =
    let is : row ≡ get_or rows at row = e ∙ same-at rows now at row r in
    let one : suc at ≡ at + 1 = omega arith in
    let rest : drop (suc at) now ≡ drop (suc at) rows =
    ap (λ (n : ℕ). drop n now) one ∙ rest-more rows now at r ∙ ap (λ (n : ℕ). drop n rows) (sym one) in
    let all : rows ≡ take at rows ++ row ∷ drop (suc at) rows =
    sym (take-append-drop at rows)
    ∙ ap (λ (xs : List Row). take at rows ++ xs) (drop-cons rows at row l)
    ∙ ap (λ (x : Row). take at rows ++ x ∷ drop (suc at) rows) (sym is) in
    subst (λ (xs : List Row). AllDealt side a c xs (set now at after)) (sym all)
    (subst (λ (xs : List Row). AllDealt side a c (take at rows ++ row ∷ drop (suc at) rows) xs)
    (sym (set_split now at after m ∙ ap (λ (xs : List Row). take at now ++ after ∷ xs) rest))
    (dealt-at side a b c rows now at row after (drop (suc at) rows) h s k))

pub dealt-all : (side : Side) (a b : Direction) (rows now : List Row) (at : ℕ) → AllDealt side a b (take at rows) (take at now)
    → length rows ≤ at → length now ≤ at → AllDealt side a b rows now
dealt-all side a b rows now at h l m =
    subst (λ (xs : List Row). AllDealt side a b xs now) (take_all at rows l)
    (subst (λ (xs : List Row). AllDealt side a b (take at rows) xs) (take_all at now m) h)
