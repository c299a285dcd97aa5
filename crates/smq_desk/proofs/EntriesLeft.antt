-- Walks over the entries of a history: what was seen, and what is left.
use Rattle.std.proofs.Common.{◌≡◌, ℕ, ◌+◌, ◌<◌, ◌≤◌, List, [], ◌∷◌, ◌++◌, length, drop, get_or, refl, sym, ◌∙◌, ap, arith, append_assoc}
use Rattle.std.proofs.lemmas.List.{drop_more, length-drop, append_cancel_left}
use Rattle.std.specs.Iterator.{YieldsFirstRef}
use Rattle.std.proofs.iter.runs.Sources.{from_front}
use Rattle.smq_desk.specs.declared.entry.Entry.{Entry}
use Rattle.smq_desk.specs.History.{StartsWith, EntriesComeInOrder}

pub in_order : EntriesComeInOrder
in_order p s = from_front (YieldsFirstRef {A = Entry} (λ left. left)) (λ x. x.now) (λ left. left) (λ s t h. ap length h.0) (λ s x t h. h) p s

-- the next element, and what is left after it
pub next_of : {X : Type 0} (xs left more : List X) (i : ℕ) (x : X) → left ≡ drop i xs → left ≡ x ∷ more → (i < length xs) × (x ≡ get_or xs i x) × (more ≡ drop (i + 1) xs)
next_of {X} xs left more i x at is =
    let long = length-drop i xs in
    let one = ap length (sym at ∙ is) in
    let lt : i < length xs = omega arith in
    let split : drop i xs ≡ get_or xs i x ∷ drop (i + 1) xs = drop_more xs i x lt in
    let both : x ∷ more ≡ get_or xs i x ∷ drop (i + 1) xs = sym is ∙ at ∙ split in
    (lt, cc, cc)

-- where none is left
pub none_of : {X : Type 0} (xs left : List X) (i : ℕ) → left ≡ drop i xs → left ≡ [] → length xs ≤ i
none_of {X} xs left i at is =
    let none : length {A = X} [] ≡ 0 = refl in
    let long = length-drop i xs in
    let same = ap length (sym at ∙ is) in
    omega arith

-- two lists that were seen to begin alike, and what is left of both
pub record BeginAlike (these left those others : List Entry) : Type 0 where
  pub seen : List Entry
  pub first : these ≡ seen ++ left
  pub second : those ≡ seen ++ others

pub alike_next : (these left left' those others others' : List Entry) (e d : Entry) → left ≡ e ∷ left' → others ≡ d ∷ others' → e ≡ d
    → BeginAlike these left those others → BeginAlike these left' those others'
alike_next these left left' those others others' e d more more' same h = record {
  seen = h.seen ++ e ∷ [];
  first = h.first ∙ ap (λ (es : List Entry). h.seen ++ es) more ∙ sym (append_assoc h.seen (e ∷ []) left');
  second = h.second ∙ ap (λ (es : List Entry). h.seen ++ es) (more' ∙ ap (λ (x : Entry). x ∷ others') (sym same)) ∙ sym (append_assoc h.seen (e ∷ []) others');
}

-- what comes after the entries that were seen, where the first begins with the second
after_seen : (these left those others : List Entry) → BeginAlike these left those others → (s : StartsWith these those) → left ≡ others ++ s.0
after_seen these left those others h s =
    append_cancel_left h.seen left (others ++ s.0)
    (sym h.first ∙ s.1 ∙ ap (λ (es : List Entry). es ++ s.0) h.second ∙ append_assoc h.seen others s.0)

-- nor where the next two differ
pub alike_other : (these left left' those others others' : List Entry) (e d : Entry) → left ≡ e ∷ left' → others ≡ d ∷ others' → (e ≡ d → ⊥)
    → BeginAlike these left those others → StartsWith these those → ⊥
alike_other these left left' those others others' e d more more' not h s =
    let after : e ∷ left' ≡ d ∷ (others' ++ s.0) = sym more ∙ after_seen these left those others h s ∙ ap (λ (es : List Entry). es ++ s.0) more' in
    let same : e ≡ d = cc in
    not same
