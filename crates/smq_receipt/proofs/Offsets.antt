-- The least offset of a label in a text, below a bound past the header part's end, tells its value in the header part.
use Rattle.std.proofs.Common.{◌≡◌, ℕ, suc, ◌+◌, ◌-◌, ◌<◌, ◌≤◌, ◌==◌, ◌&&◌, ◌||◌, Bool, true, false, cond, List, [], ◌∷◌, length, take, drop, slice_index, Option, Some, None, refl, sym, ap, ◌∙◌, arith, inl, inr}
use Rattle.std.specs.Prelude.{option_map, nat_lt, nat_eq, codes}
use Rattle.std.specs.Option.{option_or}
use Rattle.std.specs.Char.{to_ascii_lowercase}
use Rattle.std.proofs.lemmas.Bool.{cases_lt, ne_eqb, ltb-false}
use Rattle.std.proofs.lemmas.Bool.Decides.{eqb_tells}
use Rattle.std.proofs.lemmas.List.{length-take-le, take_rest, get_or-take, drop-take, take-take, drop_more}
use Rattle.smq_receipt.specs.Places.{least_below, IsLeast}
use Rattle.smq_receipt.specs.Texts.{same_letters, stands_at, is_opening, labels_at, text_mark, front_of, header_of, value_at, value_of}
use Rattle.smq_receipt.specs.within.Offsets.{offsets_below}
use Rattle.smq_receipt.proofs.LeastPlaces.{found, none, no_place, first_place}
use Rattle.smq_receipt.proofs.Values.{stands_at_past}

and_false : (b : Bool) → b && false ≡ false
and_false true = refl
and_false false = refl

stands_at-take : (label text : List ℕ) (k e : ℕ) → k + length label ≤ e → stands_at label (take e text) k ≡ stands_at label text k
unfolding stands_at
stands_at-take label text k e fits =
    let whole : e ≡ k + (e - k) = omega (arith, fits) in
    let shorter : length label ≤ e - k = omega (arith, fits) in
    let rest : drop k (take e text) ≡ take (e - k) (drop k text) = ap (λ (n : ℕ). drop k (take n text)) whole ∙ drop-take k (e - k) text in
    ap (λ (t : List ℕ). same_letters (take (length label) t) label) rest
    ∙ ap (λ (t : List ℕ). same_letters t label) (take-take (length label) (e - k) (drop k text) shorter)

-- a label that ends within the front part stands there where it stands in the text
labels_at-take : (label text : List ℕ) (k e : ℕ) → 0 < length label → k + length label ≤ e → labels_at label (take e text) k ≡ labels_at label text k
unfolding labels_at
labels_at-take label text k e some fits =
    ap (λ (x : ℕ). (k == 0 || x == 32) && stands_at label (take e text) k) (get_or-take e text (k - 1) 0 (omega (arith, some, fits)))
    ∙ ap (λ (b : Bool). is_opening text k && b) (stands_at-take label text k e fits)

-- one that would end past it doesn't stand there
labels_at-past : (label text : List ℕ) (k e : ℕ) → 0 < length label → e ≤ length text → e < k + length label → labels_at label (take e text) k ≡ false
unfolding labels_at
labels_at-past label text k e some within past =
    let as_long : length (take e text) ≡ e = length-take-le e text within in
    ap (λ (b : Bool). is_opening (take e text) k && b) (stands_at_past label (take e text) k (rw as_long (omega (arith, some, past))))
    ∙ and_false (is_opening (take e text) k)

pub value_none : (label text : List ℕ) (e : ℕ) → 0 < length label → e ≤ length text → None ≡ least_below (labels_at label text) (e + 1)
    → value_of label (take e text) ≡ None
unfolding value_of
value_none label text e some within is =
    ap (option_map (value_at label (take e text))) (no_place (labels_at label (take e text)) (length (take e text)) (λ k l.
    elim (cases_lt e (k + length label)) [
      | inl past ↦ labels_at-past label text k e some within past
      | inr fits ↦ labels_at-take label text k e some fits ∙ none (labels_at label text) (e + 1) k (sym is) (omega (arith, some, fits))
    ]))

pub value_past : (label text : List ℕ) (e p : ℕ) → 0 < length label → e ≤ length text → Some p ≡ least_below (labels_at label text) (e + 1)
    → e < p + length label → value_of label (take e text) ≡ None
unfolding value_of
value_past label text e p some within is beyond =
    let f : IsLeast (labels_at label text) (e + 1) p = found (labels_at label text) (e + 1) p (sym is) in
    ap (option_map (value_at label (take e text))) (no_place (labels_at label (take e text)) (length (take e text)) (λ k l.
    elim (cases_lt e (k + length label)) [
      | inl past ↦ labels_at-past label text k e some within past
      | inr fits ↦ labels_at-take label text k e some fits ∙ f.least k (omega (arith, beyond, fits))
    ]))

pub value_here : (label text : List ℕ) (e p : ℕ) → 0 < length label → e ≤ length text → Some p ≡ least_below (labels_at label text) (e + 1)
    → p + length label ≤ e → value_of label (take e text) ≡ Some (value_at label (take e text) p)
unfolding value_of
value_here label text e p some within is fits =
    let f : IsLeast (labels_at label text) (e + 1) p = found (labels_at label text) (e + 1) p (sym is) in
    let as_long : length (take e text) ≡ e = length-take-le e text within in
    ap (option_map (value_at label (take e text))) (first_place (labels_at label (take e text)) (length (take e text)) p
    (rw as_long (omega (arith, some, fits))) (labels_at-take label text p e some fits ∙ f.passes)
    (λ k l. labels_at-take label text k e some (omega (arith, fits, l)) ∙ f.least k l))

-- the offset that was found is within the bound
pub offset-within : (label text : List ℕ) (e p : ℕ) → Some p ≡ least_below (labels_at label text) (e + 1) → p ≤ e
offset-within label text e p is =
    let f : IsLeast (labels_at label text) (e + 1) p = found (labels_at label text) (e + 1) p (sym is) in omega (arith, f.within)

-- the front part is the header part, where the mark stands at its end and at no place before it
pub header_front : (text : List ℕ) (e : ℕ) → e < length text → stands_at text_mark text e ≡ true
    → ((k : ℕ) → k < e → stands_at text_mark text k ≡ false) → header_of text ≡ take e text
unfolding header_of
header_front text e l here before = ap (front_of text) (first_place (stands_at text_mark text) (length text) e l here before)

-- the text is the header part, where the mark stands nowhere
pub header_whole : (text : List ℕ) → ((k : ℕ) → k < length text → stands_at text_mark text k ≡ false) → header_of text ≡ text
unfolding header_of
header_whole text before = ap (front_of text) (no_place (stands_at text_mark text) (length text) before)

lower_space : (x : ℕ) (low high : Bool) → nat_lt x 65 ≡ low → nat_lt x 91 ≡ high → cond low x (cond high (x + 32) x) ≡ 32 → x ≡ 32
lower_space x true high a b e = e
lower_space x false true a b e = let l : 65 ≤ x = ltb-false x 65 a in absurd (omega (arith, l, e))
lower_space x false false a b e = e

other_letter : (x : ℕ) → (x ≡ 32 → ⊥) → nat_eq (to_ascii_lowercase x) 32 ≡ false
other_letter x other = ne_eqb (to_ascii_lowercase x) 32 (λ e. other (lower_space x _ _ refl refl e))

other_front : (x : ℕ) (rest : List ℕ) → (x ≡ 32 → ⊥) → same_letters (take (length text_mark) (x ∷ rest)) text_mark ≡ false
unfolding same_letters
other_front x rest other = rw (other_letter x other) refl

other_first : (x : ℕ) (xs : List ℕ) (y : ℕ) (ys : List ℕ) → (to_ascii_lowercase y ≡ to_ascii_lowercase x → ⊥)
    → same_letters (take (length (x ∷ xs)) (y ∷ ys)) (x ∷ xs) ≡ false
unfolding same_letters
other_first x xs y ys other = rw (ne_eqb (to_ascii_lowercase y) (to_ascii_lowercase x) other) refl

eqb-same : (n : ℕ) → nat_eq n n ≡ true
eqb-same n = elim (eqb_tells n n) [
  | inl same ↦ same.0
  | inr other ↦ absurd (other.1 refl)
]

same_first : (x : ℕ) (xs : List ℕ) (y : ℕ) (ys : List ℕ) → to_ascii_lowercase y ≡ to_ascii_lowercase x
    → same_letters (take (length (x ∷ xs)) (y ∷ ys)) (x ∷ xs) ≡ same_letters (take (length xs) ys) xs
unfolding same_letters
same_first x xs y ys same = rw (same, eqb-same (to_ascii_lowercase x)) refl

-- the mark stands at no octet but a space
pub mark_begins : (text : List ℕ) (k : ℕ) → k < length text → (slice_index text k ≡ 32 → ⊥) → stands_at text_mark text k ≡ false
unfolding stands_at
mark_begins text k l other =
    ap (λ (t : List ℕ). same_letters (take (length text_mark) t) text_mark) (drop_more text k 0 l)
    ∙ other_front (slice_index text k) (drop (k + 1) text) other

option_or_none : (r : Option ℕ) → option_or r None ≡ r
option_or_none None = refl
option_or_none (Some p) = refl

-- one place more
least_below-more : (test : ℕ → Bool) (place : ℕ)
    → least_below test (place + 1) ≡ option_or (least_below test place) (cond (test place) (Some place) None)
unfolding least_below
least_below-more test place = let more : place + 1 ≡ suc place = omega arith in ap (least_below test) more

-- the label stands here first
pub least_below-stands : (label text : List ℕ) (place : ℕ) → is_opening text place ≡ true → None ≡ least_below (labels_at label text) place
    → stands_at label text place ≡ true → least_below (labels_at label text) (place + 1) ≡ Some place
unfolding labels_at
least_below-stands label text place opening is stands =
    least_below-more (labels_at label text) place
    ∙ ap (λ (r : Option ℕ). option_or r (cond (labels_at label text place) (Some place) None)) (sym is)
    ∙ ap (λ (b : Bool). cond (b && stands_at label text place) (Some place) None) opening
    ∙ ap (λ (b : Bool). cond b (Some place) None) stands

least_below-fails : (test : ℕ → Bool) (place : ℕ) → test place ≡ false → least_below test (place + 1) ≡ least_below test place
least_below-fails test place fails =
    least_below-more test place
    ∙ ap (λ (b : Bool). option_or (least_below test place) (cond b (Some place) None)) fails
    ∙ option_or_none (least_below test place)

-- the label doesn't stand here
pub least_below-none : (label text : List ℕ) (place : ℕ) → stands_at label text place ≡ false
    → least_below (labels_at label text) (place + 1) ≡ least_below (labels_at label text) place
unfolding labels_at
least_below-none label text place fails =
    least_below-fails (labels_at label text) place (ap (λ (b : Bool). is_opening text place && b) fails ∙ and_false (is_opening text place))

-- the label stood earlier
pub least_below-earlier : (label text : List ℕ) (place p : ℕ) → Some p ≡ least_below (labels_at label text) place
    → least_below (labels_at label text) (place + 1) ≡ Some p
least_below-earlier label text place p is =
    least_below-more (labels_at label text) place
    ∙ ap (λ (r : Option ℕ). option_or r (cond (labels_at label text place) (Some place) None)) (sym is)

no_opening : (text : List ℕ) (end : ℕ) → (slice_index text end ≡ 32 → ⊥) → is_opening text (end + 1) ≡ false
no_opening text end other =
    ap (λ (b : Bool). b || slice_index text (end + 1 - 1) == 32) (ne_eqb (end + 1) 0 (λ e. omega (arith, e)))
    ∙ ne_eqb (slice_index text (end + 1 - 1)) 32 (λ e. let back : end + 1 - 1 ≡ end = omega arith in other (sym (ap (slice_index text) back) ∙ e))

-- the place behind an octet that is no space
least_below-inside : (label text : List ℕ) (end : ℕ) → (slice_index text end ≡ 32 → ⊥)
    → least_below (labels_at label text) (end + 2) ≡ least_below (labels_at label text) (end + 1)
unfolding labels_at
least_below-inside label text end other =
    let more : end + 2 ≡ end + 1 + 1 = omega arith in
    ap (least_below (labels_at label text)) more
    ∙ least_below-fails (labels_at label text) (end + 1) (ap (λ (b : Bool). b && stands_at label text (end + 1)) (no_opening text end other))

pub offsets_inside : (text : List ℕ) (end : ℕ) → (slice_index text end ≡ 32 → ⊥)
    → offsets_below text (end + 2) ≡ offsets_below text (end + 1)
offsets_inside text end other = rw (
  least_below-inside (codes "id:") text end other,
  least_below-inside (codes "stat:") text end other,
  least_below-inside (codes "err:") text end other,
  least_below-inside (codes "submit date:") text end other,
  least_below-inside (codes "done date:") text end other,
) refl

least_below-end : (label text : List ℕ) (place : ℕ) → 0 < length label → length text ≤ place
    → least_below (labels_at label text) (place + 1) ≡ least_below (labels_at label text) place
least_below-end label text place some l = least_below-none label text place (stands_at_past label text place (omega (arith, some, l)))

-- no label stands at the end
pub offsets_end : (text : List ℕ) (place : ℕ) → length text ≤ place → offsets_below text (place + 1) ≡ offsets_below text place
offsets_end text place l = rw (
  least_below-end (codes "id:") text place (omega arith) l,
  least_below-end (codes "stat:") text place (omega arith) l,
  least_below-end (codes "err:") text place (omega arith) l,
  least_below-end (codes "submit date:") text place (omega arith) l,
  least_below-end (codes "done date:") text place (omega arith) l,
) refl

-- the label begins with another letter
pub stands_at-other : (label text : List ℕ) (place : ℕ) → 0 < length label → place < length text
    → (to_ascii_lowercase (slice_index text place) ≡ to_ascii_lowercase (slice_index label 0) → ⊥) → stands_at label text place ≡ false
unfolding stands_at
stands_at-other [] text place some l other = absurd (omega (arith, some))
stands_at-other (x ∷ xs) text place some l other =
    ap (λ (t : List ℕ). same_letters (take (length (x ∷ xs)) t) (x ∷ xs)) (drop_more text place 0 l)
    ∙ other_first x xs (slice_index text place) (drop (place + 1) text) other

-- the label begins with this letter, and the rest follows
pub stands_begun : (label text : List ℕ) (place : ℕ) → 0 < length label → place < length text
    → to_ascii_lowercase (slice_index text place) ≡ to_ascii_lowercase (slice_index label 0)
    → stands_at (take (length label - 1) (drop 1 label)) text (place + 1) ≡ stands_at label text place
unfolding stands_at
stands_begun [] text place some l same = absurd (omega (arith, some))
stands_begun (x ∷ xs) text place some l same =
    let rest : take (length (x ∷ xs) - 1) xs ≡ xs = take_rest (x ∷ xs) 1 in
    ap (λ (t : List ℕ). same_letters (take (length t) (drop (place + 1) text)) t) rest
    ∙ sym (same_first x xs (slice_index text place) (drop (place + 1) text) same)
    ∙ sym (ap (λ (t : List ℕ). same_letters (take (length (x ∷ xs)) t) (x ∷ xs)) (drop_more text place 0 l))

pub least_below-other : (label text : List ℕ) (place : ℕ) → 0 < length label → place < length text
    → (to_ascii_lowercase (slice_index text place) ≡ to_ascii_lowercase (slice_index label 0) → ⊥)
    → least_below (labels_at label text) (place + 1) ≡ least_below (labels_at label text) place
least_below-other label text place some l other = least_below-none label text place (stands_at-other label text place some l other)

pub ruleset adding = (least_below-stands, least_below-none, least_below-earlier, least_below-other)
