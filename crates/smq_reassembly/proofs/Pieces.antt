-- The octets of pieces, by their places.
use Rattle.std.proofs.Common.{◌≡◌, ℕ, ◌+◌, ◌-◌, ◌<◌, ◌≤◌, List, [], ◌∷◌, ◌++◌, length, take, drop, refl, sym, ap, ◌∙◌, arith, ◌⊎◌, inl, inr, false, length-take}
use Rattle.std.specs.Prelude.{nat_le, slice_get, Option, Some, None}
use Rattle.std.specs.Option.{option_or}
use Rattle.std.proofs.lemmas.Bool.{cases_lt, le-leb}
use Rattle.std.proofs.lemmas.Bool.Decides.{leb_tells}
use Rattle.std.proofs.lemmas.Option.{none-some, slice_get_past}
use Rattle.std.proofs.lemmas.List.{take_all}
use Rattle.smq_reassembly.specs.Octet.{Octet}
use Rattle.smq_reassembly.specs.Piece.{Piece, octet_in, first_octet}
use Rattle.smq_reassembly.proofs.Lists.{got, get-drop, get-take}

lt-leb : (a n : ℕ) → n < a → nat_le a n ≡ false
lt-leb a n h = elim (leb_tells a n) [ inl t ↦ absurd (let l = t.1 in omega arith) | inr f ↦ f.0 ]

pub or-none-left : (a b : Option Octet) → option_or a b ≡ None → a ≡ None
or-none-left None b h = refl
or-none-left (Some x) b h = h

pub or-none-right : (a b : Option Octet) → option_or a b ≡ None → b ≡ None
or-none-right None b h = h
or-none-right (Some x) b h = absurd (none-some x (sym h))

pub or-assoc : (a b c : Option Octet) → option_or (option_or a b) c ≡ option_or a (option_or b c)
or-assoc None b c = refl
or-assoc (Some x) b c = refl

pub or-none : (a : Option Octet) → option_or a None ≡ a
or-none None = refl
or-none (Some x) = refl

pub or-some : (a b : Option Octet) (x : Octet) → a ≡ Some x → option_or a b ≡ Some x
or-some a b x e = rw e refl

-- of two options one is none: their order doesn't count
pub or-swap : (a b : Option Octet) → (a ≡ None) ⊎ (b ≡ None) → option_or a b ≡ option_or b a
or-swap a b (inl e) = rw e (sym (or-none b))
or-swap a b (inr e) = rw e (or-none a)

-- the first of pieces and others is that of the pieces, or else of the others
pub first-append : (ps qs : List Piece) (n : ℕ) → first_octet (ps ++ qs) n ≡ option_or (first_octet ps n) (first_octet qs n)
first-append [] qs n = refl
first-append (p ∷ ps) qs n =
    ap (λ (o : Option Octet). option_or (octet_in p n) o) (first-append ps qs n)
    ∙ sym (or-assoc (octet_in p n) (first_octet ps n) (first_octet qs n))

pub first-push : (ps : List Piece) (q : Piece) (n : ℕ) → first_octet (ps ++ q ∷ []) n ≡ option_or (first_octet ps n) (octet_in q n)
first-push ps q n =
    first-append ps (q ∷ []) n ∙ ap (λ (o : Option Octet). option_or (first_octet ps n) o) (or-none (octet_in q n))

-- where a piece has an octet
pub octet-is : (p : Piece) (n : ℕ) → p.at ≤ n → octet_in p n ≡ slice_get p.octets (n - p.at)
octet-is p n low = rw (le-leb p.at n low) refl

pub octet-within : (p : Piece) (n : ℕ) → p.at ≤ n → n < p.at + length p.octets → (o : Octet) × (octet_in p n ≡ Some o)
octet-within p n low high =
    let h : n - p.at < length p.octets = omega arith in
    let g = got p.octets (n - p.at) h in (g.0, octet-is p n low ∙ g.1)

-- and where it has none
pub octet-before : (p : Piece) (n : ℕ) → n < p.at → octet_in p n ≡ None
octet-before p n h = rw (lt-leb p.at n h) refl

pub octet-after : (p : Piece) (n : ℕ) → p.at + length p.octets ≤ n → octet_in p n ≡ None
octet-after p n h =
    let low : p.at ≤ n = omega arith in
    let past : length p.octets ≤ n - p.at = omega arith in
    octet-is p n low ∙ slice_get_past p.octets (n - p.at) past

-- ---- the front of a piece

abbrev pub front : ℕ → Piece → Piece
front k p = record { at = p.at; octets = take k p.octets }

-- octets of a piece from one place up to another
abbrev pub middle : ℕ → ℕ → Piece → Piece
middle from until p = record { at = from; octets = take (until - from) (drop (from - p.at) p.octets) }

front-before : (k j : ℕ) (p : Piece) (n : ℕ) → n < p.at + k → n < p.at + j → octet_in (front k p) n ≡ octet_in (front j p) n
front-before k j p n h g =
    elim (cases_lt n p.at) [
      | inl low ↦ octet-before (front k p) n low ∙ sym (octet-before (front j p) n low)
      | inr high ↦
          let a : n - p.at < k = omega arith in
          let b : n - p.at < j = omega arith in
          octet-is (front k p) n high ∙ get-take k p.octets (n - p.at) a
          ∙ sym (octet-is (front j p) n high ∙ get-take j p.octets (n - p.at) b)
    ]

pub front-after : (k : ℕ) (p : Piece) (n : ℕ) → p.at + k ≤ n → octet_in (front k p) n ≡ None
front-after k p n h = octet-after (front k p) n (let l : length (take k p.octets) ≤ k = omega (arith, length-take k p.octets) in omega arith)

pub front-all : (k : ℕ) (p : Piece) → length p.octets ≤ k → front k p ≡ p
front-all k p h = ap (λ (os : List Octet). record { at = p.at; octets = os }) (take_all k p.octets h)

-- a front, and the octets that follow it
pub front-middle : (p : Piece) (from until n : ℕ) → p.at ≤ from → from < until
    → option_or (octet_in (front (from - p.at) p) n) (octet_in (middle from until p) n) ≡ octet_in (front (until - p.at) p) n
front-middle p from until n low order =
    elim (cases_lt n from) [
      | inl less ↦
          let a : n < p.at + (from - p.at) = omega arith in
          let b : n < p.at + (until - p.at) = omega arith in
          ap (λ (o : Option Octet). option_or (octet_in (front (from - p.at) p) n) o) (octet-before (middle from until p) n less)
          ∙ or-none _ ∙ front-before (from - p.at) (until - p.at) p n a b
      | inr more ↦
          let a : p.at + (from - p.at) ≤ n = omega arith in
          ap (λ (o : Option Octet). option_or o (octet_in (middle from until p) n)) (front-after (from - p.at) p n a)
          ∙ elim (cases_lt n until) [
            | inl within ↦
                let here : p.at ≤ n = omega arith in
                let c : n - from < until - from = omega arith in
                let d : n - p.at < until - p.at = omega arith in
                let e : (from - p.at) + (n - from) ≡ n - p.at = omega arith in
                octet-is (middle from until p) n more ∙ get-take (until - from) (drop (from - p.at) p.octets) (n - from) c
                ∙ get-drop (from - p.at) p.octets (n - from) ∙ ap (λ (k : ℕ). slice_get p.octets k) e
                ∙ sym (octet-is (front (until - p.at) p) n here ∙ get-take (until - p.at) p.octets (n - p.at) d)
            | inr past ↦
                let f : p.at + (until - p.at) ≤ n = omega arith in
                let g : length (take (until - from) (drop (from - p.at) p.octets)) ≤ until - from =
                omega (arith, length-take (until - from) (drop (from - p.at) p.octets)) in
                octet-after (middle from until p) n (omega arith) ∙ sym (front-after (until - p.at) p n f)
          ]
    ]

-- octets that wait are passed over
pub front-waits : (p : Piece) (old now : Option Octet) (from until n : ℕ) → p.at ≤ from → from < until
    → now ≡ option_or old (octet_in (front (from - p.at) p) n) → (from ≤ n → n < until → (o : Octet) × (now ≡ Some o))
    → now ≡ option_or old (octet_in (front (until - p.at) p) n)
front-waits p old now from until n low order is all =
    elim (cases_lt n from) [
      | inl less ↦
          let a : n < p.at + (from - p.at) = omega arith in
          let b : n < p.at + (until - p.at) = omega arith in
          is ∙ ap (λ (o : Option Octet). option_or old o) (front-before (from - p.at) (until - p.at) p n a b)
      | inr more ↦
          let a : p.at + (from - p.at) ≤ n = omega arith in
          let was : now ≡ old = is ∙ ap (λ (o : Option Octet). option_or old o) (front-after (from - p.at) p n a) ∙ or-none old in
          elim (cases_lt n until) [
            | inl within ↦
                let o = all more within in
                o.1 ∙ sym (or-some old _ o.0 (sym was ∙ o.1))
            | inr past ↦
                let f : p.at + (until - p.at) ≤ n = omega arith in
                was ∙ sym (ap (λ (o : Option Octet). option_or old o) (front-after (until - p.at) p n f) ∙ or-none old)
          ]
    ]
