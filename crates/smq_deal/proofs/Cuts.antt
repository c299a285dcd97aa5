-- Octets cut out of a stream that comes in pieces.
use Rattle.std.proofs.Common.{◌≡◌, ℕ, zero, suc, ◌+◌, ◌-◌, ◌<◌, min, List, [], ◌∷◌, ◌++◌, length, take, drop, get_or, refl, sym, ap, ◌∙◌, arith, length-take}
use Rattle.std.proofs.lemmas.List.{take_more, map-append}
use Rattle.smq_frame.specs.Stream.{handed_in, values}
use Rattle.smq_present.proofs.lemmas.present.Growth.{stream_of-push}
use Rattle.smq_present.specs.declared.present.session.Piece.{Piece}
use Rattle.smq_present.specs.present.Stream.{stream_of}

-- what is left of two lists
pub drop-both : {X : Type 0} (n : ℕ) (xs ys : List X) → drop n (xs ++ ys) ≡ drop n xs ++ drop (n - length xs) ys
drop-both zero xs ys = let e : 0 - length xs ≡ 0 = omega arith in rw e refl
drop-both (suc n) [] ys = let e : suc n - 0 ≡ suc n = omega arith in rw e refl
drop-both (suc n) (x ∷ xs) ys =
    let e : suc n - suc (length xs) ≡ n - length xs = omega arith in rw e (drop-both n xs ys)

-- the front of two lists
pub take-both : {X : Type 0} (n : ℕ) (xs ys : List X) → take n (xs ++ ys) ≡ take n xs ++ take (n - length xs) ys
take-both zero xs ys = let e : 0 - length xs ≡ 0 = omega arith in rw e refl
take-both (suc n) [] ys = let e : suc n - 0 ≡ suc n = omega arith in rw e refl
take-both (suc n) (x ∷ xs) ys =
    let e : suc n - suc (length xs) ≡ n - length xs = omega arith in rw e (ap (λ zs. x ∷ zs) (take-both n xs ys))

pub drop-min : {X : Type 0} (n : ℕ) (xs : List X) → drop (min n (length xs)) xs ≡ drop n xs
drop-min zero xs = let e : min 0 (length xs) ≡ 0 = omega arith in rw e refl
drop-min (suc n) [] = let e : min (suc n) 0 ≡ 0 = omega arith in rw e refl
drop-min (suc n) (x ∷ xs) =
    let e : min (suc n) (suc (length xs)) ≡ suc (min n (length xs)) = omega arith in rw e (drop-min n xs)

pub take-min : {X : Type 0} (n : ℕ) (xs : List X) → take (min n (length xs)) xs ≡ take n xs
take-min zero xs = let e : min 0 (length xs) ≡ 0 = omega arith in rw e refl
take-min (suc n) [] = let e : min (suc n) 0 ≡ 0 = omega arith in rw e refl
take-min (suc n) (x ∷ xs) =
    let e : min (suc n) (suc (length xs)) ≡ suc (min n (length xs)) = omega arith in rw e (ap (λ zs. x ∷ zs) (take-min n xs))

-- the front of what is left of two lists
pub cut-both : (n at : ℕ) (xs ys : List ℕ) → take n (drop at (xs ++ ys))
    ≡ take n (drop at xs) ++ take (n - length (take n (drop at xs))) (drop (at - length xs) ys)
cut-both n at xs ys =
    let e : n - length (take n (drop at xs)) ≡ n - length (drop at xs) = omega (arith, length-take n (drop at xs)) in
    rw (e, drop-both at xs ys) (take-both n (drop at xs) (drop (at - length xs) ys))

-- octets of one moment are those octets
values-handed : (m : ℕ) (octets : List ℕ) → values (handed_in m octets) ≡ octets
values-handed m [] = refl
values-handed m (o ∷ octets) = ap (λ os. o ∷ os) (values-handed m octets)

-- one piece more
pub stream-more : (pieces : List Piece) (i : ℕ) (p : Piece) → i < length pieces → p ≡ get_or pieces i p
    → stream_of (take (i + 1) pieces) ≡ stream_of (take i pieces) ++ handed_in p.moment p.octets
stream-more pieces i p lt is =
    ap stream_of (take_more pieces i p lt ∙ ap (λ (q : Piece). take i pieces ++ q ∷ []) (sym is)) ∙ stream_of-push (take i pieces) p

pub values-more : (pieces : List Piece) (i : ℕ) (p : Piece) → i < length pieces → p ≡ get_or pieces i p
    → values (stream_of (take (i + 1) pieces)) ≡ values (stream_of (take i pieces)) ++ p.octets
values-more pieces i p lt is =
    ap values (stream-more pieces i p lt is) ∙ map-append _ (stream_of (take i pieces)) (handed_in p.moment p.octets)
    ∙ ap (λ (os : List ℕ). values (stream_of (take i pieces)) ++ os) (values-handed p.moment p.octets)

-- what is cut of one piece more
pub cut-next : (n at before skip more most : ℕ) (old octets cut here taken : List ℕ) → cut ≡ take n (drop at old) → before ≡ at - length old
    → skip ≡ min before (length octets) → here ≡ drop skip octets → more ≡ n - length cut → most ≡ min more (length here)
    → taken ≡ take most here → cut ++ taken ≡ take n (drop at (old ++ octets))
cut-next n at before skip more most old octets cut here taken is b s h m k t =
    let seen : here ≡ drop (at - length old) octets =
    h ∙ ap (λ (j : ℕ). drop j octets) s ∙ drop-min before octets ∙ ap (λ (j : ℕ). drop j octets) b in
    let fits : taken ≡ take (n - length cut) (drop (at - length old) octets) =
    t ∙ ap (λ (j : ℕ). take j here) k ∙ take-min more here ∙ ap (λ (j : ℕ). take j here) m ∙ ap (take (n - length cut)) seen in
    ap (λ (os : List ℕ). cut ++ os) fits
    ∙ ap (λ (os : List ℕ). os ++ take (n - length os) (drop (at - length old) octets)) is ∙ sym (cut-both n at old octets)
