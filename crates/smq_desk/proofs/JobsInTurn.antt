-- Lists whose elements are changed one after another, and lists in two parts.
use Rattle.std.proofs.Common.{◌≡◌, ◌<◌, ◌+◌, ℕ, List, [], ◌∷◌, ◌++◌, refl, sym, ◌∙◌, ap, subst, length, take, drop, set, get_or, add-zero, add-one, zero, suc, arith, All}
use Rattle.std.specs.List.{AllZip}
use Rattle.std.proofs.lemmas.List.{take_more, take_more_set, drop-set-lt, get_or-drop}
use Rattle.std.proofs.lemmas.List.Elements.{AllZip-push}

drop_drop : {X : Type 0} (xs : List X) (i : ℕ) → drop (i + 1) xs ≡ drop 1 (drop i xs)
drop_drop xs zero = refl
drop_drop [] (suc i) = rw add-one refl
drop_drop (x ∷ xs) (suc i) = rw (add-one (suc i)) (subst (λ (n : ℕ). drop n xs ≡ drop 1 (drop i xs)) (add-one i) (drop_drop xs i))

module _ {X : Type 0} (R : X → X → Type 0) where
  head_of : (xs : List X) (i : ℕ) (d : X) → get_or (drop i xs) 0 d ≡ get_or xs i d
  head_of xs i d = get_or-drop i xs 0 d ∙ ap (λ n. get_or xs n d) (add-zero i)

  -- what stands at i is still what stood there
  same_at : (xs ys : List X) (i : ℕ) (d : X) → drop i ys ≡ drop i xs → get_or ys i d ≡ get_or xs i d
  same_at xs ys i d e = sym (head_of ys i d) ∙ (ap (λ zs. get_or zs 0 d) e ∙ head_of xs i d)

  -- so what was true of it still is
  pub holds_at : (P : X → Type 0) (xs ys : List X) (i : ℕ) (d : X) → All P xs → drop i ys ≡ drop i xs → i < length xs → P (get_or ys i d)
  holds_at P xs ys i d all rest lt = subst P (sym (same_at xs ys i d rest)) (all i d lt)

  -- the elements up to i are changed, and then that at i
  pub one_more : (xs ys : List X) (i : ℕ) (d z : X) → AllZip R (take i xs) (take i ys) → drop i ys ≡ drop i xs → length ys ≡ length xs → i < length xs
      → R (get_or ys i d) z → AllZip R (take (i + 1) xs) (take (i + 1) (set ys i z))
  one_more xs ys i d z h rest len lt r =
      let lt2 : i < length ys = omega arith in
      rw (take_more xs i d lt, take_more_set ys i z lt2)
      (AllZip-push R (take i xs) (take i ys) (get_or xs i d) z h (subst (λ x. R x z) (same_at xs ys i d rest) r))

  -- those after it are as they were
  pub others_stay : (xs ys : List X) (i : ℕ) (z : X) → drop i ys ≡ drop i xs → drop (i + 1) (set ys i z) ≡ drop (i + 1) xs
  others_stay xs ys i z rest = drop-set-lt (i + 1) ys i z (omega arith) ∙ (drop_drop ys i ∙ (ap (λ zs. drop 1 zs) rest ∙ sym (drop_drop xs i)))

  pub zip_append : (xs ys us vs : List X) → AllZip R xs ys → AllZip R us vs → AllZip R (xs ++ us) (ys ++ vs)
  zip_append [] [] us vs h k = k
  zip_append [] (y ∷ ys) us vs h k = elim h [ ]
  zip_append (x ∷ xs) [] us vs h k = elim h [ ]
  zip_append (x ∷ xs) (y ∷ ys) us vs h k = (h.0, zip_append xs ys us vs h.1 k)
