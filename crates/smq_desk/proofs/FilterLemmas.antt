-- Filters after filters.
use Rattle.std.proofs.Common.{◌≡◌, Bool, true, false, cond, List, [], ◌∷◌, map, filter, refl, ap}

module _ {X : Type 0} (f g : X → Bool) where
  -- what passes f passes g
  pub filter_within : ((x : X) → f x ≡ true → g x ≡ true) → (xs : List X) → filter f (filter g xs) ≡ filter f xs
  filter_within h [] = refl
  filter_within h (x ∷ xs) = by (g x) (f x) refl refl (filter_within h xs)
    where
      by : (a b : Bool) → g x ≡ a → f x ≡ b → filter f (filter g xs) ≡ filter f xs → filter f (filter g (x ∷ xs)) ≡ filter f (x ∷ xs)
      by true true p q ih = rw (p, q) (ap (λ (ys : List X). x ∷ ys) ih)
      by true false p q ih = rw (p, q) ih
      by false true p q ih = let holds : g x ≡ true = h x q in absurd cc
      by false false p q ih = rw (p, q) ih

  -- what passes f doesn't pass g
  pub filter_apart : ((x : X) → f x ≡ true → g x ≡ false) → (xs : List X) → filter f (filter g xs) ≡ []
  filter_apart h [] = refl
  filter_apart h (x ∷ xs) = by (g x) (f x) refl refl (filter_apart h xs)
    where
      by : (a b : Bool) → g x ≡ a → f x ≡ b → filter f (filter g xs) ≡ [] → filter f (filter g (x ∷ xs)) ≡ []
      by true true p q ih = let fails : g x ≡ false = h x q in absurd cc
      by true false p q ih = rw (p, q) ih
      by false b p q ih = rw p ih

  -- what passes both
  pub filter_both : (both : X → Bool) → ((x : X) → both x ≡ cond (g x) (f x) false) → (xs : List X)
      → filter f (filter g xs) ≡ filter both xs
  filter_both both h [] = refl
  filter_both both h (x ∷ xs) = by (g x) (f x) refl refl (filter_both both h xs)
    where
      by : (a b : Bool) → g x ≡ a → f x ≡ b → filter f (filter g xs) ≡ filter both xs
          → filter f (filter g (x ∷ xs)) ≡ filter both (x ∷ xs)
      by true true p q ih = rw (h x, p, q) (ap (λ (ys : List X). x ∷ ys) ih)
      by true false p q ih = rw (h x, p, q) ih
      by false b p q ih = rw (h x, p) ih

-- all pass
pub filter_all : {X : Type 0} (f : X → Bool) → ((x : X) → f x ≡ true) → (xs : List X) → filter f xs ≡ xs
filter_all f h [] = refl
filter_all {X} f h (x ∷ xs) = rw (h x) (ap (λ (ys : List X). x ∷ ys) (filter_all f h xs))

-- what is chosen by what a function gives
pub map-filter : {X Y : Type 0} (e : X → Y) (f : Y → Bool) (xs : List X) → map e (filter (λ x. f (e x)) xs) ≡ filter f (map e xs)
map-filter e f [] = refl
map-filter {X} {Y} e f (x ∷ xs) = by (f (e x)) refl (map-filter e f xs)
  where
    by : (b : Bool) → f (e x) ≡ b → map e (filter (λ y. f (e y)) xs) ≡ filter f (map e xs)
        → map e (filter (λ y. f (e y)) (x ∷ xs)) ≡ filter f (map e (x ∷ xs))
    by true p ih = rw p (ap (λ (ys : List Y). e x ∷ ys) ih)
    by false p ih = rw p ih
