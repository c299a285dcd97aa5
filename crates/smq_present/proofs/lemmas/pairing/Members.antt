-- Members of lists that are made of others: by a function, by a test, and one list after the other.
use Rattle.std.proofs.Common.{◌≡◌, ◌⊎◌, Bool, true, false, cond, List, [], ◌∷◌, inl, inr, subst, refl, sym, ap, ◌∙◌, arith}
use Rattle.std.specs.Prelude.{Contains, map, filter, slice_index_or}
use Rattle.std.specs.List.{flat_map}
use Rattle.std.proofs.lemmas.Bool.{true≢false}
use Rattle.std.proofs.lemmas.List.Elements.{Contains-append_left, Contains-append_right, Contains-append_cases}

module _ {X : Type 0} where
  pub first-one : (x : X) (xs : List X) → Contains (x ∷ xs) x
  first-one x xs = (0, omega arith, refl)

  pub later-one : (x : X) (xs : List X) (y : X) → Contains xs y → Contains (x ∷ xs) y
  later-one x xs y h = Contains-append_right (x ∷ []) xs y h

  pub one-is : (x y : X) → Contains (x ∷ []) y → x ≡ y
  one-is x y h = ap (λ k. slice_index_or (x ∷ []) k y) (let lt = h.1 in let none : 0 ≡ h.0 = omega arith in none) ∙ h.2

  pub none-in : {A : Type 0} (y : X) → Contains [] y → A
  none-in y h = let lt = h.1 in absurd (omega arith)

  one-of : (x : X) (xs : List X) (y : X) → Contains (x ∷ xs) y → (x ≡ y) ⊎ Contains xs y
  one-of x xs y h = elim (Contains-append_cases (x ∷ []) xs y h) as (λ _. (x ≡ y) ⊎ Contains xs y) [
    | inl here ↦ inl (one-is x y here)
    | inr later ↦ inr later
  ]

  pub filter-has : (p : X → Bool) (xs : List X) (y : X) → Contains (filter p xs) y → Contains xs y × (p y ≡ true)
  filter-has p [] y h = none-in y h
  filter-has p (x ∷ xs) y h = by (filter-has p xs y) (p x) refl h
    where
      kept : Contains xs y × (p y ≡ true) → Contains (x ∷ xs) y × (p y ≡ true)
      kept w = (later-one x xs y w.0, w.1)

      by : (Contains (filter p xs) y → Contains xs y × (p y ≡ true)) → (b : Bool) → p x ≡ b
          → Contains (cond b (x ∷ filter p xs) (filter p xs)) y → Contains (x ∷ xs) y × (p y ≡ true)
      by rest true e h = elim (one-of x (filter p xs) y h) as (λ _. Contains (x ∷ xs) y × (p y ≡ true)) [
        | inl is ↦ (subst (λ z. Contains (x ∷ xs) z) is (first-one x xs), ap p (sym is) ∙ e)
        | inr later ↦ kept (rest later)
      ]
      by rest false e h = kept (rest h)

  pub has-filter : (p : X → Bool) (xs : List X) (y : X) → Contains xs y → p y ≡ true → Contains (filter p xs) y
  has-filter p [] y h e = none-in y h
  has-filter p (x ∷ xs) y h e = by (λ later. has-filter p xs y later e) (p x) refl (one-of x xs y h)
    where
      by : (Contains xs y → Contains (filter p xs) y) → (b : Bool) → p x ≡ b → (x ≡ y) ⊎ Contains xs y
          → Contains (cond b (x ∷ filter p xs) (filter p xs)) y
      by rest true t (inl is) = subst (λ z. Contains (x ∷ filter p xs) z) is (first-one x (filter p xs))
      by rest true t (inr later) = later-one x (filter p xs) y (rest later)
      by rest false t (inl is) = absurd (true≢false (sym e ∙ ap p (sym is) ∙ t))
      by rest false t (inr later) = rest later

module _ {X Y : Type 0} where
  pub map-has : (f : X → Y) (xs : List X) (y : Y) → Contains (map f xs) y → (x : X) × Contains xs x × (f x ≡ y)
  map-has f [] y h = none-in y h
  map-has f (x ∷ xs) y h = elim (one-of (f x) (map f xs) y h) as (λ _. (z : X) × Contains (x ∷ xs) z × (f z ≡ y)) [
    | inl is ↦ (x, first-one x xs, is)
    | inr later ↦ (let w = map-has f xs y later in (w.0, later-one x xs w.0 w.1, w.2))
  ]

  pub has-map : (f : X → Y) (xs : List X) (x : X) → Contains xs x → Contains (map f xs) (f x)
  has-map f [] x h = none-in x h
  has-map f (z ∷ xs) x h = elim (one-of z xs x h) as (λ _. Contains (map f (z ∷ xs)) (f x)) [
    | inl is ↦ subst (λ w. Contains (map f (z ∷ xs)) (f w)) is (first-one (f z) (map f xs))
    | inr later ↦ later-one (f z) (map f xs) (f x) (has-map f xs x later)
  ]

  pub flat-has : (f : X → List Y) (xs : List X) (y : Y) → Contains (flat_map f xs) y → (x : X) × Contains xs x × Contains (f x) y
  flat-has f [] y h = none-in y h
  flat-has f (x ∷ xs) y h = elim (Contains-append_cases (f x) (flat_map f xs) y h) as (λ _. (z : X) × Contains (x ∷ xs) z × Contains (f z) y) [
    | inl here ↦ (x, first-one x xs, here)
    | inr later ↦ (let w = flat-has f xs y later in (w.0, later-one x xs w.0 w.1, w.2))
  ]

  pub has-flat : (f : X → List Y) (xs : List X) (x : X) (y : Y) → Contains xs x → Contains (f x) y → Contains (flat_map f xs) y
  has-flat f [] x y h k = none-in x h
  has-flat f (z ∷ xs) x y h k = elim (one-of z xs x h) as (λ _. Contains (flat_map f (z ∷ xs)) y) [
    | inl is ↦ Contains-append_left (f z) (flat_map f xs) y (subst (λ w. Contains (f w) y) (sym is) k)
    | inr later ↦ Contains-append_right (f z) (flat_map f xs) y (has-flat f xs x y later k)
  ]
