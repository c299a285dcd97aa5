-- The first entry that passes, by the filter that a range gives.
use Rattle.std.proofs.Common.{◌≡◌, Bool, true, false, ◌&&◌, List, [], ◌∷◌, Option, Some, None, find, filter, refl, ap, cond}
use Rattle.std.specs.Option.{option_map}
use Rattle.smq_shelf.specs.Places.{content_of, with_place}
use Rattle.std.specs.Map.Iter.{TakesFirst}

-- the first of a list
abbrev pub first_of_list : {X : Type 0} → List X → Option X
first_of_list [] = None
first_of_list (x ∷ xs) = Some x

pub find_by_filter : {X : Type 0} (p q : X → Bool) → ((x : X) → q x ≡ p x) → (xs : List X) → first_of_list (filter q xs) ≡ find p xs
find_by_filter p q same [] = refl
find_by_filter p q same (x ∷ xs) = rw (same x) (at (p x) (find_by_filter p q same xs))
  where
    at : (b : Bool) → first_of_list (filter q xs) ≡ find p xs → first_of_list (cond b (x ∷ filter q xs) (filter q xs)) ≡ cond b (Some x) (find p xs)
    at true h = refl
    at false h = h

pub shown_first : {A X : Type 0} (shows : A → X) (r t : List X) (x : Option A) → TakesFirst shows r x t → option_map shows x ≡ first_of_list r
shown_first shows r t None h = rw h.0 refl
shown_first shows r t (Some x) h = rw h refl

-- what stands at keys that pass a test, of places and of their content
pub filter_places : {K V : Type 0} (p : K → Bool) (es : List (K × Option V)) → content_of (filter (λ e. p e.0) es) ≡ filter (λ e. p e.0) (content_of es)
filter_places p [] = refl
filter_places {K} {V} p (e ∷ es) = at (p e.0) e.1 refl (filter_places p es)
  where
    at : (b : Bool) (x : Option V) → p e.0 ≡ b → content_of (filter (λ f. p f.0) es) ≡ filter (λ f. p f.0) (content_of es)
        → content_of (cond b ((e.0, x) ∷ filter (λ f. p f.0) es) (filter (λ f. p f.0) es)) ≡ filter (λ f. p f.0) (with_place e.0 x (content_of es))
    at true None t h = h
    at true (Some v) t h = rw t (ap (λ (xs : List (K × V)). (e.0, v) ∷ xs) h)
    at false None t h = h
    at false (Some v) t h = rw t h

pub and_true : (b : Bool) → (b && true) ≡ b
and_true true = refl
and_true false = refl

-- a test that all pass keeps all
pub filter_all : {X : Type 0} (xs : List X) → filter (λ x. true) xs ≡ xs
filter_all [] = refl
filter_all {X} (x ∷ xs) = ap (λ (ys : List X). x ∷ ys) (filter_all xs)

-- two tests that answer alike keep the same
pub filter_same : {X : Type 0} (p q : X → Bool) → ((x : X) → p x ≡ q x) → (xs : List X) → filter p xs ≡ filter q xs
filter_same p q same [] = refl
filter_same {X} p q same (x ∷ xs) = rw (same x) (ap (λ (ys : List X). cond (q x) (x ∷ ys) ys) (filter_same p q same xs))
