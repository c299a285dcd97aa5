-- The places of a link's members, once they are sorted, are those of the map of what the link has.
use Rattle.std.proofs.Common.{◌≡◌, Bool, true, false, cond, ◌||◌, List, [], ◌∷◌, ◌++◌, Option, Some, None, refl, sym, ap, ◌∙◌, subst, map, filter}
use Rattle.std.specs.Prelude.{◌==◌, IfOk, is_some, option_and_then}
use Rattle.std.specs.declared.result.Result.{Result}
use Rattle.std.specs.declared.result.Result.TheVariants.{Ok, Err}
use Rattle.std.proofs.lemmas.Bool.{cond_both, false_from_ne_true}
use Rattle.std.specs.Ordering.{eq_by_cmp}
use Rattle.std.specs.FinMap.{from_entries, get-from_entries, keys}
use Rattle.std.specs.List.{AllByRecursion, IsDistinct, list_any}
use Rattle.std.specs.List.Sorted.{IsPermutation, IsSorted}
use Rattle.std.proofs.lemmas.List.Sorted.{list_any-IsPermutation}
use Rattle.std.proofs.lemmas.Map.Keys.{IsDistinct-cons}
use Rattle.smq_kit.specs.declared.names.LinkId.{LinkId}
use Rattle.smq_kit.specs.declared.place.Place.{Place}
use Rattle.smq_kit.specs.declared.link_key.LinkKey.{LinkKey}
use Rattle.smq_kit.specs.Maps.{chosen}
use Rattle.smq_kit.specs.Orders.{kept_place_cmp, place_cmp}
use Rattle.smq_kit.proofs.Comparisons.{or_first, or_second}
use Rattle.smq_kit.proofs.MapLemmas.{get-chosen}
use Rattle.smq_kit.proofs.PlaceOrders.{place-order, places_total, places_exact}
use Rattle.smq_group.specs.declared.member.Member.{Member}
use Rattle.smq_group.specs.within.Walked.{link_places, on_link}
use Rattle.smq_group.specs.within.Stored.{StandsOnce, by_place}
use Rattle.smq_group.proofs.Placing.{at, none_head, rest_none, same_place}
use Rattle.smq_group.proofs.SortedKeys.{sorted-keys, sorted-strictly}

none_there : IsDistinct (eq_by_cmp place_cmp) []
unfolding IsDistinct
none_there = tt

-- a test that passes nowhere fails at each
all-fail : {A : Type 0} (p : A → Bool) (xs : List A) → list_any p xs ≡ false → AllByRecursion (λ x. p x ≡ false) xs
all-fail p [] h = tt
all-fail p (x ∷ xs) h = (or_first (p x) (list_any p xs) h, all-fail p xs (or_second (p x) (list_any p xs) h))

module _ {V W : Type 0} (value : LinkKey → V → W) (key_of : W → LinkKey) (keyed : (k : LinkKey) (v : V) → key_of (value k v) ≡ k) (link : LinkId) where
  abbrev on : Member × V → Bool
  on e = on_link link e

  -- what the link has of a place
  abbrev of_link : Place → W → Option W
  of_link place w = cond ((key_of w).link.0 == link.0) (Some w) None

  -- where nothing stands at a place, no member of the link does
  none-on : (q : Place) (es : List (Member × V)) → at value q es ≡ None → list_any (eq_by_cmp place_cmp q) (link_places link es) ≡ false
  none-on q [] h = refl
  none-on q (e ∷ es) h =
      let rest = none-on q es (rest_none (eq_by_cmp place_cmp q e.0.place) (value e.0.key e.1) (at value q es) h) in
      let not_it = false_from_ne_true (eq_by_cmp place_cmp q e.0.place) (λ t. none_head (eq_by_cmp place_cmp q e.0.place) (value e.0.key e.1) (at value q es) t h) in
      cond_both (on e) (e ∷ filter on es) (filter on es) (λ xs. list_any (eq_by_cmp place_cmp q) (map (λ f. f.0.place) xs) ≡ false)
      (λ _. ap (λ c. c || list_any (eq_by_cmp place_cmp q) (link_places link es)) not_it ∙ rest) (λ _. rest)

  there_at : (q : Place) (e : Member × V) (es : List (Member × V)) (a b : Bool) → eq_by_cmp place_cmp q e.0.place ≡ a → on e ≡ b → at value e.0.place es ≡ None
      → is_some (option_and_then (of_link q) (at value q es)) ≡ list_any (eq_by_cmp place_cmp q) (link_places link es)
      → is_some (option_and_then (of_link q) (cond a (Some (value e.0.key e.1)) (at value q es)))
      ≡ list_any (eq_by_cmp place_cmp q) (map (λ f. f.0.place) (cond b (e ∷ filter on es) (filter on es)))
  there_at q e es true true t s n ih =
      ap (λ (k : LinkKey). is_some (cond (k.link.0 == link.0) (Some (value e.0.key e.1)) None)) (keyed e.0.key e.1) ∙ ap (λ c. is_some (cond c (Some (value e.0.key e.1)) None)) s
      ∙ sym (ap (λ c. c || list_any (eq_by_cmp place_cmp q) (link_places link es)) t)
  there_at q e es true false t s n ih =
      ap (λ (k : LinkKey). is_some (cond (k.link.0 == link.0) (Some (value e.0.key e.1)) None)) (keyed e.0.key e.1) ∙ ap (λ c. is_some (cond c (Some (value e.0.key e.1)) None)) s
      ∙ sym (none-on q es (ap (λ (p : Place). at value p es) (same_place q e.0.place t) ∙ n))
  there_at q e es false true t s n ih = ih ∙ sym (ap (λ c. c || list_any (eq_by_cmp place_cmp q) (link_places link es)) t)
  there_at q e es false false t s n ih = ih

  -- the link has something at a place exactly where a member of it stands there
  there : (q : Place) (es : List (Member × V)) → StandsOnce value es → is_some (option_and_then (of_link q) (at value q es)) ≡ list_any (eq_by_cmp place_cmp q) (link_places link es)
  there q [] o = refl
  there q (e ∷ es) o = there_at q e es (eq_by_cmp place_cmp q e.0.place) (on e) refl refl o.0 (there q es o.1)

  -- no place is told twice
  distinct : (es : List (Member × V)) → StandsOnce value es → IsDistinct (eq_by_cmp place_cmp) (link_places link es)
  distinct [] o = none_there
  distinct (e ∷ es) o =
      cond_both (on e) (e ∷ filter on es) (filter on es) (λ xs. IsDistinct (eq_by_cmp place_cmp) (map (λ f. f.0.place) xs))
      (λ _. IsDistinct-cons (eq_by_cmp place_cmp) e.0.place (link_places link es) (all-fail (eq_by_cmp place_cmp e.0.place) (link_places link es) (none-on e.0.place es o.0)) (distinct es o.1))
      (λ _. distinct es o.1)

  pub sorted-places : (es : List (Member × V)) (qs : List Place) → StandsOnce value es → IsPermutation (link_places link es) qs → IsSorted kept_place_cmp qs
      → qs ≡ keys (chosen of_link (from_entries {R = place_cmp} (map (by_place value) es)))
  sorted-places es qs o moved sorted =
      sorted-keys places_total places_exact (chosen of_link (from_entries (map (by_place value) es))) qs
      (sorted-strictly places_total places_exact (link_places link es) qs (distinct es o) moved (subst (λ R. IsSorted R qs) place-order sorted))
      (λ q.
      ap is_some (get-chosen places_total places_exact of_link (from_entries (map (by_place value) es)) q)
      ∙ ap (λ x. is_some (option_and_then (of_link q) x)) (get-from_entries places_total (map (by_place value) es) q)
      ∙ there q es o
      ∙ list_any-IsPermutation (eq_by_cmp place_cmp q) (link_places link es) qs moved)

-- what follows of two facts on what is told
pub if_ok : {A E : Type 0} {P Q S : A → Type 0} (r : Result A E) → IfOk r P → IfOk r Q → ((a : A) → P a → Q a → S a) → IfOk r S
if_ok (Ok a) p q f = f a p q
if_ok (Err e) p q f = tt

-- two lists are empty where they are together
pub parts-none : {A : Type 0} (xs ys : List A) → xs ++ ys ≡ [] → (xs ≡ []) × (ys ≡ [])
parts-none [] ys h = (refl, h)
parts-none (x ∷ xs) ys h = absurd cc
