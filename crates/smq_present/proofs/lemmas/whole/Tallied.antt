-- Facts that rise by place, as a map by place, and notes, as a set.
use Rattle.std.proofs.Common.{◌≡◌, Bool, true, false, cond, ◌||◌, List, [], ◌∷◌, ◌++◌, Some, None, refl, sym, ap, ◌∙◌}
use Rattle.std.specs.Prelude.{T, map, is_some}
use Rattle.std.specs.List.{AllByRecursion, list_any}
use Rattle.std.specs.Ordering.{is_eq}
use Rattle.std.specs.FinMap.{FinMap, entries, entries_sorted, find, from_entries, get, is_sorted, keys, values, contains_key-keys, get-entries, get-from_entries, same_map}
use Rattle.std.specs.FinMap.Entries.{below_all}
use Rattle.smq_kit.specs.declared.place.Place.{Place}
use Rattle.smq_kit.specs.Orders.{place_cmp}
use Rattle.smq_kit.proofs.Comparisons.{is_less, first_test, second_test}
use Rattle.smq_kit.proofs.MapLemmas as maps
use Rattle.smq_kit.proofs.PlaceOrders.{places_total, places_exact}
use Rattle.smq_tally.specs.declared.fact.Fact.{Fact}
use Rattle.smq_tally.specs.declared.list.Listed.{Listed}
use Rattle.smq_tally.specs.Lists.{listed_set}
use Rattle.smq_tally.specs.Tables.{AreOfDifferentPlaces}
use Rattle.smq_tally.specs.within.ListOrder.{listed_total, same_listed}
use Rattle.smq_tally.proofs.ListOrders.{listed_exact}
use Rattle.smq_tally.proofs.Listings.{marked, get-listed}
use Rattle.smq_present.specs.within.Lists.{placed_fact}

-- ---- facts

below-none : (x : Place) (fs : List Fact) → T (below_all place_cmp x (map placed_fact fs)) → find place_cmp x (map placed_fact fs) ≡ None
below-none x [] h = refl
below-none x (f ∷ fs) h =
    ap (λ r. cond (is_eq r) (Some f) (find place_cmp x (map placed_fact fs))) (is_less (place_cmp x f.place) (first_test _ _ h))
    ∙ below-none x fs (second_test _ _ h)

-- facts that rise by place are of different places
pub facts-apart : (fs : List Fact) → T (is_sorted place_cmp (map placed_fact fs)) → AreOfDifferentPlaces fs
facts-apart [] h = tt
facts-apart (f ∷ fs) h =
    (get-from_entries places_total (map placed_fact fs) f.place ∙ below-none f.place fs (first_test _ _ h), facts-apart fs (second_test _ _ h))

-- facts that stand at their places in a map are its entries
placed : (es : List (Place × Fact)) (m : FinMap place_cmp Fact) → AllByRecursion (λ e. get m e.0 ≡ Some e.1) es
    → ((q : Place) (f : Fact) → get m q ≡ Some f → f.place ≡ q) → map placed_fact (map (λ e. e.1) es) ≡ es
placed [] m a own = refl
placed (e ∷ es) m a own = λ i. (own e.0 e.1 a.0 i, e.1) ∷ placed es m a.1 own i

pub values-placed : (m : FinMap place_cmp Fact) → ((q : Place) (f : Fact) → get m q ≡ Some f → f.place ≡ q) → map placed_fact (values m) ≡ entries m
values-placed m own = placed (entries m) m (maps.get-entry places_total places_exact m) own

true_of : (b : Bool) → T b → b ≡ true
true_of true h = refl
true_of false h = absurd h

-- facts that are a map's, in order, rise by place
pub facts-rise : (facts : List Fact) (m : FinMap place_cmp Fact) → facts ≡ values m
    → ((q : Place) (f : Fact) → get m q ≡ Some f → f.place ≡ q) → is_sorted place_cmp (map placed_fact facts) ≡ true
facts-rise facts m is own =
    ap (λ (fs : List Fact). is_sorted place_cmp (map placed_fact fs)) is ∙ ap (is_sorted place_cmp) (values-placed m own)
    ∙ true_of (is_sorted place_cmp (entries m)) (entries_sorted m)

pub made-of-entries : (m : FinMap place_cmp Fact) → from_entries (entries m) ≡ m
made-of-entries m = same_map places_total places_exact _ _ (λ q. get-from_entries places_total (entries m) q ∙ sym (get-entries m q))

-- ---- notes

pub any-append : (p : Listed → Bool) (xs ys : List Listed) → list_any p (xs ++ ys) ≡ (list_any p xs || list_any p ys)
any-append p [] ys = refl
any-append p (x ∷ xs) ys = elim (p x) as (λ b. (b || list_any p (xs ++ ys)) ≡ ((b || list_any p xs) || list_any p ys)) [
  | true ↦ refl
  | false ↦ any-append p xs ys
]

pub is-marked : (b : Bool) → is_some (marked b) ≡ b
is-marked true = refl
is-marked false = refl

-- what a set of notes has, with more, are these notes with more
pub notes-with : (notes more : List Listed) → listed_set (keys (listed_set notes) ++ more) ≡ listed_set (notes ++ more)
notes-with notes more = same_map listed_total listed_exact _ _ (λ q.
    get-listed (keys (listed_set notes) ++ more) q
    ∙ ap marked (any-append (same_listed q) (keys (listed_set notes)) more
    ∙ ap (λ b. b || list_any (same_listed q) more) (sym (contains_key-keys (listed_set notes) q) ∙ ap is_some (get-listed notes q)
    ∙ is-marked (list_any (same_listed q) notes))
    ∙ sym (any-append (same_listed q) notes more))
    ∙ sym (get-listed (notes ++ more) q))
