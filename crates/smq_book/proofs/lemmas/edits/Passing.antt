-- The entries of a map that pass a test.
use Rattle.std.proofs.Common.{◌≡◌, Bool, true, false, cond, List, [], ◌∷◌, Option, Some, None, refl, sym, ap, ◌∙◌}
use Rattle.std.specs.Prelude.{not, is_some, option_and_then}
use Rattle.std.specs.List.{AllByRecursion, list_any}
use Rattle.std.specs.Ordering.{eq_by_cmp}
use Rattle.std.specs.FinMap.{FinMap, entries, get, keys, contains_key-keys, same_map}
use Rattle.smq_kit.specs.declared.place.Place.{Place}
use Rattle.smq_kit.specs.Maps.{patched}
use Rattle.smq_kit.specs.Orders.{place_cmp}
use Rattle.smq_kit.proofs.PlaceOrders.{places_total, places_exact}
use Rattle.smq_kit.proofs.MapLemmas as maps
use Rattle.smq_book.specs.edits.Reached.{passing}

module _ {X : Type 0} (test : Place → X → Bool) (m : FinMap place_cmp X) where
  -- what the entries that pass have at a place
  pub get-passing : (q : Place) → get (passing test m) q ≡ option_and_then (λ v. cond (test q v) (Some v) None) (get m q)
  get-passing q = maps.get-chosen places_total places_exact (λ place v. cond (test place v) (Some v) None) m q

  some_passing : (b : Bool) (v : X) → is_some (cond b (Some v) None) ≡ b
  some_passing true v = refl
  some_passing false v = refl

  -- a place is one of them where what stands there passes
  pub passing-at : (q : Place) (v : X) → get m q ≡ Some v → list_any (eq_by_cmp place_cmp q) (keys (passing test m)) ≡ test q v
  passing-at q v is =
      sym (contains_key-keys (passing test m) q)
      ∙ ap is_some (get-passing q ∙ ap (option_and_then (λ v. cond (test q v) (Some v) None)) is)
      ∙ some_passing (test q v) v

  -- nothing stands at a place that is none of the map
  pub passing-none : (q : Place) → get m q ≡ None → list_any (eq_by_cmp place_cmp q) (keys (passing test m)) ≡ false
  passing-none q is =
      sym (contains_key-keys (passing test m) q)
      ∙ ap is_some (get-passing q ∙ ap (option_and_then (λ v. cond (test q v) (Some v) None)) is)

module _ {X : Type 0} (test : Place → X → Bool) (m : FinMap place_cmp X) where
  parted : (b : Bool) (v : X) → cond b None (Some v) ≡ cond (not b) (Some v) None
  parted true v = refl
  parted false v = refl

  nothing : (b : Bool) → cond {A = Option X} b None None ≡ None
  nothing true = refl
  nothing false = refl

  taken-at : (q : Place) (x : Option X) → get m q ≡ x → cond (list_any (eq_by_cmp place_cmp q) (keys (passing test m))) None x ≡ option_and_then (λ v. cond (not (test q v)) (Some v) None) x
  taken-at q None is = nothing (list_any (eq_by_cmp place_cmp q) (keys (passing test m)))
  taken-at q (Some v) is = ap (λ b. cond b None (Some v)) (passing-at test m q v is) ∙ parted (test q v) v

  -- without the entries that pass, those that fail are left
  pub without-passing : patched m (λ q. None) (keys (passing test m)) ≡ passing (λ q v. not (test q v)) m
  without-passing = same_map places_total places_exact _ _ (λ q.
      maps.get-patched places_total places_exact m (λ q. None) (keys (passing test m)) q
      ∙ taken-at q (get m q) refl
      ∙ sym (get-passing (λ q v. not (test q v)) m q))

  stays-at : (q : Place) (x : Option X) → get m q ≡ x → list_any (eq_by_cmp place_cmp q) (keys (passing test m)) ≡ false → option_and_then (λ v. cond (not (test q v)) (Some v) None) x ≡ x
  stays-at q None is out = refl
  stays-at q (Some v) is out = ap (λ b. cond (not b) (Some v) None) (sym (passing-at test m q v is) ∙ out)

  -- with the entries that pass put in again, the map is as it was
  pub again-passing : patched (passing (λ q v. not (test q v)) m) (get m) (keys (passing test m)) ≡ m
  again-passing = maps.patched-is places_total places_exact (keys (passing test m)) (passing (λ q v. not (test q v)) m) m (record {
    at = λ q out. get-passing (λ q v. not (test q v)) m q ∙ stays-at q (get m q) refl out;
  })

  kept_as : (b : Bool) (v w : X) → cond b (Some v) None ≡ Some w → Some v ≡ Some w
  kept_as true v w e = e
  kept_as false v w e = absurd cc

  as-was : (q : Place) (x : Option X) (v : X) → get m q ≡ x → option_and_then (λ v. cond (test q v) (Some v) None) x ≡ Some v → get m q ≡ Some v
  as-was q None v is e = absurd cc
  as-was q (Some w) v is e = is ∙ kept_as (test q w) w v e

  passed_by : (b : Bool) (v w : X) → cond b (Some v) None ≡ Some w → b ≡ true
  passed_by true v w e = refl
  passed_by false v w e = absurd cc

  same_value : (b : Bool) (v w : X) → cond b (Some v) None ≡ Some w → v ≡ w
  same_value true v w e = cc
  same_value false v w e = absurd cc

  passes-at : (q : Place) (x : Option X) (v : X) → option_and_then (λ v. cond (test q v) (Some v) None) x ≡ Some v → test q v ≡ true
  passes-at q None v e = absurd cc
  passes-at q (Some w) v e = ap (test q) (sym (same_value (test q w) w v e)) ∙ passed_by (test q w) w v e

  -- what passes is what the map has
  pub passing-is : (q : Place) (v : X) → get (passing test m) q ≡ Some v → get m q ≡ Some v
  passing-is q v e = as-was q (get m q) v refl (sym (get-passing test m q) ∙ e)

  -- and it passes
  pub passing-does : (q : Place) (v : X) → get (passing test m) q ≡ Some v → test q v ≡ true
  passing-does q v e = passes-at q (get m q) v (sym (get-passing test m q) ∙ e)

  all-are : (es : List (Place × X)) → AllByRecursion (λ e. get (passing test m) e.0 ≡ Some e.1) es → AllByRecursion (λ e. get m e.0 ≡ Some e.1) es
  all-are [] a = tt
  all-are (e ∷ es) a = (passing-is e.0 e.1 a.0, all-are es a.1)

  pub entries-passing : AllByRecursion (λ e. get m e.0 ≡ Some e.1) (entries (passing test m))
  entries-passing = all-are (entries (passing test m)) (maps.get-entry places_total places_exact (passing test m))

-- where a test calls no two values of a map different from another, what passes is one
pub passing-alike : {X : Type 0} (f g : Place → X → Bool) (m : FinMap place_cmp X) → ((q : Place) (v : X) → get m q ≡ Some v → f q v ≡ g q v) → passing f m ≡ passing g m
passing-alike f g m h = maps.chosen-alike places_total places_exact (λ place v. cond (f place v) (Some v) None) (λ place v. cond (g place v) (Some v) None) m (λ q v e. ap (λ b. cond b (Some v) None) (h q v e))
