-- How many places an edit of what is set looks at: no more than it reaches.
use Rattle.std.proofs.Common.{◌≡◌, ℕ, ◌+◌, ◌≤◌, Bool, true, false, cond, List, [], ◌∷◌, ◌++◌, length, Option, Some, None, ap, ◌∙◌, arith}
use Rattle.std.specs.Prelude.{◌==◌, ◌&&◌, nat_le, map, filter, option_to_list}
use Rattle.std.specs.List.{AllByRecursion, flat_map}
use Rattle.std.specs.declared.cmp.Ordering.{Ordering}
use Rattle.std.specs.declared.cmp.Ordering.TheVariants.{Less, Equal, Greater}
use Rattle.std.specs.Cmp.{IsTotalOrder}
use Rattle.std.specs.FinMap.{FinMap, entries, entries-insert, from_entries, get, keys, len, len-entries, put}
use Rattle.std.specs.FinMap.Entries.{by_order}
use Rattle.std.proofs.lemmas.List.{length-map}
use Rattle.smq_kit.specs.declared.names.LinkId.{LinkId}
use Rattle.smq_kit.specs.declared.place.Place.{Place}
use Rattle.smq_kit.specs.Maps.{kept_of}
use Rattle.smq_kit.specs.Orders.{place_cmp}
use Rattle.smq_kit.proofs.MapLemmas as maps
use Rattle.smq_kit.proofs.PlaceOrders.{places_total, places_exact}
use Rattle.smq_tally.proofs.Undone.{no-entries}
use Rattle.smq_route.specs.Numbers.{places_under}
use Rattle.smq_route.specs.Versions.{begins}
use Rattle.smq_route.proofs.NumberOrders.{numbers_total}
use Rattle.smq_present.specs.present.Settings.{SettingsValue}
use Rattle.smq_present.specs.pairing.Traffic.{TrafficValue}
use Rattle.smq_present.specs.join.Circumstances.{window_of}
use Rattle.smq_present.specs.join.Facts.{facts_of}
use Rattle.smq_book.specs.edits.Reached.{due_by, is_due, is_open, is_under, messages_due_on, messages_under, outcome_in, passing}
use Rattle.smq_book.specs.index.Due.{due_by_fact, due_of, places_due_on}
use Rattle.smq_book.specs.index.Ends.{end_by_fact, ends_of, is_between, places_ending}
use Rattle.smq_book.specs.index.Numbered.{numbered, numbers_of}
use Rattle.smq_book.specs.index.PlacedKeys.{keys_made, passes}
use Rattle.smq_book.proofs.lemmas.index.Due.{due_total, on-link-there}
use Rattle.smq_book.proofs.lemmas.index.Ends.{end_total, ending-there}
use Rattle.smq_book.proofs.lemmas.index.Numbered.{begun}

first-counts : {A : Type 0} (b : Bool) (x : A) (xs : List A) → length (cond b (x ∷ xs) xs) ≡ cond b 1 0 + length xs
first-counts true x xs = omega arith
first-counts false x xs = omega arith

module _ {K : Type 0} {R : K → K → Ordering} (o : IsTotalOrder R) (test : K → Bool) where
  -- how many keys pass
  abbrev number_passing : List (K × Unit {0}) → ℕ
  number_passing es = length (filter test (map (λ e. e.0) es))

  -- one that is put in counts once at most
  put-counts : (k : K) (es : List (K × Unit {0})) → number_passing (put R k tt es) ≤ cond (test k) 1 0 + number_passing es
  put-counts k [] = let one = first-counts (test k) k [] in omega (arith, one)
  put-counts k (e ∷ es) =
      let here = first-counts (test e.0) e.0 (filter test (map (λ e. e.0) es)) in
      let before = first-counts (test k) k (filter test (map (λ e. e.0) (e ∷ es))) in
      let after = first-counts (test e.0) e.0 (filter test (map (λ e. e.0) (put R k tt es))) in
      let rest = put-counts k es in
      elim (R k e.0) as (λ r. number_passing (by_order r ((k, tt) ∷ e ∷ es) ((e.0, tt) ∷ es) (e ∷ put R k tt es))
      ≤ cond (test k) 1 0 + number_passing (e ∷ es)) [
        | Less ↦ omega (arith, before)
        | Equal ↦ omega arith
        | Greater ↦ omega (arith, here, after, rest)
      ]

  -- so a set that is made of keys has no more that pass than these
  set-counts : (ks : List K) → number_passing (entries (from_entries {R = R} (map (λ k. (k, tt {0})) ks))) ≤ length (filter test ks)
  set-counts [] = let none = ap number_passing (no-entries R (Unit {0})) in omega (arith, none)
  set-counts (k ∷ ks) =
      let made = from_entries {R = R} (map (λ k. (k, tt {0})) ks) in
      let same = ap number_passing (entries-insert o made k tt) in
      let one = put-counts k (entries made) in
      let rest = set-counts ks in
      let all = first-counts (test k) k (filter test ks) in
      omega (arith, same, one, rest, all)

  module _ {X : Type 0} (f : Place → X → Option K) (p : Place → X → Bool) where
    abbrev those : Place → X → Option X
    those place v = cond (p place v) (Some v) None

    one-counts : (e : Place × X) (x : Option K) (b : Bool) → passes test x ≡ b → (ks : List K) (es : List (Place × X))
        → length (filter test ks) ≤ length es
        → length (filter test (option_to_list x ++ ks)) ≤ length (map (λ v. (e.0, v)) (option_to_list (cond b (Some e.1) None)) ++ es)
    one-counts e None true t ks es h = omega (arith, h)
    one-counts e None false t ks es h = h
    one-counts e (Some k) true t ks es h =
        let one : ◌≡◌ {A = ℕ} (cond (test k) 1 0) 1 = ap (λ b. cond b 1 0) t in
        let all = first-counts (test k) k (filter test ks) in
        omega (arith, h, one, all)
    one-counts e (Some k) false t ks es h =
        let none : ◌≡◌ {A = ℕ} (cond (test k) 1 0) 0 = ap (λ b. cond b 1 0) t in
        let all = first-counts (test k) k (filter test ks) in
        omega (arith, h, none, all)

    made-counts : (es : List (Place × X)) → AllByRecursion (λ e. passes test (f e.0 e.1) ≡ p e.0 e.1) es
        → length (filter test (flat_map (λ e. option_to_list (f e.0 e.1)) es)) ≤ length (flat_map (kept_of those) es)
    made-counts [] a = omega arith
    made-counts (e ∷ es) a =
        one-counts e (f e.0 e.1) (p e.0 e.1) a.0 (flat_map (λ e. option_to_list (f e.0 e.1)) es) (flat_map (kept_of those) es) (made-counts es a.1)

    -- the keys that pass a test are no more than the entries of which they are made
    pub passing-counts : (m : FinMap place_cmp X) → ((q : Place) (v : X) → get m q ≡ Some v → passes test (f q v) ≡ p q v)
        → length (filter test (keys (keys_made {R = R} f m))) ≤ len (passing p m)
    unfolding keys_made
    passing-counts m alike =
        let set = set-counts (flat_map (λ e. option_to_list (f e.0 e.1)) (entries m)) in
        let made = made-counts (entries m) (each (entries m) (maps.get-entry places_total places_exact m)) in
        let all = len-entries (passing p m) ∙ ap length (maps.entries-chosen places_total places_exact those m) in
        omega (arith, set, made, all)
      where
        each : (es : List (Place × X)) → AllByRecursion (λ e. get m e.0 ≡ Some e.1) es → AllByRecursion (λ e. passes test (f e.0 e.1) ≡ p e.0 e.1) es
        each [] a = tt
        each (e ∷ es) a = (alike e.0 e.1 a.0, each es a.1)

-- the numbers that a prefix begins are no more than the messages under it
pub under-number : (t : TrafficValue) (prefix : List ℕ) → length (places_under (numbers_of t) prefix) ≤ len (messages_under prefix t)
under-number t prefix =
    let all = length-map (filter (λ e. begins e.number prefix) (keys (numbers_of t))) (λ e. e.place) in
    let few = passing-counts numbers_total (λ k. begins k.number prefix) numbered (λ place m. is_under prefix m) t.messages
    (λ q m is. begun t prefix q m.number) in
    omega (arith, all, few)

module _ (s : SettingsValue) (t : TrafficValue) where
  -- those whose windows end between two clocks no more than the messages that the later one lapses
  pub ending-number : (clock : ℕ) → length (places_ending s.clock clock (ends_of s t)) ≤ len (due_by s t clock)
  ending-number clock =
      let all = length-map (filter (is_between s.clock clock) (keys (ends_of s t))) (λ k. k.place) in
      let few = passing-counts end_total (is_between s.clock clock) (end_by_fact s.windows (facts_of s t))
      (λ place m. is_open (outcome_in s t m) && nat_le (m.moment + window_of s m.link) clock) t.messages
      (λ q m is. ending-there s t q clock m is) in
      omega (arith, all, few)

  -- and those of a link no more than its messages whose receipts are due
  pub on-link-number : (link : LinkId) → length (places_due_on link (due_of s t)) ≤ len (messages_due_on link s t)
  on-link-number link =
      let all = length-map (filter (λ k. k.link.0 == link.0) (keys (due_of s t))) (λ k. k.place) in
      let few = passing-counts due_total (λ k. k.link.0 == link.0) (due_by_fact (facts_of s t))
      (λ place m. m.link.0 == link.0 && is_due (outcome_in s t m)) t.messages
      (λ q m is. on-link-there s t q link m is) in
      omega (arith, all, few)
