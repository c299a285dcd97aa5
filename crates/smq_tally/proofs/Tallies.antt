-- Tables after one fact more or less.
use Rattle.std.proofs.Common.{◌≡◌, ℕ, ◌+◌, ◌-◌, ◌≤◌, Bool, ◌||◌, true, false, cond, List, [], ◌∷◌, ◌++◌, length, refl, sym, ap, ◌∙◌, arith, rules}
use Rattle.std.specs.Prelude.{◌==◌, count_by, Option, Some, None, option_map, option_to_list}
use Rattle.std.specs.List.{AllByRecursion, flat_map, list_any}
use Rattle.std.proofs.lemmas.Map.Views.{tells_apart}
use Rattle.std.proofs.Math.Bool.{or-false}
use Rattle.std.proofs.lemmas.Bool.{eqb-false, eqb-true, false_from_ne_true}
use Rattle.std.proofs.lemmas.List.Folds.{list_any-append}
use Rattle.std.proofs.lemmas.List.Sums.{sum_by-cons, sum_by-append, count_by-le-length}
use Rattle.std.specs.FinMap.{FinMap, get, insert, remove, contains_key, values}
use Rattle.std.specs.FinSet.{FinSet}
use Rattle.smq_kit.specs.Maps.{positive, share}
use Rattle.smq_kit.specs.Orders.{place_cmp}
use Rattle.smq_kit.specs.declared.place.Place.{Place}
use Rattle.smq_kit.proofs.PlaceOrders.{places_total, places_exact}
use Rattle.smq_kit.proofs.MapLemmas as maps
use Rattle.smq_kit.proofs.Counted as counted
use Rattle.smq_tally.specs.declared.fact.Fact.{Fact}
use Rattle.smq_tally.specs.declared.outcome.Outcome.{Outcome}
use Rattle.smq_tally.specs.declared.fact.CountKey.{CountKey}
use Rattle.smq_tally.specs.declared.value.Value.{Value}
use Rattle.smq_tally.specs.declared.view.View.{View}
use Rattle.smq_tally.specs.Lists.{listed_cmp, listings_of_fact}
use Rattle.smq_tally.specs.Rows.{views, view_rank, value_in, count_key, same_count_key, key_in, keys_of_fact, stands_in}
use Rattle.smq_tally.specs.Tables.{TablesValue, tables_of, number_at}
use Rattle.smq_tally.specs.declared.counts.Delta.TheVariants as s
use Rattle.smq_tally.specs.within.Counting.{AreCounted, Counts, count_in, count_of, one_step, steps, one_more, one_less}
use Rattle.smq_tally.specs.within.Kept.{StandAtTheirPlaces}
use Rattle.smq_tally.specs.within.CountOrder.{count_keys_total}
use Rattle.smq_tally.proofs.CountOrders.{count_keys_exact}
use Rattle.smq_tally.proofs.ListedFacts.{fact-listed, fact-unlisted}
use Rattle.smq_tally.proofs.Undone.{put-instead}

-- counts have the number of each key, where it isn't 0
abbrev pub Has : Counts → (CountKey → ℕ) → Type 0
Has m n = counted.Has count_keys_total count_keys_exact keys_of_fact m n

pub has-tables : (facts : FinMap place_cmp Fact) (notes : FinSet listed_cmp) → Has (tables_of facts notes).counts (λ q. number_at q facts)
has-tables facts notes = counted.has-counted count_keys_total count_keys_exact keys_of_fact (values facts)

pub has-one : (m u : Counts) (n : CountKey → ℕ) → Has m n → Has u n → m ≡ u
has-one m u n h k = counted.has-one count_keys_total count_keys_exact keys_of_fact m u n h k

pub has-same : (m : Counts) (n p : CountKey → ℕ) → Has m n → ((q : CountKey) → n q ≡ p q) → Has m p
has-same m n p h e = counted.has-same count_keys_total count_keys_exact keys_of_fact m n p h e

pub has-count : (m : Counts) (n : CountKey → ℕ) → Has m n → (q : CountKey) → count_in m q ≡ n q
has-count m n h q = counted.has-count count_keys_total count_keys_exact keys_of_fact m n h q

pub count-tables : (facts : FinMap place_cmp Fact) (notes : FinSet listed_cmp) (q : CountKey) → count_of (tables_of facts notes) q ≡ number_at q facts
count-tables facts notes q = has-count (tables_of facts notes).counts (λ r. number_at r facts) (has-tables facts notes) q

pub number-bound : (facts : FinMap place_cmp Fact) (notes : FinSet listed_cmp) (q : CountKey)
    → count_of (tables_of facts notes) q ≤ length (values facts)
number-bound facts notes q = let e = count-tables facts notes q in let b = count_by-le-length (stands_in q) (values facts) in rw e b

-- ---- a fact stands at a key once at most

pub one_most : (b : Bool) → cond b 1 0 ≤ 1
one_most true = omega arith
one_most false = omega arith

-- a key of another view is another key
apart : (q : CountKey) (view : View) (value : Value) (outcome : Outcome) → (view_rank q.view == view_rank view) ≡ false
    → same_count_key q (count_key view value outcome) ≡ false
apart q view value outcome e = false_from_ne_true _ (λ h.
    eqb-false _ _ e (ap (λ (k : CountKey). view_rank k.view) (tells_apart count_keys_exact q (count_key view value outcome) h)))

module _ (p : CountKey → Bool) where
  pub count-one : (k : CountKey) → count_by p (k ∷ []) ≡ cond (p k) 1 0
  count-one k = sum_by-cons (λ y. cond (p y) 1 0) k [] ∙ elim (p k) as (λ b. cond b 1 0 + 0 ≡ cond b 1 0) [ true ↦ refl | false ↦ refl ]

  once-one : (o : Option CountKey) → count_by p (option_to_list o) ≡ cond (list_any p (option_to_list o)) 1 0
  once-one None = refl
  once-one (Some k) = count-one k ∙ ap (λ b. cond b 1 0) (sym (or-false (p k)))

  pub count-append : (xs ys : List CountKey) → count_by p (xs ++ ys) ≡ count_by p xs + count_by p ys
  count-append xs ys = sum_by-append (λ y. cond (p y) 1 0) xs ys

-- the keys of a fact in these views
abbrev pub keys_in : Fact → List View → List CountKey
keys_in f vs = flat_map (λ view. option_to_list (key_in view f)) vs

-- views other than that of a key
abbrev pub Others : CountKey → List View → Type 0
Others q vs = AllByRecursion (λ (view : View). (view_rank q.view == view_rank view) ≡ false) vs

one-none : (q : CountKey) (view : View) (f : Fact) (value : Option Value) → (view_rank q.view == view_rank view) ≡ false
    → count_by (same_count_key q) (option_to_list (option_map (λ x. count_key view x f.outcome) value)) ≡ 0
one-none q view f None e = refl
one-none q view f (Some x) e = count-one (same_count_key q) (count_key view x f.outcome) ∙ ap (λ b. cond b 1 0) (apart q view x f.outcome e)

any-none : (q : CountKey) (view : View) (f : Fact) (value : Option Value) → (view_rank q.view == view_rank view) ≡ false
    → list_any (same_count_key q) (option_to_list (option_map (λ x. count_key view x f.outcome) value)) ≡ false
any-none q view f None e = refl
any-none q view f (Some x) e = or-false (same_count_key q (count_key view x f.outcome)) ∙ apart q view x f.outcome e

pub others-none : (q : CountKey) (f : Fact) (vs : List View) → Others q vs
    → (count_by (same_count_key q) (keys_in f vs) ≡ 0) × (list_any (same_count_key q) (keys_in f vs) ≡ false)
others-none q f [] h = (refl, refl)
others-none q f (v ∷ vs) h =
    let rest = others-none q f vs h.1 in (
      count-append (same_count_key q) (option_to_list (key_in v f)) (keys_in f vs) ∙ (λ i. one-none q v f (value_in v f) h.0 i + rest.0 i),
      list_any-append (same_count_key q) (option_to_list (key_in v f)) (keys_in f vs)
          ∙ (λ i. any-none q v f (value_in v f) h.0 i || rest.1 i),
    )

-- no two of these views are one
abbrev AreApart : List View → Type 0
AreApart [] = Unit {0}
AreApart (v ∷ vs) = AllByRecursion (λ (w : View). (view_rank v == view_rank w) ≡ false) vs × AreApart vs

carried : (q : CountKey) (v : View) (vs : List View) → view_rank q.view ≡ view_rank v
    → AllByRecursion (λ (w : View). (view_rank v == view_rank w) ≡ false) vs → Others q vs
carried q v [] e h = tt
carried q v (w ∷ vs) e h = (ap (λ n. n == view_rank w) e ∙ h.0, carried q v vs e h.1)

once_in : (f : Fact) (q : CountKey) (vs : List View) → AreApart vs
    → count_by (same_count_key q) (keys_in f vs) ≡ cond (list_any (same_count_key q) (keys_in f vs)) 1 0
once_in f q [] h = refl
once_in f q (v ∷ vs) h =
    let here = option_to_list (key_in v f) in
    count-append (same_count_key q) here (keys_in f vs)
    ∙ elim (view_rank q.view == view_rank v) as (λ b. (view_rank q.view == view_rank v) ≡ b
    → count_by (same_count_key q) here + count_by (same_count_key q) (keys_in f vs) ≡ cond
    (list_any (same_count_key q) here || list_any (same_count_key q) (keys_in f vs)) 1 0) [
      | true ↦ λ e.
          let rest = others-none q f vs (carried q v vs (eqb-true (view_rank q.view) (view_rank v) e) h.0) in
          let none : count_by (same_count_key q) here + count_by (same_count_key q) (keys_in f vs) ≡ count_by (same_count_key q) here = omega
          (arith, rest.0) in
          none ∙ once-one (same_count_key q) (key_in v f)
          ∙ ap (λ b. cond b 1 0) (sym (or-false (list_any (same_count_key q) here)) ∙ ap (λ b. list_any (same_count_key q) here || b) (sym rest.1))
      | false ↦ λ e.
          let none : count_by (same_count_key q) here + count_by (same_count_key q) (keys_in f vs) ≡ count_by (same_count_key q) (keys_in f vs) =
          omega (arith, one-none q v f (value_in v f) e) in
          none ∙ once_in f q vs h.1
          ∙ ap (λ b. cond (b || list_any (same_count_key q) (keys_in f vs)) 1 0) (sym (any-none q v f (value_in v f) e))
    ] refl
    ∙ ap (λ b. cond b 1 0) (sym (list_any-append (same_count_key q) here (keys_in f vs)))

pub once : (f : Fact) (q : CountKey) → count_by (same_count_key q) (keys_of_fact f) ≡ cond (stands_in q f) 1 0
once f q = once_in f q views (search rules)

-- ---- one fact more, or less

pub has-more : (m : Counts) (n : CountKey → ℕ) (keys : List CountKey) → Has m n → Has (steps s.Plus m keys) (λ q. n q + count_by (same_count_key q) keys)
has-more m n [] h = has-same m n (λ q. n q + count_by (same_count_key q) []) h (λ q. omega arith)
has-more m n (key ∷ keys) h =
    has-same (steps s.Plus (one_step s.Plus m key) keys) (λ q. (n q + cond (same_count_key q key) 1 0) + count_by (same_count_key q) keys)
    (λ q. n q + count_by (same_count_key q) (key ∷ keys))
    (has-more (one_step s.Plus m key) (λ q. n q + cond (same_count_key q key) 1 0) keys
    (counted.has-more count_keys_total count_keys_exact keys_of_fact m n key h))
    (λ q. omega (arith, sum_by-cons (λ r. cond (same_count_key q r) 1 0) key keys))

-- the number of one key is one less
has-one-less : (m : Counts) (n : CountKey → ℕ) (key : CountKey) → Has m n → Has (one_step s.Minus m key) (λ q. n q - cond (same_count_key q key) 1 0)
has-one-less m n key h =
    record {
      at = λ q. maps.get-set_at count_keys_total count_keys_exact m key (positive (count_in m key - 1)) q
          ∙ there q (same_count_key q key) refl;
    }
  where
    there : (q : CountKey) (b : Bool) → same_count_key q key ≡ b → cond b (positive (count_in m key - 1)) (get m q) ≡ positive (n q - cond b 1 0)
    there q true e = ap (λ c. positive (c - 1)) (has-count m n h key ∙ ap n (sym (maps.same_key count_keys_total count_keys_exact q key e)))
    there q false e = h.at q ∙ ap positive (omega arith)

pub has-less : (m : Counts) (n : CountKey → ℕ) (keys : List CountKey) → Has m n → Has (steps s.Minus m keys) (λ q. n q - count_by (same_count_key q) keys)
has-less m n [] h = has-same m n (λ q. n q - count_by (same_count_key q) []) h (λ q. omega arith)
has-less m n (key ∷ keys) h =
    has-same (steps s.Minus (one_step s.Minus m key) keys) (λ q. (n q - cond (same_count_key q key) 1 0) - count_by (same_count_key q) keys)
    (λ q. n q - count_by (same_count_key q) (key ∷ keys))
    (has-less (one_step s.Minus m key) (λ q. n q - cond (same_count_key q key) 1 0) keys (has-one-less m n key h))
    (λ q. omega (arith, sum_by-cons (λ r. cond (same_count_key q r) 1 0) key keys))

share-one : (f : Fact) (q : CountKey) → share (stands_in q) (Some f) ≡ cond (stands_in q f) 1 0
share-one f q = let one = sum_by-cons (λ g. cond (stands_in q g) 1 0) f [] in omega (arith, one)

pub number-more : (facts : FinMap place_cmp Fact) (f : Fact) (q : CountKey) → get facts f.place ≡ None
    → number_at q (insert facts f.place f) ≡ number_at q facts + cond (stands_in q f) 1 0
number-more facts f q none =
    let moved = maps.count-set places_total places_exact (stands_in q) facts f.place (Some f) in
    let nothing : share (stands_in q) (get facts f.place) ≡ 0 = ap (share (stands_in q)) none in
    omega (arith, moved, share-one f q, nothing)

number-less : (facts : FinMap place_cmp Fact) (place : Place) (f : Fact) (q : CountKey) → get facts place ≡ Some f
    → number_at q (remove facts place) ≡ number_at q facts - cond (stands_in q f) 1 0
number-less facts place f q has =
    let moved = maps.count-set places_total places_exact (stands_in q) facts place None in
    let one : share (stands_in q) (get facts place) ≡ cond (stands_in q f) 1 0 = ap (share (stands_in q)) has ∙ share-one f q in
    omega (arith, moved, one)

-- a fact that is there is counted at its keys
pub stands-counted : (facts : FinMap place_cmp Fact) (notes : FinSet listed_cmp) (place : Place) (f : Fact) → get facts place ≡ Some f
    → AreCounted (keys_of_fact f) (tables_of facts notes).counts
stands-counted facts notes place f has q =
    let moved = maps.count-set places_total places_exact (stands_in q) facts place None in
    let one : share (stands_in q) (get facts place) ≡ cond (stands_in q f) 1 0 = ap (share (stands_in q)) has ∙ share-one f q in
    omega (arith, moved, one, once f q, count-tables facts notes q)

-- one fact more is counted
counted-more : (facts : FinMap place_cmp Fact) (notes : FinSet listed_cmp) (f : Fact) → get facts f.place ≡ None
    → steps s.Plus (tables_of facts notes).counts (keys_of_fact f) ≡ (tables_of (insert facts f.place f) notes).counts
counted-more facts notes f none =
    has-one _ _ (λ q. number_at q (insert facts f.place f))
    (has-same _ (λ q. number_at q facts + count_by (same_count_key q) (keys_of_fact f)) (λ q. number_at q (insert facts f.place f))
    (has-more (tables_of facts notes).counts (λ q. number_at q facts) (keys_of_fact f) (has-tables facts notes))
    (λ q. omega (arith, once f q, number-more facts f q none)))
    (has-tables (insert facts f.place f) notes)

-- a fact is counted no more
counted-less : (facts : FinMap place_cmp Fact) (notes : FinSet listed_cmp) (place : Place) (f : Fact) → get facts place ≡ Some f
    → steps s.Minus (tables_of facts notes).counts (keys_of_fact f) ≡ (tables_of (remove facts place) notes).counts
counted-less facts notes place f has =
    has-one _ _ (λ q. number_at q (remove facts place))
    (has-same _ (λ q. number_at q facts - count_by (same_count_key q) (keys_of_fact f)) (λ q. number_at q (remove facts place))
    (has-less (tables_of facts notes).counts (λ q. number_at q facts) (keys_of_fact f) (has-tables facts notes))
    (λ q. omega (arith, once f q, number-less facts place f q has)))
    (has-tables (remove facts place) notes)

-- tables with one fact more
pub added-tables : (facts : FinMap place_cmp Fact) (notes : FinSet listed_cmp) (f : Fact) → get facts f.place ≡ None
    → one_more (tables_of facts notes) f ≡ tables_of (insert facts f.place f) notes
added-tables facts notes f none = λ i. record { counts = counted-more facts notes f none i; places = fact-listed facts notes f none i }

-- tables with one fact less, which stays listed where it is noted
pub removed-tables : (facts : FinMap place_cmp Fact) (notes : FinSet listed_cmp) (place : Place) (f : Fact) → StandAtTheirPlaces facts
    → get facts place ≡ Some f
    → one_less (tables_of facts notes) f (list_any (contains_key notes) (listings_of_fact f)) ≡ tables_of (remove facts place) notes
removed-tables facts notes place f own has =
    λ i. record { counts = counted-less facts notes place f has i; places = fact-unlisted facts notes place f own has i }

-- tables with a fact in the place of another
pub replaced-tables : (facts : FinMap place_cmp Fact) (notes : FinSet listed_cmp) (before f : Fact) → StandAtTheirPlaces facts
    → get facts f.place ≡ Some before
    → one_more (one_less (tables_of facts notes) before (list_any (contains_key notes) (listings_of_fact before))) f ≡ tables_of
    (insert facts f.place f) notes
replaced-tables facts notes before f own has =
    ap (λ (t : TablesValue). one_more t f) (removed-tables facts notes f.place before own has)
    ∙ added-tables (remove facts f.place) notes f (maps.get-removed places_total places_exact facts f.place)
    ∙ ap (λ (m : FinMap place_cmp Fact). tables_of m notes) (put-instead places_total places_exact facts f.place f)
