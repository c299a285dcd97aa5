-- What is listed of traffic that is dealt by place so that no key is parted: each listed place is that of what it is listed
-- for, so the lists of a part are those of the whole, less the other places.
use Rattle.std.proofs.Common.{◌≡◌, ◌⊎◌, inl, inr, ◌+◌, Bool, true, false, cond, List, [], ◌∷◌, ◌++◌, length, Option, Some, None, refl, sym, ap, ◌∙◌, subst}
use Rattle.std.specs.Prelude.{◌↔◌, ◌&&◌, Contains, not, is_some, map, filter, option_and_then, option_map, option_to_list}
use Rattle.std.specs.List.{AllByRecursion, flat_map, list_any}
use Rattle.std.specs.FinMap.{FinMap, contains_key, entries, get, keys, retain_keys, same_map, values}
use Rattle.std.specs.FinSet.{FinSet}
use Rattle.std.proofs.lemmas.List.Elements.{filter-append}
use Rattle.std.proofs.lemmas.List.Filters.{length-filter_both}
use Rattle.std.proofs.lemmas.List.Folds.{flat_map-map}
use Rattle.std.proofs.lemmas.Map.Views.{any-filter_same, tells_apart}
use Rattle.smq_kit.specs.declared.place.Place.{Place}
use Rattle.smq_kit.specs.Orders.{place_cmp}
use Rattle.smq_kit.proofs.MapLemmas as maps
use Rattle.smq_kit.proofs.PlaceOrders.{places_total, places_exact}
use Rattle.smq_group.specs.Matching.{ReceiptStanding, receipt_standing}
use Rattle.smq_tally.specs.declared.fact.Fact.{Fact}
use Rattle.smq_tally.specs.declared.list.List as l
use Rattle.smq_tally.specs.declared.list.Listed.{Listed}
use Rattle.smq_tally.specs.Lists.{in_list, listed, listed_cmp, listed_set, listings_of_fact}
use Rattle.smq_tally.specs.Tables.{listed_in}
use Rattle.smq_tally.specs.within.ListOrder.{listed_total, same_listed}
use Rattle.smq_tally.proofs.ListOrders.{listed_exact}
use Rattle.smq_tally.proofs.ListedFacts.{Once, listed-once}
use Rattle.smq_tally.proofs.Listings.{get-listed, listed-iff, marked}
use Rattle.smq_present.specs.present.Settings.{SettingsValue}
use Rattle.smq_present.specs.pairing.Traffic.{Message, TrafficValue}
use Rattle.smq_present.specs.join.Circumstances.{circumstances}
use Rattle.smq_present.specs.join.Facts.{fact_in_circumstances, facts_of}
use Rattle.smq_present.specs.join.Listings.{list_of_standing, receipt_listing, receipt_notes}
use Rattle.smq_present.specs.whole.Dealt.{KeepsKeysTogether, dealt, other_places, tables_from}
use Rattle.smq_present.proofs.lemmas.whole.DealtByKey.{entries-kept, facts-kept, filter-swap, get-kept, others-together, part, receipt-same, receipts-kept, whole}
use Rattle.smq_present.proofs.lemmas.whole.SplitByLink.{all-weaker}
use Rattle.smq_present.proofs.lemmas.whole.Tallied.{notes-with}

pub filter-map : {A B : Type 0} (test : B → Bool) (f : A → B) (xs : List A) → filter test (map f xs) ≡ map f (filter (λ x. test (f x)) xs)
filter-map test f [] = refl
filter-map {A} test f (x ∷ xs) = by (test (f x)) (filter-map test f xs)
  where
    by : (b : Bool) → filter test (map f xs) ≡ map f (filter (λ x. test (f x)) xs)
        → cond b (f x ∷ filter test (map f xs)) (filter test (map f xs)) ≡ map f (cond b (x ∷ filter (λ x. test (f x)) xs) (filter (λ x. test (f x)) xs))
    by true ih = λ i. f x ∷ ih i
    by false ih = ih

module _ (here : Place → Bool) where
  -- whether a test takes the place of a listed place
  abbrev pub note_here : Listed → Bool
  note_here x = here x.place

  -- what is listed at one place is taken with it
  one-place : (q : Place) (b : Bool) → here q ≡ b → (xs : List Listed) → AllByRecursion (λ x. x.place ≡ q) xs → filter note_here xs ≡ cond b xs []
  one-place q true h [] a = refl
  one-place q false h [] a = refl
  one-place q b h (x ∷ xs) a =
      ap (λ c. cond c (x ∷ filter note_here xs) (filter note_here xs)) (ap here a.0 ∙ h) ∙ by b (one-place q b h xs a.1)
    where
      by : (b : Bool) → filter note_here xs ≡ cond b xs [] → cond b (x ∷ filter note_here xs) (filter note_here xs) ≡ cond b (x ∷ xs) []
      by true ih = λ i. x ∷ ih i
      by false ih = ih

  -- what is listed of entries that are taken, each at its place, is what is taken of what is listed
  module _ {X : Type 0} (there all : Place × X → List Listed) where
    listed-part : (es : List (Place × X)) → AllByRecursion (λ e. AllByRecursion (λ x. x.place ≡ e.0) (all e)) es
        → AllByRecursion (λ e. here e.0 ≡ true → there e ≡ all e) es
        → flat_map there (filter (λ e. here e.0) es) ≡ filter note_here (flat_map all es)
    listed-part [] a same = refl
    listed-part (e ∷ es) a same =
        by (listed-part es a.1 same.1) (here e.0) refl ∙ sym (filter-append note_here (all e) (flat_map all es))
      where
        by : flat_map there (filter (λ e. here e.0) es) ≡ filter note_here (flat_map all es) → (b : Bool) → here e.0 ≡ b
            → flat_map there (cond b (e ∷ filter (λ e. here e.0) es) (filter (λ e. here e.0) es))
            ≡ filter note_here (all e) ++ filter note_here (flat_map all es)
        by ih true h = λ i. (same.0 h ∙ sym (one-place e.0 true h (all e) a.0)) i ++ ih i
        by ih false h =
            ih ∙ ap (λ (xs : List Listed). xs ++ filter note_here (flat_map all es)) (sym (one-place e.0 false h (all e) a.0))

  -- the set of what is taken is what is taken of the set
  pub set-kept : (xs : List Listed) → listed_set (filter note_here xs) ≡ retain_keys (listed_set xs) note_here
  set-kept xs = same_map listed_total listed_exact _ _ (λ q.
      get-listed (filter note_here xs) q
      ∙ ap marked (any-filter_same (same_listed q) note_here (note_here q)
      (λ x same. ap note_here (sym (tells_apart listed_exact q x same))) xs)
      ∙ by (note_here q) (list_any (same_listed q) xs)
      ∙ ap (λ v. cond (note_here q) v None) (sym (get-listed xs q))
      ∙ sym (get-kept listed_total listed_exact note_here (listed_set xs) q))
    where
      by : (b c : Bool) → marked (b && c) ≡ cond b (marked c) None
      by true c = refl
      by false c = refl

  keys-kept : (notes : FinSet listed_cmp) → keys (retain_keys notes note_here) ≡ filter note_here (keys notes)
  keys-kept notes =
      ap (map (λ e. e.0)) (entries-kept listed_total listed_exact note_here notes)
      ∙ sym (filter-map note_here (λ e. e.0) (entries notes))

-- ---- what is listed for a place stands there

by-fact : (q : Place) (ls : List Listed) (place : Place) → Once ls place → place ≡ q → AllByRecursion (λ x. x.place ≡ q) ls
by-fact q ls place (inl none) e = subst (AllByRecursion (λ x. x.place ≡ q)) (sym none) tt
by-fact q ls place (inr one) e = subst (AllByRecursion (λ x. x.place ≡ q)) (sym one.1.0) (one.1.1.0 ∙ e, tt)

by-standing : (q : Place) (list : Option l.List) → AllByRecursion (λ x. x.place ≡ q) (option_to_list (option_map (λ list. listed list q) list))
by-standing q None = tt
by-standing q (Some list) = (refl, tt)

all-places : {A : Type 0} (P : A → Type 0) (xs : List A) → ((x : A) → P x) → AllByRecursion P xs
all-places P [] h = tt
all-places P (x ∷ xs) h = (h x, all-places P xs h)

module _ (s : SettingsValue) (t : TrafficValue) where
  fact-place : (q : Place) (f : Fact) → get (facts_of s t) q ≡ Some f → f.place ≡ q
  fact-place q f e =
      by (get t.messages q)
      (sym (maps.get-chosen places_total places_exact (λ place m. Some (fact_in_circumstances place m (circumstances s t m))) t.messages q) ∙ e)
    where
      by : (v : Option Message) → option_and_then (λ m. Some (fact_in_circumstances q m (circumstances s t m))) v ≡ Some f → f.place ≡ q
      by None e = absurd cc
      by (Some m) e =
          let same : fact_in_circumstances q m (circumstances s t m) ≡ f = cc in
          sym (ap (λ (x : Fact). x.place) same)

  -- all that is listed: notes, receipts, and messages for their outcomes
  abbrev all_notes : List Listed
  all_notes = (keys t.notes ++ receipt_notes (whole s t)) ++ flat_map listings_of_fact (values (facts_of s t))

  places-listed : (tables_from s t).places ≡ listed_set all_notes
  places-listed = notes-with (keys t.notes ++ receipt_notes (whole s t)) (flat_map listings_of_fact (values (facts_of s t)))

module _ (s : SettingsValue) (t : TrafficValue) (here : Place → Bool) (together : KeepsKeysTogether s t here) where
  facts-listed : flat_map listings_of_fact (values (facts_of s (dealt here t)))
      ≡ filter (note_here here) (flat_map listings_of_fact (values (facts_of s t)))
  facts-listed =
      ap (λ (facts : FinMap place_cmp Fact). flat_map listings_of_fact (values facts)) (facts-kept s t here together)
      ∙ ap (λ (es : List (Place × Fact)). flat_map listings_of_fact (map (λ e. e.1) es))
      (entries-kept places_total places_exact here (facts_of s t))
      ∙ flat_map-map listings_of_fact (λ e. e.1) (filter (λ e. here e.0) (entries (facts_of s t)))
      ∙ listed-part here (λ e. listings_of_fact e.1) (λ e. listings_of_fact e.1) (entries (facts_of s t))
      (all-weaker (λ e. get (facts_of s t) e.0 ≡ Some e.1) (λ e. AllByRecursion (λ x. x.place ≡ e.0) (listings_of_fact e.1)) (entries (facts_of s t))
      (λ e there. by-fact e.0 (listings_of_fact e.1) e.1.place (listed-once e.1.outcome e.1.place) (fact-place s t e.0 e.1 there))
      (maps.get-entry places_total places_exact (facts_of s t)))
      (all-places (λ e. here e.0 ≡ true → listings_of_fact e.1 ≡ listings_of_fact e.1) (entries (facts_of s t)) (λ e h. refl))
      ∙ ap (filter (note_here here)) (sym (flat_map-map listings_of_fact (λ e. e.1) (entries (facts_of s t))))

  receipts-listed : receipt_notes (part s t here together) ≡ filter (note_here here) (receipt_notes (whole s t))
  receipts-listed =
      ap (flat_map (λ e. option_to_list (receipt_listing (part s t here together) e)))
      (ap entries (receipts-kept s t here together) ∙ entries-kept places_total places_exact here (whole s t).receipts)
      ∙ listed-part here (λ e. option_to_list (receipt_listing (part s t here together) e))
      (λ e. option_to_list (receipt_listing (whole s t) e)) (entries (whole s t).receipts)
      (all-places (λ e. AllByRecursion (λ x. x.place ≡ e.0) (option_to_list (receipt_listing (whole s t) e))) (entries (whole s t).receipts)
      (λ e. by-standing e.0 (list_of_standing (receipt_standing (whole s t) e.0 e.1))))
      (all-weaker (λ e. get (whole s t).receipts e.0 ≡ Some e.1)
      (λ e. here e.0 ≡ true
      → option_to_list (receipt_listing (part s t here together) e) ≡ option_to_list (receipt_listing (whole s t) e))
      (entries (whole s t).receipts)
      (λ e there h. ap (λ (standing : ReceiptStanding). option_to_list (option_map (λ list. listed list e.0) (list_of_standing standing)))
      (receipt-same s t here together e.0 e.1 there h))
      (maps.get-entry places_total places_exact (whole s t).receipts))

  -- all that is listed of a part is what is taken of all that is listed
  notes-kept : all_notes s (dealt here t) ≡ filter (note_here here) (all_notes s t)
  notes-kept =
      (λ i. (keys-kept here t.notes i ++ receipts-listed i) ++ facts-listed i)
      ∙ ap (λ (xs : List Listed). xs ++ filter (note_here here) (flat_map listings_of_fact (values (facts_of s t))))
      (sym (filter-append (note_here here) (keys t.notes) (receipt_notes (whole s t))))
      ∙ sym (filter-append (note_here here) (keys t.notes ++ receipt_notes (whole s t)) (flat_map listings_of_fact (values (facts_of s t))))

  places-kept : (tables_from s (dealt here t)).places ≡ retain_keys (tables_from s t).places (note_here here)
  places-kept =
      places-listed s (dealt here t) ∙ ap listed_set notes-kept ∙ set-kept here (all_notes s t)
      ∙ ap (λ (places : FinSet listed_cmp). retain_keys places (note_here here)) (sym (places-listed s t))

  pub list-kept : (list : l.List) → listed_in (tables_from s (dealt here t)) list ≡ filter here (listed_in (tables_from s t) list)
  list-kept list =
      ap (λ (places : FinSet listed_cmp). map (λ e. e.place) (filter (in_list list) (keys places))) places-kept
      ∙ ap (λ (notes : List Listed). map (λ e. e.place) (filter (in_list list) notes)) (keys-kept here (tables_from s t).places)
      ∙ ap (map (λ e. e.place)) (filter-swap (note_here here) (in_list list) (keys (tables_from s t).places))
      ∙ sym (filter-map here (λ e. e.place) (filter (in_list list) (keys (tables_from s t).places)))

  part-has : (list : l.List) (place : Place) → contains_key (tables_from s (dealt here t)).places (listed list place)
      ≡ is_some (cond (here place) (get (tables_from s t).places (listed list place)) None)
  part-has list place =
      ap (λ (places : FinSet listed_cmp). contains_key places (listed list place)) places-kept
      ∙ ap is_some (get-kept listed_total listed_exact (note_here here) (tables_from s t).places (listed list place))

  -- what stands in the list of a part stands in that of the whole
  whole-has : (list : l.List) (place : Place) → Contains (listed_in (tables_from s (dealt here t)) list) place
      → Contains (listed_in (tables_from s t) list) place
  whole-has list place c =
      (listed-iff (tables_from s t) list place).1
      (by (here place) (get (tables_from s t).places (listed list place))
      (sym (part-has list place) ∙ (listed-iff (tables_from s (dealt here t)) list place).0 c))
    where
      by : (b : Bool) (v : Option (Unit {0})) → is_some (cond b v None) ≡ true → is_some v ≡ true
      by true v e = e
      by false v e = absurd cc

  -- what stands in a list at a place that is taken stands in that of the part
  part-contains : (list : l.List) (place : Place) → here place ≡ true → Contains (listed_in (tables_from s t) list) place
      → Contains (listed_in (tables_from s (dealt here t)) list) place
  part-contains list place h c =
      (listed-iff (tables_from s (dealt here t)) list place).1
      (part-has list place ∙ ap (λ b. is_some (cond b (get (tables_from s t).places (listed list place)) None)) h
      ∙ (listed-iff (tables_from s t) list place).0 c)

module _ (s : SettingsValue) (t : TrafficValue) (here : Place → Bool) (together : KeepsKeysTogether s t here) (list : l.List) where
  pub lengths-dealt : length (listed_in (tables_from s t) list)
      ≡ length (listed_in (tables_from s (dealt here t)) list) + length (listed_in (tables_from s (dealt (other_places here) t)) list)
  lengths-dealt =
      sym (length-filter_both here (other_places here) (λ place. refl) (listed_in (tables_from s t) list))
      ∙ (λ i. length (sym (list-kept s t here together list) i)
      + length (sym (list-kept s t (other_places here) (others-together s t here together) list) i))

  pub places-dealt : (place : Place) → Contains (listed_in (tables_from s t) list) place
      ↔ (Contains (listed_in (tables_from s (dealt here t)) list) place
      ⊎ Contains (listed_in (tables_from s (dealt (other_places here) t)) list) place)
  places-dealt place = (
    λ c. by (here place) refl c,
    λ c. elim c as (λ _. Contains (listed_in (tables_from s t) list) place) [
      | inl a ↦ whole-has s t here together list place a
      | inr b ↦ whole-has s t (other_places here) (others-together s t here together) list place b
    ],
  )
    where
      by : (b : Bool) → here place ≡ b → Contains (listed_in (tables_from s t) list) place
          → Contains (listed_in (tables_from s (dealt here t)) list) place
          ⊎ Contains (listed_in (tables_from s (dealt (other_places here) t)) list) place
      by true h c = inl (part-contains s t here together list place h c)
      by false h c = inr (part-contains s t (other_places here) (others-together s t here together) list place (ap not h) c)
