-- Traffic that is dealt by place so that no key is parted: what has a key finds in its part what it finds in the whole, so
-- the facts of a part are those of the whole at its places.
use Rattle.std.proofs.Common.{◌≡◌, inl, inr, ◌+◌, Bool, true, false, cond, List, [], ◌∷◌, ◌++◌, length, Option, Some, None, refl, sym, ap, ◌∙◌, subst, arith}
use Rattle.std.specs.Prelude.{◌&&◌, ◌==◌, not, if◌then◌else◌, map, filter, count_by, option_map, option_and_then}
use Rattle.std.specs.Option.{option_to_list}
use Rattle.std.specs.List.{AllByRecursion, flat_map, reduce}
use Rattle.std.specs.declared.cmp.Ordering.{Ordering}
use Rattle.std.specs.Ordering.{eq_by_cmp}
use Rattle.std.specs.Cmp.{IsTotalOrder}
use Rattle.std.specs.FinMap.{FinMap, IsAntisymmetric, entries, from_entries, get, get-from_entries, retain_keys, get-retain_keys, same_map}
use Rattle.std.specs.FinMap.Entries.{find-where_key}
use Rattle.std.proofs.lemmas.Bool.{true≢false}
use Rattle.std.proofs.lemmas.List.Filters.{length-filter_both}
use Rattle.std.proofs.lemmas.List.Sums.{sum_by-cons}
use Rattle.smq_kit.specs.declared.link_key.LinkKey.{LinkKey}
use Rattle.smq_kit.specs.declared.place.Place.{Place}
use Rattle.smq_kit.specs.LinkKeys.{same_key}
use Rattle.smq_kit.specs.Maps.{chosen, kept_of, number_of, same_option}
use Rattle.smq_kit.specs.Orders.{place_cmp}
use Rattle.smq_kit.proofs.MapLemmas as maps
use Rattle.smq_kit.proofs.PlaceOrders.{places_total, places_exact}
use Rattle.smq_group.specs.Matching.{Grouping, GroupedReceipt, Standing, Single, Shared, Stray, Deciding, Extra, Noted, KeyShared, candidates, decided_by, decider, earlier, matches, receipt_standing, submit_standing}
use Rattle.smq_group.proofs.Earliest.{one_key}
use Rattle.smq_group.proofs.MatchingLemmas.{earliest}
use Rattle.smq_tally.specs.declared.fact.Fact.{Fact}
use Rattle.smq_tally.specs.declared.outcome.Outcome.{Outcome}
use Rattle.smq_tally.specs.declared.value.Value.{Value}
use Rattle.smq_tally.specs.declared.view.View.{View}
use Rattle.smq_tally.specs.Rows.{count_key, stands_in}
use Rattle.smq_tally.specs.Tables.{count_at}
use Rattle.smq_tally.proofs.Tallies.{count-tables}
use Rattle.smq_present.specs.present.Settings.{SettingsValue}
use Rattle.smq_present.specs.pairing.Traffic.{Message, ReceivedReceipt, TrafficValue}
use Rattle.smq_present.specs.join.Circumstances.{Circumstances, circumstances, decider_in, lapsed_in, route_in}
use Rattle.smq_present.specs.join.Facts.{fact_in_circumstances, facts_of}
use Rattle.smq_present.specs.join.Keyed.{accepted_key, grouping_of, keyed_receipt}
use Rattle.smq_present.specs.join.Listings.{notes_of}
use Rattle.smq_present.specs.whole.Dealt.{HasKey, KeepsKeysTogether, dealt, other_places, tables_from}
use Rattle.smq_present.proofs.lemmas.whole.SplitByLink.{all-weaker}

-- ---- lists by a test

module _ {A : Type 0} (taken test : A → Bool) where
  -- where all that passes a test is taken, as much passes of what is taken
  pub filter-taken : (es : List A) → AllByRecursion (λ e. test e ≡ true → taken e ≡ true) es → filter test (filter taken es) ≡ filter test es
  filter-taken [] a = refl
  filter-taken (e ∷ es) a = by (filter-taken es a.1) (taken e) refl (test e) refl
    where
      by : filter test (filter taken es) ≡ filter test es → (b : Bool) → taken e ≡ b → (c : Bool) → test e ≡ c
          → filter test (cond b (e ∷ filter taken es) (filter taken es)) ≡ cond c (e ∷ filter test es) (filter test es)
      by ih true h c l =
          ap (λ b. cond b (e ∷ filter test (filter taken es)) (filter test (filter taken es))) l
          ∙ ap (λ (rest : List A). cond c (e ∷ rest) rest) ih
      by ih false h true l = absurd (true≢false (sym (a.0 l) ∙ h))
      by ih false h false l = ih

  -- two tests pass what they pass in either order
  pub filter-swap : (es : List A) → filter test (filter taken es) ≡ filter taken (filter test es)
  filter-swap [] = refl
  filter-swap (e ∷ es) = by (filter-swap es) (taken e) refl (test e) refl
    where
      by : filter test (filter taken es) ≡ filter taken (filter test es) → (b : Bool) → taken e ≡ b → (c : Bool) → test e ≡ c
          → filter test (cond b (e ∷ filter taken es) (filter taken es)) ≡ filter taken (cond c (e ∷ filter test es) (filter test es))
      by ih true h true l =
          ap (λ b. cond b (e ∷ filter test (filter taken es)) (filter test (filter taken es))) l
          ∙ ap (λ (rest : List A). e ∷ rest) ih
          ∙ ap (λ b. cond b (e ∷ filter taken (filter test es)) (filter taken (filter test es))) (sym h)
      by ih true h false l = ap (λ b. cond b (e ∷ filter test (filter taken es)) (filter test (filter taken es))) l ∙ ih
      by ih false h true l = ih ∙ ap (λ b. cond b (e ∷ filter taken (filter test es)) (filter taken (filter test es))) (sym h)
      by ih false h false l = ih

-- ---- maps of the places that a test takes

module _ {K X : Type 0} {R : K → K → Ordering} (o : IsTotalOrder R) (exact : IsAntisymmetric R) (here : K → Bool) where
  pub get-kept : (m : FinMap R X) (q : K) → get (retain_keys m here) q ≡ cond (here q) (get m q) None
  get-kept m q = get-retain_keys m here q (λ x e. ap here (sym (exact q x e)))

  abbrev taken : K → X → Option X
  taken k x = cond (here k) (Some x) None

  some-taken : (b : Bool) (v : Option X) → cond b v None ≡ option_and_then (λ x. cond b (Some x) None) v
  some-taken true None = refl
  some-taken true (Some x) = refl
  some-taken false None = refl
  some-taken false (Some x) = refl

  taken-filter : (es : List (K × X)) → flat_map (kept_of taken) es ≡ filter (λ e. here e.0) es
  taken-filter [] = refl
  taken-filter (e ∷ es) = by (taken-filter es) (here e.0)
    where
      by : flat_map (kept_of taken) es ≡ filter (λ e. here e.0) es → (b : Bool)
          → map (λ y. (e.0, y)) (option_to_list (cond b (Some e.1) None)) ++ flat_map (kept_of taken) es
          ≡ cond b (e ∷ filter (λ e. here e.0) es) (filter (λ e. here e.0) es)
      by ih true = ap (λ (rest : List (K × X)). e ∷ rest) ih
      by ih false = ih

  -- their entries are those that the test takes
  pub entries-kept : (m : FinMap R X) → entries (retain_keys m here) ≡ filter (λ e. here e.0) (entries m)
  entries-kept m =
      ap entries (same_map o exact (retain_keys m here) (chosen taken m) (λ q.
      get-kept m q ∙ some-taken (here q) (get m q) ∙ sym (maps.get-chosen o exact taken m q)))
      ∙ maps.entries-chosen o exact taken m ∙ taken-filter (entries m)

pub found-kept : {X : Type 0} (b : Bool) (v : Option X) (x : X) → cond b v None ≡ Some x → (b ≡ true) × (v ≡ Some x)
found-kept true v x e = (refl, e)
found-kept false v x e = absurd cc

-- what is chosen of the entries that a test takes are the entries that it takes of what is chosen
pub chosen-kept : {X Y : Type 0} (here : Place → Bool) (f : Place → X → Option Y) (m : FinMap place_cmp X)
    → chosen f (retain_keys m here) ≡ retain_keys (chosen f m) here
chosen-kept {X} here f m = same_map places_total places_exact _ _ (λ q.
    maps.get-chosen places_total places_exact f (retain_keys m here) q
    ∙ ap (option_and_then (f q)) (get-kept places_total places_exact here m q)
    ∙ by q (here q) (get m q)
    ∙ ap (λ v. cond (here q) v None) (sym (maps.get-chosen places_total places_exact f m q))
    ∙ sym (get-kept places_total places_exact here (chosen f m) q))
  where
    by : (q : Place) (b : Bool) (v : Option X) → option_and_then (f q) (cond b v None) ≡ cond b (option_and_then (f q) v) None
    by q true v = refl
    by q false v = refl

-- what is taken of the map of some entries is the map of those that are taken
pub retained : {X : Type 0} (here : Place → Bool) (es : List (Place × X))
    → retain_keys (from_entries {R = place_cmp} es) here ≡ from_entries (filter (λ e. here e.0) es)
retained here es = same_map places_total places_exact _ _ (λ q.
    get-kept places_total places_exact here (from_entries es) q
    ∙ ap (λ v. cond (here q) v None) (get-from_entries places_total es q)
    ∙ sym (find-where_key place_cmp here q (λ x e. ap here (sym (places_exact q x e))) es)
    ∙ sym (get-from_entries places_total (filter (λ e. here e.0) es) q))

-- ---- numbers

module _ {X : Type 0} (test : X → Bool) where
  number-entries : (es : List (Place × X)) → count_by test (map (λ e. e.1) es) ≡ length (filter (λ e. test e.1) es)
  number-entries [] = refl
  number-entries (e ∷ es) = sum_by-cons (λ x. cond (test x) 1 0) e.1 (map (λ e. e.1) es) ∙ by (test e.1) (number-entries es)
    where
      by : (b : Bool) → count_by test (map (λ e. e.1) es) ≡ length (filter (λ e. test e.1) es)
          → cond b 1 0 + count_by test (map (λ e. e.1) es) ≡ length (cond b (e ∷ filter (λ e. test e.1) es) (filter (λ e. test e.1) es))
      by true ih = omega (arith, ih)
      by false ih = omega (arith, ih)

  number-kept : (here : Place → Bool) (m : FinMap place_cmp X)
      → number_of test (retain_keys m here) ≡ length (filter (λ e. test e.1) (filter (λ e. here e.0) (entries m)))
  number-kept here m =
      number-entries (entries (retain_keys m here))
      ∙ ap (λ (es : List (Place × X)). length (filter (λ e. test e.1) es)) (entries-kept places_total places_exact here m)

  -- where all values that pass are at places that are taken, as many pass of what is taken
  pub number-taken : (here : Place → Bool) (m : FinMap place_cmp X) → AllByRecursion (λ e. test e.1 ≡ true → here e.0 ≡ true) (entries m)
      → number_of test (retain_keys m here) ≡ number_of test m
  number-taken here m a =
      number-kept here m ∙ ap length (filter-taken (λ e. here e.0) (λ e. test e.1) (entries m) a) ∙ sym (number-entries (entries m))

  -- what passes is what passes of both parts
  pub number-both : (here : Place → Bool) (m : FinMap place_cmp X)
      → number_of test m ≡ number_of test (retain_keys m here) + number_of test (retain_keys m (other_places here))
  number-both here m =
      number-entries (entries m)
      ∙ sym (length-filter_both (λ e. here e.0) (λ e. not (here e.0)) (λ e. refl) (filter (λ e. test e.1) (entries m)))
      ∙ (λ i. sym (number-kept here m ∙ ap length (filter-swap (λ e. here e.0) (λ e. test e.1) (entries m))) i
      + sym (number-kept (other_places here) m
      ∙ ap length (filter-swap (λ e. not (here e.0)) (λ e. test e.1) (entries m))) i)

-- ---- what stands at the places of a key

module _ (s : SettingsValue) (t : TrafficValue) where
  abbrev pub whole : Grouping
  whole = grouping_of s t

  has-submit : (key : LinkKey) (q : Place) → get whole.submits q ≡ Some key → HasKey s t key q
  has-submit key q e =
      by (get t.messages q) refl (sym (maps.get-chosen places_total places_exact (λ place m. accepted_key s m) t.messages q) ∙ e)
    where
      by : (v : Option Message) → get t.messages q ≡ v → option_and_then (λ m. accepted_key s m) v ≡ Some key → HasKey s t key q
      by None h e = absurd cc
      by (Some m) h e = inl (record { message = m; stands = h; accepted = e })

  has-receipt : (r : GroupedReceipt) (q : Place) → get whole.receipts q ≡ Some r → HasKey s t r.key q
  has-receipt r q e =
      by (get t.receipts q) refl (sym (maps.get-chosen places_total places_exact (λ place r. Some (keyed_receipt s r)) t.receipts q) ∙ e)
    where
      by : (v : Option ReceivedReceipt) → get t.receipts q ≡ v → option_and_then (λ x. Some (keyed_receipt s x)) v ≡ Some r → HasKey s t r.key q
      by None h e = absurd cc
      by (Some x) h e =
          let same : keyed_receipt s x ≡ r = cc in
          inr (record { receipt = x; stands = h; received = ap (λ (y : GroupedReceipt). y.key) same })

-- ---- a part

module _ (s : SettingsValue) (t : TrafficValue) (here : Place → Bool) (together : KeepsKeysTogether s t here) where
  abbrev pub part : Grouping
  part = grouping_of s (dealt here t)

  submits-kept : part.submits ≡ retain_keys (whole s t).submits here
  submits-kept = chosen-kept here (λ place m. accepted_key s m) t.messages

  pub receipts-kept : part.receipts ≡ retain_keys (whole s t).receipts here
  receipts-kept = chosen-kept here (λ place r. Some (keyed_receipt s r)) t.receipts

  module _ (key : LinkKey) (q : Place) (has : HasKey s t key q) (is_here : here q ≡ true) where
    -- all places of the key are taken
    place-here : (p : Place) → HasKey s t key p → here p ≡ true
    place-here p h = together key p q h has ∙ is_here

    matches-same : matches part key ≡ matches (whole s t) key
    matches-same =
        ap (number_of (same_key key)) submits-kept
        ∙ number-taken (same_key key) here (whole s t).submits
        (all-weaker (λ e. get (whole s t).submits e.0 ≡ Some e.1) (λ e. same_key key e.1 ≡ true → here e.0 ≡ true) (entries (whole s t).submits)
        (λ e there same. place-here e.0 (has-submit s t key e.0 (there ∙ ap Some (sym (one_key key e.1 same)))))
        (maps.get-entry places_total places_exact (whole s t).submits))

    abbrev decides : Place × GroupedReceipt → Bool
    decides e = same_key key e.1.key && e.1.decides

    first-of : (a b : Bool) → (a && b) ≡ true → a ≡ true
    first-of true b e = refl
    first-of false b e = e

    receipt-here : (e : Place × GroupedReceipt) → get (whole s t).receipts e.0 ≡ Some e.1 → decides e ≡ true → here e.0 ≡ true
    receipt-here e there h =
        let same : key ≡ e.1.key = one_key key e.1.key (first-of (same_key key e.1.key) e.1.decides h) in
        place-here e.0 (subst (λ (k : LinkKey). HasKey s t k e.0) (sym same) (has-receipt s t e.1 e.0 there))

    candidates-same : candidates part key ≡ candidates (whole s t) key
    candidates-same =
        ap (λ (es : List (Place × GroupedReceipt)). map (λ e. (e.1.moment, e.0)) (filter decides es))
        (ap entries receipts-kept ∙ entries-kept places_total places_exact here (whole s t).receipts)
        ∙ ap (map (λ e. (e.1.moment, e.0))) (filter-taken (λ e. here e.0) decides (entries (whole s t).receipts)
        (all-weaker (λ e. get (whole s t).receipts e.0 ≡ Some e.1) (λ e. decides e ≡ true → here e.0 ≡ true) (entries (whole s t).receipts)
        receipt-here (maps.get-entry places_total places_exact (whole s t).receipts)))

    decider-same : decider part key ≡ decider (whole s t) key
    decider-same = λ i. option_map (λ c. c.1) (reduce earlier (candidates-same i))

    standing-same : submit_standing part key ≡ submit_standing (whole s t) key
    standing-same = λ i. if matches-same i == 1 then Single (decider-same i) else Shared

    -- the place of the receipt that decides is taken
    decided-here : (place : Place) → decided_by (submit_standing (whole s t) key) ≡ Some place → here place ≡ true
    decided-here place e = by (matches (whole s t) key == 1) e
      where
        by : (b : Bool) → decided_by (if b then Single (decider (whole s t) key) else Shared) ≡ Some place → here place ≡ true
        by true e =
            let can = (earliest (whole s t) key place e).can in
            place-here place (has-receipt s t (record { key = key; moment = (earliest (whole s t) key place e).moment; decides = true }) place can.stands)
        by false e = absurd cc

    -- so the receipt there is found in the part
    receipt-found : decider_in (dealt here t) (Some (submit_standing part key)) ≡ decider_in t (Some (submit_standing (whole s t) key))
    receipt-found =
        ap (λ (standing : Standing). decider_in (dealt here t) (Some standing)) standing-same
        ∙ by (decided_by (submit_standing (whole s t) key)) decided-here
      where
        by : (v : Option Place) → ((place : Place) → v ≡ Some place → here place ≡ true)
            → option_and_then (λ place. get (retain_keys t.receipts here) place) v ≡ option_and_then (λ place. get t.receipts place) v
        by None h = refl
        by (Some place) h =
            get-kept places_total places_exact here t.receipts place ∙ ap (λ b. cond b (get t.receipts place) None) (h place refl)

  -- a receipt that is taken stands as in the whole
  pub receipt-same : (q : Place) (r : GroupedReceipt) → get (whole s t).receipts q ≡ Some r → here q ≡ true
      → receipt_standing part q r ≡ receipt_standing (whole s t) q r
  receipt-same q r there is_here = λ i.
      let matched = matches-same r.key q (has-receipt s t r q there) is_here i in
      if matched == 0 then Stray else if not (matched == 1) then KeyShared
      else if same_option (eq_by_cmp place_cmp) (decider-same r.key q (has-receipt s t r q there) is_here i) (Some q) then Deciding
      else if r.decides then Extra else Noted

  -- so does a message that is taken
  circumstances-same : (q : Place) (m : Message) → get t.messages q ≡ Some m → here q ≡ true
      → circumstances s (dealt here t) m ≡ circumstances s t m
  circumstances-same q m there is_here = by (accepted_key s m) refl
    where
      found : Option Standing → Option ReceivedReceipt → Circumstances
      found standing decider = record { standing = standing; decider = decider; route = route_in s.versions m; lapsed = lapsed_in s m }

      by : (k : Option LinkKey) → accepted_key s m ≡ k
          → found (option_map (submit_standing part) k) (decider_in (dealt here t) (option_map (submit_standing part) k))
          ≡ found (option_map (submit_standing (whole s t)) k) (decider_in t (option_map (submit_standing (whole s t)) k))
      by None e = refl
      by (Some key) e =
          let has : HasKey s t key q = inl (record { message = m; stands = there; accepted = e }) in
          λ i. found (Some (standing-same key q has is_here i)) (receipt-found key q has is_here i)

  -- the facts of a part are those of the whole at its places
  pub facts-kept : facts_of s (dealt here t) ≡ retain_keys (facts_of s t) here
  facts-kept =
      maps.chosen-alike places_total places_exact (λ place m. Some (fact_in_circumstances place m (circumstances s (dealt here t) m)))
      (λ place m. Some (fact_in_circumstances place m (circumstances s t m))) (retain_keys t.messages here)
      (λ q m there.
      let both = found-kept (here q) (get t.messages q) m (sym (get-kept places_total places_exact here t.messages q) ∙ there) in
      ap (λ (c : Circumstances). Some (fact_in_circumstances q m c)) (circumstances-same q m both.1 both.0))
      ∙ chosen-kept here (λ place m. Some (fact_in_circumstances place m (circumstances s t m))) t.messages

-- ---- both parts

-- the other places keep keys together too
pub others-together : (s : SettingsValue) (t : TrafficValue) (here : Place → Bool) → KeepsKeysTogether s t here
    → KeepsKeysTogether s t (other_places here)
others-together s t here together key one other a b = ap not (together key one other a b)

-- what has a key in a part has it in the whole
key-of-part : (s : SettingsValue) (t : TrafficValue) (here : Place → Bool) (key : LinkKey) (q : Place) → HasKey s (dealt here t) key q → HasKey s t key q
key-of-part s t here key q (inl m) =
    let found = found-kept (here q) (get t.messages q) m.message (sym (get-kept places_total places_exact here t.messages q) ∙ m.stands) in
    inl (record { message = m.message; stands = found.1; accepted = m.accepted })
key-of-part s t here key q (inr r) =
    let found = found-kept (here q) (get t.receipts q) r.receipt (sym (get-kept places_total places_exact here t.receipts q) ∙ r.stands) in
    inr (record { receipt = r.receipt; stands = found.1; received = r.received })

-- so a test that keeps keys together keeps them together in a part
pub part-together : (s : SettingsValue) (t : TrafficValue) (here there : Place → Bool) → KeepsKeysTogether s t there
    → KeepsKeysTogether s (dealt here t) there
part-together s t here there together key one other a b =
    together key one other (key-of-part s t here key one a) (key-of-part s t here key other b)

module _ (s : SettingsValue) (t : TrafficValue) (view : View) (value : Value) (outcome : Outcome) where
  abbrev stands : Fact → Bool
  stands = stands_in (count_key view value outcome)

  count-part : (here : Place → Bool) → KeepsKeysTogether s t here
      → count_at (tables_from s (dealt here t)) view value outcome ≡ number_of stands (retain_keys (facts_of s t) here)
  count-part here together =
      count-tables (facts_of s (dealt here t)) (notes_of s (dealt here t)) (count_key view value outcome)
      ∙ ap (number_of stands) (facts-kept s t here together)

  pub counts-dealt : (here : Place → Bool) → KeepsKeysTogether s t here
      → count_at (tables_from s t) view value outcome
      ≡ count_at (tables_from s (dealt here t)) view value outcome + count_at (tables_from s (dealt (other_places here) t)) view value outcome
  counts-dealt here together =
      count-tables (facts_of s t) (notes_of s t) (count_key view value outcome)
      ∙ number-both stands here (facts_of s t)
      ∙ (λ i. sym (count-part here together) i + sym (count-part (other_places here) (others-together s t here together)) i)
