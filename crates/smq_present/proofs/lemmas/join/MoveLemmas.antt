-- A move leaves the facts outside of its place and of the places whose standings differ.
use Rattle.std.proofs.Common.{◌≡◌, ◌≢◌, inl, inr, Bool, true, false, cond, ◌||◌, List, [], ◌∷◌, Option, Some, None, refl, sym, ap, ◌∙◌, subst}
use Rattle.std.specs.Prelude.{◌&&◌, ◌==◌, map, filter, option_map, option_and_then}
use Rattle.std.specs.List.{AllByRecursion, list_any, reduce}
use Rattle.std.specs.Ordering.{eq_by_cmp}
use Rattle.std.specs.FinMap.{FinMap, entries, get, insert, remove, get-insert, get-remove}
use Rattle.smq_kit.specs.declared.place.Place.{Place}
use Rattle.smq_kit.specs.Maps.{SameOutside, patched}
use Rattle.smq_kit.specs.Orders.{place_cmp}
use Rattle.smq_kit.proofs.PlaceOrders.{places_total, places_exact}
use Rattle.smq_kit.proofs.Comparisons.{or_first, or_second}
use Rattle.smq_kit.proofs.MapLemmas as maps
use Rattle.smq_tally.specs.declared.fact.Fact.{Fact}
use Rattle.smq_kit.specs.declared.link_key.LinkKey.{LinkKey}
use Rattle.smq_present.specs.present.Settings.{SettingsValue}
use Rattle.smq_present.specs.pairing.Traffic.{TrafficValue, Message, ReceivedReceipt}
use Rattle.smq_kit.specs.LinkKeys.{same_key}
use Rattle.smq_group.specs.Matching.{Grouping, GroupedReceipt, Candidate, Standing, Single, Shared, candidates, candidate_cmp, earlier, decider, matches, submit_standing, decided_by}
use Rattle.smq_present.specs.join.Keyed.{grouping_of, accepted_key, keyed_receipt}
use Rattle.smq_present.specs.join.Circumstances.{circumstances, standing_in, decider_in, route_in, lapsed_in}
use Rattle.smq_present.specs.join.Facts.{fact_in_circumstances, facts_of}
use Rattle.smq_present.specs.join.Moves.{standings_of, same_standing, changes_of, IsMove, put_message, take_message, put_receipt, take_receipt}
use Rattle.smq_group.proofs.Earliest.{pairs_total}
use Rattle.smq_group.proofs.Least.{reduce-all}

-- ---- the frame

pub fact-at : (s : SettingsValue) (t : TrafficValue) (q : Place)
    → get (facts_of s t) q ≡ option_map (λ m. fact_in_circumstances q m (circumstances s t m)) (get t.messages q)
fact-at s t q = maps.get-chosen places_total places_exact (λ q m. Some (fact_in_circumstances q m (circumstances s t m))) t.messages q ∙ as_map (get t.messages q)
  where
    as_map : (m : Option Message) → option_and_then (λ m. Some (fact_in_circumstances q m (circumstances s t m))) m
        ≡ option_map (λ m. fact_in_circumstances q m (circumstances s t m)) m
    as_map None = refl
    as_map (Some m) = refl

fact_in : (place : Place) (s : SettingsValue) (t : TrafficValue) (m : Option Message) (fact : Fact)
    → option_map (λ m. fact_in_circumstances place m (circumstances s t m)) m ≡ Some fact → fact.place ≡ place
fact_in place s t None fact e = absurd cc
fact_in place s t (Some m) fact e = let one : fact_in_circumstances place m (circumstances s t m) ≡ fact = cc in ap (λ (f : Fact). f.place) (sym one)

pub fact-place : (s : SettingsValue) (t : TrafficValue) (place : Place) (fact : Fact) → get (facts_of s t) place ≡ Some fact → fact.place ≡ place
fact-place s t place fact e = fact_in place s t (get t.messages place) fact (sym (fact-at s t place) ∙ e)

frame_by : (s z : SettingsValue) (t u : TrafficValue) (q : Place) (m : Option Message)
    → ((x : Message) → m ≡ Some x → circumstances s t x ≡ circumstances z u x)
    → option_map (λ m. fact_in_circumstances q m (circumstances s t m)) m ≡ option_map (λ m. fact_in_circumstances q m (circumstances z u m)) m
frame_by s z t u q None same = refl
frame_by s z t u q (Some m) same = ap (λ c. Some (fact_in_circumstances q m c)) (same m refl)

-- the same message in the same circumstances gives the same fact, whatever else is set or present
pub frame : (s z : SettingsValue) (t u : TrafficValue) (q : Place) → get t.messages q ≡ get u.messages q
    → ((m : Message) → get t.messages q ≡ Some m → circumstances s t m ≡ circumstances z u m)
    → get (facts_of s t) q ≡ get (facts_of z u) q
frame s z t u q message same =
    fact-at s t q
    ∙ frame_by s z t u q (get t.messages q) same
    ∙ ap (option_map (λ m. fact_in_circumstances q m (circumstances z u m))) message
    ∙ sym (fact-at z u q)

-- ---- a decider is a receipt that is there

candidates-there : (g : Grouping) (key : LinkKey) (es : List (Place × GroupedReceipt)) → AllByRecursion (λ e. get g.receipts e.0 ≡ Some e.1) es
    → AllByRecursion (λ (c : Candidate). (n : GroupedReceipt) × (get g.receipts c.1 ≡ Some n))
    (map (λ e. (e.1.moment, e.0)) (filter (λ e. same_key key e.1.key && e.1.decides) es))
candidates-there g key [] a = tt
candidates-there g key (e ∷ es) a =
    elim (same_key key e.1.key && e.1.decides) as (λ b. AllByRecursion (λ (c : Candidate). (n : GroupedReceipt)
    × (get g.receipts c.1 ≡ Some n)) (map (λ e. (e.1.moment, e.0))
    (cond b (e ∷ filter (λ e. same_key key e.1.key && e.1.decides) es) (filter (λ e. same_key key e.1.key && e.1.decides) es)))) [
      | true ↦ ((e.1, a.0), candidates-there g key es a.1)
      | false ↦ candidates-there g key es a.1
    ]

place_in : (c : Option Candidate) (d : Place) → option_map (λ c. c.1) c ≡ Some d → (x : Candidate) × ((c ≡ Some x) × (x.1 ≡ d))
place_in None d e = absurd cc
place_in (Some x) d e = (x, (refl, cc))

decider-noted : (g : Grouping) (key : LinkKey) (d : Place) → decider g key ≡ Some d → (n : GroupedReceipt) × (get g.receipts d ≡ Some n)
decider-noted g key d e =
    let c = place_in (reduce earlier (candidates g key)) d e in
    let there = reduce-all candidate_cmp pairs_total (λ (c : Candidate). (n : GroupedReceipt) × (get g.receipts c.1 ≡ Some n))
    (candidates g key) c.0
    (candidates-there g key (entries g.receipts) (maps.get-entry places_total places_exact g.receipts)) c.1.0 in
    subst (λ p. (n : GroupedReceipt) × (get g.receipts p ≡ Some n)) c.1.1 there

noted_of : (s : SettingsValue) (r : Option ReceivedReceipt) (n : GroupedReceipt) → option_and_then (λ r. Some (keyed_receipt s r)) r
    ≡ Some n → r ≢ None
noted_of s None n e = absurd cc
noted_of s (Some r) n e = λ none. absurd cc

decided : (s : SettingsValue) (t : TrafficValue) (key : LinkKey) (d : Place) → decider (grouping_of s t) key ≡ Some d → get t.receipts d ≢ None
decided s t key d e =
    let found = decider-noted (grouping_of s t) key d e in
    noted_of s (get t.receipts d) found.0 (sym (maps.get-chosen places_total places_exact (λ place r. Some (keyed_receipt s r))
    t.receipts d) ∙ found.1)

single_by : (x y : Option Place) (b : Bool) → cond b (Single x) Shared ≡ Single y → x ≡ y
single_by x y true e = ap decided_by e
single_by x y false e = absurd cc

standing_by : (s : SettingsValue) (t : TrafficValue) (key : Option LinkKey) (d : Place)
    → option_map (submit_standing (grouping_of s t)) key ≡ Some (Single (Some d)) → get t.receipts d ≢ None
standing_by s t None d e = absurd cc
standing_by s t (Some key) d e =
    let one : submit_standing (grouping_of s t) key ≡ Single (Some d) = cc in
    decided s t key d (single_by (decider (grouping_of s t) key) (Some d) (matches (grouping_of s t) key == 1) one)

-- the receipt that decides is there
pub decider-there : (s : SettingsValue) (t : TrafficValue) (m : Message) (d : Place) → standing_in (grouping_of s t) s m
    ≡ Some (Single (Some d)) → get t.receipts d ≢ None
decider-there s t m d e = standing_by s t (accepted_key s m) d e

-- ---- standings

standing-at : (s : SettingsValue) (t : TrafficValue) (q : Place) (m : Message) → get t.messages q ≡ Some m
    → get (standings_of (grouping_of s t)) q ≡ standing_in (grouping_of s t) s m
standing-at s t q m e =
    maps.get-chosen places_total places_exact (λ place key. Some (submit_standing (grouping_of s t) key)) (grouping_of s t).submits q
    ∙ ap (option_and_then (λ key. Some (submit_standing (grouping_of s t) key)))
    (maps.get-chosen places_total places_exact (λ place m. accepted_key s m) t.messages q ∙ ap (option_and_then (accepted_key s)) e)
    ∙ as_map (accepted_key s m)
  where
    as_map : (key : Option LinkKey) → option_and_then (λ key. Some (submit_standing (grouping_of s t) key)) key
        ≡ option_map (submit_standing (grouping_of s t)) key
    as_map None = refl
    as_map (Some key) = refl

same_places : (d e : Place) → eq_by_cmp place_cmp d e ≡ true → d ≡ e
same_places d e h = maps.same_key places_total places_exact d e h

standings_decided : (x y : Standing) → same_standing x y ≡ true → x ≡ y
standings_decided Shared Shared e = refl
standings_decided Shared (Single d) e = absurd cc
standings_decided (Single d) Shared e = absurd cc
standings_decided (Single None) (Single None) e = refl
standings_decided (Single None) (Single (Some d)) e = absurd cc
standings_decided (Single (Some d)) (Single None) e = absurd cc
standings_decided (Single (Some d)) (Single (Some b)) e = ap (λ p. Single (Some p)) (same_places d b e)

-- ---- moves

module _ (q : Place) (t u : TrafficValue) (move : IsMove q t u) (s : SettingsValue) where
  not_the_place : (d : Place) → get t.receipts d ≢ None → get u.receipts d ≢ None → (b : Bool) → eq_by_cmp place_cmp d q ≡ b → b ≡ false
  not_the_place d in_t in_u false e = refl
  not_the_place d in_t in_u true e =
      let same : d ≡ q = same_places d q e in
      elim move.absent [
        | inl none ↦ absurd (in_t (ap (get t.receipts) same ∙ none))
        | inr none ↦ absurd (in_u (ap (get u.receipts) same ∙ none))
      ]

  or_false : (b : Bool) → b ≡ false → (b || false) ≡ false
  or_false true e = e
  or_false false e = refl

  decider-stays : (d : Place) → get t.receipts d ≢ None → get u.receipts d ≢ None → get t.receipts d ≡ get u.receipts d
  decider-stays d in_t in_u = (move.receipts).at d (or_false (eq_by_cmp place_cmp d q) (not_the_place d in_t in_u (eq_by_cmp place_cmp d q) refl))

  circumstances_by : (x y : Option Standing) → x ≡ y
      → ((d : Place) → x ≡ Some (Single (Some d)) → get t.receipts d ≡ get u.receipts d) → decider_in t x ≡ decider_in u y
  circumstances_by x y e same = by_case x same ∙ ap (decider_in u) e
    where
      by_case : (x : Option Standing) → ((d : Place) → x ≡ Some (Single (Some d)) → get t.receipts d ≡ get u.receipts d)
          → decider_in t x ≡ decider_in u x
      by_case None same = refl
      by_case (Some Shared) same = refl
      by_case (Some (Single None)) same = refl
      by_case (Some (Single (Some d))) same = same d refl

  same-circumstances : (m : Message) → standing_in (grouping_of s t) s m ≡ standing_in (grouping_of s u) s m
      → circumstances s t m ≡ circumstances s u m
  same-circumstances m e =
      let there = circumstances_by (standing_in (grouping_of s t) s m) (standing_in (grouping_of s u) s m) e
      (λ d is. decider-stays d (decider-there s t m d is) (decider-there s u m d (sym e ∙ is))) in
      λ i. record { standing = e i; decider = there i; route = route_in s.versions m; lapsed = lapsed_in s m }

  -- outside of the place and of the places where standings may differ, facts stay
  pub moves : (ks : List Place) → SameOutside ks (standings_of (grouping_of s t)) (standings_of (grouping_of s u))
      → SameOutside (q ∷ ks) (facts_of s t) (facts_of s u)
  moves ks stand = record {
    at = λ p out.
        let here : eq_by_cmp place_cmp p q ≡ false = or_first (eq_by_cmp place_cmp p q) (list_any (eq_by_cmp place_cmp p) ks) out in
        let others : list_any (eq_by_cmp place_cmp p) ks ≡ false = or_second (eq_by_cmp place_cmp p q) (list_any (eq_by_cmp place_cmp p) ks) out in
        let message : get t.messages p ≡ get u.messages p = (move.messages).at p (or_false (eq_by_cmp place_cmp p q) here) in
        frame s s t u p message (λ m is.
        same-circumstances m (sym (standing-at s t p m is) ∙ stand.at p others ∙ standing-at s u p m (sym message ∙ is)));
  }

  -- so setting the facts at these places makes the new facts of the old
  pub moved-facts : (ks : List Place) → SameOutside ks (standings_of (grouping_of s t)) (standings_of (grouping_of s u))
      → patched (facts_of s t) (get (facts_of s u)) (q ∷ ks) ≡ facts_of s u
  moved-facts ks stand = maps.patched-is places_total places_exact (q ∷ ks) (facts_of s t) (facts_of s u) (moves ks stand)

-- the places whose standings differ are enough
pub changes-cover : (g h : Grouping) → SameOutside (changes_of g h) (standings_of g) (standings_of h)
changes-cover g h = maps.outside-differing places_total places_exact same_standing standings_decided (standings_of g) (standings_of h)

-- ---- the four moves

module _ {X : Type 0} (m : FinMap place_cmp X) (q : Place) where
  only_false : (b : Bool) → (b || false) ≡ false → b ≡ false
  only_false true e = e
  only_false false e = refl

  same-insert : (v : X) → SameOutside (q ∷ []) m (insert m q v)
  same-insert v = record {
    at = λ p out. sym (get-insert places_total m q v p
        ∙ ap (λ b. cond b (Some v) (get m p)) (only_false (eq_by_cmp place_cmp p q) out));
  }

  same-remove : SameOutside (q ∷ []) m (remove m q)
  same-remove = record {
    at = λ p out. sym (get-remove places_total m q p
        ∙ ap (λ b. cond b None (get m p)) (only_false (eq_by_cmp place_cmp p q) out));
  }

  same-kept : SameOutside (q ∷ []) m m
  same-kept = record { at = λ p out. refl }

pub put_message-moves : (q : Place) (m : Message) (t : TrafficValue) → get t.receipts q ≡ None → IsMove q t (put_message q m t)
put_message-moves q m t none = record { messages = same-insert t.messages q m; receipts = same-kept t.receipts q; absent = inl none }

pub take_message-moves : (q : Place) (t : TrafficValue) → get t.receipts q ≡ None → IsMove q t (take_message q t)
take_message-moves q t none = record { messages = same-remove t.messages q; receipts = same-kept t.receipts q; absent = inl none }

pub put_receipt-moves : (q : Place) (r : ReceivedReceipt) (t : TrafficValue) → get t.receipts q ≡ None → IsMove q t (put_receipt q r t)
put_receipt-moves q r t none = record { messages = same-kept t.messages q; receipts = same-insert t.receipts q r; absent = inl none }

pub take_receipt-moves : (q : Place) (t : TrafficValue) → IsMove q t (take_receipt q t)
take_receipt-moves q t = record {
  messages = same-kept t.messages q;
  receipts = same-remove t.receipts q;
  absent = inr (maps.get-removed places_total places_exact t.receipts q);
}
