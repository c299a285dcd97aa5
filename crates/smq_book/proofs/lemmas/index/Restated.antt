-- Facts that are restated by other routes, other windows or another clock are those under what is set then.
use Rattle.std.proofs.Common.{◌≡◌, ℕ, Bool, true, false, cond, List, [], ◌∷◌, Option, Some, None, refl, sym, ap, ◌∙◌}
use Rattle.std.specs.Prelude.{option_map}
use Rattle.std.specs.FinMap.{FinMap, get}
use Rattle.std.specs.Ordering.{eq_by_cmp, nat_cmp}
use Rattle.smq_kit.specs.declared.names.RouteId.{RouteId}
use Rattle.smq_kit.specs.declared.place.Place.{Place}
use Rattle.smq_kit.specs.Maps.{set_at}
use Rattle.smq_kit.specs.Orders.{place_cmp}
use Rattle.smq_kit.proofs.MapLemmas as maps
use Rattle.smq_kit.proofs.MapLemmas.{same_key}
use Rattle.smq_kit.proofs.PlaceOrders.{places_total, places_exact}
use Rattle.smq_route.specs.Versions.{Versions}
use Rattle.smq_tally.specs.declared.fact.Fact.{Fact}
use Rattle.smq_tally.specs.declared.outcome.Outcome.{Outcome}
use Rattle.smq_tally.specs.declared.outcome.Outcome.TheVariants as o
use Rattle.smq_present.specs.present.Settings.{SettingsValue}
use Rattle.smq_present.specs.pairing.Traffic.{Message, TrafficValue}
use Rattle.smq_present.specs.join.Circumstances.{circumstances, lapsed_in, route_in}
use Rattle.smq_present.specs.join.Facts.{by_lapse, fact_in_circumstances, facts_of, with_lapse, with_route}
use Rattle.smq_book.specs.edits.Reached.{is_due}
use Rattle.smq_tally.specs.Tally.{TallyValue}
use Rattle.smq_book.specs.declared.index.index.Index.{Index}
use Rattle.smq_book.specs.index.Due.{due_in, is_due_fact}
use Rattle.smq_book.specs.index.Ends.{ends_by}
use Rattle.smq_book.specs.index.Held.{Holding, held_by, held_now}
use Rattle.smq_book.specs.index.Recomputed.{MayRestate, refreshed, restated}
use Rattle.smq_present.proofs.lemmas.join.Lapsing.{fact-lapses}
use Rattle.smq_present.proofs.lemmas.join.MoveLemmas.{fact-at, fact-place}

-- whether a receipt is due doesn't hang on whether its message has lapsed
pub is_due-lapses : (b : Bool) (x : Outcome) → is_due (by_lapse b x) ≡ is_due x
is_due-lapses true o.Open = refl
is_due-lapses false o.Open = refl
is_due-lapses true o.Lapsed = refl
is_due-lapses false o.Lapsed = refl
is_due-lapses b _ = refl

-- settings whose routes, windows and clock are these
abbrev pub set_anew : SettingsValue → Versions → FinMap nat_cmp ℕ → ℕ → SettingsValue
set_anew s versions windows clock = record s { versions = versions; windows = windows; clock = clock }

module _ (s : SettingsValue) (t : TrafficValue) (versions : Versions) (windows : FinMap nat_cmp ℕ) (clock : ℕ) where
  abbrev z : SettingsValue
  z = set_anew s versions windows clock

  restates_one : (q : Place) (m : Message) → fact_in_circumstances q m (circumstances z t m) ≡ restated z m (fact_in_circumstances q m (circumstances s t m))
  restates_one q m = ap (with_route (route_in versions m)) (fact-lapses q m (circumstances s t m) (lapsed_in z m))

  -- what is known under what was set before is restated to what is known then
  pub restates : MayRestate z t (facts_of s t)
  restates = record { each = λ q m there. known q m z there ∙ ap Some (restates_one q m) ∙ sym (ap (option_map (restated z m)) (known q m s there)) }
    where
      known : (q : Place) (m : Message) (s : SettingsValue) → get t.messages q ≡ Some m → get (facts_of s t) q ≡ Some (fact_in_circumstances q m (circumstances s t m))
      known q m s there = fact-at s t q ∙ ap (option_map (λ (m : Message). fact_in_circumstances q m (circumstances s t m))) there

module _ (z : SettingsValue) (t : TrafficValue) where
  -- a fact that is set anew is restated to itself
  pub restates-set : (facts : FinMap place_cmp Fact) → MayRestate z t facts → (p : Place)
      → MayRestate z t (set_at facts p (get (facts_of z t) p))
  restates-set facts may p = record {
    each = λ q m there. by q m there (eq_by_cmp place_cmp q p) refl
        ∙ ap (option_map (restated z m)) (sym (maps.get-set_at places_total places_exact facts p (get (facts_of z t) p) q));
  }
    where
      by : (q : Place) (m : Message) → get t.messages q ≡ Some m → (b : Bool) → eq_by_cmp place_cmp q p ≡ b
          → get (facts_of z t) q ≡ option_map (restated z m) (cond b (get (facts_of z t) p) (get facts q))
      by q m there true same =
          (restates z t z.versions z.windows z.clock).each q m there
          ∙ ap (λ x. option_map (restated z m) (get (facts_of z t) x)) (same_key places_total places_exact q p same)
      by q m there false other = may.each q m there

  pub restates-all : (facts : FinMap place_cmp Fact) → MayRestate z t facts → (ps : List Place) → MayRestate z t (refreshed z t facts ps)
  restates-all facts may [] = may
  restates-all facts may (p ∷ ps) = restates-all (set_at facts p (get (facts_of z t) p)) (restates-set facts may p) ps

-- ---- at one place

-- a fact that isn't there leaves all as it is
pub none-set : (facts : FinMap place_cmp Fact) (q : Place) → get facts q ≡ None → set_at facts q None ≡ facts
none-set facts q none = ap (set_at facts q) (sym none) ∙ maps.set-same places_total places_exact facts q

module _ (z : SettingsValue) (t : TrafficValue) (facts : FinMap place_cmp Fact) (may : MayRestate z t facts)
    (q : Place) (m : Message) (there : get t.messages q ≡ Some m) where
  -- where no fact is there, none is known
  pub none-known : get facts q ≡ None → get (facts_of z t) q ≡ None
  none-known none = may.each q m there ∙ ap (option_map (restated z m)) none

  -- the fact that is there, with the route of its message, and by whether it has lapsed, is known
  pub restated-known : (f : Fact) → get facts q ≡ Some f → (route : Option (RouteId × List ℕ)) (lapsed : Bool) → route ≡ route_in z.versions m
      → lapsed ≡ lapsed_in z m → Some (record (with_route route (with_lapse lapsed f)) { place = q }) ≡ get (facts_of z t) q
  restated-known f is route lapsed routed lapses =
      let known : get (facts_of z t) q ≡ Some (restated z m f) = may.each q m there ∙ ap (option_map (restated z m)) is in
      (λ i. Some (record (with_route (routed i) (with_lapse (lapses i) f)) { place = sym (fact-place z t q (restated z m f) known) i })) ∙ sym known

  -- whether a receipt is due stays
  pub due-restated : is_due_fact (get (facts_of z t) q) ≡ is_due_fact (get facts q)
  due-restated = ap is_due_fact (may.each q m there) ∙ by (get facts q)
    where
      by : (x : Option Fact) → is_due_fact (option_map (restated z m) x) ≡ is_due_fact x
      by None = refl
      by (Some f) = is_due-lapses (lapsed_in z m) f.outcome

-- where all that an index holds stays but the fact of a place, and with it which receipts are due, it is that of the same traffic
pub held-restated : (z : SettingsValue) (t : TrafficValue) (facts : FinMap place_cmp Fact) (i : Index) → held_now i ≡ held_by z t facts
    → (x : TallyValue) (q : Place) → x.notes ≡ i.tally.notes → x.facts ≡ set_at i.tally.facts q (get (facts_of z t) q)
    → due_in t.messages (set_at facts q (get (facts_of z t) q)) ≡ due_in t.messages facts
    → ends_by z.windows t.messages (set_at facts q (get (facts_of z t) q)) ≡ ends_by z.windows t.messages facts
    → held_now (record i { tally = x }) ≡ held_by z t (set_at facts q (get (facts_of z t) q))
held-restated z t facts i held x q notes sets due ends = λ k. record (held k) {
  facts = (sets ∙ (λ l. set_at (held l).facts q (get (facts_of z t) q))) k;
  notes = (notes ∙ ap (λ (h : Holding). h.notes) held) k;
  due = (ap (λ (h : Holding). h.due) held ∙ sym due) k;
  ends = (ap (λ (h : Holding). h.ends) held ∙ sym ends) k;
}
