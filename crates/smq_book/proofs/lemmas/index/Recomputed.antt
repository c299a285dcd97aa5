-- What is held where the facts of places are set anew, by routes or by a clock, is that of the same traffic under what is set then.
use Rattle.std.proofs.Common.{◌≡◌, ℕ, ◌+◌, ◌<◌, ◌≤◌, List, [], length, get_or, take, sym, ap, ◌∙◌}
use Rattle.std.specs.FinMap.{FinMap, get, keys}
use Rattle.std.specs.FinSet.{FinSet}
use Rattle.std.specs.Ordering.{nat_cmp}
use Rattle.std.proofs.lemmas.List.{take_all}
use Rattle.std.proofs.lemmas.List.Sums.{fold_more}
use Rattle.smq_kit.specs.declared.names.LinkId.{LinkId}
use Rattle.smq_kit.specs.declared.place.Place.{Place}
use Rattle.smq_kit.specs.Maps.{SameOutside, set_at}
use Rattle.smq_kit.specs.Orders.{place_cmp}
use Rattle.smq_tally.specs.declared.fact.Fact.{Fact}
use Rattle.smq_route.specs.Numbers.{number_cmp, places_under}
use Rattle.smq_route.specs.Versions.{Versions}
use Rattle.smq_present.specs.present.Settings.{SettingsValue, with_clock, with_versions, with_windows}
use Rattle.smq_present.specs.pairing.Traffic.{TrafficValue}
use Rattle.smq_present.specs.join.Facts.{facts_of}
use Rattle.smq_book.specs.edits.Reached.{messages_due_on, messages_under}
use Rattle.smq_book.specs.index.Due.{places_due_on}
use Rattle.smq_book.specs.index.Ends.{places_ending}
use Rattle.smq_book.specs.index.Held.{Holding, IsHeld, held_by, held_of, traffic_held}
use Rattle.smq_book.specs.index.Pushed.{IsHeldAfter}
use Rattle.smq_book.specs.index.Recomputed.{refreshed}
use Rattle.smq_book.proofs.lemmas.index.Anew.{clocked, outside-alike, set-anew, windowed}
use Rattle.smq_book.proofs.lemmas.index.Kept.{kept, kept-is}
use Rattle.smq_book.proofs.lemmas.index.Numbered.{under-is}

-- ---- in turn

module _ (z : SettingsValue) (t : TrafficValue) (facts : FinMap place_cmp Fact) (places : List Place) (i : ℕ) where
  pub refreshed-next : (d : Place) (k : Holding) → i < length places
      → k ≡ held_by z t (set_at (refreshed z t facts (take i places)) (get_or places i d) (get (facts_of z t) (get_or places i d)))
      → k ≡ held_by z t (refreshed z t facts (take (i + 1) places))
  refreshed-next d k within set =
      set ∙ ap (held_by z t) (sym (fold_more (λ m q. set_at m q (get (facts_of z t) q)) facts places i d within))

  pub refreshed-all : (h : Holding) → length places ≤ i → h ≡ held_by z t (refreshed z t facts (take i places))
      → h ≡ held_by z t (refreshed z t facts places)
  refreshed-all h all set = set ∙ ap (λ (ps : List Place). held_by z t (refreshed z t facts ps)) (take_all i places all)

-- ---- at last

-- numbers that were read are as they were
pub told-numbers : (g : Holding) (numbers : FinSet number_cmp) → numbers ≡ g.numbers → record g { numbers = numbers } ≡ g
told-numbers g numbers same = λ i. record g { numbers = same i }

module _ (s : SettingsValue) (g h : Holding) (is : IsHeld s g) where
  -- what is held of the same traffic
  same-traffic : (z : SettingsValue) → h ≡ held_of z (traffic_held g) → IsHeldAfter z g [] h
  same-traffic z held = record { held = kept z (traffic_held g) h is.traffic held; traffic = kept-is z (traffic_held g) h is.traffic held }

  -- routes that differ in versions of a prefix
  pub routes-held : (versions : Versions) (prefix : List ℕ) (places : List Place)
      → SameOutside (keys (messages_under prefix (traffic_held g))) (facts_of s (traffic_held g))
      (facts_of (with_versions s versions) (traffic_held g))
      → places ≡ places_under g.numbers prefix
      → h ≡ held_by (with_versions s versions) (traffic_held g)
      (refreshed (with_versions s versions) (traffic_held g) (facts_of s (traffic_held g)) places)
      → IsHeldAfter (with_versions s versions) g [] h
  routes-held versions prefix places same are set =
      let z = with_versions s versions in
      let t = traffic_held g in
      same-traffic z
      (set
      ∙ ap (λ (ps : List Place). held_by z t (refreshed z t (facts_of s t) ps))
      (are ∙ ap (λ (x : Holding). places_under x.numbers prefix) is.held)
      ∙ ap (held_by z t) (set-anew (places_under (held_of s t).numbers prefix) (facts_of s t) (facts_of z t)
      (outside-alike (places_under (held_of s t).numbers prefix) (keys (messages_under prefix t)) (facts_of s t) (facts_of z t)
      (under-is t prefix) same)))

  -- a clock that goes on
  pub clock-held : (clock : ℕ) (places : List Place) → s.clock ≤ clock → places ≡ places_ending s.clock clock g.ends
      → h ≡ held_by (with_clock s clock) (traffic_held g)
      (refreshed (with_clock s clock) (traffic_held g) (facts_of s (traffic_held g)) places)
      → IsHeldAfter (with_clock s clock) g [] h
  clock-held clock places forward are set =
      let z = with_clock s clock in
      let t = traffic_held g in
      same-traffic z
      (set
      ∙ ap (λ (ps : List Place). held_by z t (refreshed z t (facts_of s t) ps))
      (are ∙ ap (λ (x : Holding). places_ending s.clock clock x.ends) is.held)
      ∙ ap (held_by z t) (clocked s t clock forward))

  -- windows that differ in a link's
  pub window-held : (windows : FinMap nat_cmp ℕ) (link : LinkId) (places : List Place)
      → SameOutside (keys (messages_due_on link s (traffic_held g))) (facts_of s (traffic_held g))
      (facts_of (with_windows s windows) (traffic_held g))
      → places ≡ places_due_on link g.due
      → h ≡ held_by (with_windows s windows) (traffic_held g)
      (refreshed (with_windows s windows) (traffic_held g) (facts_of s (traffic_held g)) places)
      → IsHeldAfter (with_windows s windows) g [] h
  window-held windows link places same are set =
      let z = with_windows s windows in
      let t = traffic_held g in
      same-traffic z
      (set
      ∙ ap (λ (ps : List Place). held_by z t (refreshed z t (facts_of s t) ps)) (are ∙ ap (λ (x : Holding). places_due_on link x.due) is.held)
      ∙ ap (held_by z t) (windowed s t windows link same))
