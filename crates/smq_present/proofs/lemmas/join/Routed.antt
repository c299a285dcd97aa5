-- Versions of routes change facts by their routes and networks alone.
use Rattle.std.proofs.Common.{◌≡◌, Option, Some, None, refl, sym, ap, ◌∙◌}
use Rattle.std.specs.Prelude.{option_map}
use Rattle.std.specs.FinMap.{get}
use Rattle.smq_kit.specs.declared.place.Place.{Place}
use Rattle.smq_route.specs.Versions.{Versions}
use Rattle.smq_tally.specs.declared.fact.Fact.{Fact}
use Rattle.smq_present.specs.present.Settings.{SettingsValue, with_versions}
use Rattle.smq_present.specs.pairing.Traffic.{TrafficValue, Message}
use Rattle.smq_present.specs.join.Circumstances.{circumstances, route_in}
use Rattle.smq_present.specs.join.Facts.{fact_in_circumstances, facts_of, with_route}
use Rattle.smq_present.proofs.lemmas.join.MoveLemmas.{fact-at, frame}

pub routed : (s : SettingsValue) (versions : Versions) (t : TrafficValue) (q : Place)
    → get (facts_of (with_versions s versions) t) q
    ≡ option_map (λ m. with_route (route_in versions m) (fact_in_circumstances q m (circumstances s t m))) (get t.messages q)
routed s versions t q = fact-at (with_versions s versions) t q

rest_by : (s : SettingsValue) (versions : Versions) (t : TrafficValue) (q : Place) (m : Option Message)
    → option_map (with_route None) (option_map (λ m. fact_in_circumstances q m (circumstances (with_versions s versions) t m)) m)
    ≡ option_map (with_route None) (option_map (λ m. fact_in_circumstances q m (circumstances s t m)) m)
rest_by s versions t q None = refl
rest_by s versions t q (Some m) = refl

pub rest : (s : SettingsValue) (versions : Versions) (t : TrafficValue) (q : Place)
    → option_map (with_route None) (get (facts_of (with_versions s versions) t) q) ≡ option_map (with_route None) (get (facts_of s t) q)
rest s versions t q =
    ap (option_map (with_route None)) (fact-at (with_versions s versions) t q)
    ∙ rest_by s versions t q (get t.messages q)
    ∙ sym (ap (option_map (with_route None)) (fact-at s t q))

pub same : (s : SettingsValue) (versions : Versions) (t : TrafficValue) (q : Place)
    → ((m : Message) → get t.messages q ≡ Some m → route_in versions m ≡ route_in s.versions m)
    → get (facts_of (with_versions s versions) t) q ≡ get (facts_of s t) q
same s versions t q alike = frame (with_versions s versions) s t t q refl (λ m is i. record (circumstances s t m) { route = alike m is i })

pub routes_in : (s : SettingsValue) (t : TrafficValue) (q : Place) (m : Message) (found : Option Message) (fact : Fact)
    → found ≡ Some m → option_map (λ m. fact_in_circumstances q m (circumstances s t m)) found ≡ Some fact
    → fact_in_circumstances q m (circumstances s t m) ≡ fact
routes_in s t q m found fact is made = let one : Some (fact_in_circumstances q m (circumstances s t m)) ≡ Some fact =
    sym (ap (option_map (λ m. fact_in_circumstances q m (circumstances s t m))) is) ∙ made in cc

-- the fact of a message has the route and network of its number at its moment
pub route-told : (s : SettingsValue) (t : TrafficValue) (q : Place) (m : Message) (fact : Fact) → get t.messages q ≡ Some m
    → get (facts_of s t) q ≡ Some fact
    → fact.route ≡ route_in s.versions m
route-told s t q m fact is made =
    let one : fact_in_circumstances q m (circumstances s t m) ≡ fact = routes_in s t q m (get t.messages q) fact is (sym (fact-at s t q) ∙ made) in
    ap (λ (f : Fact). f.route) (sym one)
