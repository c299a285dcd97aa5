-- What `==` calls one fact is one: part by part.
use Rattle.std.proofs.Common.{◌≡◌, ℕ, Bool, List, Option, Some, None, refl, sym, ap, ◌∙◌, rules}
use Rattle.std.specs.Bool.{Decides}
use Rattle.std.specs.Prelude.{◌&&◌}
use Rattle.std.specs.Option.{option_eq}
use Rattle.std.proofs.lemmas.Bool.Decides.{Decides-and, Decides-like}
use Rattle.smq_kit.specs.declared.names.LinkId.{LinkId}
use Rattle.smq_kit.specs.contracts.names.LinkIdPartialEq.TheImpl as link_eq
use Rattle.smq_kit.specs.declared.names.RouteId.{RouteId}
use Rattle.smq_kit.specs.contracts.names.RouteIdPartialEq.TheImpl as route_eq
use Rattle.smq_kit.specs.contracts.number.NetworkPartialEq.TheImpl as network_eq
use Rattle.smq_tally.specs.declared.band.Band.{Band}
use Rattle.smq_tally.specs.declared.fact.Fact.{Fact}
use Rattle.smq_tally.specs.contracts.band.BandPartialEq.TheImpl as band_eq
use Rattle.smq_tally.specs.contracts.fact.FactEq.TheImpl.Laws as fact_laws
use Rattle.smq_tally.specs.within.Equal.{fact_eq}
use Rattle.smq_tally.specs.within.Keys.{at_places, errors, outcomes}

links : (a b : LinkId) → Decides (link_eq.ghosts.eq a b) (a ≡ b)
links a b = search rules

routes : (a b : RouteId) → Decides (route_eq.ghosts.eq a b) (a ≡ b)
routes a b = search rules

networks : (a b : List ℕ) → Decides (network_eq.ghosts.eq a b) (a ≡ b)
networks a b = search rules

-- a route and its network
routed : (a b : RouteId × List ℕ) → Decides (route_eq.ghosts.eq a.0 b.0 && network_eq.ghosts.eq a.1 b.1) (a ≡ b)
routed a b =
    Decides-like (route_eq.ghosts.eq a.0 b.0 && network_eq.ghosts.eq a.1 b.1) (λ p i. (p.0 i, p.1 i)) (λ e. (ap (λ x. x.0) e, ap (λ x. x.1) e))
    (Decides-and _ _ (routes a.0 b.0) (networks a.1 b.1))

bands : (a b : Band) → Decides (band_eq.ghosts.eq a b) (a ≡ b)
bands a b = search rules

pub options : {X : Type 0} (eq : X → X → Bool) → ((x y : X) → Decides (eq x y) (x ≡ y)) → (a b : Option X) → Decides (option_eq eq a b) (a ≡ b)
options eq decides None None = (λ h. refl, λ e. refl)
options eq decides None (Some y) = (λ h. absurd cc, λ e. absurd cc)
options eq decides (Some x) None = (λ h. absurd cc, λ e. absurd cc)
options {X} eq decides (Some x) (Some y) = Decides-like (eq x y) (λ h. ap (λ (z : X). Some z) h) (λ e. let same : x ≡ y = cc in same) (decides x y)

-- each part of two facts is one
abbrev Parts : Fact → Fact → Type 0
Parts a b = (a.place ≡ b.place) × ((a.link ≡ b.link)
    × ((a.route ≡ b.route) × ((a.outcome ≡ b.outcome)
    × ((a.error ≡ b.error) × ((a.link_delay ≡ b.link_delay) × (a.centre_delay ≡ b.centre_delay))))))

parts_decide : (a b : Fact) → Decides (fact_eq a b) (Parts a b)
parts_decide a b = Decides-and _ _ (at_places a.place b.place)
    (Decides-and _ _ (links a.link b.link) (Decides-and _ _ (options _ routed a.route b.route)
    (Decides-and _ _ (outcomes a.outcome b.outcome)
    (Decides-and _ _ (options _ errors a.error b.error) (Decides-and _ _ (options _ bands a.link_delay b.link_delay)
    (options _ bands a.centre_delay b.centre_delay))))))

one : (a b : Fact) → Parts a b → a ≡ b
one a b p = λ i. record {
  place = p.0 i;
  link = p.1.0 i;
  route = p.1.1.0 i;
  outcome = p.1.1.1.0 i;
  error = p.1.1.1.1.0 i;
  link_delay = p.1.1.1.1.1.0 i;
  centre_delay = p.1.1.1.1.1.1 i;
}

pub facts_decide : (a b : Fact) → Decides (fact_eq a b) (a ≡ b)
facts_decide a b = (λ h. one a b ((parts_decide a b).0 h), λ e. ap (fact_eq a) (sym e) ∙ fact_laws.laws-law.refl a)
