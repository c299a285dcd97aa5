-- Keys of the kit that compare equal are one.
use Rattle.std.specs.Prelude.{◌≡◌}
use Rattle.std.proofs.Common.{ap, sym, ◌∙◌}
use Rattle.std.specs.declared.cmp.Ordering.{Ordering}
use Rattle.std.specs.declared.cmp.Ordering.TheVariants.{Equal}
use Rattle.std.specs.FinMap.{nat_cmp-IsAntisymmetric}
use Rattle.smq_kit.specs.declared.names.LinkId.{LinkId}
use Rattle.smq_kit.specs.declared.names.SessionId.{SessionId}
use Rattle.smq_kit.specs.declared.place.Place.{Place}
use Rattle.smq_kit.specs.contracts.names.LinkIdOrd.TheImpl as link_ord
use Rattle.smq_kit.specs.contracts.names.SessionIdOrd.TheImpl as session_ord
use Rattle.smq_kit.specs.Orders.{kept_place_cmp}
use Rattle.smq_kit.proofs.PlaceOrders.{place-order, places_exact}

pub one_link : (x y : LinkId) → (link_ord.ghosts).cmp x y ≡ Equal → x ≡ y
one_link x y h = ap (λ n. let link : LinkId = record { 0 = n } in link) (nat_cmp-IsAntisymmetric x.0 y.0 h)

pub one_session : (x y : SessionId) → (session_ord.ghosts).cmp x y ≡ Equal → x ≡ y
one_session x y h = ap (λ n. let session : SessionId = record { 0 = n } in session) (nat_cmp-IsAntisymmetric x.0 y.0 h)

pub one_place : (x y : Place) → kept_place_cmp x y ≡ Equal → x ≡ y
one_place x y h = places_exact x y (ap (λ (R : Place → Place → Ordering). R x y) (sym place-order) ∙ h)
