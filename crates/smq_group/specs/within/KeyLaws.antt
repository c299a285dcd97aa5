-- Keys of members that compare equal are one.
use Rattle.std.specs.Prelude.{◌≡◌}
use Rattle.std.specs.Ordering.{nat_cmp, ordering_then}
use Rattle.std.specs.declared.cmp.Ordering.{Ordering}
use Rattle.std.specs.declared.cmp.Ordering.TheVariants.{Equal}
use Rattle.std.specs.FinMap.{nat_cmp-IsAntisymmetric}
use Rattle.smq_kit.specs.HashedKeys.{hashed_key_cmp}
use Rattle.smq_kit.specs.Orders.{kept_place_cmp}
use Rattle.smq_kit.proofs.Comparisons.{then_first, then_second}
use Rattle.smq_kit.proofs.HashedKeyOrders.{one_hashed_key}
use Rattle.smq_shelf.specs.within.KeyLaws.{one_place}
use Rattle.smq_group.specs.declared.member.Member.{Member}
use Rattle.smq_group.specs.declared.member.Candidate.{Candidate}
use Rattle.smq_group.specs.within.Orders.{kept_member_cmp, kept_candidate_cmp}

pub one_member : (x y : Member) → kept_member_cmp x y ≡ Equal → x ≡ y
one_member x y h =
    let keys : Ordering = hashed_key_cmp x.key y.key in
    let places : Ordering = kept_place_cmp x.place y.place in
    λ i. record { key = one_hashed_key x.key y.key (then_first keys places h) i; place = one_place x.place y.place (then_second keys places h) i }

pub one_candidate : (x y : Candidate) → kept_candidate_cmp x y ≡ Equal → x ≡ y
one_candidate x y h =
    let keys : Ordering = hashed_key_cmp x.key y.key in
    let moments : Ordering = nat_cmp x.moment y.moment in
    let places : Ordering = kept_place_cmp x.place y.place in
    let later : ordering_then moments places ≡ Equal = then_second keys (ordering_then moments places) h in
    λ i. record {
      key = one_hashed_key x.key y.key (then_first keys (ordering_then moments places) h) i;
      moment = nat_cmp-IsAntisymmetric x.moment y.moment (then_first moments places later) i;
      place = one_place x.place y.place (then_second moments places later) i;
    }
