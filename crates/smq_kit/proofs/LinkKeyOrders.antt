-- The order of keys of links is total, and keys that compare equal are one.
use Rattle.std.specs.declared.cmp.Ordering.{Ordering}
use Rattle.std.specs.Ordering.{nat_cmp}
use Rattle.std.specs.Cmp.{IsTotalOrder}
use Rattle.std.proofs.lemmas.Cmp.{on_total, then_total, nat_cmp_total}
use Rattle.std.specs.FinMap.{IsAntisymmetric, nat_cmp-IsAntisymmetric}
use Rattle.smq_kit.specs.Orders.{key_cmp}
use Rattle.smq_kit.specs.LinkKeys.{link_key_cmp}
use Rattle.smq_kit.proofs.Comparisons.{then_first, then_second}
use Rattle.smq_kit.proofs.KeyOrders.{keys_total, keys_exact}

pub link_keys_total : IsTotalOrder link_key_cmp
link_keys_total = then_total (on_total (λ k. k.link.0) nat_cmp_total) (on_total (λ k. k.key) keys_total)

pub link_keys_exact : IsAntisymmetric link_key_cmp
link_keys_exact a b e =
    let links : Ordering = nat_cmp a.link.0 b.link.0 in
    let keys : Ordering = key_cmp a.key b.key in
    λ i. record {
      link = record { 0 = nat_cmp-IsAntisymmetric a.link.0 b.link.0 (then_first links keys e) i };
      key =
          keys_exact a.key b.key (then_second links keys e) i;
    }
