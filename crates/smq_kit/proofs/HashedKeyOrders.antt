-- The order of keys with a hash is total, and those that compare equal are one.
use Rattle.std.proofs.Common.{◌≡◌, refl, sym, ap, ◌∙◌, subst}
use Rattle.std.specs.declared.cmp.Ordering.{Ordering}
use Rattle.std.specs.declared.cmp.Ordering.TheVariants.{Less, Equal, Greater}
use Rattle.std.specs.Ordering.{is_eq, nat_cmp, ordering_then}
use Rattle.std.specs.Cmp.{IsTotalOrder}
use Rattle.std.proofs.lemmas.Cmp.{nat_cmp_total, on_total, then_total, tied_itself}
use Rattle.std.specs.FinMap.{IsAntisymmetric, nat_cmp-IsAntisymmetric}
use Rattle.smq_kit.specs.declared.link_key.LinkKey.{LinkKey}
use Rattle.smq_kit.specs.Hashes.{hash_of}
use Rattle.smq_kit.specs.HashedKeys.{hashed_key_cmp}
use Rattle.smq_kit.specs.LinkKeys.{link_key_cmp, same_key}
use Rattle.smq_kit.specs.Orders.{key_cmp}
use Rattle.smq_kit.proofs.Comparisons.{then_first, then_second}
use Rattle.smq_kit.proofs.KeyOrders.{key-order, keys_exact, keys_total}
use Rattle.smq_kit.proofs.LinkKeyOrders.{link_keys_exact, link_keys_total}

-- by link, then by hash, then by key
abbrev by_hash : LinkKey → LinkKey → Ordering
by_hash a b = ordering_then (nat_cmp a.link.0 b.link.0) (ordering_then (nat_cmp (hash_of a.key) (hash_of b.key)) (key_cmp a.key b.key))

order : hashed_key_cmp ≡ by_hash
order = λ i a b. ordering_then (nat_cmp a.link.0 b.link.0) (ordering_then (nat_cmp (hash_of a.key) (hash_of b.key)) (key-order a.key b.key i))

pub hashed_keys_total : IsTotalOrder hashed_key_cmp
hashed_keys_total =
    subst IsTotalOrder (sym order)
    (then_total (on_total (λ k. k.link.0) nat_cmp_total) (then_total (on_total (λ k. hash_of k.key) nat_cmp_total) (on_total (λ k. k.key) keys_total)))

pub one_hashed_key : IsAntisymmetric hashed_key_cmp
one_hashed_key a b e =
    let links : Ordering = nat_cmp a.link.0 b.link.0 in
    let hashes : Ordering = nat_cmp (hash_of a.key) (hash_of b.key) in
    let keys : Ordering = key_cmp a.key b.key in
    let h : ordering_then links (ordering_then hashes keys) ≡ Equal = ap (λ (R : LinkKey → LinkKey → Ordering). R a b) (sym order) ∙ e in
    λ i. record {
      link = record { 0 = nat_cmp-IsAntisymmetric a.link.0 b.link.0 (then_first links (ordering_then hashes keys) h) i };
      key = keys_exact a.key b.key (then_second hashes keys (then_second links (ordering_then hashes keys) h)) i;
    }

alike : (r s : Ordering) → (r ≡ Equal → s ≡ Equal) → (s ≡ Equal → r ≡ Equal) → is_eq r ≡ is_eq s
alike Equal s f g = ap is_eq (sym (f refl))
alike r Equal f g = ap is_eq (g refl)
alike Less Less f g = refl
alike Less Greater f g = refl
alike Greater Less f g = refl
alike Greater Greater f g = refl

-- they compare equal exactly where they are one
pub hashed-same : (a b : LinkKey) → is_eq (hashed_key_cmp a b) ≡ same_key a b
hashed-same a b =
    alike (hashed_key_cmp a b) (link_key_cmp a b)
    (λ e. ap (link_key_cmp a) (sym (one_hashed_key a b e)) ∙ tied_itself link_keys_total a)
    (λ e. ap (hashed_key_cmp a) (sym (link_keys_exact a b e)) ∙ tied_itself hashed_keys_total a)
