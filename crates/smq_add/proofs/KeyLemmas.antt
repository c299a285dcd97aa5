-- The order of keys is total, and keys that it ties are one.
use Rattle.std.proofs.Common.{◌≡◌, ◌∙◌, Some, None, ap, rules}
use Rattle.std.specs.Bool.{Decides}
use Rattle.std.specs.Ordering.{is_eq}
use Rattle.std.specs.Cmp.{IsTotalOrder}
use Rattle.std.specs.FinMap.{IsAntisymmetric}
use Rattle.std.proofs.lemmas.Bool.Decides.{Decides-and, Decides-like}
use Rattle.smq_tally.specs.declared.fact.CountKey.{CountKey}
use Rattle.smq_tally.specs.contracts.fact.CountKeyPartialEq.TheImpl as count_eq
use Rattle.smq_tally.specs.within.Keys.{at_places, in_lists, outcomes, values, views}
use Rattle.smq_add.specs.declared.row.Key.{Key}
use Rattle.smq_add.specs.declared.row.Key.TheVariants.{Counted, Listed}
use Rattle.smq_add.specs.contracts.row.KeyOrd.TheImpl.Laws as key_laws
use Rattle.smq_add.specs.contracts.row.KeyPartialEq.TheImpl as key_eq
use Rattle.smq_add.specs.Rows.{key_cmp}

count_keys : (x y : CountKey) → Decides (count_eq.ghosts.eq x y) (x ≡ y)
count_keys x y =
    Decides-like (count_eq.ghosts.eq x y) (λ p i. record { view = p.0 i; value = p.1.0 i; outcome = p.1.1 i })
    (λ e. (ap (λ z. z.view) e, (ap (λ z. z.value) e, ap (λ z. z.outcome) e)))
    (Decides-and _ _ (views x.view y.view) (Decides-and _ _ (values x.value y.value) (outcomes x.outcome y.outcome)))

counted_in : CountKey → Key → CountKey
counted_in other (Counted at) = at
counted_in other (Listed list place) = other

keys : (a b : Key) → Decides (key_eq.ghosts.eq a b) (a ≡ b)
unfolding counted_in
keys (Counted a) (Counted b) = (
  λ e. ap (λ (at : CountKey). Counted at) ((count_keys a b).0 e),
  λ e. (count_keys a b).1 (ap (counted_in a) e),
)
keys (Counted a) (Listed m q) = search rules
keys (Listed l p) (Counted b) = search rules
keys (Listed l None) (Listed m None) = search (rules, in_lists)
keys (Listed l None) (Listed m (Some q)) = search rules
keys (Listed l (Some p)) (Listed m None) = search rules
keys (Listed l (Some p)) (Listed m (Some q)) = search (rules, in_lists, at_places)

pub keys_exact : IsAntisymmetric key_cmp
keys_exact a b e = (keys a b).0 (key_laws.matches_eq-law a b ∙ ap is_eq e)

pub keys_total : IsTotalOrder key_cmp
keys_total = key_laws.total-law
