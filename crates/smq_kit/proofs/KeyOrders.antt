-- The order of keys is total, and keys that compare equal are one.
use Rattle.std.proofs.Common.{◌≡◌, refl, sym, ap}
use Rattle.std.specs.declared.cmp.Ordering.TheVariants.{Equal}
use Rattle.std.specs.Ordering.{nat_cmp}
use Rattle.std.specs.Cmp.{IsTotalOrder}
use Rattle.std.proofs.lemmas.Cmp.{on_total, nat_list_cmp_total}
use Rattle.std.specs.FinMap.{IsAntisymmetric, nat_cmp-IsAntisymmetric, slice_cmp-IsAntisymmetric}
use Rattle.smq_kit.specs.declared.message_id.Key.{Key}
use Rattle.smq_kit.specs.declared.message_id.Key.TheVariants.{Number, Text}
use Rattle.smq_kit.specs.Orders.{key_numbers, key_cmp}
use Rattle.smq_kit.specs.contracts.message_id.KeyOrd.TheImpl as key_ord
use Rattle.smq_kit.proofs.Comparisons.{then_first, then_equal}

-- the order by which a map of std compares keys is this order
pub key-order : (a b : Key) → (key_ord.ghosts).cmp a b ≡ key_cmp a b
key-order (Number a) (Number b) = sym (then_equal (nat_cmp a b))
key-order (Number a) (Text u) = refl
key-order (Text t) (Number b) = refl
key-order (Text t) (Text u) = refl

pub keys_total : IsTotalOrder key_cmp
keys_total = on_total key_numbers nat_list_cmp_total

pub keys_exact : IsAntisymmetric key_cmp
keys_exact (Number a) (Number b) e = ap Number (nat_cmp-IsAntisymmetric a b (then_first (nat_cmp a b) Equal e))
keys_exact (Number a) (Text u) e = absurd cc
keys_exact (Text t) (Number b) e = absurd cc
keys_exact (Text t) (Text u) e = ap Text (slice_cmp-IsAntisymmetric nat_cmp-IsAntisymmetric t u e)
