-- The order of errors is total, and errors that compare equal are one.
use Rattle.std.proofs.Common.{◌≡◌, refl, sym, ap}
use Rattle.std.specs.Ordering.{nat_cmp, ordering_then}
use Rattle.smq_kit.specs.declared.error_code.ErrorCode.{ErrorCode}
use Rattle.smq_kit.specs.declared.error_code.ErrorCode.TheVariants.{Network, Text, Unstated}
use Rattle.smq_kit.specs.Orders.{error_cmp}
use Rattle.smq_kit.specs.contracts.error_code.ErrorCodeOrd.TheImpl as error_ord
use Rattle.smq_kit.proofs.Comparisons.{then_equal}

-- the order by which a map of std compares errors is this order
pub error-order : (a b : ErrorCode) → (error_ord.ghosts).cmp a b ≡ error_cmp a b
error-order (Network k c) (Network l d) = ap (ordering_then (nat_cmp k l)) (sym (then_equal (nat_cmp c d)))
error-order (Network k c) (Text u) = refl
error-order (Network k c) Unstated = refl
error-order (Text t) (Network l d) = refl
error-order (Text t) (Text u) = refl
error-order (Text t) Unstated = refl
error-order Unstated (Network l d) = refl
error-order Unstated (Text u) = refl
error-order Unstated Unstated = refl
