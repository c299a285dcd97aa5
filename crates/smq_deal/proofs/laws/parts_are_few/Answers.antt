use Rattle.std.proofs.Common.{◌<◌, ℕ, zero, suc, Bool, true, false, arith}
use Rattle.std.specs.Prelude.{cond, max}
use Rattle.std.proofs.lemmas.Nat.{mod_below}
use Rattle.smq_deal.proofs.laws.parts_are_few.Goals as goal

some-parts : (parts : ℕ) → 0 < max 1 parts
some-parts zero = omega arith
some-parts (suc n) = omega arith

pub returns-clause-by_key : goal.returns-clause-by_key
returns-clause-by_key c parts = record {
  keyed = λ key. mod_below _ _ (some-parts parts);
  paired = λ seq. mod_below _ _ (some-parts parts);
  lone = λ source p. mod_below _ _ (some-parts parts);
}

below-two : (b : Bool) → cond b 1 0 < 2
below-two true = omega arith
below-two false = omega arith

pub returns-clause-settled : goal.returns-clause-settled
returns-clause-settled c s now has = record {
  keyed = λ key. below-two (has key);
  paired = λ seq. omega arith;
  lone = λ source p. below-two _;
}
