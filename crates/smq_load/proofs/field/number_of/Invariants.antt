-- The number so far and the digits that are left make the number of all.
use Rattle.std.proofs.Common.{◌≡◌, ◌<◌, ◌^◌, drop}
use Rattle.smq_kit.specs.Keys.{number_below}
use Rattle.smq_load.specs.Decimal.{sum_of}
use Rattle.smq_load.proofs.DecimalLemmas.{number_with}
use Rattle.smq_load.proofs.field.number_of.Given as goal

abbrev pub invariant-loop-digit : goal.invariant-loop-digit
invariant-loop-digit l = record {
  number : number_with l.number (drop l.digit-index l.digits) ≡ number_below (2 ^ 64) (sum_of l.digits);
  fits : l.number < 2 ^ 64;
}
