-- The code so far and that of the digits that are left make the code of all.
use Rattle.std.proofs.Common.{◌≡◌, ◌+◌, ◌-◌, ◌^◌, drop}
use Rattle.smq_route.specs.within.NumberCodes.{code_of, packed}
use Rattle.smq_route.proofs.number_key.pack.Given as goal

abbrev pub invariant-loop-octet : goal.invariant-loop-octet
invariant-loop-octet l = record {
  code : l.code + packed (15 - l.octet-index) (drop l.octet-index l.digits) ≡ code_of l.digits;
  span : l.span ≡ 11 ^ (15 - l.octet-index);
}
