-- The value so far and the digits that are left make the number of all.
use Rattle.std.proofs.Common.{◌≡◌, ◌<◌, ◌^◌, drop}
use Rattle.smq_kit.specs.Keys.{number_in}
use Rattle.smq_kit.proofs.KeyLemmas.{number_with}
use Rattle.smq_kit.proofs.message_id.number_of.Given as goal

abbrev pub invariant-loop-octet : goal.invariant-loop-octet
invariant-loop-octet l = record {
  number : number_with l.base l.value (drop l.octet-index l.octets) ≡ number_in l.base l.octets;
  fits : l.value < 2 ^ 128;
}
