-- The number so far, and the octets that are left, give that of the text.
use Rattle.std.proofs.Common.{◌≡◌, ◌+◌, ◌*◌, ◌%◌, ◌<◌, drop}
use Rattle.std.specs.Prelude.{fold}
use Rattle.smq_deal.specs.Parts.{text_number}
use Rattle.smq_deal.proofs.rule.text_number.Given as goal

abbrev pub invariant-loop-octet : goal.invariant-loop-octet
invariant-loop-octet l = record {
  below : l.number < 4294967291;
  given : fold (λ number octet. (number * 31 + octet) % 4294967291) l.number (drop l.octet-index l.text) ≡ text_number l.text;
}
