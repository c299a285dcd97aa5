-- The hash so far and the octets that are left have the hash of all.
use Rattle.std.proofs.Common.{◌≡◌, drop}
use Rattle.smq_kit.specs.Hashes.{hash_of_text}
use Rattle.smq_kit.proofs.hashed_key.hash_of_text.Given as goal

abbrev pub invariant-loop-octet : goal.invariant-loop-octet
invariant-loop-octet l = record {
  hash : hash_of_text l.hash (drop l.octet-index l.octets) ≡ hash_of_text 0 l.octets;
}
