use Rattle.std.proofs.Common.{◌≡◌, ◌≤◌, length}
use Rattle.smq_present.specs.within.Turns.{HasNext}
use Rattle.smq_present.proofs.lemmas.pairing.TurnLemmas.{HasFirst}
use Rattle.smq_present.proofs.pairing.sides.Turns.of.Given as goal

abbrev pub invariant-loop-index : goal.invariant-loop-index
invariant-loop-index l = record {
  within : l.index ≤ length l.pdus;
  many : length l.next.items ≡ length l.pdus;
  first : HasFirst l.kind l.pdus l.index l.first;
  next : HasNext l.kind l.pdus l.index l.next.items;
}

abbrev pub decreases-loop-index : goal.decreases-loop-index
decreases-loop-index l = l.index
