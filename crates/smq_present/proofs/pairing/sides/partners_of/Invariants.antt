-- So many of each number are taken as stand before, each of which has its partner.
use Rattle.std.proofs.Common.{◌≡◌, length}
use Rattle.smq_present.specs.within.Turns.{HasPartnersTo, HasTurns, opposite}
use Rattle.smq_present.proofs.lemmas.pairing.TurnLemmas.{counted}
use Rattle.smq_present.proofs.pairing.sides.partners_of.Given as goal

abbrev pub invariant-loop-pdu : goal.invariant-loop-pdu
invariant-loop-pdu l = record {
  turns : HasTurns (opposite l.kind) l.other (counted l.kind l.mine l.pdu-index) l.turns;
  many : length l.partners.items ≡ l.pdu-index;
  partners : HasPartnersTo l.pdu-index l.kind l.mine l.other l.partners.items;
}
