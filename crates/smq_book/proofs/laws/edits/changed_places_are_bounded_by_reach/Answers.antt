use Rattle.std.proofs.Common.{arith}
use Rattle.smq_present.specs.pairing.Traffic.{traffic_of}
use Rattle.smq_book.specs.edits.Reached.{messages_due_on, messages_under}
use Rattle.smq_book.specs.edits.Reach.{link_places}
use Rattle.smq_book.proofs.lemmas.edits.ReachBounds.{keys-number, weights-least, members-number, due-number, withdrawn-number, appended-number}
use Rattle.smq_book.proofs.laws.edits.changed_places_are_bounded_by_reach.Goals as goal

pub returns : goal.returns
returns c = record {
  appends = appended-number;
  withdraws = withdrawn-number;
  forms = λ p link response receipt.
      let before = weights-least p (link_places link (traffic_of p.sessions)) in
      omega (arith, before);
  windows = λ p link window. keys-number (messages_due_on link p.settings (traffic_of p.sessions));
  adds = λ p prefix from route network. keys-number (messages_under prefix (traffic_of p.sessions));
  ends = λ p prefix from until. keys-number (messages_under prefix (traffic_of p.sessions));
  corrects = λ p prefix from route network. keys-number (messages_under prefix (traffic_of p.sessions));
  advances = due-number;
  keys = members-number;
}
