use Rattle.smq_present.proofs.lemmas.join.MoveLemmas.{moved-facts, changes-cover, put_message-moves, take_message-moves, put_receipt-moves, take_receipt-moves}
use Rattle.smq_present.proofs.laws.join.moves_leave_other_facts.Goals as goal

pub returns : goal.returns
returns c = record {
  moves = λ s q t u places move stand. moved-facts q t u move s places stand;
  changes = changes-cover;
  put_message = put_message-moves;
  take_message = take_message-moves;
  put_receipt = put_receipt-moves;
  take_receipt = take_receipt-moves;
}
