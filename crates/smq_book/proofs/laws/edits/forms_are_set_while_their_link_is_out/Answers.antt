use Rattle.smq_book.proofs.lemmas.edits.LinkMoves.{taken, no-message, no-receipt, again, groups-idle, facts-idle, notes-idle}
use Rattle.smq_book.proofs.laws.edits.forms_are_set_while_their_link_is_out.Goals as goal

pub returns : goal.returns
returns c = record {
  taken = taken;
  no_message = no-message;
  no_receipt = no-receipt;
  idle = λ link t s z windows versions clock others. (
    facts-idle link t s z windows versions clock others,
    groups-idle link t s z windows versions clock others,
    notes-idle link t s z windows versions clock others,
  );
  again = again;
}
