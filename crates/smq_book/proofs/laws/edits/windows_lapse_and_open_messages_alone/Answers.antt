use Rattle.std.proofs.Common.{ap, arith, true, false}
use Rattle.std.proofs.lemmas.Bool.Decides.{nat_tests}
use Rattle.smq_book.specs.edits.Reached.{is_due}
use Rattle.smq_book.proofs.lemmas.edits.WindowEdits.{due-again, undue-stays, windowed}
use Rattle.smq_book.proofs.laws.edits.windows_lapse_and_open_messages_alone.Goals as goal

pub returns : goal.returns
returns c = record {
  windowed = λ s windows t place. windowed s windows t place;
  others = λ s windows t place fact is due. undue-stays s windows t place fact is due;
  lapse = λ s windows t place m fact there is was past.
      due-again s windows t place m fact true there is (grind (arith, nat_tests, past)) (ap is_due was);
  open_again = λ s windows t place m fact there is was before.
      due-again s windows t place m fact false there is (grind (arith, nat_tests, before)) (ap is_due was);
}
