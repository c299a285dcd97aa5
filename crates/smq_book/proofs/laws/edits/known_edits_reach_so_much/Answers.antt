use Rattle.smq_book.proofs.lemmas.edits.KnownReach.{submitted-made, submits, accepted-made, accepts, withdraws, before-the-end, at-the-end, window-reaches, window-elsewhere, window-unanswered, window-at-the-end, under, elsewhere, of-its-link, of-no-link, withdraws-of-three, withdraws-two-of-three, forms-of-its-link, forms-of-no-link}
use Rattle.smq_book.proofs.laws.edits.known_edits_reach_so_much.Goals as goal

pub returns : goal.returns
returns c = record {
  submitted = submitted-made;
  submits = submits;
  accepted = accepted-made;
  accepts = accepts;
  withdraws = withdraws;
  before_the_end = before-the-end;
  at_the_end = at-the-end;
  windows_of_its_link = window-reaches;
  windows_of_no_link = window-elsewhere;
  windows_before_its_response = window-unanswered;
  windows_at_the_end = window-at-the-end;
  adds_under_its_number = under;
  adds_elsewhere = elsewhere;
  ends_under_its_number = under;
  ends_elsewhere = elsewhere;
  corrects_under_its_number = under;
  corrects_elsewhere = elsewhere;
  of_its_link = of-its-link;
  withdraws_of_three = withdraws-of-three;
  withdraws_two_of_three = withdraws-two-of-three;
  forms_of_its_link = forms-of-its-link;
  forms_of_no_link = forms-of-no-link;
  of_no_link = of-no-link;
}
