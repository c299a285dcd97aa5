use Rattle.std.proofs.Common.{ℕ, ◌+◌, ◌*◌, ap}
use Rattle.smq_book.proofs.lemmas.edits.KnownReach.{accepts, at-the-end, before-the-end, forms-of-its-link, forms-of-no-link, submits, window-reaches, withdraws}
use Rattle.smq_book.proofs.laws.edits.known_edits_touch_so_often.Goals as goal

abbrev most : ℕ → ℕ
most reached = 64 * (1 + reached)

pub returns : goal.returns
returns c = record {
  submits = ap most submits;
  accepts = ap most accepts;
  before_the_end = ap most before-the-end;
  at_the_end = ap most at-the-end;
  windows_of_its_link = ap most window-reaches;
  forms_of_its_link = ap most forms-of-its-link;
  forms_of_no_link = ap most forms-of-no-link;
  withdraws = ap most withdraws;
}
