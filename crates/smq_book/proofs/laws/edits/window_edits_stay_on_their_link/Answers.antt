use Rattle.std.proofs.Common.{refl}
use Rattle.std.specs.FinMap.{insert}
use Rattle.smq_book.proofs.lemmas.edits.WindowEdits.{inserted-others, none-due_on, other-link, same-due, window-outside}
use Rattle.smq_book.proofs.laws.edits.window_edits_stay_on_their_link.Goals as goal

pub returns : goal.returns
returns c = record {
  facts = λ s windows link t others. window-outside s windows link t others;
  inserted = λ s link window t. window-outside s (insert s.windows link.0 window) link t (inserted-others s link window);
  none = λ s link window t none. none-due_on s (insert s.windows link.0 window) link t (inserted-others s link window) none;
  other_links = other-link;
  notes = λ s windows t. refl;
  due = same-due;
}
