use Rattle.std.proofs.Common.{refl}
use Rattle.smq_book.proofs.lemmas.edits.WindowsAgain.{advance-either, windows-again, windows-either}
use Rattle.smq_book.proofs.laws.edits.clocks_and_windows_commute.Goals as goal

pub returns : goal.returns
returns c = record {
  settings = λ s windows clock. refl;
  facts = λ s windows clock t. refl;
  replies = λ p link window clock. refl;
  advances = advance-either;
  links = windows-either;
  last = windows-again;
}
