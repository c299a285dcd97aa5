use Rattle.smq_book.proofs.lemmas.edits.MismatchedNotes.{noted-at-request, not-elsewhere, not-alone}
use Rattle.smq_book.proofs.laws.edits.mismatched_pairs_are_noted_at_their_request.Goals as goal

pub returns : goal.returns
returns c = record {
  request = λ v place pair o found. noted-at-request v o place pair found;
  elsewhere = λ v place pair o found apart. not-elsewhere v o place pair found apart;
  alone = not-alone;
}
