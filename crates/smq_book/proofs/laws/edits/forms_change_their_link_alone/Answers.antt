use Rattle.smq_book.proofs.lemmas.edits.FormEdits.{facts-outside, link-notes-outside}
use Rattle.smq_book.proofs.laws.edits.forms_change_their_link_alone.Goals as goal

pub returns : goal.returns
returns c = record {
  facts = λ s z t link windows versions clock others. facts-outside s z link others t windows versions clock;
  notes = λ s z t link windows versions clock others. link-notes-outside s z link others t windows versions clock;
}
