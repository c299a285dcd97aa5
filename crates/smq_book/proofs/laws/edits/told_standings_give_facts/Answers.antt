use Rattle.smq_book.proofs.lemmas.edits.Told.{fact-told, note-alone, note-told}
use Rattle.smq_book.proofs.laws.edits.told_standings_give_facts.Goals as goal

pub returns : goal.returns
returns c = record { facts = fact-told; notes = note-told; no_receipt = note-alone }
