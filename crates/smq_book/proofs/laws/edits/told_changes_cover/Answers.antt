use Rattle.smq_book.proofs.lemmas.edits.Told.{facts-covered, facts-patched, notes-covered, notes-patched}
use Rattle.smq_book.proofs.laws.edits.told_changes_cover.Goals as goal

pub returns : goal.returns
returns c = record { facts = facts-covered; facts_patched = facts-patched; notes = notes-covered; notes_patched = notes-patched }
