use Rattle.smq_book.proofs.lemmas.edits.KnownAppends.{asks, answers, disagrees, strays, overtakes, unread}
use Rattle.smq_book.proofs.laws.edits.notes_of_known_appends.Goals as goal

pub returns : goal.returns
returns c = record { asks = asks; answers = answers; disagrees = disagrees; strays = strays; overtakes = overtakes; unread = unread }
