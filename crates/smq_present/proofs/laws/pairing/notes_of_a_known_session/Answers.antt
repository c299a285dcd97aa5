use Rattle.std.proofs.Common.{refl}
use Rattle.smq_present.proofs.lemmas.pairing.KnownNotes.{notes-read}
use Rattle.smq_present.proofs.laws.pairing.notes_of_a_known_session.Goals as goal

pub returns : goal.returns
returns c = record { notes = refl; contents = refl; octets = notes-read }
