-- What is read of a session.
use Rattle.std.specs.Prelude.{◌≡◌}
use Rattle.smq_present.specs.declared.pairing.traffic.SessionReading.{SessionReading}
use Rattle.smq_present.specs.within.Sourced.{SessionView, submits_in, notes_in}

-- these are the submitted messages and the notes of a session
abbrev pub Says : SessionView → SessionReading → Type 0
Says x traffic = (traffic.submits.items ≡ submits_in x) × (traffic.notes.items ≡ notes_in x)
