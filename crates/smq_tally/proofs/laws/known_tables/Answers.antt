use Rattle.smq_tally.specs.Known.{known_facts, known_notes}
use Rattle.smq_tally.proofs.Written.{counted-at, listed-at}
use Rattle.smq_tally.proofs.laws.known_tables.Goals as goal

pub returns : goal.returns
returns c = search (counted-at known_facts known_notes, listed-at known_facts known_notes)
