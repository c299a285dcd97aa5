use Rattle.std.proofs.Common.{refl}
use Rattle.smq_receipt.specs.Readings.{reading_of}
use Rattle.smq_present.proofs.laws.present.known_pdus_are_stored.Goals as goal

pub returns : goal.returns
unfolding reading_of
returns c = record { high = refl; asking = refl; not_asking = refl }
