use Rattle.smq_present.proofs.lemmas.pairing.SessionTraffic.{no-message, no-receipt}
use Rattle.smq_present.proofs.laws.pairing.messages_and_receipts_stand_apart.Goals as goal

pub returns : goal.returns
returns c = record { messages = no-message; receipts = no-receipt }
