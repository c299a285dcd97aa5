use Rattle.smq_present.proofs.lemmas.pairing.NotesTaken.{notes-taken, traffic-taken}
use Rattle.smq_present.proofs.lemmas.pairing.PairsTaken.{messages-taken, receipts-taken}
use Rattle.smq_present.proofs.lemmas.pairing.Requests.{kept-ask}
use Rattle.smq_present.proofs.laws.pairing.pairs_stay_in_parts.Goals as goal

pub returns-clause-messages : goal.returns-clause-messages
returns-clause-messages c = messages-taken

pub returns-clause-receipts : goal.returns-clause-receipts
returns-clause-receipts c = receipts-taken

pub returns-clause-notes : goal.returns-clause-notes
returns-clause-notes c = notes-taken

pub returns-clause-traffic : goal.returns-clause-traffic
returns-clause-traffic c = traffic-taken

pub returns-clause-requests : goal.returns-clause-requests
returns-clause-requests c = kept-ask
