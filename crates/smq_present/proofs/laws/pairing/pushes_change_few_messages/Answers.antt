use Rattle.smq_present.proofs.lemmas.pairing.PushLemmas.{client-push, centre-push}
use Rattle.smq_present.proofs.laws.pairing.pushes_change_few_messages.Goals as goal

pub returns-clause-client : goal.returns-clause-client
returns-clause-client c = client-push

pub returns-clause-centre : goal.returns-clause-centre
returns-clause-centre c = centre-push
