use Rattle.std.proofs.Common.{[], ◌∷◌, ◌∙◌}
use Rattle.smq_present.specs.within.Messages.{message_of}
use Rattle.smq_present.proofs.lemmas.pairing.PushedMessages.{submit-is}
use Rattle.smq_present.proofs.pairing.submits.submit_at.Goals as goal

pub returns : goal.returns
returns c =
    let side = c.args.side.now in
    (λ k. message_of c.args.source c.args.pdu.now c.in_ok-submit.submit.now (c.response.ensures k) ∷ [])
    ∙ submit-is c.args.source side.pdus.now side.other.now c.args.index c.args.pdu.now c.in_ok-submit.submit.now side.responses.items
    c.requires.side.responses c.requires.pdu c.requires.requests c.in_ok-submit.ensures
