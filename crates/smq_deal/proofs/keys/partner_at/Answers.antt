use Rattle.std.proofs.Common.{sym, ◌∙◌, take}
use Rattle.std.proofs.lemmas.Option.{slice_get_within}
use Rattle.smq_deal.proofs.Partners.{of-request, of-response}
use Rattle.smq_deal.proofs.keys.partner_at.Goals as goal

pub returns-then-is_request : goal.returns-then-is_request
returns-then-is_request c =
    let side = c.args.side.now in
    let p = c.args.pdu.now in
    let at = c.requires.pdu in
    let request = sym c.is_request.ensures ∙ c.if-is_request.true in
    c.response.ensures
    ∙ c.requires.side.responses c.args.index p (slice_get_within side.pdus.now c.args.index p at) at request
    ∙ sym (of-request side.other.now (take c.args.index side.pdus.now) p request)

pub returns-then-is_response : goal.returns-then-is_response
returns-then-is_response c =
    let side = c.args.side.now in
    let p = c.args.pdu.now in
    let at = c.requires.pdu in
    let response = sym c.is_response.ensures ∙ c.if-is_response.true in
    c.request.ensures
    ∙ c.requires.side.requests c.args.index p (slice_get_within side.pdus.now c.args.index p at) at response
    ∙ sym (of-response side.other.now (take c.args.index side.pdus.now) p (sym c.is_request.ensures ∙ c.if-is_request.false) response)
