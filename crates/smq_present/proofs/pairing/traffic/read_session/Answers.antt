use Rattle.std.proofs.Common.{◌++◌, List, ap, sym, ◌∙◌, subst}
use Rattle.smq_present.specs.declared.present.kept.StoredPdu.{StoredPdu}
use Rattle.smq_present.specs.pairing.Traffic.{session_notes}
use Rattle.smq_present.specs.within.Messages.{submits_among}
use Rattle.smq_present.specs.within.Pairs.{SubmitsAreRequests}
use Rattle.smq_present.specs.within.Sourced.{submits_in, notes_in}
use Rattle.smq_present.proofs.lemmas.pairing.Requests.{kept-ask}
use Rattle.smq_present.proofs.pairing.traffic.read_session.Goals as goal

pub push_submits-requires-clause-requests : goal.push_submits-requires-clause-requests
push_submits-requires-clause-requests c = subst (λ (ps : List StoredPdu). SubmitsAreRequests ps)
    (sym c.in_ok-client.ensures.client.pdus) (kept-ask c.view.inside.session.now.client)

pub returns : goal.returns
returns c =
    let source = c.view.inside.source in
    let side = c.in_ok-client.ensures.client in (
      c.in_ok-push_submits.ensures
          ∙ (λ k. c.new-submits.ensures.items k ++ submits_among source (side.pdus k) (side.other k))
          ∙ ap submits_in c.view.view_is,
      c.in_ok-push_notes.ensures
          ∙ ap (λ ys. ys ++ session_notes (source.session.0, c.view.inside.session.now)) c.new-notes.ensures.items
          ∙ ap notes_in c.view.view_is,
    )
