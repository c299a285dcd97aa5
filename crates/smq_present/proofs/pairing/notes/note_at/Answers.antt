use Rattle.std.proofs.Common.{Bool, cond, [], ◌∷◌, sym, ap, ◌∙◌}
use Rattle.smq_kit.specs.declared.place.Place.{Place}
use Rattle.smq_tally.specs.Lists.{listed}
use Rattle.smq_present.specs.pairing.Traffic.{place_of}
use Rattle.smq_present.specs.within.Pairs.{from_session}
use Rattle.smq_present.proofs.lemmas.pairing.SideLemmas.{noted-at}
use Rattle.smq_present.proofs.pairing.notes.note_at.Goals as goal

pub returns-then-not-is_noted : goal.returns-then-not-is_noted
returns-then-not-is_noted c =
    let q = place_of (from_session c.args.side.now.session) c.args.side.now.dir c.args.pdu.now in
    sym (ap (λ (b : Bool). cond b (listed c.args.list q ∷ []) []) c.if-not-is_noted.true)
    ∙ noted-at c.args.side.now c.args.list c.args.index c.args.pdu.now _ _ c.is_noted.result c.requires.paired c.requires.pdu c.response.ensures
    c.request.ensures c.is_noted.ensures

pub returns : goal.returns
returns c =
    let q = place_of (from_session c.args.side.now.session) c.args.side.now.dir c.args.pdu.now in
    ap (λ (q : Place). listed c.args.list q ∷ []) c.place_of.ensures
    ∙ sym (ap (λ (b : Bool). cond b (listed c.args.list q ∷ []) []) c.if-not-is_noted.false)
    ∙ noted-at c.args.side.now c.args.list c.args.index c.args.pdu.now _ _ c.is_noted.result c.requires.paired c.requires.pdu c.response.ensures
    c.request.ensures c.is_noted.ensures
