use Rattle.smq_present.proofs.lemmas.present.Growth.{keeps-copied}
use Rattle.smq_present.proofs.present.session.Direction.grow_by_copy.Goals as goal

pub invariant_of-self-2 : goal.invariant_of-self-2
invariant_of-self-2 c =
    let old = c.self.inside in
    let piece = c.args.piece.now in
    rw (c.push_reserved.ensures.items, c.in_ok-make_room.ensures.items, c.in_ok-push_copies.ensures.ok) (
    keeps-copied old.pieces.items c.args.self.now c.args.moment c.in_ok-octets.octets piece.octets old.tail c.in_ok-next.next piece.next
    old.pdus.items c.as_slice.result.now piece.pdus.items old.last c.in_ok-octets.ensures.cases c.in_ok-next.ensures c.as_slice.ensures.value
    c.self.invariant c.self.view_is c.requires.pdus c.requires.next c.requires.room c.requires.some
    )
