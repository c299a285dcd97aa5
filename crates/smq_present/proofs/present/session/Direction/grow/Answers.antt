use Rattle.smq_present.proofs.lemmas.present.Growth.{keeps-grown}
use Rattle.smq_present.proofs.present.session.Direction.grow.Goals as goal

pub invariant_of-self-2 : goal.invariant_of-self-2
invariant_of-self-2 c =
    let old = c.self.inside in
    rw (c.push_reserved.ensures.items, c.in_ok-make_room.ensures.items, c.in_ok-append.ensures.items, c.in_ok-make_room-2.ensures.items) (
    keeps-grown old.pieces.items c.args.self.now c.args.moment c.args.piece.octets old.tail c.args.piece.next old.pdus.items c.args.piece.pdus.items
    old.last c.self.invariant c.self.view_is c.requires.pdus c.requires.next c.requires.room c.requires.some
    )
