use Rattle.std.proofs.Common.{◌<◌, subst, sym}
use Rattle.std.specs.List.{All}
use Rattle.smq_pair.specs.declared.paired_pdu.PduLink.TheVariants.{Before}
use Rattle.smq_pair.specs.within.Stream.{Held}
use Rattle.smq_pair.proofs.Held.{linked-above}
use Rattle.smq_pair.proofs.streams.join.Goals as goal

pub push-requires-clause-above : goal.push-requires-clause-above
push-requires-clause-above c =
    subst (All (λ (e : Held). e.0 < c.args.offset)) (sym c.in_ok-link.ensures.ok)
    (linked-above c.args.before (Before c.args.offset) _ c.args.offset c.make_room.ensures.ordered
    (subst (All (λ (e : Held). e.0 < c.args.offset)) (sym c.make_room.ensures.content) c.requires.above))
