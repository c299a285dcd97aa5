use Rattle.std.proofs.Common.{◌≡◌, length, ap, ◌∙◌, arith}
use Rattle.smq_frame.specs.Tail.{TailValue}
use Rattle.smq_present.specs.present.Stream.{stream_of}
use Rattle.smq_present.proofs.lemmas.present.Growth.{tail_of-offset}
use Rattle.smq_present.proofs.present.session.Direction.decode.Goals as goal

pub of-requires : goal.of-requires
of-requires c =
    let offset : c.in_ok-copy.field-0.offset ≡ length c.args.self.now =
    ap (λ (t : TailValue). t.offset) (c.in_ok-copy.ensures ∙ c.self.invariant.tail_is)
    ∙ tail_of-offset (stream_of c.self.inside.pieces.items) ∙ ap length c.self.view_is in
    record { room = omega (arith, offset, ap length c.in_ok-clone.ensures.cases, c.requires.room) }
