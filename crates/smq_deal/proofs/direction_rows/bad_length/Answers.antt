use Rattle.std.proofs.Common.{List, ℕ, ap, sym, ◌∙◌, drop, take, length, arith, rules}
use Rattle.std.proofs.lemmas.List.{length-append}
use Rattle.smq_deal.proofs.Cuts.{values-more, cut-next}
use Rattle.smq_frame.specs.Stream.{values}
use Rattle.smq_present.specs.present.Stream.{stream_of}
use Rattle.smq_deal.proofs.direction_rows.bad_length.Goals as goal

pub loop-piece-preserved : goal.loop-piece-preserved
loop-piece-preserved c =
    let pieces = c.pieces-piece-items.result.now in
    let i = c.loop-piece.piece-index in
    let p = c.piece-item.result in
    let more = values-more pieces i p c.loop-piece-test.true c.piece-item.is in
    let old = values (stream_of (take i pieces)) in
    let next = cut-next 4 c.args.at c.loop-piece.before c.min.result c.saturating_sub-more.result c.min-in-loop-piece.result old p.octets
    c.loop-piece.octets.items c.split_at.result.1.now c.split_at-in-loop-piece.result.0.now
    c.loop-piece.invariant.octets c.loop-piece.invariant.before
    (search rules) (search rules) (search rules) (search rules) (search rules) in
    record {
      octets = c.in_ok-extend_from_slice.ensures.items ∙ next ∙ ap (λ (os : List ℕ). take 4 (drop c.args.at os)) (sym more);
      before = omega (arith, c.saturating_sub-before.ensures, c.loop-piece.invariant.before, ap length more, length-append old p.octets);
    }
