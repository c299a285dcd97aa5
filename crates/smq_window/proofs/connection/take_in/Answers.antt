use Rattle.std.proofs.Common.{◌++◌, ◌∙◌}
use Rattle.smq_window.specs.Connection.{homed, octets_of}
use Rattle.smq_window.proofs.Deals.{takes}
use Rattle.smq_window.proofs.Results.{on-from}
use Rattle.smq_window.proofs.connection.take_in.Goals as goal

pub returns : goal.returns
returns c =
    on-from _ _ c.write_broken.result c.write_broken.ensures (λ written pdus kept.
    let d = c.in_ok-deal.ensures pdus kept in
    takes pdus c.args.span.oldest c.args.span.present c.args.at.now c.args.octets.now c.args.direction.now c.take.new.self
    c.write_broken.new.direction c.as_slice.result.now c.args.periods.now.items c.deal.new.periods.items c.write_broken.new.periods.items
    c.args.rows.now.items c.deal.new.rows.items c.write_broken.new.rows.items
    (c.as_slice.ensures.value ∙ c.in_ok-frames.ensures.frames) c.in_ok-frames.ensures.after d
    (written (pdus ++ homed pdus c.args.span.oldest c.args.span.present c.args.at.now.sender (octets_of c.as_slice.result.now)) d.kept))
