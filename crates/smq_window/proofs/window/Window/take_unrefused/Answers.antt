use Rattle.std.proofs.Common.{◌≡◌, ◌≤◌, refl, ap, arith}
use Rattle.smq_window.specs.declared.direction.Direction.{Direction}
use Rattle.smq_window.specs.declared.periods.Span.{Span}
use Rattle.smq_window.specs.declared.window.Window.{Window}
use Rattle.smq_window.specs.Window.{oldest_of, present_of}
use Rattle.smq_window.proofs.Standing.{taken-window}
use Rattle.smq_window.proofs.window.Window.take_unrefused.Goals as goal

pub returns : goal.returns
returns c l w is =
    let k = c.in_ok-taken.ensures l w is in
    let eo : c.span-span.result.oldest ≡ oldest_of c.pass_clock.new.self.length c.pass_clock.new.self.belief =
    ap (λ (s : Span). s.oldest) c.span-span.ensures.value in
    let ep : c.span-span.result.present ≡ present_of c.pass_clock.new.self.length c.pass_clock.new.self.belief =
    ap (λ (s : Span). s.present) c.span-span.ensures.value in
    let order : c.span-span.result.oldest ≤ c.span-span.result.present = omega (arith, eo, ep) in
    let after : Window = record {
      length = c.pass_clock.new.self.length;
      belief = c.pass_clock.new.self.belief;
      connections = c.put_piece.new.connections;
      made = c.put_piece.new.made;
    } in
    let t = taken-window l w c.pass_clock.new.self after c.args.at.now c.args.octets.now c.moment_of-moment.result
    c.span-span.result.oldest c.span-span.result.present c.direction.result.now.last c.in_ok-taken.taken.is_doubted
    c.take_out-connection.result c.take_out-connection.new.connections c.in_ok-taken.taken.rows.items c.put_piece.new.rows.items
    k.0 k.2 eo ep order c.take_out-connection.ensures k.1 c.moment_of-moment.ensures
    (λ d o q shows. ap (λ (x : Direction). x.last) (c.direction.ensures.shown d o q shows)) c.in_ok-put_piece.ensures refl refl in
    (t.0, k.1, t.1)
