use Rattle.std.proofs.Common.{ℕ, ◌≤◌, List, ◌++◌, subst, refl, ap, ◌∙◌}
use Rattle.smq_window.specs.declared.belief.Belief.{Belief}
use Rattle.smq_window.specs.declared.periods.Span.{Span}
use Rattle.smq_window.specs.declared.row.Row.{Row}
use Rattle.smq_window.specs.declared.window.Window.{Window}
use Rattle.smq_window.specs.Belief.{is_doubted}
use Rattle.smq_window.specs.Window.{rows_passed}
use Rattle.smq_window.proofs.Standing.{clock-window}
use Rattle.smq_window.proofs.window.Window.pass_clock.Goals as goal

pub returns : goal.returns
returns c l w is =
    let after : Window = record {
      length = c.args.self.now.length;
      belief = c.take-is_doubted.new.self;
      connections = c.pass.new.connections;
      made = c.pass.new.made;
    } in
    let some : 1 ≤ l.0 = subst (λ (x : ℕ × ℕ). 1 ≤ x.0) is.length c.span-span.ensures.long in
    let k = clock-window l w c.args.self.now after c.args.moment c.span-span.result.oldest c.pass.new.rows.items some is refl
    c.take-is_doubted.ensures.after (ap (λ (s : Span). s.oldest) c.span-span.ensures.value)
    (λ known present all.
    let p = c.in_ok-pass.ensures known present all in
    (p.0, p.1 ∙ ap (λ (x : List Row). x ++ rows_passed c.span-span.result.oldest c.args.self.now.made.items known) c.new-rows.ensures.items, p.2)) in
    (k.0, c.take-is_doubted.ensures.doubted ∙ ap (λ (b : Belief). is_doubted b c.args.moment) is.belief, k.1)
