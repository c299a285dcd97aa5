use Rattle.std.proofs.Common.{ℕ, List, refl, sym, ap, ◌∙◌}
use Rattle.smq_window.specs.Window.{is_first}
use Rattle.smq_window.proofs.Firsts.{first-forgotten, first-is, first-other}
use Rattle.smq_window.proofs.connection.Connection.forget.Goals as goal

pub returns-then-not-begins_with-clause-test : goal.returns-then-not-begins_with-clause-test
returns-then-not-begins_with-clause-test c d oldest present shows =
    let other = rw c.as_slice.ensures.value at (c.begins_with.ensures.other c.if-not-begins_with.true) in
    sym (ap (λ (ns : List ℕ). is_first c.args.period ns) (sym shows.periods)
    ∙ first-other c.args.self.now.periods.items c.args.period other)

pub returns-clause-shown : goal.returns-clause-shown
returns-clause-shown c d oldest present older shows =
    let first = rw c.as_slice.ensures.value at (c.begins_with.ensures.first c.if-not-begins_with.false) in
    first-forgotten d oldest present c.args.period c.args.self.now _ older shows
    (first-is c.args.self.now.periods.items c.args.period first.0 first.1) refl refl refl c.remove.ensures.items
