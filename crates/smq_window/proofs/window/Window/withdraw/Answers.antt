use Rattle.std.proofs.Common.{List, map, refl, ap, ◌∙◌}
use Rattle.smq_window.specs.declared.periods.Period.{Period}
use Rattle.smq_window.specs.Window.{withdraw_row}
use Rattle.smq_window.specs.within.Kept.{numbers}
use Rattle.smq_window.proofs.Standing.{session-some}
use Rattle.smq_window.proofs.window.Window.withdraw.Goals as goal

pub returns-in-Ok : goal.returns-in-Ok
returns-in-Ok c l w is =
    session-some l w c.args.self.now (record { length = c.args.self.now.length; belief = c.args.self.now.belief; connections = c.remove.new.self; made = c.args.self.now.made }) c.args.session.now c.number.result c.in-Some.connection c.in-Ok.rows.items c.number.ensures.value
    c.in-Some.ensures.value is c.in-Some.ensures.updates.0
    (c.in-Ok.ensures ∙ ap (λ (ps : List Period). map (withdraw_row c.args.session.now) (numbers ps)) c.as_slice.ensures.value)
    refl refl refl
