use Rattle.std.proofs.Common.{◌≡◌, map, take}
use Rattle.smq_window.specs.Window.{withdraw_row}
use Rattle.smq_window.specs.within.Kept.{numbers}
use Rattle.smq_window.proofs.window.rows_back.Given as goal

abbrev pub invariant-loop-period : goal.invariant-loop-period
invariant-loop-period l = l.rows.items ≡ map (withdraw_row l.session) (numbers (take l.period-index l.periods))
