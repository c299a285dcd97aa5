-- How windows are compared.
use Rattle.std.specs.Prelude.{Bool}
use Rattle.smq_kit.specs.declared.window.Window.{Window}
use Rattle.smq_kit.specs.contracts.window.WindowPartialEq.TheImpl as window_eq

-- whether two windows are equal by `==`
abbrev pub is_same : Window → Window → Bool
is_same a b = window_eq.ghosts.eq a b
