-- The sessions so far, and those that are left, are all.
use Rattle.std.proofs.Common.{◌≡◌, ◌++◌, map}
use Rattle.smq_present.specs.within.Sourced.{sourced_by, sourced_of}
use Rattle.smq_present.proofs.pairing.traffic.sessions_with_forms.Given as goal

abbrev pub invariant-loop-number : goal.invariant-loop-number
invariant-loop-number l = l.made.items ++ map (sourced_by l.present.settings) l.number-iterator ≡ sourced_of l.present
