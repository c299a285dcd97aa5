use Rattle.std.proofs.Common.{List, take}
use Rattle.smq_window.specs.Connection.{octets_of}
use Rattle.smq_window.specs.Homes.{Homed}
use Rattle.smq_window.specs.within.Kept.{IsKept}
use Rattle.smq_window.specs.within.Shown.{Deals}
use Rattle.smq_window.proofs.connection.deal.Given as goal

abbrev pub invariant-loop-frame : goal.invariant-loop-frame
invariant-loop-frame l =
    (pdus : List Homed) → IsKept pdus l.span.oldest l.span.present l.initial.periods.items
    → Deals pdus l.span.oldest l.span.present l.at (octets_of (take l.frame-index l.frames))
    l.initial.periods.items l.periods.items l.initial.rows.items l.rows.items
