use Rattle.std.proofs.Common.{◌≡◌, take}
use Rattle.std.specs.Prelude.{map}
use Rattle.smq_pdu.specs.Placed.{placed_pdu}
use Rattle.smq_present.specs.present.Kept.{kept_pdu}
use Rattle.smq_present.proofs.present.kept.pdus_of.Given as goal

abbrev pub invariant-loop-frame : goal.invariant-loop-frame
invariant-loop-frame l = l.pdus.items ≡ map kept_pdu (map placed_pdu (take l.frame-index l.frames))
