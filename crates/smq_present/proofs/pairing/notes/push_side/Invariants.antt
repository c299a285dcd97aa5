-- The notes so far, and those of the PDUs that are left, are what was there and those of all.
use Rattle.std.proofs.Common.{◌≡◌, ◌++◌, drop}
use Rattle.std.specs.List.{flat_map}
use Rattle.smq_present.specs.within.Pairs.{from_session}
use Rattle.smq_present.specs.within.Sides.{note_of, noted, pairing_in}
use Rattle.smq_present.proofs.pairing.notes.push_side.Given as goal

abbrev pub invariant-loop-index : goal.invariant-loop-index
invariant-loop-index l =
    l.notes.items ++ flat_map (note_of l.list (pairing_in l.side.dir (from_session l.side.session) l.side.pdus.now l.side.other.now)
    (from_session l.side.session) l.side.dir) (drop l.index l.side.pdus.now)
    ≡ l.initial.notes.items ++ noted l.list l.side
