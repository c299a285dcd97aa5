-- The messages so far, and those of the PDUs that are left, are what was there and those of all.
use Rattle.std.proofs.Common.{◌≡◌, ◌++◌, drop}
use Rattle.std.specs.List.{enumerate_from, flat_map}
use Rattle.smq_present.specs.present.Kept.{submit_in}
use Rattle.smq_present.specs.within.Messages.{submit_by, submits_among}
use Rattle.smq_present.proofs.pairing.submits.push_submits.Given as goal

abbrev pub invariant-loop-index : goal.invariant-loop-index
invariant-loop-index l = l.submits.items ++ flat_map (λ e. submit_by (submit_in e.1.content) l.source l.side.pdus.now l.side.other.now e.0 e.1)
    (enumerate_from l.index (drop l.index l.side.pdus.now))
    ≡ l.initial.submits.items ++ submits_among l.source l.side.pdus.now l.side.other.now
