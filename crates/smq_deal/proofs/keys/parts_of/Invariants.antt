-- The parts so far are those of the PDUs before the index.
use Rattle.std.proofs.Common.{◌≡◌, take}
use Rattle.smq_deal.specs.Parts.{parts_of}
use Rattle.smq_deal.proofs.keys.parts_of.Given as goal

abbrev pub invariant-loop-index : goal.invariant-loop-index
invariant-loop-index g l =
    l.parts.items ≡ parts_of (g.R.Rule.rule l.rule) l.source l.side.dir (take l.index l.side.pdus.now) l.side.other.now
