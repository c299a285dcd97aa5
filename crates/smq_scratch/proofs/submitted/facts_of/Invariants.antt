-- The facts so far, and those of the messages that are left, are those of all.
use Rattle.std.proofs.Common.{◌≡◌, ◌++◌, drop, map}
use Rattle.smq_present.specs.within.Lists.{receipts_of, submits_of}
use Rattle.smq_present.specs.within.Outcomes.{fact_among}
use Rattle.smq_scratch.proofs.submitted.facts_of.Given as goal

abbrev pub invariant-loop-at : goal.invariant-loop-at
invariant-loop-at l =
    l.facts.items ++ map (fact_among l.present.settings (submits_of l.present) (receipts_of l.present)) (drop l.at l.submits)
    ≡ map (fact_among l.present.settings (submits_of l.present) (receipts_of l.present)) l.submits
