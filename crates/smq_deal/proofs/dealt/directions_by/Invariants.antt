-- The parts so far are those of the sessions before the index.
use Rattle.std.proofs.Common.{◌≡◌, take}
use Rattle.std.specs.Prelude.{map}
use Rattle.std.specs.List.{flat_map}
use Rattle.smq_deal.proofs.Dealing.{view_parts}
use Rattle.smq_deal.proofs.dealt.directions_by.Given as goal

abbrev pub invariant-loop-view : goal.invariant-loop-view
invariant-loop-view g l =
    map (λ parts. parts.items) l.directions.items ≡ flat_map (view_parts (g.R.Rule.rule l.rule)) (take l.view-index l.view-items)
