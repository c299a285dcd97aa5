use Rattle.std.proofs.Common.{◌≡◌, ◌++◌, map, take}
use Rattle.smq_report.specs.declared.pick.Section.TheVariants.{View}
use Rattle.smq_report.proofs.pick.push_views.Given as goal

abbrev pub invariant-loop-view : goal.invariant-loop-view
invariant-loop-view l = l.sections.items ≡ l.initial.sections.items ++ map View (take l.view-index l.views)
