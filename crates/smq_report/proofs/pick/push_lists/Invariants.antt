use Rattle.std.proofs.Common.{◌≡◌, ◌++◌, map, take}
use Rattle.smq_report.specs.declared.pick.Section.TheVariants.{List}
use Rattle.smq_report.proofs.pick.push_lists.Given as goal

abbrev pub invariant-loop-list : goal.invariant-loop-list
invariant-loop-list l = l.sections.items ≡ l.initial.sections.items ++ map List (take l.list-index l.lists)
