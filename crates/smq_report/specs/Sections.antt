-- The parts of a report.
use Rattle.std.specs.Prelude.{List, [], ◌∷◌, ◌++◌, map}
use Rattle.smq_tally.specs.Lists.{lists}
use Rattle.smq_tally.specs.Rows.{views}
use Rattle.smq_report.specs.declared.pick.Pick.{Pick}
use Rattle.smq_report.specs.declared.pick.Pick.TheVariants as pick
use Rattle.smq_report.specs.declared.pick.Section.{Section}
use Rattle.smq_report.specs.declared.pick.Section.TheVariants as section

-- the sections that a report tells, in order: all views and then all lists, or the one that is picked
abbrev pub sections_of : Pick → List Section
sections_of pick.All = map section.View views ++ map section.List lists
sections_of (pick.View view) = section.View view ∷ []
sections_of (pick.List list) = section.List list ∷ []
