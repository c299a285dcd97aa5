use Rattle.std.proofs.Common.{List, Some, ap, ◌∙◌}
use Rattle.std.specs.Prelude.{codes, map}
use Rattle.std.specs.FinMap.{find}
use Rattle.smq_route.specs.Edits.{corrected}
use Rattle.smq_route.specs.Known.{route, version}
use Rattle.smq_route.specs.Versions.{version_cmp, key_at}
use Rattle.smq_route.proofs.Least.{Entry}
use Rattle.smq_route.proofs.Edited.{changed-there}
use Rattle.smq_route.proofs.KnownVersions.{plan-version, plan-overlap, plan-end, plan-correct, unsorted-entries, unsorted-version}
use Rattle.smq_route.specs.Known.{plan}
use Rattle.smq_route.proofs.laws.known_edits.Goals as goal

pub returns-clause-told : goal.returns-clause-told
returns-clause-told c = plan-overlap (codes "44") 0

pub returns-clause-last_of_first : goal.returns-clause-last_of_first
returns-clause-last_of_first c = plan-overlap (codes "44") 1999

pub returns-clause-past_the_first : goal.returns-clause-past_the_first
returns-clause-past_the_first c = plan-overlap (codes "44") 2000

pub returns-clause-is_open : goal.returns-clause-is_open
returns-clause-is_open c = plan-overlap (codes "44") 3500

pub returns-clause-before_both : goal.returns-clause-before_both
returns-clause-before_both c = plan-overlap (codes "447") 1599

pub returns-clause-in_second : goal.returns-clause-in_second
returns-clause-in_second c = plan-overlap (codes "447") 1600

pub returns-clause-past_all : goal.returns-clause-past_all
returns-clause-past_all c = plan-overlap (codes "447") 1700

pub returns-clause-other_prefix : goal.returns-clause-other_prefix
returns-clause-other_prefix c = plan-overlap (codes "45") 0

pub returns-clause-no_route : goal.returns-clause-no_route
returns-clause-no_route c = plan-end (codes "44") 1 2

pub returns-clause-ended : goal.returns-clause-ended
returns-clause-ended c = plan-end (codes "44") 1000 1000

pub returns-clause-bad_end : goal.returns-clause-bad_end
returns-clause-bad_end c = plan-end (codes "44") 3000 3000

pub returns-clause-end : goal.returns-clause-end
returns-clause-end c = plan-end (codes "44") 3000 3001

pub returns-clause-nothing_there : goal.returns-clause-nothing_there
returns-clause-nothing_there c = plan-correct (codes "44") 2000

pub returns-clause-ended_too : goal.returns-clause-ended_too
returns-clause-ended_too c = plan-correct (codes "44") 1000

pub returns-clause-correction : goal.returns-clause-correction
returns-clause-correction c = changed-there plan (codes "44") 1000 (corrected (route 9) (codes "23433"))
    (version (Some 2000) 2 (codes "23410")) (plan-version (codes "44") 1000)

pub returns-clause-order : goal.returns-clause-order
returns-clause-order c = ap (λ (es : List Entry). map (λ e. e.0) es) unsorted-entries

pub returns-clause-ended_there : goal.returns-clause-ended_there
returns-clause-ended_there c = unsorted-version (codes "44") 0 ∙ ap (find version_cmp (key_at (codes "44") 0)) unsorted-entries

pub returns-clause-open_there : goal.returns-clause-open_there
returns-clause-open_there c = unsorted-version (codes "44") 5 ∙ ap (find version_cmp (key_at (codes "44") 5)) unsorted-entries
