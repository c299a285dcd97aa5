use Rattle.std.proofs.Common.{[], rules}
use Rattle.std.specs.List.Sorted.{IsStrictlySortedBy}
use Rattle.smq_tally.specs.Lists.{listed_cmp}
use Rattle.smq_tally.specs.Known.{known_listed}
use Rattle.smq_tally.proofs.Written.{listed-at}
use Rattle.smq_tally.proofs.laws.known_lists.Goals as goal

in_order : IsStrictlySortedBy listed_cmp known_listed
unfolding IsStrictlySortedBy
in_order = search rules

pub returns : goal.returns
returns c = search (in_order, listed-at [] known_listed)
