use Rattle.std.proofs.Common.{◌≡◌, ℕ, take, true, nat_cmp, nat_eq}
use Rattle.std.specs.BTreeSet.{contains}
use Rattle.std.specs.List.{list_any}
use Rattle.smq_load.specs.Settings.{are_distinct}
use Rattle.smq_load.proofs.DistinctLemmas.{numbers_of}
use Rattle.smq_load.proofs.link_settings.are_distinct.Given as goal

-- the numbers so far are in the set, and none of them stands twice
abbrev pub invariant-loop-forms : goal.invariant-loop-forms
invariant-loop-forms l = record {
  distinct : are_distinct (numbers_of (take l.forms-index l.links)) ≡ true;
  members : (q : ℕ) → contains nat_cmp l.numbers q ≡ list_any (nat_eq q) (numbers_of (take l.forms-index l.links));
}
