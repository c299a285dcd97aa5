use Rattle.std.proofs.lemmas.Bool.{false≢true}
use Rattle.std.proofs.Common.{sym, ◌∙◌}
use Rattle.smq_route.proofs.Apart.{overlap-found, overlap-none, all-ended}
use Rattle.smq_route.proofs.laws.overlaps_are_told_by_the_least_beginning.Goals as goal

pub returns : goal.returns
returns c = record {
  found = overlap-found;
  none = λ m p t none. overlap-none m p t (λ g w there lasts. false≢true (sym (none g w there) ∙ lasts));
  only_there = λ m p t f v none there. all-ended m p t none f v there;
}
