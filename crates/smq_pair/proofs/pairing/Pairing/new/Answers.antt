use Rattle.std.proofs.Common.{◌∙◌, ap}
use Rattle.smq_pair.specs.within.Kept.{Entries}
use Rattle.smq_pair.proofs.Searched.{holds-none}
use Rattle.smq_pair.proofs.pairing.Pairing.new.Goals as goal

pub invariant_of-result : goal.invariant_of-result
invariant_of-result c = (
  holds-none _ _ c.new-2.ensures.content c.new.ensures.client c.new.ensures.centre,
  holds-none _ _ c.new-2.ensures.settled (ap (λ (es : Entries). es.client) c.new.ensures.settled ∙ c.new.ensures.client)
      (ap (λ (es : Entries). es.centre) c.new.ensures.settled ∙ c.new.ensures.centre),
)
