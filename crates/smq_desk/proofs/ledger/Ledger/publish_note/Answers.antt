use Rattle.std.proofs.Common.{◌∙◌}
use Rattle.std.specs.Arc.{arc_value}
use Rattle.smq_desk.proofs.BoardSteps.{published_or_not}
use Rattle.smq_desk.proofs.ledger.Ledger.publish_note.Goals as goal

pub invariant_of-self-2 : goal.invariant_of-self-2
invariant_of-self-2 g c =
    let kept = c.self.invariant in
    let is = c.in-Ok-try_clone.ensures ∙ c.in-Ok.ensures in
    record {
      legal = kept.legal;
      replayed = kept.replayed;
      in_limit = kept.in_limit;
      published = published_or_not c.publish_on.result _ (arc_value c.in-Ok-try_clone.theirs) _ _ is kept.published c.publish_on.ensures.put c.publish_on.ensures.stays;
      limit_in_range = kept.limit_in_range;
      seats_in_range = kept.seats_in_range;
    }
