use Rattle.std.proofs.Common.{◌≡◌, ◌∙◌, Some, ap, not}
use Rattle.smq_add.proofs.ApartLemmas.{known-again, known-shared, known-two}
use Rattle.smq_add.proofs.owners.Owners.see_again.Goals as goal
use Rattle.smq_add.proofs.owners.Owners.see_again.Goals.{else-first-second-via-then-first-second+else-is_none, else-first-second-via-else-first-second}

pub returns-then-is_none : goal.returns-then-is_none
returns-then-is_none c seen k is = known-two seen c.args.self.now c.args.owner c.args.first c.args.second k is (c.if-first-second.true)

pub returns-else-first-second : goal.returns-else-first-second
returns-else-first-second c seen k is =
    elim c.else-first-second.branch [
      | else-first-second-via-then-first-second+else-is_none w ↦
          known-shared seen c.args.self.now c.args.owner c.args.second k
          (w.is_none.ensures ∙ ap not w.if-is_none.false)
      | else-first-second-via-else-first-second w ↦
          known-again seen c.args.self.now c.args.owner c.args.second k (is ∙ ap Some w.if-first-second.false)
    ]
