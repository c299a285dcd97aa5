use Rattle.std.proofs.Common.{◌∙◌, ap, inl, inr, not, sym}
use Rattle.smq_add.proofs.ApartLemmas.{whole-seen}
use Rattle.smq_add.proofs.apart.Checks.see_whole.Goals as goal
use Rattle.smq_add.proofs.apart.Checks.see_whole.Goals.{else-is_none-via-then-is_none+else-not-is_whole, else-is_none-via-else-is_none}

pub returns-else-is_none : goal.returns-else-is_none
returns-else-is_none c of_periods reports rows sections owned k is =
    elim c.else-is_none.branch [
      | else-is_none-via-then-is_none+else-not-is_whole w ↦ whole-seen of_periods reports rows sections owned c.args.self.now k (inl (is ∙ w.if-not-is_whole.false))
      | else-is_none-via-else-is_none w ↦
          whole-seen of_periods reports rows sections owned c.args.self.now k (inr (c.is_none.ensures ∙ ap not w.if-is_none.false))
    ]
