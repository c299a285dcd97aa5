use Rattle.std.proofs.Common.{◌∙◌, inl, inr, sym}
use Rattle.smq_add.proofs.ApartLemmas.{may-add, told-shared}
use Rattle.smq_add.proofs.apart.Checks.apart.Goals as goal
use Rattle.smq_add.proofs.apart.Checks.apart.Goals.{then-has_more+in_default, else-has_more}

pub returns-in-Some-shared : goal.returns-in-Some-shared
returns-in-Some-shared c of_periods reports k =
    told-shared of_periods reports c.args.self.now c.in-Some-shared.shared k (sym c.shared.ensures ∙ c.in-Some-shared.is)

pub returns-in-None : goal.returns-in-None
returns-in-None c of_periods reports k =
    elim c.if-has_more.branch [
      | then-has_more+in_default w ↦ may-add of_periods reports c.args.self.now k (sym c.shared.ensures ∙ c.in-None.is) (inl w.in_default.is)
      | else-has_more w ↦
          may-add of_periods reports c.args.self.now k (sym c.shared.ensures ∙ c.in-None.is) (inr (sym c.has_more.ensures ∙ w.if-has_more.false))
    ]
