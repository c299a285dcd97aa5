use Rattle.std.proofs.Common.{◌∙◌, refl, sym}
use Rattle.smq_add.proofs.ApartLemmas.{known-new}
use Rattle.smq_add.proofs.owners.Owners.see.Goals as goal

pub returns-in_ok-insert-in-None : goal.returns-in_ok-insert-in-None
returns-in_ok-insert-in-None c seen k =
    known-new seen c.args.self.now c.args.owner c.args.report (record c.args.self.now { reports = c.insert.new.self }) k
    (sym (c.copied.ensures ∙ c.get.ensures.value) ∙ c.in-None.is) c.in_ok-insert-in-None.ensures.entries refl
