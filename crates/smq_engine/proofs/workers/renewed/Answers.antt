use Rattle.std.proofs.Common.{◌≡◌, ◌∷◌, ◌++◌, List, [], ◌∙◌, ap, sym, subst, append_assoc, arith}
use Rattle.std.proofs.lemmas.Grind.{common_steps}
use Rattle.std.proofs.lemmas.List.Elements.{AllZip-push}
use Rattle.std.specs.List.{AllZip}
use Rattle.std.specs.Vec.Iter.{into_iter_items}
use Rattle.smq_desk.specs.declared.job.LinkJob.{LinkJob}
use Rattle.smq_engine.specs.within.Jobs.{IsRenewed}
use Rattle.smq_engine.proofs.workers.renewed.Goals as goal

pub loop-job-preserved : goal.loop-job-preserved
loop-job-preserved c =
    let taken = c.loop-job.invariant.taken in
    let more = taken ++ c.in-Some.job ∷ [] in
    let added : c.push.new.self.items ≡ c.loop-job.fresh.items ++ c.in_ok-job.job ∷ [] = grind (arith, common_steps) in
    record {
      taken = more;
      all = append_assoc taken (c.in-Some.job ∷ []) (into_iter_items c.next.new.self)
          ∙ ap (λ (left : List LinkJob). taken ++ left) (sym c.in-Some.ensures.steps.0) ∙ c.loop-job.invariant.all;
      renewed = subst (AllZip IsRenewed more) (sym added)
          (AllZip-push IsRenewed taken c.loop-job.fresh.items c.in-Some.job c.in_ok-job.job c.loop-job.invariant.renewed c.in_ok-job.ensures.ok);
    }
