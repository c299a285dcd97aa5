use Rattle.std.proofs.Common.{Option, Some, Bor, subst, sym}
use Rattle.std.specs.Prelude.{OnOk, option_to_list}
use Rattle.std.specs.Option.{option_copied}
use Rattle.smq_tally.specs.declared.fact.Fact.{Fact}
use Rattle.smq_tally.specs.within.Counting.{key_in_if, IsMoved}
use Rattle.smq_tally.specs.within.Kept.{counts_in}
use Rattle.smq_tally.proofs.counts.recount_in_view.Goals as goal

pub returns-in-Some-after-2-clause-ok : goal.returns-in-Some-after-2-clause-ok
returns-in-Some-after-2-clause-ok c =
    let m = counts_in c.args.counts.now.content in
    let u = counts_in c.count_instead.new.counts.content in
    subst (λ (x : Option (Bor Fact)). OnOk c.count_instead.result (IsMoved (option_to_list (key_in_if c.args.view (option_copied x)))
    (option_to_list (key_in_if c.args.view (option_copied c.args.after))) m u)) (sym c.in-Some.is)
    (subst (λ (x : Option (Bor Fact)). OnOk c.count_instead.result (IsMoved (option_to_list (key_in_if c.args.view (Some c.in-Some.before.now)))
    (option_to_list (key_in_if c.args.view (option_copied x))) m u)) (sym c.in-Some-after-2.is) c.count_instead.ensures.ok)
