use Rattle.std.proofs.Common.{List, subst, sym}
use Rattle.std.proofs.lemmas.Result.{on_ok_weaker}
use Rattle.smq_tally.specs.declared.fact.CountKey.{CountKey}
use Rattle.smq_tally.specs.Rows.{value_in}
use Rattle.smq_tally.specs.within.Counting.{AreCounted, HaveRoom, IsMoved}
use Rattle.smq_tally.specs.within.Kept.{counts_in}
use Rattle.smq_tally.specs.within.RowCounts.{keys_at, keys_with}
use Rattle.smq_tally.proofs.RowMoves.{in_value, row-set, row-moved}
use Rattle.smq_tally.proofs.counts.change_in_view.Goals as goal

pub returns-in-Some-clause-ok : goal.returns-in-Some-clause-ok
returns-in-Some-clause-ok c =
    let es = c.args.counts.now.content in
    let fs = c.change.new.self.content in
    let row = c.in-Some.row in
    let value = value_in c.args.view c.args.fact.now in
    let from = in_value c.args.view value row c.args.less c.in-Some.ensures in
    let to = in_value c.args.view value row c.args.more c.in-Some.ensures in
    on_ok_weaker c.change.result
    (λ put. subst (λ (ks : List CountKey). IsMoved ks (keys_with value c.args.view c.args.more) (counts_in es) (counts_in fs)) from
    (subst (λ (ks : List CountKey). IsMoved (keys_at row c.args.less) ks (counts_in es) (counts_in fs)) to
    (row-moved es fs row c.args.less c.args.more (row-set es fs row c.args.less c.args.more c.change.ensures.ordered put)
    (subst (λ (ks : List CountKey). AreCounted ks (counts_in es)) (sym from) c.requires.counted)
    (subst (λ (ks : List CountKey). HaveRoom ks (counts_in es)) (sym to) c.requires.room)))) c.change.ensures.content
