use Rattle.std.proofs.Common.{◌≡◌, ◌∙◌, ◌++◌, ◌∷◌, [], List, ap, append_assoc, map, rules, sym}
use Rattle.std.specs.Vec.Iter.{into_iter_items}
use Rattle.smq_add.specs.declared.row.Row.{Row}
use Rattle.smq_add.specs.Sums.{as_added, sum_of}
use Rattle.smq_add.proofs.RowLemmas.{added-more}
use Rattle.smq_add.proofs.sum.Sum.add_report.Goals as goal

pub loop-row-preserved : goal.loop-row-preserved
loop-row-preserved c before are =
    let (done, parts, is) = c.loop-row.invariant before are in
    let first : into_iter_items c.loop-row.row-iterator ≡ c.in-Some.row ∷ into_iter_items c.next.new.self = search rules in (
      done ++ c.in-Some.row ∷ [],
      append_assoc done (c.in-Some.row ∷ []) (into_iter_items c.next.new.self) ∙ ap (λ (l : List Row). done ++ l) (sym first) ∙ parts,
      c.in_ok-add.ensures.ok (before ++ map (as_added c.args.of_periods) done) is
          ∙ ap sum_of (added-more c.args.of_periods before done c.in-Some.row _ c.as_added.ensures),
    )
