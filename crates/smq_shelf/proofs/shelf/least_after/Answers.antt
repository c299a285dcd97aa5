use Rattle.std.proofs.Common.{rules, ◌∙◌, ap, Bool, true, false, refl, ◌≡◌, ◌&&◌}
use Rattle.std.specs.Map.Iter.{deref_pair}
use Rattle.std.specs.Ordering.{is_lt}
use Rattle.smq_shelf.proofs.Finds.{first_of_list, find_by_filter, shown_first}
use Rattle.smq_shelf.proofs.shelf.least_after.Goals as goal

and_true : (b : Bool) → (b && true) ≡ b
and_true true = refl
and_true false = refl

pub returns : goal.returns
returns g c =
    shown_first deref_pair _ _ _ c.next.ensures.steps ∙ ap first_of_list (c.range.ensures.between (search rules))
    ∙ find_by_filter (λ e. is_lt (g.K.Ord.cmp c.args.key.now e.0)) _ (λ e. and_true _) c.args.map.now.entries
