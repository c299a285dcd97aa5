use Rattle.std.proofs.Common.{◌+◌, ◌++◌, [], ◌∷◌, Option, ℕ, take, sym, ◌∙◌, subst}
use Rattle.smq_kit.specs.declared.place.Place.{Place}
use Rattle.smq_scratch.specs.declared.groups.Groups.{Groups}
use Rattle.smq_scratch.specs.within.Groups.{Changes, HasSubmits, with_message}
use Rattle.smq_scratch.proofs.KeyNumbered.{numbered-none}
use Rattle.smq_scratch.proofs.Grouped.{submits-more, submits-none, submits-same}
use Rattle.smq_scratch.proofs.groups.Groups.of_submits.Goals as goal
use Rattle.smq_scratch.proofs.groups.Groups.of_submits.Goals.{in-Some+in_ok-add_message-in-Some, in-None}

pub loop-submit-init : goal.loop-submit-init
loop-submit-init c =
    let kept : Groups = record { keys = c.new.result; groups = c.new-2.result } in
    subst (λ numbers. HasSubmits kept [] numbers) (sym c.in_ok-numbers.ensures.items)
    (submits-none kept c.new-2.ensures.items c.new.ensures.keys (numbered-none c.new.result c.new.ensures))

pub loop-submit-preserved : goal.loop-submit-preserved
loop-submit-preserved c =
    let i = c.loop-submit.submit-index in
    let before = c.loop-submit.numbers.items in
    let so_far = take (i + 1) c.args.submits.now in
    subst (λ numbers. HasSubmits c.match-key.kept so_far numbers) (sym c.in_ok-push.ensures.items)
    (elim c.match-key.branch [
      | in-Some+in_ok-add_message-in-Some w ↦
          let changes : Changes c.loop-submit.kept c.match-key.kept w.in-Some.key w.in_ok-add_message-in-Some.field-0 (with_message c.submit-item.result.place) =
          subst (λ (k : Groups). Changes c.loop-submit.kept k w.in-Some.key w.in_ok-add_message-in-Some.field-0 (with_message c.submit-item.result.place)) (sym w.kept-is)
          (subst (λ (p : Place). Changes c.loop-submit.kept w.add_message.new.self w.in-Some.key w.in_ok-add_message-in-Some.field-0 (with_message p)) w.place.ensures
          w.in_ok-add_message-in-Some.ensures) in
          subst (λ (o : Option ℕ). HasSubmits c.match-key.kept so_far (before ++ o ∷ [])) (sym w.number-is)
          (submits-more c.args.submits.now i c.submit-item.result c.loop-submit-test.true c.submit-item.is
          w.in-Some.key w.in_ok-add_message-in-Some.field-0 c.loop-submit.kept c.match-key.kept before w.in-Some.ensures c.loop-submit.invariant changes)
      | in-None w ↦
          subst (λ (o : Option ℕ). HasSubmits c.match-key.kept so_far (before ++ o ∷ [])) (sym w.number-is)
          (submits-same c.args.submits.now i c.submit-item.result c.loop-submit-test.true c.submit-item.is c.match-key.kept before
          (sym w.in-None.is ∙ c.key.ensures)
          (subst (λ (k : Groups). HasSubmits k (take i c.args.submits.now) before) (sym w.kept-is) c.loop-submit.invariant))
    ])
