use Rattle.std.proofs.Common.{refl, sym, ap, ◌∙◌}
use Rattle.std.specs.Prelude.{Option, unwrap_or}
use Rattle.smq_shelf.proofs.Changes.{lookup-insert_entry, lookup-insert_other, lookup-remove_other, lookup-removed}
use Rattle.smq_group.specs.declared.group_summary.Group.{Group}
use Rattle.smq_group.specs.within.Outlooks.{no_group, a_group, group_at}
use Rattle.smq_kit.proofs.HashedKeyOrders.{hashed_keys_total}
use Rattle.smq_group.proofs.group_summary.keep_outlook.Goals as goal

pub returns-then-is_empty-clause-here : goal.returns-then-is_empty-clause-here
returns-then-is_empty-clause-here c =
    ap (group_at c.args.key.now) c.in_ok-remove.ensures.content
    ∙ ap (λ (x : Option Group). unwrap_or x no_group) (lookup-removed hashed_keys_total c.args.key.now c.args.outlooks.now.content c.in_ok-remove.ensures.ordered)
    ∙ sym (c.if-is_empty.ensures refl)

pub returns-then-is_empty-clause-elsewhere : goal.returns-then-is_empty-clause-elsewhere
returns-then-is_empty-clause-elsewhere c = λ other h.
    ap (group_at other) c.in_ok-remove.ensures.content
    ∙ ap (λ (x : Option Group). unwrap_or x no_group) (lookup-remove_other hashed_keys_total c.args.key.now other c.args.outlooks.now.content h)

pub returns-clause-here : goal.returns-clause-here
returns-clause-here c =
    ap (group_at c.args.key.now) c.in_ok-set.ensures.content
    ∙ rw c.copy.ensures (ap (λ (x : Option Group). unwrap_or x no_group) (lookup-insert_entry hashed_keys_total c.args.key.now (a_group c.args.matches c.args.receipts c.args.decider c.args.only) c.args.outlooks.now.content))

pub returns-clause-elsewhere : goal.returns-clause-elsewhere
returns-clause-elsewhere c = λ other h.
    ap (group_at other) c.in_ok-set.ensures.content
    ∙ rw c.copy.ensures (ap (λ (x : Option Group). unwrap_or x no_group) (lookup-insert_other hashed_keys_total c.args.key.now other (a_group c.args.matches c.args.receipts c.args.decider c.args.only) c.args.outlooks.now.content h))
