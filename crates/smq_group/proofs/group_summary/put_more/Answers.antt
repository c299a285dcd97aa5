use Rattle.std.proofs.Common.{ap, ◌∙◌}
use Rattle.std.specs.Prelude.{Option, unwrap_or}
use Rattle.smq_shelf.proofs.Changes.{lookup-insert_entry, lookup-insert_other}
use Rattle.smq_kit.proofs.HashedKeyOrders.{hashed_keys_total}
use Rattle.smq_group.specs.declared.group_summary.Group.{Group}
use Rattle.smq_group.specs.within.Outlooks.{group_at, group_with, no_group}
use Rattle.smq_group.proofs.group_summary.put_more.Goals as goal

pub returns-clause-here : goal.returns-clause-here
returns-clause-here c =
    ap (group_at c.args.key.now) c.in_ok-before.ensures.content
    ∙ rw (c.copy.ensures, c.in_ok-before.ensures.before, c.copy.ensures) (ap (λ (x : Option Group). unwrap_or x no_group) (lookup-insert_entry hashed_keys_total c.args.key.now (group_with (group_at c.args.key.now c.args.outlooks.now.content) c.args.more) c.args.outlooks.now.content))

pub returns-clause-elsewhere : goal.returns-clause-elsewhere
returns-clause-elsewhere c = λ other h.
    ap (group_at other) c.in_ok-before.ensures.content
    ∙ rw (c.copy.ensures, c.in_ok-before.ensures.before, c.copy.ensures) (ap (λ (x : Option Group). unwrap_or x no_group) (lookup-insert_other hashed_keys_total c.args.key.now other (group_with (group_at c.args.key.now c.args.outlooks.now.content) c.args.more) c.args.outlooks.now.content h))
