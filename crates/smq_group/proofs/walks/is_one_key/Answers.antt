use Rattle.std.proofs.Common.{ap, ◌∙◌}
use Rattle.std.specs.Ordering.{is_eq}
use Rattle.smq_kit.proofs.HashedKeyOrders.{hashed-same}
use Rattle.smq_group.proofs.walks.is_one_key.Goals as goal

pub returns : goal.returns
returns c = c.is_eq.ensures ∙ ap is_eq c.cmp.ensures ∙ hashed-same c.args.one.now c.args.other.now
