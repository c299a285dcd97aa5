use Rattle.std.proofs.Common.{ap, sym, ◌∙◌}
use Rattle.std.specs.Ordering.{is_eq}
use Rattle.std.specs.Cmp.{tied_itself}
use Rattle.smq_kit.specs.LinkKeys.{link_key_cmp, same_key}
use Rattle.smq_kit.proofs.Comparisons.{is_equal}
use Rattle.smq_kit.proofs.LinkKeyOrders.{link_keys_total, link_keys_exact}
use Rattle.smq_kit.proofs.link_key.link_keys_match_where_they_are_one.Goals as goal

pub returns-clause-same : goal.returns-clause-same
returns-clause-same c = λ a b. (
  λ h. link_keys_exact a b (is_equal (link_key_cmp a b) h),
  λ e. ap (same_key a) (sym e)
      ∙ ap is_eq (tied_itself link_keys_total a),
)
