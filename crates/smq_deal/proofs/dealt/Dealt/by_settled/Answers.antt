use Rattle.std.proofs.Common.{◌∙◌}
use Rattle.std.specs.BTreeSet.{contains}
use Rattle.smq_kit.specs.LinkKeys.{kept_key_cmp}
use Rattle.smq_deal.specs.Open.{settled_by}
use Rattle.smq_deal.specs.Parts.{all_parts}
use Rattle.smq_deal.proofs.dealt.Dealt.by_settled.Goals as goal

pub returns-clause-directions : goal.returns-clause-directions
returns-clause-directions c =
    let unsettled = contains kept_key_cmp c.in_ok-open.open.keys in (
      unsettled,
      c.in_ok-open.ensures.keys,
      c.in_ok-directions_by.ensures
          ∙ (λ k. all_parts (settled_by (c.settings.ensures k) (c.in_ok-open.ensures.moment k) unsettled) c.args.present.now),
    )
