use Rattle.std.proofs.Common.{ap, subst, ◌∙◌}
use Rattle.std.specs.List.Sorted.{IsStrictlySortedBy}
use Rattle.smq_kit.specs.Orders.{place_cmp}
use Rattle.smq_pdu.specs.Pairing.{is_request}
use Rattle.smq_pair.specs.declared.paired_pdu.Role.TheVariants.{Request}
use Rattle.smq_pair.specs.Paired.{PairedValue}
use Rattle.smq_pair.specs.Pairing.{waiting}
use Rattle.smq_pair.proofs.Searched.{alone-places, alone-ascend}
use Rattle.smq_pair.proofs.pairing.Pairing.waiting.Goals as goal

pub returns-clause-places : goal.returns-clause-places
returns-clause-places c =
    c.alone.ensures
    ∙ alone-places _ _ Request c.self.invariant.0
    ∙ ap (λ (v : PairedValue). waiting v.pdus) c.self.view_is

pub returns-clause-in_order : goal.returns-clause-in_order
returns-clause-in_order c =
    subst (λ (v : PairedValue). IsStrictlySortedBy place_cmp (waiting v.pdus)) c.self.view_is (alone-ascend _ is_request c.self.invariant.0.in_order)
