use Rattle.std.proofs.Common.{Vec, Global, ℕ, ◌<◌, length, ap, arith, ◌∙◌}
use Rattle.std.specs.List.{flat_map}
use Rattle.std.proofs.lemmas.List.{take_all}
use Rattle.smq_deal.specs.Parts.{parts_of}
use Rattle.smq_deal.proofs.Dealing.{centre_parts, client_parts, view_parts, view-pushed, views-all}
use Rattle.smq_deal.proofs.dealt.directions_by.Goals as goal

pub loop-view-preserved : goal.loop-view-preserved
loop-view-preserved g c =
    let rule = g.R.Rule.rule c.args.rule.now in
    let source = c.view.inside.source in
    let client = c.in_ok-client.ensures.client in
    let centre = c.in_ok-client.ensures.centre in
    let h : c.loop-view.view-index < length c.as_slice-view-items.result.now = omega (arith, c.loop-view-test.true) in
    view-pushed rule c.as_slice-view-items.result.now c.loop-view.view-index c.view-item.result h c.view-item.is
    (λ (parts : Vec ℕ Global). parts.items) c.loop-view.directions.items c.push.new.self.items c.push-in-loop-view.new.self.items
    c.in_ok-parts_of.field-0 c.in_ok-parts_of-2.field-0 c.loop-view.invariant c.in_ok-push.ensures.items c.in_ok-push-2.ensures.items
    (c.in_ok-parts_of.ensures ∙ (λ k. parts_of rule source (client.dir k) (client.pdus k) (client.other k))
    ∙ ap (client_parts rule) c.view.view_is)
    (c.in_ok-parts_of-2.ensures ∙ (λ k. parts_of rule source (centre.dir k) (centre.pdus k) (centre.other k))
    ∙ ap (centre_parts rule) c.view.view_is)

pub returns : goal.returns
returns g c =
    let views = c.as_slice-view-items.result.now in
    let rule = g.R.Rule.rule c.args.rule.now in
    c.loop-view.invariant
    ∙ ap (flat_map (view_parts rule)) (take_all c.loop-view.view-index views (omega (arith, c.loop-view-test.false))
    ∙ c.as_slice-view-items.ensures.value ∙ c.in_ok-sessions.ensures)
    ∙ views-all rule c.args.present.now
