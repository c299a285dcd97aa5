use Rattle.std.proofs.Common.{◌+◌, ◌<◌, List, ◌∷◌, drop, length, sym, ap, ◌∙◌, subst, arith}
use Rattle.std.specs.List.{flat_map}
use Rattle.std.proofs.lemmas.List.{drop_more}
use Rattle.smq_kit.specs.declared.link_key.LinkKey.{LinkKey}
use Rattle.smq_present.specs.within.Sourced.{SessionView, sourced_of}
use Rattle.smq_deal.specs.Open.{Gains, Reaches, unanswered_in}
use Rattle.smq_deal.proofs.OpenLemmas.{reaches-more}
use Rattle.smq_deal.proofs.open.Open.add_unanswered.Goals as goal

pub loop-view-preserved : goal.loop-view-preserved
loop-view-preserved c =
    let old = c.args.self.now.keys in
    let now = c.loop-view.self.keys in
    let next = c.add_session.new.self.keys in
    let view = c.view-item.result in
    let views = c.as_slice-view-items.result.now in
    let i = c.loop-view.view-index in
    let f = unanswered_in c.args.present.now.settings c.args.self.now.moment in
    let all = flat_map f (sourced_of c.args.present.now) in
    let h : i < length views = omega (arith, c.loop-view-test.true) in
    let steps = drop_more views i view h ∙ ap (λ (x : SessionView). x ∷ drop (i + 1) views) (sym c.view-item.is) in
    let before : Reaches old now (flat_map f (view ∷ drop (i + 1) views)) all =
    subst (λ (left : List SessionView). Reaches old now (flat_map f left) all) steps c.loop-view.invariant.keys in
    let gained : Gains now next (f view) =
    subst (λ (xs : List LinkKey). Gains now next xs)
    (λ k. unanswered_in (c.settings-settings.ensures k) (c.loop-view.invariant.moment k) view)
    c.in_ok-add_session.ensures.keys in
    record {
      moment = c.in_ok-add_session.ensures.moment ∙ c.loop-view.invariant.moment;
      keys = reaches-more old now next (f view) (flat_map f (drop (i + 1) views)) all before gained;
    }
