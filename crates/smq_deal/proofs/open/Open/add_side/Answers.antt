use Rattle.std.proofs.Common.{◌+◌, ◌<◌, List, ◌∷◌, take, drop, length, ◌∙◌, subst, arith}
use Rattle.std.specs.List.{flat_map}
use Rattle.smq_kit.specs.declared.link_key.LinkKey.{LinkKey}
use Rattle.smq_present.specs.declared.present.kept.StoredPdu.{StoredPdu}
use Rattle.smq_present.specs.pairing.Traffic.{with_earlier}
use Rattle.smq_deal.specs.Open.{Gains, Reaches, unanswered, unanswered_among}
use Rattle.smq_deal.proofs.OpenLemmas.{earlier_more, reaches-more}
use Rattle.smq_deal.proofs.open.Open.add_side.Goals as goal

pub loop-index-preserved : goal.loop-index-preserved
loop-index-preserved c =
    let old = c.args.self.now.keys in
    let now = c.loop-index.self.keys in
    let next = c.add.new.self.keys in
    let settings = c.args.settings.now in
    let source = c.args.source in
    let mine = c.args.side.now.pdus.now in
    let others = c.args.side.now.other.now in
    let i = c.loop-index.index in
    let pdu = c.index-pdus-index.result in
    let f : List StoredPdu × StoredPdu → List LinkKey = λ e. unanswered settings c.args.self.now.moment source others e.0 e.1 in
    let all = unanswered_among settings c.args.self.now.moment source others mine in
    let h : i < length mine = omega (arith, c.loop-index-test.true) in
    let before : Reaches old now (flat_map f ((take i mine, pdu) ∷ with_earlier (take (i + 1) mine) (drop (i + 1) mine))) all =
    subst (λ (left : List (List StoredPdu × StoredPdu)). Reaches old now (flat_map f left) all)
    (earlier_more mine i pdu h c.index-pdus-index.is) c.loop-index.invariant.keys in
    let gained : Gains now next (f (take i mine, pdu)) =
    subst (λ (xs : List LinkKey). Gains now next xs)
    (c.unanswered_key.ensures ∙ (λ k. unanswered settings (c.loop-index.invariant.moment k) source others (take i mine) pdu))
    c.in_ok-add.ensures.keys in
    record {
      moment = c.in_ok-add.ensures.moment ∙ c.loop-index.invariant.moment;
      keys = reaches-more old now next (f (take i mine, pdu)) (flat_map f (with_earlier (take (i + 1) mine) (drop (i + 1) mine)))
          all before gained;
    }
