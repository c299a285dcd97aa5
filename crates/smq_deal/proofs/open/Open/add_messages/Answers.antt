use Rattle.std.proofs.Common.{List, ◌∷◌, ◌∙◌, subst}
use Rattle.std.specs.List.{flat_map}
use Rattle.smq_kit.specs.declared.link_key.LinkKey.{LinkKey}
use Rattle.smq_present.specs.join.Lines.{MessageLineValue}
use Rattle.smq_scratch.specs.Lines.{message_lines}
use Rattle.smq_deal.specs.Open.{Gains, Reaches, open_message}
use Rattle.smq_deal.proofs.OpenLemmas.{reaches-more}
use Rattle.smq_deal.proofs.open.Open.add_messages.Goals as goal

pub loop-line-preserved : goal.loop-line-preserved
loop-line-preserved c =
    let old = c.args.self.now.keys in
    let now = c.loop-line.self.keys in
    let next = c.add.new.self.keys in
    let line = c.in-Some.line in
    let f = open_message c.args.present.now.settings c.args.self.now.moment in
    let all = flat_map f (message_lines c.args.present.now) in
    let before : Reaches old now (flat_map f (line ∷ c.next.new.self)) all =
    subst (λ (left : List MessageLineValue). Reaches old now (flat_map f left) all) c.in-Some.ensures.steps c.loop-line.invariant.keys in
    let gained : Gains now next (f line) =
    subst (λ (xs : List LinkKey). Gains now next xs)
    (c.message_key.ensures ∙ (λ k. open_message (c.settings-settings.ensures k) (c.loop-line.invariant.moment k) line))
    c.in_ok-add.ensures.keys in
    record {
      moment = c.in_ok-add.ensures.moment ∙ c.loop-line.invariant.moment;
      keys = reaches-more old now next (f line) (flat_map f c.next.new.self) all before gained;
    }
