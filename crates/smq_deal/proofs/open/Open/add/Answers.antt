use Rattle.std.proofs.Common.{Option, sym, subst}
use Rattle.std.specs.Prelude.{option_to_list}
use Rattle.smq_kit.specs.declared.link_key.LinkKey.{LinkKey}
use Rattle.smq_deal.specs.Open.{Gains}
use Rattle.smq_deal.proofs.OpenLemmas.{gains-one}
use Rattle.smq_deal.proofs.open.Open.add.Goals as goal

pub returns-in_ok-insert-clause-keys : goal.returns-in_ok-insert-clause-keys
returns-in_ok-insert-clause-keys c =
    subst (λ (k : Option LinkKey). Gains c.args.self.now.keys c.insert.new.self (option_to_list k)) (sym c.in-Some.is)
    (gains-one c.args.self.now.keys c.insert.new.self c.in-Some.key c.in_ok-insert.ensures.updates)
