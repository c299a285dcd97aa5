use Rattle.std.proofs.Common.{◌∙◌, ap, ap₂}
use Rattle.std.proofs.lemmas.Result.{IfOk-weaker}
use Rattle.clap.specs.Words.{app_of, with_rule}
use Rattle.smq_words.proofs.RuleLemmas.{or_none}
use Rattle.smq_words.proofs.capture_rules.with_live.Goals as goal

pub returns-clause-rules : goal.returns-clause-rules
returns-clause-rules c =
    let (every_is, every_local) = c.every_option.ensures in
    let (ask_is, ask_local) = c.ask_option.ensures in
    IfOk-weaker c.arg-2.result _ _
    (λ made h. h.shape ask_local
    ∙ ap₂ with_rule (c.in_ok-arg.ensures.shape every_local ∙ ap (λ rule. with_rule (app_of c.args.command) rule) every_is) ask_is) c.arg-2.ensures

pub returns-clause-local : goal.returns-clause-local
returns-clause-local c =
    IfOk-weaker c.arg-2.result _ _
    (λ made h. h.globals ∙ or_none _ _ c.ask_option.ensures.1 ∙ c.in_ok-arg.ensures.globals ∙ or_none _ _ c.every_option.ensures.1) c.arg-2.ensures
