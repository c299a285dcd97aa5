use Rattle.std.proofs.Common.{◌∙◌, ap, ap₂}
use Rattle.std.proofs.lemmas.Result.{IfOk-weaker}
use Rattle.clap.specs.Words.{app_of, with_rule}
use Rattle.smq_words.proofs.RuleLemmas.{or_none}
use Rattle.smq_words.proofs.capture_rules.with_parts.Goals as goal

pub returns-clause-rules : goal.returns-clause-rules
returns-clause-rules c =
    let (into_is, into_local) = c.into_option.ensures in
    let (by_is, by_local) = c.by_option.ensures in
    IfOk-weaker c.arg-2.result _ _
    (λ made h. h.shape by_local
    ∙ ap₂ with_rule (c.in_ok-arg.ensures.shape into_local ∙ ap (λ rule. with_rule (app_of c.args.command) rule) into_is) by_is) c.arg-2.ensures

pub returns-clause-local : goal.returns-clause-local
returns-clause-local c =
    IfOk-weaker c.arg-2.result _ _
    (λ made h. h.globals ∙ or_none _ _ c.by_option.ensures.1 ∙ c.in_ok-arg.ensures.globals ∙ or_none _ _ c.into_option.ensures.1) c.arg-2.ensures
