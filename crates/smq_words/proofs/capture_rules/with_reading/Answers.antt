use Rattle.std.proofs.Common.{◌∙◌, ap, ap₂}
use Rattle.std.proofs.lemmas.Result.{IfOk-weaker}
use Rattle.clap.specs.Words.{app_of, with_rule}
use Rattle.smq_words.proofs.RuleLemmas.{or_none}
use Rattle.smq_words.proofs.capture_rules.with_reading.Goals as goal

pub returns-clause-rules : goal.returns-clause-rules
returns-clause-rules c =
    let (first_is, first_local) = c.first_session_option.ensures in
    let (strict_is, strict_local) = c.strict_flag.ensures in
    let (quiet_is, quiet_local) = c.quiet_flag.ensures in
    let (index_is, index_local) = c.index_option.ensures in
    let (losses_is, losses_local) = c.losses_option.ensures in
    IfOk-weaker c.arg-5.result _ _
    (λ made h. h.shape losses_local
    ∙ ap₂ with_rule (c.in_ok-arg-4.ensures.shape index_local
    ∙ ap₂ with_rule (c.in_ok-arg-3.ensures.shape quiet_local
    ∙ ap₂ with_rule (c.in_ok-arg-2.ensures.shape strict_local
    ∙ ap₂ with_rule (c.in_ok-arg.ensures.shape first_local ∙ ap (λ rule. with_rule (app_of c.args.command) rule) first_is) strict_is) quiet_is)
    index_is) losses_is) c.arg-5.ensures

pub returns-clause-local : goal.returns-clause-local
returns-clause-local c =
    IfOk-weaker c.arg-5.result _ _
    (λ made h. h.globals ∙ or_none _ _ c.losses_option.ensures.1 ∙ c.in_ok-arg-4.ensures.globals
    ∙ or_none _ _ c.index_option.ensures.1 ∙ c.in_ok-arg-3.ensures.globals ∙ or_none _ _ c.quiet_flag.ensures.1
    ∙ c.in_ok-arg-2.ensures.globals ∙ or_none _ _ c.strict_flag.ensures.1
    ∙ c.in_ok-arg.ensures.globals ∙ or_none _ _ c.first_session_option.ensures.1) c.arg-5.ensures
