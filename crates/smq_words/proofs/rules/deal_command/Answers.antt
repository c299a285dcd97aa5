use Rattle.std.proofs.Common.{◌∙◌, ap, ap₂}
use Rattle.std.proofs.lemmas.Result.{IfOk-weaker}
use Rattle.clap.specs.Simple.{App}
use Rattle.clap.specs.Words.{with_rule}
use Rattle.smq_words.specs.Words.{dealing_rules, with_rules}
use Rattle.smq_words.proofs.RuleLemmas.{or_none}
use Rattle.smq_words.proofs.rules.deal_command.Goals as goal

pub returns-clause-rules : goal.returns-clause-rules
returns-clause-rules c =
    let (settings_is, settings_local) = c.settings_option.ensures in
    let (quiet_is, quiet_local) = c.quiet_flag.ensures in
    IfOk-weaker c.arg-2.result _ _
    (λ made h. h.shape quiet_local
    ∙ ap₂ with_rule (c.in_ok-arg.ensures.shape settings_local
    ∙ ap₂ with_rule (c.in_ok-dealt.ensures.rules ∙ ap (λ (app : App). with_rules app dealing_rules) c.subcommand.ensures.rules) settings_is) quiet_is)
    c.arg-2.ensures

pub returns-clause-local : goal.returns-clause-local
returns-clause-local c =
    IfOk-weaker c.arg-2.result _ _
    (λ made h. h.globals ∙ or_none _ _ c.quiet_flag.ensures.1 ∙ c.in_ok-arg.ensures.globals ∙ or_none _ _ c.settings_option.ensures.1
    ∙ c.in_ok-dealt.ensures.local ∙ c.subcommand.ensures.local) c.arg-2.ensures
