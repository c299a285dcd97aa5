use Rattle.std.proofs.Common.{◌∙◌, ap, ap₂}
use Rattle.std.proofs.lemmas.Result.{IfOk-weaker}
use Rattle.clap.specs.Simple.{App}
use Rattle.clap.specs.Words.{with_rule}
use Rattle.smq_words.specs.Words.{captures_rules, with_rules}
use Rattle.smq_words.proofs.RuleLemmas.{or_none}
use Rattle.smq_words.proofs.rules.count_command.Goals as goal

pub returns-clause-rules : goal.returns-clause-rules
returns-clause-rules c =
    let (columns_are, columns_local) = c.columns_option.ensures in
    let (condition_is, condition_local) = c.condition_option.ensures in
    let (zone_is, zone_local) = c.zone_option.ensures in
    let (settings_is, settings_local) = c.settings_option.ensures in
    IfOk-weaker c.with_captures.result _ _
    (λ made h. h ∙ ap (λ (app : App). with_rules app captures_rules) (c.in_ok-command.ensures.shape settings_local
    ∙ ap₂ with_rule (c.in_ok-arg-3.ensures.shape zone_local
    ∙ ap₂ with_rule (c.in_ok-arg-2.ensures.shape condition_local
    ∙ ap₂ with_rule (c.in_ok-arg.ensures.shape columns_local ∙ ap₂ with_rule c.subcommand.ensures.rules columns_are) condition_is) zone_is) settings_is))
    c.with_captures.ensures.rules

pub returns-clause-local : goal.returns-clause-local
returns-clause-local c =
    IfOk-weaker c.with_captures.result _ _
    (λ made h. h ∙ c.in_ok-command.ensures.globals ∙ or_none _ _ c.settings_option.ensures.1 ∙ c.in_ok-arg-3.ensures.globals
    ∙ or_none _ _ c.zone_option.ensures.1 ∙ c.in_ok-arg-2.ensures.globals ∙ or_none _ _ c.condition_option.ensures.1 ∙ c.in_ok-arg.ensures.globals ∙ or_none _ _ c.columns_option.ensures.1
    ∙ c.subcommand.ensures.local) c.with_captures.ensures.local
