use Rattle.std.proofs.Common.{◌∙◌, ap, ap₂}
use Rattle.std.proofs.lemmas.Result.{IfOk-weaker}
use Rattle.clap.specs.Simple.{App}
use Rattle.clap.specs.Words.{with_rule}
use Rattle.smq_words.specs.Words.{live_rules, with_rules}
use Rattle.smq_words.proofs.RuleLemmas.{or_none}
use Rattle.smq_words.proofs.rules.follow_command.Goals as goal

pub returns-clause-rules : goal.returns-clause-rules
returns-clause-rules c =
    let (window_is, window_local) = c.window_option.ensures in
    IfOk-weaker c.arg.result _ _
    (λ made h. h.shape window_local
    ∙ ap₂ with_rule (c.in_ok-with_live.ensures.rules ∙ ap (λ (app : App). with_rules app live_rules) c.in_ok-rows.ensures.rules) window_is)
    c.arg.ensures

pub returns-clause-local : goal.returns-clause-local
returns-clause-local c =
    IfOk-weaker c.arg.result _ _
    (λ made h. h.globals ∙ or_none _ _ c.window_option.ensures.1 ∙ c.in_ok-with_live.ensures.local ∙ c.in_ok-rows.ensures.local) c.arg.ensures
