use Rattle.std.proofs.Common.{◌∙◌, ap₂}
use Rattle.std.proofs.lemmas.Result.{IfOk-weaker}
use Rattle.clap.specs.Words.{with_rule}
use Rattle.smq_words.proofs.RuleLemmas.{or_none}
use Rattle.smq_words.proofs.rules.add_command.Goals as goal

pub returns-clause-rules : goal.returns-clause-rules
returns-clause-rules c =
    let (periods_is, periods_local) = c.periods_flag.ensures in
    let (reports_are, reports_local) = c.reports_argument.ensures in
    IfOk-weaker c.arg-2.result _ _
    (λ made h. h.shape reports_local
    ∙ ap₂ with_rule (c.in_ok-arg.ensures.shape periods_local ∙ ap₂ with_rule c.subcommand.ensures.rules periods_is) reports_are) c.arg-2.ensures

pub returns-clause-local : goal.returns-clause-local
returns-clause-local c =
    IfOk-weaker c.arg-2.result _ _
    (λ made h. h.globals ∙ or_none _ _ c.reports_argument.ensures.1 ∙ c.in_ok-arg.ensures.globals ∙ or_none _ _ c.periods_flag.ensures.1
    ∙ c.subcommand.ensures.local) c.arg-2.ensures
