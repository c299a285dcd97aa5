use Rattle.std.proofs.Common.{◌∙◌, ap₂}
use Rattle.std.proofs.lemmas.Result.{IfOk-weaker}
use Rattle.clap.specs.Words.{with_rule}
use Rattle.smq_words.proofs.RuleLemmas.{or_none}
use Rattle.smq_words.proofs.rules.window_command.Goals as goal

pub returns-clause-rules : goal.returns-clause-rules
returns-clause-rules c =
    let (length_is, length_local) = c.length_argument.ensures in
    IfOk-weaker c.arg.result _ _ (λ made h. h.shape length_local ∙ ap₂ with_rule c.subcommand.ensures.rules length_is) c.arg.ensures

pub returns-clause-local : goal.returns-clause-local
returns-clause-local c =
    IfOk-weaker c.arg.result _ _ (λ made h. h.globals ∙ or_none _ _ c.length_argument.ensures.1 ∙ c.subcommand.ensures.local) c.arg.ensures
