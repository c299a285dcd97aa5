use Rattle.std.proofs.Common.{◌∙◌, ap, ap₂}
use Rattle.std.proofs.lemmas.Result.{IfOk-weaker}
use Rattle.clap.specs.Simple.{App}
use Rattle.clap.specs.Words.{with_rule}
use Rattle.smq_words.specs.Words.{live_rules, parts_rules, reading_rules, with_rules}
use Rattle.smq_words.proofs.RuleLemmas.{or_none}
use Rattle.smq_words.proofs.rules.capture_command.Goals as goal

pub returns-clause-rules : goal.returns-clause-rules
returns-clause-rules c =
    let (link_is, link_local) = c.required_link.ensures in
    let (file_is, file_local) = c.file_argument.ensures in
    IfOk-weaker c.arg-2.result _ _
    (λ made h. h.shape file_local
    ∙ ap₂ with_rule (c.in_ok-with_parts.ensures.rules
    ∙ ap (λ (app : App). with_rules app parts_rules) (c.in_ok-live.ensures.rules
    ∙ ap (λ (app : App). with_rules app live_rules) (c.in_ok-read.ensures.rules
    ∙ ap (λ (app : App). with_rules app reading_rules) (c.in_ok-linked.ensures.shape link_local
    ∙ ap₂ with_rule c.subcommand.ensures.rules link_is)))) file_is) c.arg-2.ensures

pub returns-clause-local : goal.returns-clause-local
returns-clause-local c =
    IfOk-weaker c.arg-2.result _ _
    (λ made h. h.globals ∙ or_none _ _ c.file_argument.ensures.1 ∙ c.in_ok-with_parts.ensures.local ∙ c.in_ok-live.ensures.local ∙ c.in_ok-read.ensures.local
    ∙ c.in_ok-linked.ensures.globals ∙ or_none _ _ c.required_link.ensures.1 ∙ c.subcommand.ensures.local) c.arg-2.ensures
