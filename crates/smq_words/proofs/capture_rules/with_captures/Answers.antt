use Rattle.std.proofs.Common.{◌∙◌, ap, ap₂}
use Rattle.std.proofs.lemmas.Result.{IfOk-weaker}
use Rattle.clap.specs.Simple.{App}
use Rattle.clap.specs.Words.{app_of, with_rule}
use Rattle.smq_words.specs.Words.{reading_rules, with_rules}
use Rattle.smq_words.proofs.RuleLemmas.{or_none}
use Rattle.smq_words.proofs.capture_rules.with_captures.Goals as goal

pub returns-clause-rules : goal.returns-clause-rules
returns-clause-rules c =
    let (capture_is, capture_local) = c.capture_option.ensures in
    let (link_is, link_local) = c.link_option.ensures in
    IfOk-weaker c.with_reading.result _ _
    (λ made h. h
    ∙ ap (λ (app : App). with_rules app reading_rules) (c.in_ok-named.ensures.shape link_local
    ∙ ap₂ with_rule (c.in_ok-arg.ensures.shape capture_local ∙ ap (λ rule. with_rule (app_of c.args.command) rule) capture_is) link_is))
    c.with_reading.ensures.rules

pub returns-clause-local : goal.returns-clause-local
returns-clause-local c =
    IfOk-weaker c.with_reading.result _ _
    (λ made h. h ∙ c.in_ok-named.ensures.globals ∙ or_none _ _ c.link_option.ensures.1 ∙ c.in_ok-arg.ensures.globals
    ∙ or_none _ _ c.capture_option.ensures.1) c.with_reading.ensures.local
