use Rattle.std.proofs.Common.{◌∙◌, ap, ap₂}
use Rattle.std.proofs.lemmas.Result.{IfOk-weaker}
use Rattle.clap.specs.Words.{app_of, with_rule}
use Rattle.smq_words.proofs.RuleLemmas.{or_none}
use Rattle.smq_words.proofs.deal_rules.with_dealing.Goals as goal

pub returns-clause-rules : goal.returns-clause-rules
returns-clause-rules c =
    let (settled_is, settled_local) = c.settled_option.ensures in
    let (rest_is, rest_local) = c.rest_option.ensures in
    let (count_is, count_local) = c.count_option.ensures in
    let (folder_is, folder_local) = c.folder_option.ensures in
    IfOk-weaker c.arg-4.result _ _
    (λ made h. h.shape folder_local
    ∙ ap₂ with_rule (c.in_ok-arg-3.ensures.shape count_local
    ∙ ap₂ with_rule (c.in_ok-arg-2.ensures.shape rest_local
    ∙ ap₂ with_rule (c.in_ok-arg.ensures.shape settled_local ∙ ap (λ rule. with_rule (app_of c.args.command) rule) settled_is) rest_is) count_is)
    folder_is) c.arg-4.ensures

pub returns-clause-local : goal.returns-clause-local
returns-clause-local c =
    IfOk-weaker c.arg-4.result _ _
    (λ made h. h.globals ∙ or_none _ _ c.folder_option.ensures.1 ∙ c.in_ok-arg-3.ensures.globals ∙ or_none _ _ c.count_option.ensures.1
    ∙ c.in_ok-arg-2.ensures.globals ∙ or_none _ _ c.rest_option.ensures.1
    ∙ c.in_ok-arg.ensures.globals ∙ or_none _ _ c.settled_option.ensures.1) c.arg-4.ensures
