use Rattle.std.proofs.Common.{◌∙◌, ap, ap₂, codes}
use Rattle.std.proofs.lemmas.Result.{IfOk-weaker}
use Rattle.clap.specs.Simple.{App}
use Rattle.clap.specs.Words.{app_of, with_subcommand}
use Rattle.clap.specs.declared.builder.value_parser.ValueParser.TheVariants.{Names}
use Rattle.smq_words.specs.Words.{named_app}
use Rattle.smq_words.proofs.rules.with_any_length.Goals as goal

pub returns : goal.returns
returns c =
    IfOk-weaker c.subcommand-7.result _ _
    (λ m h. h.shape c.in_ok-add.ensures.local
    ∙ ap₂ with_subcommand
    (c.in_ok-subcommand-6.ensures.shape c.in_ok-deal.ensures.local
    ∙ ap₂ with_subcommand
    (c.in_ok-subcommand-5.ensures.shape c.in_ok-window.ensures.local
    ∙ ap₂ with_subcommand
    (c.in_ok-subcommand-4.ensures.shape c.in_ok-receipts.ensures.local
    ∙ ap₂ with_subcommand
    (c.in_ok-subcommand-3.ensures.shape c.in_ok-messages.ensures.local
    ∙ ap₂ with_subcommand
    (c.in_ok-subcommand-2.ensures.shape c.in_ok-count.ensures.local
    ∙ ap₂ with_subcommand
    (c.in_ok-subcommand.ensures.shape c.in_ok-total.ensures.local
    ∙ ap (with_subcommand (app_of c.args.command)) (ap (λ (a : App). a.top)
    (c.in_ok-total.ensures.rules ∙ ap (λ rule. named_app (codes "total") rule (Names c.args.formats)) c.optional_name.ensures.0)))
    (ap (λ (a : App). a.top) c.in_ok-count.ensures.rules))
    (ap (λ (a : App). a.top) c.in_ok-messages.ensures.rules))
    (ap (λ (a : App). a.top) c.in_ok-receipts.ensures.rules))
    (ap (λ (a : App). a.top) c.in_ok-window.ensures.rules))
    (ap (λ (a : App). a.top) c.in_ok-deal.ensures.rules))
    (ap (λ (a : App). a.top) c.in_ok-add.ensures.rules)) c.subcommand-7.ensures
