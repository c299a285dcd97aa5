use Rattle.std.proofs.Common.{◌∙◌, ap, ap₂, codes}
use Rattle.std.proofs.lemmas.Result.{IfOk-weaker}
use Rattle.clap.specs.Simple.{App}
use Rattle.clap.specs.Words.{with_subcommand}
use Rattle.clap.specs.declared.builder.value_parser.ValueParser.TheVariants.{Names}
use Rattle.smq_words.specs.Words.{named_app}
use Rattle.smq_words.proofs.rules.first_subcommands.Goals as goal

pub returns : goal.returns
returns c =
    IfOk-weaker c.subcommand-5.result _ _
    (λ m h. h.shape c.in_ok-follow.ensures.local
    ∙ ap₂ with_subcommand
    (c.in_ok-subcommand-4.ensures.shape c.in_ok-check.ensures.local
    ∙ ap₂ with_subcommand
    (c.in_ok-subcommand-3.ensures.shape c.in_ok-query.ensures.local
    ∙ ap₂ with_subcommand
    (c.in_ok-subcommand-2.ensures.shape c.in_ok-report.ensures.local
    ∙ ap₂ with_subcommand
    (c.in_ok-subcommand.ensures.shape c.in_ok-capture.ensures.local
    ∙ ap₂ with_subcommand c.in_ok-bare_command.ensures.rules (ap (λ (a : App). a.top) c.in_ok-capture.ensures.rules))
    (ap (λ (a : App). a.top) c.in_ok-report.ensures.rules))
    (ap (λ (a : App). a.top)
    (c.in_ok-query.ensures.rules ∙ ap (λ rule. named_app (codes "query") rule (Names c.args.formats)) c.name_argument.ensures.0)))
    (ap (λ (a : App). a.top) c.in_ok-check.ensures.rules))
    (ap (λ (a : App). a.top) c.in_ok-follow.ensures.rules))
    c.subcommand-5.ensures
