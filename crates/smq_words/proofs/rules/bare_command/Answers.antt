use Rattle.std.proofs.Common.{◌∙◌, ap, true}
use Rattle.clap.specs.Simple.{App, app_of_fields, on_top}
use Rattle.clap.specs.declared.builder.command.Command.{Command}
use Rattle.clap.specs.declared.builder.command.Command.TheOpen.{Command-F}
use Rattle.smq_words.proofs.rules.bare_command.Goals as goal

abbrev with_settings : App → App
with_settings app = on_top (λ shape. record shape { no_binary_name = true; subcommand_required = true; has_version = true }) app

pub returns-clause-rules : goal.returns-clause-rules
returns-clause-rules c =
    ap app_of_fields c.subcommand_required.ensures
    ∙ ap (λ (f : Command-F Command). app_of_fields (record f { subcommand_required = true })) c.no_binary_name.ensures
    ∙ ap (λ (f : Command-F Command). app_of_fields (record f { no_binary_name = true; subcommand_required = true })) c.after_help.ensures
    ∙ ap (λ (f : Command-F Command). app_of_fields (record f { no_binary_name = true; subcommand_required = true })) c.override_usage.ensures
    ∙ ap (λ (f : Command-F Command). app_of_fields (record f { no_binary_name = true; subcommand_required = true })) c.version.ensures
    ∙ ap (λ (f : Command-F Command). with_settings (app_of_fields f)) c.about.ensures
    ∙ ap with_settings (ap app_of_fields c.in_ok-smq.ensures.0 ∙ c.new.ensures.app)
