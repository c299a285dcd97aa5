use Rattle.std.proofs.Common.{◌∙◌, Bool, ap}
use Rattle.clap.specs.Simple.{app_of_fields}
use Rattle.clap.specs.declared.builder.command.Command.{Command}
use Rattle.clap.specs.declared.builder.command.Command.TheOpen.{Command-F}
use Rattle.smq_words.proofs.rules.subcommand.Goals as goal

pub returns-clause-rules : goal.returns-clause-rules
returns-clause-rules c =
    ap app_of_fields c.after_help.ensures ∙ ap app_of_fields c.override_usage.ensures ∙ ap app_of_fields c.about.ensures ∙ c.new.ensures.app

abbrev has_globals : Command-F Command → Bool
has_globals fields = fields.has_globals

pub returns-clause-local : goal.returns-clause-local
returns-clause-local c =
    ap has_globals c.after_help.ensures ∙ ap has_globals c.override_usage.ensures ∙ ap has_globals c.about.ensures ∙ c.new.ensures.local
