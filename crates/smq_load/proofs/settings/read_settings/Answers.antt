use Rattle.std.proofs.Common.{arith}
use Rattle.toml.specs.View.{table_view}
use Rattle.smq_load.proofs.SettingsLemmas.{settings_of-no_text, settings_of-document}
use Rattle.smq_load.proofs.settings.read_settings.Goals as goal

pub returns-in_default-clause-bad_settings : goal.returns-in_default-clause-bad_settings
returns-in_default-clause-bad_settings c = settings_of-no_text c.args.octets.now c.in_default.ensures.cases.0

pub returns-in-Ok-table_from_str-clause-ok : goal.returns-in-Ok-table_from_str-clause-ok
returns-in-Ok-table_from_str-clause-ok c =
    let same = settings_of-document c.args.octets.now c.in-Ok.text.now (table_view c.in-Ok-table_from_str.table) (omega arith)
    c.in-Ok.ensures.cases c.in-Ok-table_from_str.ensures.ok in
    rw same c.read_document.ensures.ok
