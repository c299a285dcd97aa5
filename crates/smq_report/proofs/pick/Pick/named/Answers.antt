use Rattle.std.proofs.Common.{◌∙◌, ap, sym}
use Rattle.std.specs.Prelude.{option_map}
use Rattle.smq_report.specs.declared.pick.Pick.TheVariants as pick
use Rattle.smq_report.proofs.PickLemmas.{pick-of-list, pick-of-view}
use Rattle.smq_report.proofs.pick.Pick.named.Goals as goal

pub returns-in-Some : goal.returns-in-Some
returns-in-Some c = pick-of-view c.args.name.now c.view_named.result c.in-Some.view c.view_named.ensures c.in-Some.is

pub returns-in-Some-list_named : goal.returns-in-Some-list_named
returns-in-Some-list_named c =
    sym (ap (option_map pick.List) c.in-Some-list_named.is)
    ∙ pick-of-list c.args.name.now c.view_named.result c.list_named.result c.view_named.ensures c.in-None.is c.list_named.ensures

pub returns-in-None-list_named : goal.returns-in-None-list_named
returns-in-None-list_named c =
    sym (ap (option_map pick.List) c.in-None-list_named.is)
    ∙ pick-of-list c.args.name.now c.view_named.result c.list_named.result c.view_named.ensures c.in-None.is c.list_named.ensures
