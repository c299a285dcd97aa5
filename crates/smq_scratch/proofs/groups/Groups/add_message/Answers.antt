use Rattle.std.proofs.Common.{set, refl, ap, ◌∙◌, arith}
use Rattle.std.proofs.lemmas.List.{get_or_read}
use Rattle.smq_scratch.specs.within.Groups.{no_group, with_message}
use Rattle.smq_scratch.proofs.Grouped.{changes-set, within-groups}
use Rattle.smq_scratch.proofs.groups.Groups.add_message.Goals as goal

pub index_mut-group-requires : goal.index_mut-group-requires
index_mut-group-requires c =
    let within = within-groups c.args.self.now c.number_of.new.self c.args.key c.in_ok-number.number c.in_ok-number.ensures in
    omega (arith, within, c.number_of.new.self.groups.ok.0)

pub returns : goal.returns
returns c =
    let mid = c.number_of.new.self in
    let n = c.in_ok-number.number in
    let within = within-groups c.args.self.now mid c.args.key n c.in_ok-number.ensures in
    changes-set c.args.self.now mid _ c.args.key n (with_message c.args.place) c.in_ok-number.ensures refl
    (ap (λ g. set mid.groups.items n g) (c.add_message.ensures
    ∙ ap (with_message c.args.place) (get_or_read mid.groups.items n c.index_mut-group.result.now within c.index_mut-group.ensures.value no_group)))
