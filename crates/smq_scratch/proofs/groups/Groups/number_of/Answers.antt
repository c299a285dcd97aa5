use Rattle.std.proofs.Common.{◌≡◌, ◌++◌, [], ◌∷◌, refl, ap, ◌∙◌, arith}
use Rattle.smq_scratch.specs.declared.groups.Groups.{Groups}
use Rattle.smq_scratch.specs.within.Groups.{no_group}
use Rattle.smq_scratch.proofs.Grouped.{changes-new, changes-none}
use Rattle.smq_scratch.proofs.groups.Groups.number_of.Goals as goal

pub returns-in_ok-push : goal.returns-in_ok-push
returns-in_ok-push c =
    let old = c.args.self.now in
    let new : Groups = record { keys = c.number_of.new.self; groups = c.push.new.self } in
    let so = c.in_ok-number.ensures in
    let pushed : c.push.new.self.items ≡ old.groups.items ++ no_group ∷ [] =
    c.in_ok-push.ensures.items ∙ ap (λ g. old.groups.items ++ g ∷ []) c.new.ensures in
    changes-new old new c.args.key c.in_ok-number.number c.requires so.numbered so.keys so.number
    (omega (arith, c.if-number-len.true, c.len.ensures, old.groups.ok.0)) pushed

pub returns-else-number-len : goal.returns-else-number-len
returns-else-number-len c =
    let old = c.args.self.now in
    let new : Groups = record { keys = c.number_of.new.self; groups = old.groups } in
    let so = c.in_ok-number.ensures in
    changes-none old new c.args.key c.in_ok-number.number c.requires so.numbered so.keys so.number
    (λ e. omega (arith, e, c.if-number-len.false, c.len.ensures, old.groups.ok.0)) refl
