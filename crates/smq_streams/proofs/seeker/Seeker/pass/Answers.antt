use Rattle.std.proofs.Common.{◌≡◌, ◌∙◌, ◌+◌, ◌-◌, ◌++◌, suc, zero, ℕ, List, drop, arith, ap, sym, refl}
use Rattle.smq_streams.specs.declared.seeker.Mark.{Mark}
use Rattle.smq_streams.specs.within.Marks.{octets_by}
use Rattle.smq_streams.proofs.Marks.{first_left, pass-mark, popped, same_search}
use Rattle.smq_streams.proofs.seeker.Seeker.pass.Goals as goal

pub returns-then-first-gt1 : goal.returns-then-first-gt1
returns-then-first-gt1 c =
    let less : c.in-Some.first.left ≡ suc (c.in-Some.first.left - 1) = omega (arith, c.if-first-gt1.true) in
    rw (← c.self.view_is)
    (same_search _ _ _ _ _ _ _ _ c.saturating_add-self-inside.ensures
    (pass-mark c.self.inside.first c.in-Some.first c.self.inside.others.items c.self.inside.octets.items c.self.inside.looked (c.in-Some.first.left - 1)
    c.in-Some.is c.self.invariant.marked less)
    c.saturating_add-self-inside-in-Some.ensures refl)

pub returns-else-first-gt1 : goal.returns-else-first-gt1
returns-else-first-gt1 c =
    let one : c.in-Some.first.left ≡ 1 = omega (arith, c.if-first-gt1.false, first_left c.self.inside.first c.in-Some.first c.self.inside.others.items _ c.in-Some.is c.self.invariant.marked) in
    rw (← c.self.view_is)
    (same_search _ _ _ _ _ _ _ _ c.saturating_add-self-inside.ensures
    (ap (λ (ms : List Mark). octets_by ms (drop (c.self.inside.looked + 1) c.self.inside.octets.items))
    (popped c.pop_front-self-inside.result c.pop_front-self-inside.new.self.items ∙ sym c.pop_front-self-inside.ensures.items)
    ∙ pass-mark c.self.inside.first c.in-Some.first c.self.inside.others.items c.self.inside.octets.items c.self.inside.looked zero
    c.in-Some.is c.self.invariant.marked one)
    c.saturating_add-self-inside-in-Some.ensures refl)
