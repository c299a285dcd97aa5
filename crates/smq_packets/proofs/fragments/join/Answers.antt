use Rattle.std.proofs.Common.{◌≡◌, ◌+◌, ◌-◌, ◌<◌, ◌++◌, ◌∙◌, length, Some, None, sym, rules, arith}
use Rattle.std.proofs.lemmas.Grind.{common_steps}
use Rattle.smq_packets.specs.Fragments.{part_at}
use Rattle.smq_packets.proofs.Joins.{join_absent, join_overlapping, join_last, join_on, join_none}
use Rattle.smq_packets.proofs.fragments.join.Goals as goal

pub returns-in_default : goal.returns-in_default
returns-in_default c =
    let here : length c.loop-passed.octets.items ≡ c.len.result = grind (arith, common_steps) in
    let absent : part_at c.args.parts.now c.args.fragment (length c.loop-passed.octets.items) ≡ None =
    rw here (sym c.in_default.ensures)
    in
    join_absent _ _ _ _ _ absent ∙ sym c.loop-passed.invariant

pub returns-then-part : goal.returns-then-part
returns-then-part c =
    let here : length c.loop-passed.octets.items ≡ c.len.result = grind (arith, common_steps) in
    let there : part_at c.args.parts.now c.args.fragment (length c.loop-passed.octets.items) ≡ Some c.in-Some.part.now =
    rw here (sym c.in-Some.ensures)
    in
    join_overlapping _ _ _ _ _ _ there c.if-part.true ∙ sym c.loop-passed.invariant

pub returns-then-not-part : goal.returns-then-not-part
returns-then-not-part c =
    let here : length c.loop-passed.octets.items ≡ c.len.result = grind (arith, common_steps) in
    let there : part_at c.args.parts.now c.args.fragment (length c.loop-passed.octets.items) ≡ Some c.in-Some.part.now =
    rw here (sym c.in-Some.ensures)
    in
    let some : 0 < length c.args.parts.now - c.loop-passed.passed = omega arith in
    let grown : c.extend_from_slice.new.self.items ≡ c.loop-passed.octets.items ++ c.in-Some.part.now.octets.items =
    grind (arith, common_steps)
    in
    rw grown (join_last _ _ _ _ _ _ some there c.if-part.false c.if-not-part.true ∙ sym c.loop-passed.invariant)

pub loop-passed-preserved : goal.loop-passed-preserved
loop-passed-preserved c =
    let here : length c.loop-passed.octets.items ≡ c.len.result = grind (arith, common_steps) in
    let there : part_at c.args.parts.now c.args.fragment (length c.loop-passed.octets.items) ≡ Some c.in-Some.part.now =
    rw here (sym c.in-Some.ensures)
    in
    let one_more : length c.args.parts.now - c.loop-passed.passed ≡ length c.args.parts.now - (c.loop-passed.passed + 1) + 1 = omega arith in
    let grown : c.extend_from_slice.new.self.items ≡ c.loop-passed.octets.items ++ c.in-Some.part.now.octets.items =
    grind (arith, common_steps)
    in
    let longer : length c.extend_from_slice.new.self.items
    ≡ length c.loop-passed.octets.items + length c.in-Some.part.now.octets.items = grind (arith, common_steps)
    in
    c.loop-passed.invariant
    ∙ join_on _ _ _ _ _ _ _ _ _ one_more there c.if-part.false c.if-not-part.false grown longer

pub returns : goal.returns
returns c =
    let none : length c.args.parts.now - c.loop-passed.passed ≡ 0 = omega arith in
    join_none _ _ _ _ _ none ∙ sym c.loop-passed.invariant
