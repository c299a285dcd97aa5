use Rattle.std.proofs.Common.{◌≡◌, true, List, All, subst, arith}
use Rattle.std.proofs.lemmas.List.{take_all}
use Rattle.smq_desk.specs.declared.entry.Entry.{Entry}
use Rattle.smq_desk.specs.Seats.{HasOneSeat}
use Rattle.smq_desk.proofs.EntriesLeft.{next_of, none_of}
use Rattle.smq_desk.proofs.FirstFaults.{one_more, not_one_seat}
use Rattle.smq_desk.proofs.matching.first_in_entries.Goals as goal

pub returns-then-not-has_one_seat : goal.returns-then-not-has_one_seat
returns-then-not-has_one_seat c =
    let n = next_of c.args.history.now.entries c.loop-entry.left c.next.new.self c.loop-entry.number c.in-Some.entry.now c.loop-entry.invariant.at c.in-Some.ensures.steps in
    not_one_seat c.args.history.now.entries c.args.seats.now c.loop-entry.number c.in-Some.entry.now n.0 n.1 c.loop-entry.invariant.so_far
    (λ one. let yes : c.has_one_seat.result ≡ true = c.has_one_seat.ensures.1 one in let no = c.if-not-has_one_seat.true in absurd cc)

pub loop-entry-preserved : goal.loop-entry-preserved
loop-entry-preserved c =
    let n = next_of c.args.history.now.entries c.loop-entry.left c.next.new.self c.loop-entry.number c.in-Some.entry.now c.loop-entry.invariant.at c.in-Some.ensures.steps in
    let lt = n.0 in
    record {
      at = n.2;
      within = omega arith;
      so_far = one_more (HasOneSeat c.args.seats.now) c.args.history.now.entries c.loop-entry.number c.in-Some.entry.now n.0 n.1 c.loop-entry.invariant.so_far
          (c.has_one_seat.ensures.0 c.if-not-has_one_seat.false);
    }

pub returns : goal.returns
returns c =
    let d = c.in_default in
    let end = none_of c.args.history.now.entries c.loop-entry.left c.loop-entry.number c.loop-entry.invariant.at c.in_default.ensures.steps.0 in
    subst (λ (es : List Entry). All (HasOneSeat c.args.seats.now) es) (take_all c.loop-entry.number c.args.history.now.entries end) c.loop-entry.invariant.so_far
