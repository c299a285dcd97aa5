use Rattle.std.proofs.Common.{◌∙◌, ◌++◌, List, ap, sym, eq-eqb, ne_eqb, arith}
use Rattle.std.proofs.lemmas.List.{take_all}
use Rattle.smq_desk.specs.declared.entry.Entry.{Entry}
use Rattle.smq_desk.specs.Seats.{calls_in}
use Rattle.smq_desk.proofs.Agreement.{differs, ended_early, goes_on, passes_by, head_not_above, whole_seat}
use Rattle.smq_desk.proofs.EntriesLeft.{next_of, none_of}
use Rattle.smq_desk.proofs.matching.first_in_seat.Goals as goal

pub loop-entry-preserved-in-Some-after_call : goal.loop-entry-preserved-in-Some-after_call
loop-entry-preserved-in-Some-after_call c =
    let all = c.args.history.now.entries in
    let i = c.loop-entry.number in
    let e = c.in-Some.entry.now in
    let seat = c.args.seat.now in
    let n = next_of all c.loop-entry.left c.next.new.self i e c.loop-entry.invariant.at c.in-Some.ensures.steps in
    let lt = n.0 in
    record {
      at = n.2;
      within = omega arith;
      so_far = goes_on all seat.calls c.loop-entry.rest.now c.in-Some-after_call.later.now seat.number i e n.0 n.1
          (eq-eqb e.seat seat.number (c.if-entry-holder.true ∙ c.number-holder.ensures)) c.loop-entry.invariant.so_far c.in-Some-after_call.ensures.some;
    }

pub loop-entry-preserved : goal.loop-entry-preserved
loop-entry-preserved c =
    let all = c.args.history.now.entries in
    let i = c.loop-entry.number in
    let e = c.in-Some.entry.now in
    let seat = c.args.seat.now in
    let n = next_of all c.loop-entry.left c.next.new.self i e c.loop-entry.invariant.at c.in-Some.ensures.steps in
    let lt = n.0 in
    record {
      at = n.2;
      within = omega arith;
      so_far = passes_by all seat.calls c.loop-entry.rest.now seat.number i e n.0 n.1
          (ne_eqb e.seat seat.number (λ same. c.if-entry-holder.false (same ∙ sym c.number-holder.ensures))) c.loop-entry.invariant.so_far;
    }

pub returns-in-None : goal.returns-in-None
returns-in-None c =
    let all = c.args.history.now.entries in
    let i = c.loop-entry.number in
    let e = c.in-Some.entry.now in
    let seat = c.args.seat.now in
    let n = next_of all c.loop-entry.left c.next.new.self i e c.loop-entry.invariant.at c.in-Some.ensures.steps in
    differs all seat i e c.loop-entry.rest.now c.least_of.result n.0 n.1
    (eq-eqb e.seat seat.number (c.if-entry-holder.true ∙ c.number-holder.ensures)) c.loop-entry.invariant.so_far c.in-None.ensures.none c.least_of.ensures

pub returns-in-empty : goal.returns-in-empty
returns-in-empty c =
    let all = c.args.history.now.entries in
    let seat = c.args.seat.now in
    let end = none_of all c.loop-entry.left c.loop-entry.number c.loop-entry.invariant.at c.in_default.ensures.steps.0 in
    whole_seat all seat c.loop-entry.rest.now c.loop-entry.number end c.in-empty.len_below c.loop-entry.invariant.so_far

pub returns-in-len1-up : goal.returns-in-len1-up
returns-in-len1-up c =
    let all = c.args.history.now.entries in
    let seat = c.args.seat.now in
    let rest = c.loop-entry.rest.now in
    let end = none_of all c.loop-entry.left c.loop-entry.number c.loop-entry.invariant.at c.in_default.ensures.steps.0 in
    ended_early all seat rest c.first-item.result.number c.least_of-in-len1-up.result
    (c.loop-entry.invariant.so_far ∙ ap (λ (es : List Entry). calls_in es seat.number ++ rest) (take_all c.loop-entry.number all end))
    (head_not_above rest c.first-item.result c.first-item.is c.in-len1-up.len_at_least) c.least_of-in-len1-up.ensures
