use Rattle.std.proofs.Common.{◌≡◌, ◌-◌, ◌+◌, ◌<◌, length, Some, None, subst, sym, ap, ◌∙◌, arith, rules}
use Rattle.std.specs.Prelude.{slice_set, unwrap_or}
use Rattle.std.proofs.lemmas.List.{length-set}
use Rattle.smq_present.specs.within.Turns.{HasNext}
use Rattle.smq_present.proofs.lemmas.pairing.TurnLemmas.{HasFirst, no-first, no-next, first-more, first-same, next-more, next-same, next-put, next-stays, updated, flat, of-command}
use Rattle.smq_present.proofs.pairing.sides.Turns.of.Goals as goal

pub loop-index-init : goal.loop-index-init
loop-index-init c = record {
  within = omega arith;
  many = search rules;
  first = no-first c.args.kind c.args.pdus.now (length c.args.pdus.now) c.new-first.result c.new-first.ensures.empty (omega arith);
  next = no-next c.args.kind c.args.pdus.now (length c.args.pdus.now) c.in_ok-next.next.items (omega arith);
}

pub loop-index-preserved-then-has : goal.loop-index-preserved-then-has
loop-index-preserved-then-has c =
    let i = c.loop-index.index - 1 in
    let l = c.loop-index.invariant in
    let all : c.loop-index.index ≡ i + 1 = omega (arith, c.loop-index-test.true) in
    let h : i < length c.args.pdus.now = omega (arith, c.loop-index-test.true, l.within) in
    let firsts : HasFirst c.args.kind c.args.pdus.now (i + 1) c.loop-index.first = subst (λ k. HasFirst c.args.kind c.args.pdus.now k c.loop-index.first) all l.first in
    let nexts : HasNext c.args.kind c.args.pdus.now (i + 1) c.loop-index.next.items = subst (λ k. HasNext c.args.kind c.args.pdus.now k c.loop-index.next.items) all l.next in
    record {
      within = omega (arith, l.within);
      many = length-set c.loop-index.next.items i c.flatten.result ∙ l.many;
      first = first-more c.args.kind c.args.pdus.now i c.index-pdus-index.result h c.index-pdus-index.is c.loop-index.first c.insert.new.self
          (of-command c.args.kind c.index-pdus-index.result ∙ sym c.has.ensures ∙ c.if-has.true) firsts
          (λ q. updated c.loop-index.first c.insert.new.self c.index-pdus-index.result.seq q (Some i) c.in_ok-insert.ensures.updates);
      next = next-more c.args.kind c.args.pdus.now i c.index-pdus-index.result h c.index-pdus-index.is c.loop-index.first c.loop-index.next.items (slice_set c.loop-index.next.items i c.flatten.result)
          firsts nexts (next-put c.loop-index.next.items i c.flatten.result (rw l.many h)
          ∙ c.flatten.ensures ∙ flat c.in_ok-insert.field-0 ∙ ap (λ o. unwrap_or o None) c.in_ok-insert.ensures.old) (λ j apart. next-stays c.loop-index.next.items i j c.flatten.result apart);
    }

pub loop-index-preserved : goal.loop-index-preserved
loop-index-preserved c =
    let i = c.loop-index.index - 1 in
    let l = c.loop-index.invariant in
    let all : c.loop-index.index ≡ i + 1 = omega (arith, c.loop-index-test.true) in
    let h : i < length c.args.pdus.now = omega (arith, c.loop-index-test.true, l.within) in
    record {
      within = omega (arith, l.within);
      many = l.many;
      first = first-same c.args.kind c.args.pdus.now i c.index-pdus-index.result h c.index-pdus-index.is c.loop-index.first
          (of-command c.args.kind c.index-pdus-index.result ∙ sym c.has.ensures ∙ c.if-has.false)
          (subst (λ k. HasFirst c.args.kind c.args.pdus.now k c.loop-index.first) all l.first);
      next = next-same c.args.kind c.args.pdus.now i c.index-pdus-index.result h c.index-pdus-index.is c.loop-index.next.items
          (of-command c.args.kind c.index-pdus-index.result ∙ sym c.has.ensures ∙ c.if-has.false)
          (subst (λ k. HasNext c.args.kind c.args.pdus.now k c.loop-index.next.items) all l.next);
    }
