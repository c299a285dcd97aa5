use Rattle.std.proofs.Common.{◌+◌, ◌==◌, ◌∷◌, [], ℕ, length, cond, Option, sym, ap, ◌∙◌, subst, arith}
use Rattle.std.specs.Prelude.{slice_get, option_and_then}
use Rattle.std.proofs.lemmas.Bool.{false≢true}
use Rattle.std.proofs.lemmas.List.{length-append}
use Rattle.smq_present.specs.declared.pairing.sides.Turns.{Turns}
use Rattle.smq_present.specs.within.Turns.{HasTurns, advanced, first_in, opposite, taken_more}
use Rattle.smq_present.proofs.lemmas.pairing.TurnLemmas.{counted, counted-turn, counted-other, first-at, of-command, partners-more, turns-same, turns-taken}
use Rattle.smq_present.proofs.pairing.sides.partners_of.Goals as goal
use Rattle.smq_present.proofs.pairing.sides.partners_of.Goals.{then-has, else-has}

pub loop-pdu-preserved : goal.loop-pdu-preserved
loop-pdu-preserved c =
    let kind = c.args.kind in
    let mine = c.args.mine.now in
    let other = c.args.other.now in
    let i = c.loop-pdu.pdu-index in
    let x = c.pdu-item.result in
    let l = c.loop-pdu.invariant in
    let turns = c.loop-pdu.turns in
    record {
      turns = elim c.if-has.branch [
        | then-has w ↦ subst (λ (t : Turns). HasTurns (opposite kind) other (counted kind mine (i + 1)) t) (sym w.turns-is)
            (turns-same (opposite kind) other (taken_more x.seq (counted kind mine i)) (counted kind mine (i + 1)) w.take-partner.new.self
            (counted-turn kind mine i x c.loop-pdu-test.true c.pdu-item.is (of-command kind x ∙ sym c.has.ensures ∙ w.if-has.true))
            (turns-taken (opposite kind) other (counted kind mine i) turns w.take-partner.new.self x.seq l.turns w.take-partner.ensures.next
            (λ q. w.take-partner.ensures.first q ∙ ap (λ (o : Option ℕ). cond (x.seq == q) (advanced turns.next.items o) (first_in turns.first q))
            w.take-partner.ensures.taken)))
        | else-has w ↦ subst (λ (t : Turns). HasTurns (opposite kind) other (counted kind mine (i + 1)) t) (sym w.turns-is)
            (turns-same (opposite kind) other (counted kind mine i) (counted kind mine (i + 1)) c.loop-pdu.turns
            (counted-other kind mine i x c.loop-pdu-test.true c.pdu-item.is (of-command kind x ∙ sym c.has.ensures ∙ w.if-has.false)) l.turns)
      ];
      many = ap length c.in_ok-push.ensures.items ∙ (let e = length-append c.loop-pdu.partners.items (c.if-has.partner ∷ []) in omega (arith, e, l.many));
      partners = rw c.in_ok-push.ensures.items (partners-more kind mine i x c.loop-pdu-test.true c.pdu-item.is other c.loop-pdu.partners.items c.if-has.partner
          l.many l.partners (λ of_kind. elim c.if-has.branch [
            | then-has w ↦ ap (option_and_then (slice_get other)) (w.partner-is ∙ w.take-partner.ensures.taken)
                ∙ first-at (opposite kind) other (counted kind mine i) turns x.seq l.turns
            | else-has w ↦ absurd (false≢true (sym (of-command kind x ∙ sym c.has.ensures ∙ w.if-has.false) ∙ of_kind))
          ]));
    }
