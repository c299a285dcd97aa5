use Rattle.std.proofs.Common.{◌≡◌, Some, refl, sym, ap, subst, ◌∙◌, arith}
use Rattle.std.specs.BTreeMap.{get_by}
use Rattle.std.specs.List.{sum_by}
use Rattle.std.specs.Option.{IsSome}
use Rattle.std.specs.Ordering.{nat_cmp}
use Rattle.std.proofs.lemmas.Result.{on_ok_weaker}
use Rattle.smq_kit.specs.declared.names.SessionId.{SessionId}
use Rattle.smq_present.specs.present.Batch.{batch_pdus}
use Rattle.smq_present.specs.within.Pairs.{from_session}
use Rattle.smq_book.specs.index.Pairs.{pdus_of, pending_of, stored_of}
use Rattle.smq_book.specs.index.Touches.{pdu_load}
use Rattle.smq_book.proofs.lemmas.index.Pairs.{own, written}
use Rattle.smq_book.proofs.edits.append.append_next.Goals as goal

pub returns-clause-pairs_counted : goal.returns-clause-pairs_counted
returns-clause-pairs_counted c =
    let wrote = (c.get_mut.follows.holds c.append_to.new.pairing).0 in
    let sum = written c.session-2.result.0 _ _ _ c.append_to.new.pairing (sym c.in-Some.ensures.value) wrote in
    omega (arith, sum, c.open.ensures.touches, c.append_to.ensures.pairs_counted)

pub returns-clause-touches : goal.returns-clause-touches
returns-clause-touches c full =
    let batch = c.args.batch.now in
    let n = c.session-2.result.0 in
    let number_is : n ≡ batch.session.0 = ap (λ (s : SessionId). s.0) c.session-2.ensures in
    let before = c.open.new.self.by_session in
    let after = c.get_mut.follows.lender c.append_to.new.pairing in
    let there : IsSome (get_by (nat_cmp n) before) = subst IsSome c.in-Some.ensures.value refl in
    let holds = c.get_mut.follows.holds c.append_to.new.pairing in
    let sum = written n _ _ _ c.append_to.new.pairing (sym c.in-Some.ensures.value) holds.0 in
    let put = ap (stored_of after) (sym number_is) ∙ own _ _ n (Some c.append_to.new.pairing) (holds.3 there).0 in
    let was = ap (stored_of before) (sym number_is) ∙ sym c.in-Some.ensures.value in
    let load = ap (λ o. sum_by (pdu_load c.append_to.new.index.groups.members (pdus_of o) (from_session batch.session) batch.dir) (batch_pdus batch)) put in
    let pending = ap pending_of put in
    let pending_was = ap pending_of was in
    let opened = c.open.ensures.pending batch.session.0 in
    on_ok_weaker c.append_to.result (λ cost. omega (arith, cost, sum, load, pending, pending_was, opened, c.open.ensures.touches)) (c.append_to.ensures.touches full)
