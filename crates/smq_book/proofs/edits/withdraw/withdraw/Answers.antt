use Rattle.std.proofs.Common.{◌≡◌, sym, subst, arith}
use Rattle.std.specs.FinMap.{get}
use Rattle.smq_present.specs.declared.present.edit.Edit.TheVariants.{Withdraw}
use Rattle.smq_book.specs.index.Held.{held_now}
use Rattle.smq_book.specs.index.Kept.{IsKept}
use Rattle.smq_book.specs.index.Pairs.{pairs_now, pairs_pending, pairs_settled}
use Rattle.smq_present.specs.present.Present.{PresentValue}
use Rattle.smq_present.specs.present.Steps.{change}
use Rattle.smq_book.proofs.lemmas.index.Bounds.{withdraw-bound}
use Rattle.smq_book.proofs.lemmas.index.KeptPairs.{kept-settled, made-there, none-pending, pairs-removed}
use Rattle.smq_book.proofs.edits.withdraw.withdraw.Goals as goal

pub returns-clause-kept : goal.returns-clause-kept
returns-clause-kept c =
    let p = c.args.present.now in
    let n = c.args.session.0 in
    let made : c.take_session.new.self ≡ change p (Withdraw c.args.session) =
    made-there _ (get p.sessions n) _ _ c.in-Some.found.now (sym c.in-Some.ensures) _ c.in_ok-take_session.ensures in
    let kept = c.requires.kept in
    subst (λ (q : PresentValue). IsKept q c.settle.new.self c.remove.new.self) (sym made)
    (kept-settled (change p (Withdraw c.args.session)) c.settle.new.self c.remove.new.self
    (held_now c.withdraw.new.index) c.settle.ensures.held c.settle.ensures.settled c.in-Ok.ensures.held c.in-Ok.ensures.traffic
    (pairs-removed n (pairs_now c.args.pairings.now) (pairs_now c.remove.new.self) p.sessions
    c.remove.ensures.others kept.pairs c.remove.ensures.now)
    (pairs-removed n (pairs_settled c.args.pairings.now) (pairs_settled c.remove.new.self) p.sessions
    c.remove.ensures.others_settled kept.settled_pairs c.remove.ensures.settled)
    c.settle.ensures.pending
    (none-pending n (pairs_pending c.args.pairings.now) (pairs_pending c.remove.new.self) c.remove.ensures.pending
    c.remove.ensures.other_pending kept.pending_pairs))

pub returns-clause-touches : goal.returns-clause-touches
returns-clause-touches c =
    let bound = withdraw-bound c.args.present.now c.args.index.now c.args.pairings.now c.requires.kept c.args.session c.in-Some.found.now (sym c.in-Some.ensures) in
    omega (arith, bound, c.in-Ok.ensures.touches, c.settle.ensures.touches, c.remove.ensures.touches)
