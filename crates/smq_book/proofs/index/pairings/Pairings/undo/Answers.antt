use Rattle.std.proofs.Common.{ℕ, sym, ap, ◌∙◌, arith}
use Rattle.smq_book.specs.index.Pairs.{pending_of}
use Rattle.smq_book.proofs.lemmas.index.Pairs.{written}
use Rattle.smq_book.proofs.index.pairings.Pairings.undo.Goals as goal

pub returns-in-Some-clause-touches : goal.returns-in-Some-clause-touches
returns-in-Some-clause-touches c =
    let was = ap pending_of c.in-Some.ensures.value in
    let wrote = (c.get_mut.follows.holds c.undo.new.self).0 in
    let sum = written c.args.session.0 _ _ _ c.undo.new.self (sym c.in-Some.ensures.value) wrote in
    omega (arith, was, sum, c.undo.ensures.touches)

pub returns-in-Some-clause-counted : goal.returns-in-Some-clause-counted
returns-in-Some-clause-counted c =
    let wrote = (c.get_mut.follows.holds c.undo.new.self).0 in
    let sum = written c.args.session.0 _ _ _ c.undo.new.self (sym c.in-Some.ensures.value) wrote in
    omega (arith, sum, c.undo.ensures.counted)
