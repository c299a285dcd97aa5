use Rattle.std.proofs.Common.{sym, arith}
use Rattle.smq_book.proofs.lemmas.index.Pairs.{taken}
use Rattle.smq_book.proofs.index.pairings.Pairings.remove.Goals as goal

pub returns-in-Some-clause-touches : goal.returns-in-Some-clause-touches
returns-in-Some-clause-touches c =
    let sum = taken c.args.session.0 _ _ _ (sym c.in-Some.ensures.value) c.remove.ensures.entries in
    omega (arith, sum, c.touches.ensures, c.saturating_add-self.ensures)
