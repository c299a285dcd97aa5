use Rattle.std.proofs.Common.{sym, arith}
use Rattle.smq_book.proofs.lemmas.index.Pairs.{put}
use Rattle.smq_book.proofs.index.pairings.Pairings.open.Goals as goal

pub returns-in_ok-insert-clause-touches : goal.returns-in_ok-insert-clause-touches
returns-in_ok-insert-clause-touches c =
    let sum = put c.args.session.0 _ _ c.new.result (sym c.if-not-contains_key.ensures) c.insert.ensures.was_ordered c.in_ok-insert.ensures.entries in
    omega (arith, sum, c.new.ensures.touches)
