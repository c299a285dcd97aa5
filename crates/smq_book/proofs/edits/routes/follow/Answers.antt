use Rattle.std.proofs.Common.{◌≤◌, ◌+◌, ◌*◌, length, Ok, arith, rules}
use Rattle.smq_route.specs.Numbers.{places_under, vacancies}
use Rattle.smq_book.specs.index.Touches.{index_cost}
use Rattle.smq_book.proofs.lemmas.index.Bounds.{routes-bound}
use Rattle.smq_book.proofs.edits.routes.follow.Goals as goal

pub returns-clause-touches : goal.returns-clause-touches
returns-clause-touches c = λ p is.
    let cost : index_cost c.set_routes.new.index ≤ index_cost c.args.index.now + 1 + vacancies c.args.index.now.numbers c.args.prefix.now
    + 15 * length (places_under c.args.index.now.numbers.numbers c.args.prefix.now) = search rules in
    routes-bound p c.args.index.now c.settle-2.new.self is c.args.prefix.now (Ok tt) (omega (arith, cost, c.settle-2.ensures.touches))
