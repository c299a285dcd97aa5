use Rattle.std.proofs.Common.{◌≡◌, ◌-◌, ◌<◌, ◌≤◌, length, refl, arith}
use Rattle.std.proofs.lemmas.Bool.Decides.{nat_tests}
use Rattle.std.specs.VecDeque.{deque_len}
use Rattle.smq_streams.proofs.Notes.{not-new}
use Rattle.smq_streams.proofs.acknowledged.is_noted.Goals as goal

pub returns-in-Some : goal.returns-in-Some
returns-in-Some c t moment n =
    let low : c.args.place ≤ c.in-Some.last.now.place = grind (arith, nat_tests) in
    let some = c.in-Some.ensures.variant.0 refl in
    let less : deque_len c.args.notes.now - 1 < length c.args.notes.now.items = omega (arith, some, c.args.notes.now.ok.0) in
    not-new c.args.notes.now.items (deque_len c.args.notes.now - 1) c.in-Some.last.now c.args.place moment n less c.in-Some.ensures.lookup low
