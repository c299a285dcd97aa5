use Rattle.std.proofs.Common.{◌≡◌, ◌+◌, ◌-◌, length, refl, arith}
use Rattle.std.specs.VecDeque.{deque_len}
use Rattle.smq_capture.proofs.Watched.{last-is}
use Rattle.smq_capture.proofs.tops.counted.Goals as goal

pub returns-in-Some : goal.returns-in-Some
returns-in-Some c =
    λ o. let some = c.in-Some.ensures.variant.0 refl in
    let last : deque_len c.args.tops.now - 1 + 1 ≡ length c.args.tops.now.items = omega (arith, some, c.args.tops.now.ok.0) in
    let is = last-is c.args.tops.now.items _ _ o last c.in-Some.ensures.lookup in
    omega (arith, is)
