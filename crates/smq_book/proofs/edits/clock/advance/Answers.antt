use Rattle.std.proofs.Common.{ℕ, length, Option, Some, None, Ok, ap, arith}
use Rattle.smq_kit.specs.declared.refusal.Refusal.{Refusal}
use Rattle.smq_kit.specs.Replies.{IsReply, IsReplyInPlace}
use Rattle.smq_book.specs.index.Ends.{places_ending}
use Rattle.smq_book.specs.index.Held.{ends_in}
use Rattle.smq_present.specs.present.Replies.{clock_back}
use Rattle.smq_book.proofs.lemmas.index.Bounds.{advance-bound}
use Rattle.smq_book.proofs.edits.clock.advance.Goals as goal

-- what is made in place is made
made : (reply : Option Refusal) (Made Unchanged : Type 0) → IsReplyInPlace {T = Unit {0}} reply (Ok tt) Made Unchanged
    → IsReply {T = Unit {0}} reply (Ok tt) Made Unchanged
made None Made Unchanged is = is
made (Some refusal) Made Unchanged is = is

pub returns-clause-touches : goal.returns-clause-touches
returns-clause-touches c =
    let p = c.args.present.now in
    advance-bound p c.args.index.now c.settle.new.self c.requires.indexed c.args.clock (Ok tt) _ _
    (made (clock_back p.settings.clock c.args.clock) _ _ c.in_ok-set_clock.ensures)
    (λ pending.
    let cost = c.in-Ok.ensures.touches pending in
    let before = ap (λ (clock : ℕ). length (places_ending clock c.args.clock (ends_in c.args.index.now.ends.content))) c.clock-before.ensures in
    omega (arith, cost, before, c.settle.ensures.touches))
