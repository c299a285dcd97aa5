use Rattle.std.proofs.Common.{◌≡◌, true}
use Rattle.smq_desk.proofs.EntriesLeft.{alike_next, alike_other}
use Rattle.smq_desk.proofs.history.History.starts_with.Goals as goal

pub returns-then-not-is_same : goal.returns-then-not-is_same
returns-then-not-is_same c = (
  λ t. absurd cc,
  λ s. absurd (
      alike_other c.args.self.now.entries c.loop-entry.ours c.next-in-Some.new.self c.args.other.now.entries c.loop-entry.theirs c.next.new.self
      c.in-Some-next.own.now c.in-Some.entry.now c.in-Some-next.ensures.steps c.in-Some.ensures.steps
      (λ same. let yes : c.is_same.result ≡ true = c.is_same.ensures.1 same in let no = c.if-not-is_same.true in absurd cc) c.loop-entry.invariant s
      ),
)

pub loop-entry-preserved : goal.loop-entry-preserved
loop-entry-preserved c =
    let yes : c.is_same.result ≡ true = c.if-not-is_same.false in
    alike_next c.args.self.now.entries c.loop-entry.ours c.next-in-Some.new.self c.args.other.now.entries c.loop-entry.theirs c.next.new.self
    c.in-Some-next.own.now c.in-Some.entry.now c.in-Some-next.ensures.steps c.in-Some.ensures.steps (c.is_same.ensures.0 yes) c.loop-entry.invariant
