use Rattle.std.proofs.Common.{◌≡◌, arith, length, sym, ◌∙◌, ◌-◌, ℕ, subst}
use Rattle.std.specs.Prelude.{Some, Option}
use Rattle.smq_reassembly.specs.declared.waiting.Held.{Held}
use Rattle.smq_reassembly.proofs.Chains.{Tells, tells}
use Rattle.smq_reassembly.proofs.waiting.Waiting.run_at.Goals.{In-Some, After-len}
use Rattle.smq_reassembly.proofs.waiting.Waiting.run_at.Goals as goal

told : (c : In-Some) → Tells c.args.self.now c.args.place (Some (c.in-Some.until.now, c.in-Some.held.now))
told c =
    rw (← c.self.view_is)
    (subst (λ (f : Option (ℕ × Held)). Tells c.self.inside.pieces.entries c.args.place f) (sym c.in-Some.ensures)
    (tells 0 c.self.inside.pieces.entries c.args.place c.self.invariant.chain))

size : (c : After-len) → c.len.result ≡ length c.in-Some.held.now.octets.items
size c = c.len.ensures ∙ c.in-Some.held.now.octets.ok.0

pub returns-in_default-clause-misses : goal.returns-in_default-clause-misses
returns-in_default-clause-misses c until is =
    let same : c.args.end ≡ until = cc in
    let none = subst (λ (f : Option (ℕ × Held)). Tells c.self.inside.pieces.entries c.args.place f) (sym c.in_default.ensures)
    (tells 0 c.self.inside.pieces.entries c.args.place c.self.invariant.chain) in
    (omega (arith, same, c.requires), omega (arith, same), (λ n low high. rw (← c.self.view_is) (none n low)))

pub overflow_sub-start : goal.overflow_sub-start
overflow_sub-start c =
    let t = told (goal.at.overflow_sub-start c).In-Some in omega (arith, size c, t.1)

pub returns-then-start-place-clause-waits : goal.returns-then-start-place-clause-waits
returns-then-start-place-clause-waits c until is =
    let same : c.in-Some.until.now ≡ until = cc in
    let t = told (goal.at.returns-then-start-place-clause-waits c).In-Some in
    let s = size (goal.at.returns-then-start-place-clause-waits c).After-len in
    (omega (arith, same, t.0), (λ n low high. t.3 n (omega (arith, s, c.if-start-place.true)) (omega (arith, same))))

pub returns-then-start-end-clause-misses : goal.returns-then-start-end-clause-misses
returns-then-start-end-clause-misses c until is =
    let same : c.in-Some.until.now - c.len.result ≡ until = cc in
    let t = told (goal.at.returns-then-start-end-clause-misses c).In-Some in
    let s = size (goal.at.returns-then-start-end-clause-misses c).After-len in (
      omega (arith, same, c.if-start-place.false),
      omega (arith, same, c.if-start-end.true),
      (λ n low high. t.2 n low (omega (arith, s, same))),
    )

pub returns-else-start-end-clause-misses : goal.returns-else-start-end-clause-misses
returns-else-start-end-clause-misses c until is =
    let same : c.args.end ≡ until = cc in
    let t = told (goal.at.returns-else-start-end-clause-misses c).In-Some in
    let s = size (goal.at.returns-else-start-end-clause-misses c).After-len in (
      omega (arith, same, c.requires),
      omega (arith, same),
      (λ n low high. t.2 n low (omega (arith, s, same, c.if-start-end.false))),
    )
