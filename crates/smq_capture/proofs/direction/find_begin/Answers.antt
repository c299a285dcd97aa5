use Rattle.std.proofs.Common.{◌≡◌, ◌++◌, ℕ, [], List, take, drop, ap, subst, ◌∙◌, arith}
use Rattle.std.specs.Prelude.{Some, None}
use Rattle.smq_streams.specs.Framing.{IsFramed}
use Rattle.smq_capture.specs.Sessions.{BeginsNone, FindsNext}
use Rattle.smq_capture.proofs.Begins.{begins, begins-none, next-within}
use Rattle.smq_capture.proofs.direction.find_begin.Goals as goal
use Rattle.smq_capture.proofs.direction.find_begin.Goals.{in-Some+in_default-split_at_checked, in_default}

pub returns-in-Some-split_at_checked-clause-begins : goal.returns-in-Some-split_at_checked-clause-begins
returns-in-Some-split_at_checked-clause-begins c settled h =
    let rest : c.in-Some-split_at_checked.rest.now ≡ drop c.in-Some.behind c.split_at.result.1.now =
    c.in-Some-split_at_checked.ensures.cases.2 in
    begins settled c.args.octets.now c.args.skipped c.in-Some.behind c.feed.new.self c.feed-in-Some-split_at_checked.new.self
    c.requires
    (subst (λ (xs : List ℕ). IsFramed (settled ++ xs) c.feed.new.self) c.split_at.ensures.front (c.feed.ensures settled h))
    (subst (λ (xs : List ℕ). FindsNext c.feed.new.self xs (Some c.in-Some.behind)) c.split_at.ensures.back
    (c.in-Some.ensures.broken, c.in-Some.ensures.behind))
    (subst (λ (xs : List ℕ). IsFramed xs c.feed-in-Some-split_at_checked.new.self)
    (rest ∙ ap (λ (xs : List ℕ). drop c.in-Some.behind xs) c.split_at.ensures.back)
    (c.feed-in-Some-split_at_checked.ensures [] c.new.ensures.start))

pub returns-clause-begins : goal.returns-clause-begins
returns-clause-begins c settled h =
    let framed = c.feed.ensures settled h in
    elim c.match-next_pdu.branch as (λ _. BeginsNone settled c.args.octets.now c.args.skipped c.feed-2.new.self) [
      | in-Some+in_default-split_at_checked w ↦
          let few = w.in_default-split_at_checked.ensures.cases in
          let within = next-within c.feed.new.self (settled ++ c.split_at.result.0.now) c.split_at.result.1.now w.in-Some.behind framed
          (w.in-Some.ensures.broken, w.in-Some.ensures.behind) in
          absurd (omega (arith, few, within))
      | in_default w ↦
          begins-none settled c.args.octets.now c.args.skipped c.feed.new.self c.feed-2.new.self
          (subst (λ (xs : List ℕ). IsFramed (settled ++ xs) c.feed.new.self) c.split_at.ensures.front framed)
          (subst (λ (xs : List ℕ). FindsNext c.feed.new.self xs None) c.split_at.ensures.back
          (w.in_default.ensures.broken, w.in_default.ensures.behind))
          (subst (λ (xs : List ℕ). IsFramed (settled ++ take c.args.skipped c.args.octets.now ++ xs) c.feed-2.new.self)
          c.split_at.ensures.back
          (subst (λ (xs : List ℕ). IsFramed (settled ++ xs ++ c.split_at.result.1.now) c.feed-2.new.self) c.split_at.ensures.front
          (c.feed-2.ensures (settled ++ c.split_at.result.0.now) framed)))
    ]
