use Rattle.std.proofs.Common.{◌∙◌, refl, ap, arith}
use Rattle.std.proofs.lemmas.List.{length-set, take-set-le}
use Rattle.smq_capture.specs.Rows.{Row}
use Rattle.smq_capture.proofs.Runs.{goes-none, goes-on}
use Rattle.smq_capture.proofs.Waits.{before-none, before-step, dealt-all, dealt-last, dealt-more, dealt-none, dealt-step, done-more, done-set, ends-none, ends-step, none-waits, rest-more, rest-set, set-same, settle-all-none, settle-step, settled-all, settled-last, settled-more, settled-none, settled-step}
use Rattle.smq_capture.proofs.rows.settle_from.Goals as goal
use Rattle.smq_capture.proofs.rows.settle_from.Goals.{then-is_of+in_ok-is_there+else-not-is_settled, else-is_of}

pub loop-at-init : goal.loop-at-init
loop-at-init c = record {
  settles = settle-all-none _ _ _;
  goes = goes-none _;
  dealt = dealt-none _ _ _;
  size = refl;
  rest = refl;
  kept = refl;
  so_far = settled-none _ _ _ c.requires.settled;
  before = λ place _. before-none place _;
  answer = (λ t. absurd (cc), λ h. absurd (ends-none _ _ h));
  done = c.requires.settled;
}

pub returns-in_err-is_there-clause-settles : goal.returns-in_err-is_there-clause-settles
returns-in_err-is_there-clause-settles c =
    settle-step _ _ c.loop-at.direction _ c.loop-at.rows.items _ c.index_mut-row.result.now _ c.loop-at.invariant.settles
    c.loop-at.invariant.rest (omega arith) c.index_mut-row.ensures.value (c.is_of.ensures.0 c.if-is_of.true)
    c.loop-at.invariant.goes c.settle.ensures.settles

pub returns-then-not-is_settled-clause-settles : goal.returns-then-not-is_settled-clause-settles
returns-then-not-is_settled-clause-settles c =
    settle-step _ _ c.loop-at.direction _ c.loop-at.rows.items _ c.index_mut-row.result.now _ c.loop-at.invariant.settles
    c.loop-at.invariant.rest (omega arith) c.index_mut-row.ensures.value (c.is_of.ensures.0 c.if-is_of.true)
    c.loop-at.invariant.goes c.settle.ensures.settles

pub returns-then-not-is_settled-clause-below : goal.returns-then-not-is_settled-clause-below
returns-then-not-is_settled-clause-below c =
    settled-last _ _ c.loop-at.direction _ c.loop-at.rows.items _ c.index_mut-row.result.now _ c.loop-at.invariant.so_far
    c.loop-at.invariant.rest (omega arith) (omega arith) c.index_mut-row.ensures.value (c.is_of.ensures.0 c.if-is_of.true)
    c.settle.ensures.settles c.in_ok-is_there.ensures.ok (c.is_settled.ensures.fewer c.if-not-is_settled.true)

pub returns-then-not-is_settled-clause-all : goal.returns-then-not-is_settled-clause-all
returns-then-not-is_settled-clause-all c =
    λ e. absurd (none-waits _ _ _ _ c.settle.ensures.settles c.in_ok-is_there.ensures.ok
    (c.is_settled.ensures.fewer c.if-not-is_settled.true) e)

pub returns-then-not-is_settled-clause-before : goal.returns-then-not-is_settled-clause-before
returns-then-not-is_settled-clause-before c =
    λ place e. before-step place _ c.loop-at.rows.items _ c.index_mut-row.result.now _ (c.loop-at.invariant.before place e)
    c.loop-at.invariant.rest (omega arith) c.index_mut-row.ensures.value (c.settle.ensures.before place e)

pub returns-in_err-is_there-clause-before : goal.returns-in_err-is_there-clause-before
returns-in_err-is_there-clause-before c =
    λ place e. before-step place _ c.loop-at.rows.items _ c.index_mut-row.result.now _ (c.loop-at.invariant.before place e)
    c.loop-at.invariant.rest (omega arith) c.index_mut-row.ensures.value (c.settle.ensures.before place e)

pub returns-then-not-is_settled-clause-answer : goal.returns-then-not-is_settled-clause-answer
returns-then-not-is_settled-clause-answer c =
    ends-step _ _ c.loop-at.rows.items _ c.index_mut-row.result.now _ c.loop-at.is_there c.in_ok-is_there.field-0
    c.loop-at.invariant.answer c.loop-at.invariant.rest (omega arith) (omega arith) c.index_mut-row.ensures.value
    c.in_ok-is_there.ensures.answer

pub loop-at-preserved : goal.loop-at-preserved
loop-at-preserved c =
    elim c.if-is_of.branch [
      | then-is_of+in_ok-is_there+else-not-is_settled w ↦
          rw (w.rows-is, w.direction-is, w.is_there-is)
          (record {
            settles = settle-step _ _ c.loop-at.direction _ c.loop-at.rows.items _ c.index_mut-row.result.now _ c.loop-at.invariant.settles
                c.loop-at.invariant.rest (omega arith) c.index_mut-row.ensures.value (c.is_of.ensures.0 w.if-is_of.true)
                c.loop-at.invariant.goes w.settle.ensures.settles;
            goes = goes-on _ _ _ c.loop-at.invariant.goes w.settle.ensures.goes;
            dealt = dealt-step c.args.side c.args.direction.now c.loop-at.direction w.settle.new.direction c.args.rows.now.items
                c.loop-at.rows.items c.loop-at.at
                c.index_mut-row.result.now w.settle.new.self c.loop-at.invariant.dealt c.loop-at.invariant.rest (omega arith) (omega arith)
                c.index_mut-row.ensures.value (c.is_of.ensures.0 w.if-is_of.true) w.in_ok-is_there.ensures.dealt;
            size = length-set _ _ _ ∙ c.loop-at.invariant.size;
            kept = take-set-le _ _ _ _ (omega arith) ∙ c.loop-at.invariant.kept;
            rest = rest-set c.args.rows.now.items c.loop-at.rows.items c.loop-at.at w.settle.new.self c.loop-at.invariant.rest;
            so_far = settled-step _ _ c.args.rows.now.items c.loop-at.rows.items c.loop-at.at c.index_mut-row.result.now w.settle.new.self
                c.loop-at.invariant.so_far c.loop-at.invariant.rest (omega arith) (omega arith) c.index_mut-row.ensures.value
                (λ _. w.in_ok-is_there.ensures.ok);
            before = λ place e. before-step place c.args.rows.now.items c.loop-at.rows.items c.loop-at.at c.index_mut-row.result.now
                w.settle.new.self (c.loop-at.invariant.before place e)
                c.loop-at.invariant.rest (omega arith) c.index_mut-row.ensures.value (w.settle.ensures.before place e);
            answer = ends-step _ _ c.loop-at.rows.items _ c.index_mut-row.result.now _ c.loop-at.is_there w.in_ok-is_there.field-0
                c.loop-at.invariant.answer c.loop-at.invariant.rest (omega arith) (omega arith) c.index_mut-row.ensures.value
                w.in_ok-is_there.ensures.answer;
            done = done-set _ _ _ _ (omega arith) c.loop-at.invariant.done (w.is_settled.ensures.settled w.if-not-is_settled.false);
          })
      | else-is_of w ↦
          rw (
            w.rows-is,
            w.direction-is,
            w.is_there-is,
            set-same c.loop-at.rows.items c.loop-at.at c.index_mut-row.result.now c.index_mut-row.ensures.value,
          )
          (record {
            settles = c.loop-at.invariant.settles;
            goes = c.loop-at.invariant.goes;
            dealt = dealt-more c.args.side c.args.direction.now c.loop-at.direction c.args.rows.now.items c.loop-at.rows.items c.loop-at.at
                c.index_mut-row.result.now c.loop-at.invariant.dealt c.loop-at.invariant.rest (omega arith) (omega arith);
            size = c.loop-at.invariant.size;
            kept = c.loop-at.invariant.kept;
            rest = rest-more c.args.rows.now.items c.loop-at.rows.items c.loop-at.at c.loop-at.invariant.rest;
            so_far = settled-more _ _ c.args.rows.now.items c.loop-at.rows.items c.loop-at.at c.index_mut-row.result.now
                c.loop-at.invariant.so_far c.loop-at.invariant.rest (omega arith) (omega arith) c.index_mut-row.ensures.value
                (λ s. let i = w.if-is_of.false in let t = c.is_of.ensures.1 s in absurd (cc));
            before = c.loop-at.invariant.before;
            answer = c.loop-at.invariant.answer;
            done = done-more _ _ _ c.index_mut-row.result.now (omega arith) c.loop-at.invariant.done
                (λ s. let i = w.if-is_of.false in
                let t = c.is_of.ensures.1 (ap (λ (x : Row). x.sender) c.index_mut-row.ensures.value ∙ s) in absurd (cc));
          })
    ]

pub returns-clause-all : goal.returns-clause-all
returns-clause-all c = λ _. settled-all _ _ _ _ _ c.loop-at.invariant.so_far (omega arith) (omega arith)

pub returns-clause-below : goal.returns-clause-below
returns-clause-below c = λ _. settled-all _ _ _ _ _ c.loop-at.invariant.so_far (omega arith) (omega arith)

pub returns-then-not-is_settled-clause-dealt : goal.returns-then-not-is_settled-clause-dealt
returns-then-not-is_settled-clause-dealt c =
    dealt-last c.args.side c.args.direction.now c.loop-at.direction c.settle.new.direction c.args.rows.now.items
    c.loop-at.rows.items c.loop-at.at
    c.index_mut-row.result.now c.settle.new.self c.loop-at.invariant.dealt c.loop-at.invariant.rest (omega arith) (omega arith)
    c.index_mut-row.ensures.value (c.is_of.ensures.0 c.if-is_of.true) c.in_ok-is_there.ensures.dealt

pub returns-clause-dealt : goal.returns-clause-dealt
returns-clause-dealt c =
    dealt-all c.args.side c.args.direction.now c.loop-at.direction c.args.rows.now.items c.loop-at.rows.items c.loop-at.at
    c.loop-at.invariant.dealt (omega arith) (omega arith)
