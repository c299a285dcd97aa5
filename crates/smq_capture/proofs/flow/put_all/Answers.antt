use Rattle.std.proofs.Common.{ap, refl}
use Rattle.std.specs.Prelude.{Ok}
use Rattle.smq_capture.specs.Flow.{with_put}
use Rattle.smq_capture.proofs.Flows.{flows-none, flows-then, only-puts, puts-none, puts-then}
use Rattle.smq_capture.proofs.flow.put_all.Goals as goal

pub parts-init : goal.parts-init
parts-init c = record {
  flows = λ s written f. flows-none s written c.args.rows.now c.args.side c.args.direction.now f;
  puts = puts-none c.args.side c.args.rows.now;
  same = refl;
}

pub returns-in_err-put_next-clause-puts : goal.returns-in_err-put_next-clause-puts
returns-in_err-put_next-clause-puts c = puts-then _ _ _ _ c.parts.invariant.puts c.put_next.ensures.puts

pub parts-smaller : goal.parts-smaller
parts-smaller c = c.in_ok-put_next.ensures.fewer (ap Ok c.if-branch.true)

pub parts-preserved : goal.parts-preserved
parts-preserved c = record {
  flows = λ s written f.
      let g = c.parts.invariant.flows s written f in
      flows-then s written c.put_next.new.rows c.args.side c.put_next.new.direction g.0
      (c.in_ok-put_next.ensures.flows (with_put g.0 s) written g.1);
  puts = puts-then _ _ _ _ c.parts.invariant.puts c.put_next.ensures.puts;
  same = only-puts c.args.direction.now c.parts.direction c.put_next.new.direction c.parts.invariant.same c.put_next.ensures.same;
}

pub returns-clause-flows : goal.returns-clause-flows
returns-clause-flows c s written f =
    let g = c.parts.invariant.flows s written f in
    flows-then s written c.put_next.new.rows c.args.side c.put_next.new.direction g.0
    (c.in_ok-put_next.ensures.flows (with_put g.0 s) written g.1)

pub returns-clause-puts : goal.returns-clause-puts
returns-clause-puts c = puts-then _ _ _ _ c.parts.invariant.puts c.put_next.ensures.puts

pub returns-clause-same : goal.returns-clause-same
returns-clause-same c = only-puts c.args.direction.now c.parts.direction c.put_next.new.direction c.parts.invariant.same c.put_next.ensures.same
