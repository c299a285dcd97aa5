use Rattle.std.proofs.Common.{◌≡◌, arith, length, rules}
use Rattle.smq_load.proofs.NextRecordLemmas.{passed_on}
use Rattle.smq_load.specs.Script.{Tells}
use Rattle.smq_load.proofs.script.read_rows.Goals as goal

pub returns-then-not-branch-clause-ok : goal.returns-then-not-branch-clause-ok
returns-then-not-branch-clause-ok g c text begins =
    c.in_ok-read_next.ensures.none text (c.loop.invariant.read text begins) (search rules)

pub loop-preserved : goal.loop-preserved
loop-preserved g c = record {
  read = λ text begins. c.in_ok-read_next.ensures.more text (c.loop.invariant.read text begins) (search rules);
  counted = omega (arith, c.in_ok-read_next.ensures.counted (search rules), c.loop.invariant.counted);
}

pub returns-in_err-expect_end-clause-bad_row : goal.returns-in_err-expect_end-clause-bad_row
returns-in_err-expect_end-clause-bad_row g c text begins =
    let full : length c.loop.rows.items ≡ 1000000 = omega (arith, c.loop.invariant.counted) in
    let told = c.in_err-expect_end.ensures.bad_row text c.loop.rows.items (c.loop.invariant.read text begins) full in
    passed_on (λ fault. Tells fault text) c.from_residual-in_err-expect_end.result c.in_err-expect_end.field-0.0
    c.from_residual-in_err-expect_end.ensures.1 told

pub returns-clause-ok : goal.returns-clause-ok
returns-clause-ok g c text begins =
    let full : length c.loop.rows.items ≡ 1000000 = omega (arith, c.loop.invariant.counted) in
    c.in_ok-expect_end.ensures.ok text c.loop.rows.items (c.loop.invariant.read text begins) full
