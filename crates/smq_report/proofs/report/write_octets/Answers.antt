use Rattle.std.proofs.Common.{arith}
use Rattle.std.proofs.lemmas.List.{length-drop, take_rest}
use Rattle.std.proofs.KnownBytes.{Appends-kept}
use Rattle.smq_report.proofs.BeginningLemmas.{Appends-more}
use Rattle.smq_report.proofs.report.write_octets.Goals.{in-Ok, in-Err}
use Rattle.smq_report.proofs.report.write_octets.Goals as goal

pub loop-preserved : goal.loop-preserved
loop-preserved g c = elim c.match-write.branch [
  | in-Ok w ↦ record {
    within = rw w.count-is (omega (arith, w.in-Ok.ensures.bound, length-drop c.loop.count c.args.octets.now));
    written = rw w.count-is (Appends-more _ _ _ c.loop.count w.in-Ok.more c.args.octets.now c.loop.invariant.written
        (rw take_rest at w.in-Ok.ensures.bytes));
  }
  | in-Err w ↦ record {
    within = rw w.count-is c.loop.invariant.within;
    written = rw w.count-is (Appends-kept _ _ _ _ c.loop.invariant.written w.in-Err.ensures.bytes);
  }
]
