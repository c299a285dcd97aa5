-- So many octets are written.
use Rattle.std.proofs.Common.{◌≤◌, length, take}
use Rattle.std.specs.Io.KnownBytes.{Appends}
use Rattle.smq_report.proofs.report.write_octets.Given as goal

abbrev pub invariant-loop : goal.invariant-loop
invariant-loop g l =
    let contents = g.W.Write.contents in
    record {
      within : l.count ≤ length l.octets;
      written : Appends (contents l.fn.writer) (contents l.writer) (take l.count l.octets);
    }
