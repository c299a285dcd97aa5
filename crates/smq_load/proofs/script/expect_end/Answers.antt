use Rattle.std.proofs.Common.{arith, inr, rules}
use Rattle.csv.specs.Records.{fields_of}
use Rattle.smq_load.proofs.NextRecordLemmas.{first_bad-next}
use Rattle.smq_load.proofs.script.expect_end.Goals as goal

pub returns-then-branch-clause-bad_row : goal.returns-then-branch-clause-bad_row
returns-then-branch-clause-bad_row g c text rows read full =
    let given = c.in_ok-read_record.ensures.found text read.records read.given (search rules) in
    rw full at (first_bad-next g.R.Read.remaining c.args.reader.now c.read_record.new.reader text rows
    (fields_of c.read_record.new.fields) read given (omega (arith, full)) (inr full))
