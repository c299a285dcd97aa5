use Rattle.std.proofs.Common.{rules}
use Rattle.csv.specs.Records.{fields_of}
use Rattle.smq_load.proofs.NextRecordLemmas.{HasRead-more, Tells-next, passed_on}
use Rattle.smq_load.specs.Script.{Tells}
use Rattle.smq_load.proofs.script.read_next.Goals as goal

pub returns-in_err-push_row-clause-err : goal.returns-in_err-push_row-clause-err
returns-in_err-push_row-clause-err g c text read =
    let given = c.in_ok-read_record.ensures.found text read.records read.given (search rules) in
    let told = Tells-next g.R.Read.remaining c.args.reader.now c.read_record.new.reader text c.args.rows.now.items
    (fields_of c.read_record.new.fields) c.in_err-push_row.field-0.0 read given c.requires c.in_err-push_row.ensures.bad_row in
    passed_on (λ fault. Tells fault text) c.from_residual-in_err-push_row.result c.in_err-push_row.field-0.0
    c.from_residual-in_err-push_row.ensures.1 told

pub returns-clause-more : goal.returns-clause-more
returns-clause-more g c text read found =
    let given = c.in_ok-read_record.ensures.found text read.records read.given (search rules) in
    HasRead-more g.R.Read.remaining c.args.reader.now c.read_record.new.reader text c.args.rows.now.items c.push_row.new.rows.items
    (fields_of c.read_record.new.fields) read given c.in_ok-push_row.ensures.ok
