use Rattle.std.proofs.Common.{◌∙◌, rules, sym}
use Rattle.csv.specs.Records.{fields_of}
use Rattle.smq_engine.proofs.StreamLemmas.{row-bad, row-given}
use Rattle.smq_engine.proofs.row_stream.read_next_row.Goals as goal

pub returns-in-Some-clause-some : goal.returns-in-Some-clause-some
returns-in-Some-clause-some g c text rows h =
    let given = c.in_ok-read_record.ensures.found text h.records h.given (search rules) in
    row-given g.R.Read.remaining c.args.reader.now c.read_record.new.reader text rows c.in-Some.row
    (fields_of c.read_record.new.fields) h given (sym c.in_ok-row.ensures ∙ c.in-Some.is)

pub returns-in-None-clause-bad_row : goal.returns-in-None-clause-bad_row
returns-in-None-clause-bad_row g c text rows h numbered =
    let given = c.in_ok-read_record.ensures.found text h.records h.given (search rules) in
    row-bad g.R.Read.remaining c.args.reader.now c.read_record.new.reader text rows c.args.number
    (fields_of c.read_record.new.fields) h given (sym c.in_ok-row.ensures ∙ c.in-None.is) numbered
