use Rattle.std.proofs.Common.{◌∙◌, ap, rules, sym}
use Rattle.std.specs.Prelude.{option_map}
use Rattle.csv.specs.Records.{fields_of}
use Rattle.smq_engine.specs.Record.{said_by}
use Rattle.smq_engine.proofs.ReadingLemmas.{given-bad, given-more}
use Rattle.smq_engine.proofs.record_stream.read_next.Goals as goal

pub returns-in-Some-clause-some : goal.returns-in-Some-clause-some
returns-in-Some-clause-some g c text records h =
    let given = c.in_ok-read_record.ensures.found text h.fields h.given (search rules) in
    given-more g.R.Read.remaining c.args.reader.now c.read_record.new.reader text records (fields_of c.read_record.new.fields)
    c.in-Some.next h given (sym c.in_ok-next.ensures ∙ ap (option_map said_by) c.in-Some.is)

pub returns-in-None-clause-fault : goal.returns-in-None-clause-fault
returns-in-None-clause-fault g c text records h numbered =
    let given = c.in_ok-read_record.ensures.found text h.fields h.given (search rules) in (
      given-bad g.R.Read.remaining c.args.reader.now c.read_record.new.reader text records (fields_of c.read_record.new.fields)
          h given (sym c.in_ok-next.ensures ∙ ap (option_map said_by) c.in-None.is),
      numbered,
    )
