use Rattle.std.proofs.Common.{◌∙◌, inl}
use Rattle.csv.specs.Reading.{default_config, strip_bom}
use Rattle.csv.specs.Records.{fields_of}
use Rattle.csv.specs.declared.parser.State.TheVariants as st
use Rattle.csv.proofs.ReadFacts.{rows-more}
use Rattle.smq_load.proofs.script.read_record.Goals as goal

pub returns-in-Ok-clause-found : goal.returns-in-Ok-clause-found
returns-in-Ok-clause-found g c text records given found =
    let old = c.args.reader.now in
    let new = c.read_byte_record.new.self in
    let fields = fields_of c.read_byte_record.new.row in
    let read = rw found at (c.in-Ok.ensures.reads given.untrimmed given.ready) in
    let more = rows-more g.R.Read.remaining old new fields default_config st.StartRecord (strip_bom text) given.rest records
    given.config given.source given.reached read in
    record {
      untrimmed = read.3 ∙ given.untrimmed;
      ready = inl (c.in-Ok.ensures.ready given.untrimmed);
      config = read.2 ∙ given.config;
      rest = more.0;
      source = more.1;
      reached = more.2;
    }
