use Rattle.csv.specs.Records.{fields_of}
use Rattle.smq_load.proofs.RecordLemmas.{IsSome-got}
use Rattle.smq_engine.proofs.record.field.Goals as goal

pub unwrap-requires : goal.unwrap-requires
unwrap-requires c = IsSome-got c.get.result (fields_of c.args.fields.now) c.args.place c.get.ensures.value c.requires
