use Rattle.std.proofs.Common.{[], refl}
use Rattle.smq_load.proofs.script.reader_of.Goals as goal

pub returns : goal.returns
returns c = record {
  records = [];
  given = c.record_reader.ensures.start c.args.text.now refl;
  say_rows = refl;
}
