use Rattle.std.proofs.Common.{refl}
use Rattle.std.specs.Fmt.{digits}
use Rattle.smq_engine.specs.Record.{columns_of}
use Rattle.smq_engine.proofs.laws.known_records.Goals as goal

pub returns : goal.returns
unfolding columns_of digits
returns c = record {
  of_view = refl;
  of_list = refl;
  whole = refl;
  row = refl;
  count = refl;
  lost = refl;
  no_name = refl;
  no_column = refl;
  another_column = refl;
  no_count = refl;
  no_octets = refl;
  another_end = refl;
  two_names = refl;
  another_name = refl;
  another_word = refl;
  nothing = refl;
}
