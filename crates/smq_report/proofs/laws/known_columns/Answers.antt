use Rattle.std.proofs.Common.{refl}
use Rattle.std.specs.Fmt.{digits}
use Rattle.smq_report.proofs.laws.known_columns.Goals as goal

pub returns : goal.returns
unfolding digits
returns c = record {
  left_shorter = refl;
  left_equal = refl;
  left_longer = refl;
  right_shorter = refl;
  right_equal = refl;
  right_longer = refl;
  shorter_row = refl;
  equal_row = refl;
  longer_row = refl;
  shorter_place = refl;
  equal_place = refl;
  longer_place = refl;
}
