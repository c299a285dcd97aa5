use Rattle.std.proofs.Common.{refl}
use Rattle.std.specs.Fmt.{digits}
use Rattle.smq_count.proofs.laws.known_columns.Goals as goal

pub returns : goal.returns
unfolding digits
returns c = record {
  link = refl;
  session = refl;
  route = refl;
  outcome = refl;
  centre_delay = refl;
  minute = refl;
  hour = refl;
  day = refl;
  month = refl;
  source = refl;
  ton = refl;
  least_prefix = refl;
  most_prefix = refl;
  no_prefix = refl;
  longer_prefix = refl;
  other = refl;
}
