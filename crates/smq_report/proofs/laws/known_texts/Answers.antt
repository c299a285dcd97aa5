use Rattle.std.proofs.Common.{refl}
use Rattle.std.specs.Fmt.{digits}
use Rattle.smq_report.proofs.laws.known_texts.Goals as goal

pub returns : goal.returns
unfolding digits
returns c = record {
  link = refl;
  last_link = refl;
  route = refl;
  last_route = refl;
  no_route = refl;
  network_code = refl;
  no_network = refl;
  status = refl;
  network = refl;
  last_network = refl;
  text = refl;
  unstated = refl;
  band = refl;
  client = refl;
  centre = refl;
}
