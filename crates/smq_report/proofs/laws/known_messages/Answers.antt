use Rattle.std.proofs.Common.{refl}
use Rattle.std.specs.Fmt.{digits}
use Rattle.csv.specs.Writing.{escaped, fields_text, is_blank}
use Rattle.smq_report.proofs.laws.known_messages.Goals as goal

pub returns : goal.returns
unfolding digits fields_text is_blank escaped
returns c = record { none = refl; delivered = refl; waiting = refl; refused = refl; failed = refl; late = refl; last = refl; two = refl }
