use Rattle.std.proofs.Common.{refl}
use Rattle.std.specs.Fmt.{digits}
use Rattle.csv.specs.Writing.{escaped, fields_text, is_blank}
use Rattle.smq_report.proofs.laws.known_receipts.Goals as goal

pub returns : goal.returns
unfolding digits fields_text is_blank escaped
returns c = record { none = refl; all = refl; last = refl }
