use Rattle.std.proofs.Common.{refl}
use Rattle.std.specs.Fmt.{digits}
use Rattle.csv.specs.Writing.{escaped, fields_text, is_blank}
use Rattle.smq_report.proofs.laws.known_quotes.Goals as goal

pub returns : goal.returns
unfolding digits fields_text is_blank escaped
returns c = record { plain = refl; empty = refl; comma = refl; quote = refl; line_feed = refl; carriage_return = refl; other = refl }
