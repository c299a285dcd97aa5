use Rattle.std.proofs.Common.{refl}
use Rattle.std.specs.Fmt.{digits}
use Rattle.smq_engine.proofs.KnownEndings.{endings}
use Rattle.smq_engine.proofs.laws.known_answers.Goals as goal

pub returns-clause-answers : goal.returns-clause-answers
unfolding digits
returns-clause-answers c = record {
  each = λ say a b c. refl;
  of_view = refl;
  of_report = refl;
  of_count = refl;
  played = refl;
  first = refl;
  last = refl;
  totals = refl;
  told = refl;
}

pub returns-clause-endings : goal.returns-clause-endings
returns-clause-endings c = endings
