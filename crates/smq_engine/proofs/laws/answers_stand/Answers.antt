use Rattle.std.proofs.Common.{[]}
use Rattle.smq_engine.specs.Answers.{answer_to, refusal_to}
use Rattle.smq_engine.specs.declared.record.Record.TheVariants.{Ask}
use Rattle.smq_engine.proofs.AnswerLemmas.{said-more}
use Rattle.smq_engine.proofs.LawLemmas.{said-append}
use Rattle.smq_engine.proofs.laws.answers_stand.Goals as goal

pub returns : goal.returns
returns c = record {
  answered = λ format settings_rows first more. said-append (answer_to format settings_rows) [] first more;
  told = λ settings_rows first more. said-append (refusal_to settings_rows) [] first more;
  last = λ format settings_rows first question. said-more (answer_to format settings_rows) [] first (Ask question);
}
