use Rattle.std.proofs.Common.{◌∙◌, ap}
use Rattle.smq_scratch.specs.Lines.{message_lines}
use Rattle.smq_engine.specs.Answers.{columns_text}
use Rattle.smq_engine.proofs.AnswerLemmas.{counts-all}
use Rattle.smq_engine.proofs.answer.counts_of.Goals as goal

pub returns-clause-ok : goal.returns-clause-ok
returns-clause-ok c =
    c.in_ok-text.ensures.ok
    ∙ counts-all c.in_ok-counting.counting c.args.columns.now (message_lines c.present.result.now) c.in_ok-counting.ensures.columns c.in_ok-counting.ensures.all c.in_ok-counting.ensures.utc
    ∙ ap (λ p. columns_text c.args.columns.now (message_lines p)) c.present.ensures
