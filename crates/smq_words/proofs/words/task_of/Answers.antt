use Rattle.std.proofs.Common.{◌∙◌}
use Rattle.clap.specs.Words.{found_of, rows_of}
use Rattle.smq_words.proofs.OrderLemmas.{asked_task}
use Rattle.smq_words.proofs.words.task_of.Goals as goal

pub returns : goal.returns
returns c task path window counting dealing captures asks =
    c.task_named.ensures
    ∙ asked_task c.args.name.now (rows_of (found_of c.args.entered.now)) c.query_in.result c.is_given-of_periods.result c.query_in.ensures.pick
    c.query_in.ensures.format c.is_given-of_periods.ensures
    task path window counting dealing captures asks
