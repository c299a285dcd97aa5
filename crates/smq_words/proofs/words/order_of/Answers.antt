use Rattle.clap.specs.Words.{found_of, rows_of}
use Rattle.smq_words.specs.declared.orders.Order.{Order}
use Rattle.smq_words.proofs.OrderLemmas.{asked_captures, order_asked}
use Rattle.smq_words.proofs.words.order_of.Goals as goal

pub returns : goal.returns
returns c task path window counting dealing captures asks =
    let rows = rows_of (found_of c.args.entered.now) in
    let order : Order = record {
      task = c.task_of-task.result;
      settings = c.in_ok-settings.settings;
      window = c.in_ok-window.window;
      counting = c.in_ok-counting.counting;
      dealing = c.in_ok-dealing.dealing;
      captures = c.in_ok-captures.captures;
    } in
    order_asked c.args.name.now rows task path window counting dealing captures asks order (c.task_of-task.ensures task path window counting dealing captures asks) c.in_ok-settings.ensures c.in_ok-window.ensures
    c.in_ok-counting.ensures c.in_ok-dealing.ensures
    (c.in_ok-captures.ensures captures (asked_captures c.args.name.now rows task path window counting dealing captures asks))
