use Rattle.smq_window.proofs.Windows.{out-none}
use Rattle.smq_window.proofs.window.take_out.Goals as goal

pub returns-in-None : goal.returns-in-None
returns-in-None c known oldest present order all =
    out-none c.args.at.now known oldest present c.number.result c.args.connections.now c.remove.new.self c.new.result c.number.ensures.value
    c.in-None.ensures.value c.in-None.ensures.updates.0 all (c.new.ensures oldest present order)
