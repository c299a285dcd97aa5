use Rattle.smq_window.proofs.Standing.{refused-known, refused-new}
use Rattle.smq_window.proofs.window.Window.refusal.Goals as goal

pub returns-in-Some : goal.returns-in-Some
returns-in-Some c l w is =
    refused-known l w c.args.self.now c.args.at.now c.args.octets.now c.number.result c.in-Some.connection.now c.refusal.result
    c.number.ensures.value c.in-Some.ensures.value is c.refusal.ensures

pub returns-in-None : goal.returns-in-None
returns-in-None c l w is =
    refused-new l w c.args.self.now c.args.at.now c.args.octets.now c.number.result c.new.result c.refusal-in-None.result
    c.number.ensures.value c.in-None.ensures.value is c.new.ensures c.refusal-in-None.ensures
