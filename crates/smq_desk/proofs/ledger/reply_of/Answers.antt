use Rattle.smq_desk.proofs.BookReplies.{made, refused}
use Rattle.smq_desk.proofs.ledger.reply_of.Goals as goal

pub returns-in-Ok : goal.returns-in-Ok
returns-in-Ok c = record {
  some = made (Unit {0}) tt c.args.book.now.present c.apply.new.self.present c.args.edit c.in-Ok.ensures.reply;
  none = tt;
}

pub returns-in-Err : goal.returns-in-Err
returns-in-Err c =
    let told = refused (Unit {0}) c.in-Err.refusal c.args.book.now.present c.apply.new.self.present c.args.edit c.in-Err.ensures.reply c.unless_memory.result c.unless_memory.ensures in
    record { some = told.0; none = told.1 }
