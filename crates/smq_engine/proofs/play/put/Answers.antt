use Rattle.smq_present.specs.declared.present.edit.Edit.TheVariants.{Append}
use Rattle.smq_engine.proofs.PlayLemmas.{made_edit, refused_edit}
use Rattle.smq_engine.proofs.play.put.Goals as goal

pub returns-in-Ok : goal.returns-in-Ok
returns-in-Ok g c =
    let present = g.B.PlayedBook.present in
    made_edit (Unit {0}) tt (present c.args.book.now) (present c.append.new.self) (Append c.args.batch) c.in-Ok.ensures

pub returns-in-Err : goal.returns-in-Err
returns-in-Err g c =
    let present = g.B.PlayedBook.present in
    refused_edit (Unit {0}) c.in-Err.refusal (present c.args.book.now) (present c.append.new.self) (Append c.args.batch)
    c.unless_memory.result c.in-Err.ensures c.unless_memory.ensures
