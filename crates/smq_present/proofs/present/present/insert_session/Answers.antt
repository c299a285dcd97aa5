use Rattle.smq_present.proofs.lemmas.present.NumberMaps.{insert-seen}
use Rattle.smq_present.proofs.present.present.insert_session.Goals as goal

pub returns-in-Ok : goal.returns-in-Ok
returns-in-Ok c = insert-seen c.args.sessions.now.entries c.insert.new.self.entries c.args.number c.args.session c.in-Ok.ensures.updates.0
