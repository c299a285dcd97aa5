use Rattle.smq_route.proofs.NumberLemmas.{vacant-none}
use Rattle.smq_route.proofs.numbers.Numbers.undo.Goals as goal

pub returns-clause-vacant : goal.returns-clause-vacant
returns-clause-vacant c = vacant-none c.undo.new.self.places c.undo.new.self.content c.undo.ensures.places
