use Rattle.smq_route.proofs.NumberLemmas.{vacant-none}
use Rattle.smq_route.proofs.numbers.Numbers.settle.Goals as goal

pub returns-clause-vacant : goal.returns-clause-vacant
returns-clause-vacant c = vacant-none c.settle.new.self.places c.settle.new.self.content c.settle.ensures.places
