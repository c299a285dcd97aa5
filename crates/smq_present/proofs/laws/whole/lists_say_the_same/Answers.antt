use Rattle.smq_present.proofs.lemmas.whole.AgreePresent.{facts-are, receipts-listed, tables-are}
use Rattle.smq_present.proofs.laws.whole.lists_say_the_same.Goals as goal

pub returns-clause-facts : goal.returns-clause-facts
returns-clause-facts c = λ p. facts-are p

pub returns-clause-receipts : goal.returns-clause-receipts
returns-clause-receipts c = λ p. receipts-listed p

pub returns-clause-tables : goal.returns-clause-tables
returns-clause-tables c = λ p. tables-are p
