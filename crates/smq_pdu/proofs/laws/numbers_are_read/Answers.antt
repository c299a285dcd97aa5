use Rattle.smq_pdu.proofs.Numbers.{number_found, number_again, no_number, none_again, numbers_unique}
use Rattle.smq_pdu.proofs.laws.numbers_are_read.Goals as goal

pub returns-clause-number : goal.returns-clause-number
returns-clause-number c = λ address number. (number_found address number, number_again address number)

pub returns-clause-none : goal.returns-clause-none
returns-clause-none c = λ address. (no_number address, none_again address)

pub returns-clause-unique : goal.returns-clause-unique
returns-clause-unique c = numbers_unique
