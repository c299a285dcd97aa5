use Rattle.smq_receipt.proofs.Calendar.{calendar}
use Rattle.smq_receipt.proofs.laws.dates_are_of_the_calendar.Goals as goal

pub returns : goal.returns
returns c = calendar
