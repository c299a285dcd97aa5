use Rattle.smq_count.proofs.MonthLemmas.{date_written}
use Rattle.smq_count.proofs.laws.days_are_written_by_their_dates.Goals as goal

pub returns : goal.returns
returns c = date_written
