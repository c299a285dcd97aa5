use Rattle.smq_present.proofs.lemmas.present.Changes.{leaves_no_trace, as_never_there, appended_again}
use Rattle.smq_present.proofs.laws.present.withdrawals_leave_no_trace.Goals as goal

pub returns-clause-trace : goal.returns-clause-trace
returns-clause-trace c = leaves_no_trace

pub returns-clause-again : goal.returns-clause-again
returns-clause-again c = appended_again

pub returns-clause-never_there : goal.returns-clause-never_there
returns-clause-never_there c = as_never_there
