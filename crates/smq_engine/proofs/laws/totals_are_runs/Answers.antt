use Rattle.smq_engine.proofs.TotalLemmas.{bad-no_row, no_row-bad, run-total, total-run}
use Rattle.smq_engine.proofs.laws.totals_are_runs.Goals as goal

pub returns : goal.returns
returns c = record { run = run-total; total = total-run; no_row = bad-no_row; first_bad = no_row-bad }
