use Rattle.std.proofs.Common.{◌≡◌, List, [], ℕ, length}
use Rattle.smq_load.specs.NextRecord.{HasRead}
use Rattle.smq_load.proofs.script.read_rows.Given as goal

-- of each text that the reader was at the begin of, it has given the records of the rows so far, one in each turn
abbrev pub invariant-loop : goal.invariant-loop
invariant-loop g l =
    let remaining = g.R.Read.remaining in
    record {
      read : (text : List ℕ) → HasRead remaining l.initial.reader text [] → HasRead remaining l.reader text l.rows.items;
      counted : length l.rows.items ≡ l.counter;
    }
