use Rattle.std.proofs.Common.{sym, ◌∙◌}
use Rattle.smq_tally.specs.Rows.{count_key}
use Rattle.smq_tally.specs.Tables.{tables_of}
use Rattle.smq_tally.proofs.Shown.{shown-iff}
use Rattle.smq_tally.proofs.Tallies.{has-tables, count-tables, number-bound}
use Rattle.smq_tally.proofs.laws.counts_are_numbers.Goals as goal

pub returns-clause-number : goal.returns-clause-number
returns-clause-number c = λ facts notes view value outcome. count-tables facts notes (count_key view value outcome)

pub returns-clause-bound : goal.returns-clause-bound
returns-clause-bound c = λ facts notes view value outcome. number-bound facts notes (count_key view value outcome)

pub returns-clause-stands : goal.returns-clause-stands
returns-clause-stands c = λ facts notes view value outcome. let h = has-tables facts notes in h.at (count_key view value outcome)

pub returns-clause-shown : goal.returns-clause-shown
returns-clause-shown c = λ facts notes view value outcome n.
    let stands = (has-tables facts notes).at (count_key view value outcome) in
    let shown = shown-iff (tables_of facts notes) view value outcome n in
    (λ h. sym stands ∙ shown.0 h, λ h. shown.1 (stands ∙ h))
