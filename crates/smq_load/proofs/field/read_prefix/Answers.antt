use Rattle.std.proofs.Common.{◌∙◌}
use Rattle.smq_load.proofs.FieldLemmas.{digits_of-parsed}
use Rattle.smq_load.proofs.field.read_prefix.Goals as goal

pub returns : goal.returns
returns c =
    let parsed = digits_of-parsed 1 15 c.args.field.now c.parse.result
    (λ h. record { low = h.not_empty; high = h.in_range; digits = h.digits })
    (λ h. record { not_empty = h.low; in_range = h.high; digits = h.digits }) c.parse.ensures.in_range c.parse.ensures.value in
    c.ok.ensures.value ∙ parsed
