use Rattle.std.proofs.Common.{◌∙◌}
use Rattle.smq_load.proofs.FieldLemmas.{digits_of-parsed}
use Rattle.smq_load.proofs.field.read_network.Goals as goal

pub returns : goal.returns
returns c =
    let parsed = digits_of-parsed 5 6 c.args.field.now c.parse.result
    (λ h. record { low = h.low; high = h.high; digits = h.digits })
    (λ h. record { low = h.low; high = h.high; digits = h.digits }) c.parse.ensures.in_range c.parse.ensures.value in
    c.ok.ensures.value ∙ parsed
