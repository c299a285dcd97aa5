use Rattle.std.proofs.Common.{◌∙◌, sym}
use Rattle.smq_pdu.proofs.Parameters.{tlv-shorter, first_value-here, first_value-other, first_value-none}
use Rattle.smq_pdu.proofs.fields.first_value.Goals as goal

pub returns-then-tlv-tag : goal.returns-then-tlv-tag
returns-then-tlv-tag c = sym (first_value-here _ _ _ _ (sym c.in-Some.ensures) c.if-tlv-tag.true) ∙ c.loop-tlv.invariant

pub loop-tlv-smaller : goal.loop-tlv-smaller
loop-tlv-smaller c = tlv-shorter _ _ _ (sym c.in-Some.ensures)

pub loop-tlv-preserved : goal.loop-tlv-preserved
loop-tlv-preserved c = sym (first_value-other _ _ _ _ (sym c.in-Some.ensures) c.if-tlv-tag.false) ∙ c.loop-tlv.invariant

pub returns : goal.returns
returns c = sym (first_value-none _ _ (sym c.in_default.ensures)) ∙ c.loop-tlv.invariant
