use Rattle.std.proofs.Common.{◌+◌, ◌-◌, ◌*◌, sym, ◌∙◌}
use Rattle.std.specs.Prelude.{slice_index}
use Rattle.smq_load.proofs.DecimalLemmas.{digit-at, digit-step, digit-above, digits-end, is_below}
use Rattle.smq_load.proofs.field.number_of.Goals as goal

pub with_digit-requires : goal.with_digit-requires
with_digit-requires c = digit-at c.args.digits.now c.loop-digit.digit-index c.requires c.loop-digit-test.true

pub returns-in_err-number : goal.returns-in_err-number
returns-in_err-number c =
    c.from_residual.ensures
    ∙ sym (digit-above c.loop-digit.number c.args.digits.now c.loop-digit.digit-index c.loop-digit-test.true c.in_err-number.ensures)
    ∙ c.loop-digit.invariant.number

pub loop-digit-preserved : goal.loop-digit-preserved
loop-digit-preserved c = record {
  number = sym (digit-step c.loop-digit.number c.args.digits.now c.loop-digit.digit-index c.in_ok-number.number c.loop-digit-test.true
      c.in_ok-number.ensures) ∙ c.loop-digit.invariant.number;
  fits = is_below (c.loop-digit.number * 10 + (slice_index c.args.digits.now c.loop-digit.digit-index - 48)) c.in_ok-number.number
      c.in_ok-number.ensures;
}

pub returns : goal.returns
returns c = sym (digits-end c.loop-digit.number c.loop-digit.digit-index c.args.digits.now c.loop-digit-test.false
    c.loop-digit.invariant.fits) ∙ c.loop-digit.invariant.number
