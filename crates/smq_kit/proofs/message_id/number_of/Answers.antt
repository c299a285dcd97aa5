use Rattle.std.proofs.Common.{◌≤◌, ◌+◌, ◌*◌, sym, ◌∙◌, arith}
use Rattle.smq_kit.proofs.KeyLemmas.{digit-step, digit-above, digits-end, value_fits}
use Rattle.smq_kit.proofs.message_id.number_of.Goals as goal

pub returns-in_err-value : goal.returns-in_err-value
returns-in_err-value c =
    let some : 1 ≤ c.args.base = grind arith in
    c.from_residual-in_err-value.ensures ∙ sym (digit-above c.args.base c.loop-octet.value c.in_ok-digit.digit c.args.octets.now
    c.loop-octet.octet-index some c.loop-octet-test.true c.in_ok-digit.ensures c.in_err-value.ensures)
    ∙ c.loop-octet.invariant.number

pub loop-octet-preserved : goal.loop-octet-preserved
loop-octet-preserved c = record {
  number = sym (digit-step c.args.base c.loop-octet.value c.in_ok-digit.digit c.args.octets.now c.loop-octet.octet-index
      c.in_ok-value.value c.loop-octet-test.true c.in_ok-digit.ensures c.in_ok-value.ensures) ∙ c.loop-octet.invariant.number;
  fits = value_fits (c.loop-octet.value * c.args.base + c.in_ok-digit.digit) c.in_ok-value.value c.in_ok-value.ensures;
}

pub returns : goal.returns
returns c = sym (digits-end c.args.base c.loop-octet.value c.loop-octet.octet-index c.args.octets.now c.loop-octet-test.false
    c.loop-octet.invariant.fits) ∙ c.loop-octet.invariant.number
