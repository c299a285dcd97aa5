use Rattle.std.proofs.Common.{◌≡◌, ◌<◌, ◌-◌, ◌^◌, length, get_or, ap, refl, ◌∙◌, arith}
use Rattle.smq_route.specs.within.NumberCodes.{code_of, number_of}
use Rattle.smq_route.proofs.NumberCodes.{IsCode-code_of, code_of-below, next-row, number_of-code_of, packed-all, packed-more, past-below}
use Rattle.smq_route.proofs.number_key.pack.Goals as goal

pub loop-octet-init : goal.loop-octet-init
unfolding code_of
loop-octet-init c = record { code = omega arith; span = refl }

pub loop-octet-preserved : goal.loop-octet-preserved
loop-octet-preserved c =
    let octets = c.args.digits.now in
    let i = c.loop-octet.octet-index in
    let most = c.as_slice-octet-items.ensures.digits.in_range in
    let same = c.as_slice-octet-items.ensures.value in
    let within : i < length octets = rw (← same) c.loop-octet-test.true in
    let row = next-row i c.loop-octet.span (omega (arith, most, within)) c.loop-octet.invariant.span in
    record {
      code = packed-more octets c.loop-octet.code i c.loop-octet.invariant.code c.from.result _ most within
          (c.from.ensures ∙ ap (λ ds. get_or ds i 0 - 47) same) row;
      span = row;
    }

pub overflow_add-code : goal.overflow_add-code
overflow_add-code c =
    let all = (loop-octet-preserved c).code in
    omega (arith, all, code_of-below c.args.digits.now c.as_slice-octet-items.ensures.digits)

all : (c : goal.After-loop-octet) → c.loop-octet.code ≡ code_of c.args.digits.now
all c = packed-all c.args.digits.now c.loop-octet.code c.loop-octet.octet-index c.loop-octet.invariant.code
    (rw (← c.as_slice-octet-items.ensures.value) c.loop-octet-test.false)

pub returns-clause-code : goal.returns-clause-code
returns-clause-code c = rw (all c) (IsCode-code_of c.args.digits.now c.as_slice-octet-items.ensures.digits)

pub returns-clause-number : goal.returns-clause-number
returns-clause-number c = ap number_of (all c) ∙ number_of-code_of c.args.digits.now c.as_slice-octet-items.ensures.digits

pub returns-clause-span : goal.returns-clause-span
returns-clause-span c = c.loop-octet.invariant.span ∙ ap (λ l. 11 ^ (15 - l)) (omega (arith, ap length c.as_slice-octet-items.ensures.value))

pub returns-clause-fits : goal.returns-clause-fits
returns-clause-fits c = rw (all c, returns-clause-span c) (past-below c.args.digits.now c.as_slice-octet-items.ensures.digits)
