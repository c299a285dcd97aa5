use Rattle.std.proofs.Common.{rules, arith}
use Rattle.smq_add.proofs.NumberLemmas.{decimals_agree}
use Rattle.smq_add.proofs.text.number_of_32_bits.Goals as goal

pub returns-else-number-clause-none : goal.returns-else-number-clause-none
returns-else-number-clause-none c number low is =
    let same = decimals_agree c.args.text.now c.in_ok-number.number number (search rules) (omega (arith, low)) c.in_ok-number.ensures.found is in
    omega (arith, same, c.if-number.false, low)
