use Rattle.std.proofs.Common.{◌≡◌, ◌∙◌, true, Some, None, sym, rules, arith}
use Rattle.std.proofs.lemmas.Bool.Decides.{nat_tests}
use Rattle.smq_load.specs.Decimal.{is_decimal, up_to}
use Rattle.smq_load.proofs.DecimalLemmas.{is_decimal-digits, up_to-above, up_to-below}
use Rattle.smq_load.proofs.field.read_decimal.Goals as goal

pub number_of-requires : goal.number_of-requires
number_of-requires c =
    let decimal : is_decimal c.args.text.now ≡ true = search rules in
    is_decimal-digits c.args.text.now decimal

pub returns-in_err-number : goal.returns-in_err-number
returns-in_err-number c =
    let decimal : is_decimal c.args.text.now ≡ true = search rules in
    c.from_residual.ensures ∙ sym (up_to-above c.args.text.now c.args.greatest c.ranges.greatest.fits decimal c.in_err-number.ensures)

pub returns-then-number-greatest : goal.returns-then-number-greatest
returns-then-number-greatest c =
    let decimal : is_decimal c.args.text.now ≡ true = search rules in
    let low : up_to c.args.greatest (Some c.in_ok-number.number) ≡ Some c.in_ok-number.number = grind (arith, nat_tests, c.if-number-greatest.true) in
    sym low ∙ up_to-below c.args.text.now c.args.greatest c.in_ok-number.number decimal c.in_ok-number.ensures

pub returns-else-number-greatest : goal.returns-else-number-greatest
returns-else-number-greatest c =
    let decimal : is_decimal c.args.text.now ≡ true = search rules in
    let high : up_to c.args.greatest (Some c.in_ok-number.number) ≡ None = grind (arith, nat_tests, c.if-number-greatest.false) in
    sym high ∙ up_to-below c.args.text.now c.args.greatest c.in_ok-number.number decimal c.in_ok-number.ensures
