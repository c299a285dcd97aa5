use Rattle.std.proofs.Common.{◌∙◌, sym, subst}
use Rattle.std.specs.Str.{IsAscii}
use Rattle.std.proofs.lemmas.Fmt.{IsAscii-decimal, parse-decimal}
use Rattle.std.proofs.lemmas.Str.{IsUtf8-from_ascii}
use Rattle.smq_add.proofs.NumberLemmas.{decimal_begins, parsed_is_decimal}
use Rattle.smq_add.proofs.text.number_of.Goals as goal

pub returns-then-not-begins_as_number-clause-none : goal.returns-then-not-begins_as_number-clause-none
returns-then-not-begins_as_number-clause-none c number low is =
    decimal_begins c.args.text.now number low is (sym c.begins_as_number.ensures ∙ c.if-not-begins_as_number.true)

pub returns-in_default-clause-none : goal.returns-in_default-clause-none
returns-in_default-clause-none c number low is =
    c.in_default.ensures.cases.0 (IsUtf8-from_ascii c.args.text.now (subst IsAscii (sym is) (IsAscii-decimal number low)))

pub returns-in_default-parse-clause-none : goal.returns-in_default-parse-clause-none
returns-in_default-parse-clause-none c number low is =
    let parsed = parse-decimal 64 number c.args.text.now c.parse.result low low is (rw c.in-Ok.ensures.cases.0 at c.parse.ensures.value.0) in
    let failed = c.in_default-parse.is in
    cc

pub returns-clause-found : goal.returns-clause-found
returns-clause-found c =
    parsed_is_decimal c.args.text.now c.in-Ok-parse.number (sym c.begins_as_number.ensures ∙ c.if-not-begins_as_number.false) (rw c.in-Ok-parse.is at (rw c.in-Ok.ensures.cases.0 at c.parse.ensures.value.0))
