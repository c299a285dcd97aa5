use Rattle.std.proofs.Common.{◌≡◌, ◌+◌, ◌≤◌, ◌==◌, ℕ, List, Some, arith, ap, sym, ◌∙◌, take, length}
use Rattle.std.specs.List.{before_first}
use Rattle.std.proofs.lemmas.List.{take_rest}
use Rattle.smq_receipt.specs.Places.{least_below}
use Rattle.smq_receipt.specs.Texts.{labels_at, value_at}
use Rattle.smq_receipt.proofs.Offsets.{offset-within, value_here}
use Rattle.smq_receipt.proofs.text.value_at.Goals as goal

pub overflow_add-from : goal.overflow_add-from
overflow_add-from c =
    let is : Some c.in_ok-from.field-0 ≡ least_below (labels_at c.args.label.now c.args.text.now) (c.args.end + 1) = sym c.in_ok-from.was ∙ c.requires.offset in
    let low : c.in_ok-from.field-0 ≤ c.args.end = offset-within c.args.label.now c.args.text.now c.args.end c.in_ok-from.field-0 is in
    omega (arith, low, c.requires.within)

pub returns : goal.returns
unfolding value_at
returns c =
    let is : Some c.in_ok-from.field-0 ≡ least_below (labels_at c.args.label.now c.args.text.now) (c.args.end + 1) = sym c.in_ok-from.was ∙ c.requires.offset in
    let header : List ℕ = take c.args.end c.args.text.now in
    let rest = take_rest header (c.in_ok-from.field-0 + length c.args.label.now) in
    ap Some (c.up_to.ensures ∙ ap (before_first (λ octet. octet == 32)) rest) ∙ sym (value_here c.args.label.now c.args.text.now c.args.end c.in_ok-from.field-0 c.requires.some c.requires.within is (omega arith))
