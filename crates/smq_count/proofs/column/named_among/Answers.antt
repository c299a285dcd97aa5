use Rattle.std.proofs.Common.{◌≡◌, ◌++◌, true, false, ℕ, List, get_or, ap, sym, ◌∙◌}
use lib.Dec.{eqb}
use lib.Pointwise.{pointwise}
use Rattle.smq_tally.specs.declared.view.View.TheVariants.{Link}
use Rattle.smq_count.specs.declared.column.Column.TheVariants.{View}
use Rattle.smq_count.specs.Columns.{column_name, is_named}
use Rattle.smq_count.proofs.Named.{find-first, find-next}
use Rattle.smq_count.proofs.column.named_among.Goals as goal

pub returns-then-eq-clause-value : goal.returns-then-eq-clause-value
returns-then-eq-clause-value c =
    let column = get_or c.args.columns.now c.loop-column.column-index (View Link) in
    let octets : c.as_bytes.result.now ≡ column_name column =
    c.as_bytes.ensures.value ∙ c.in_ok-push_name.ensures ∙ ap (λ (before : List ℕ). before ++ column_name column) c.clear.ensures.bytes in
    let passes : is_named c.args.name.now column ≡ true = (λ i. pointwise eqb (sym octets i) c.args.name.now) ∙ sym c.if-eq.ensures in
    sym (c.loop-column.invariant ∙ find-first (is_named c.args.name.now) c.args.columns.now c.loop-column.column-index (View Link) c.loop-column-test.true passes)

pub loop-column-preserved : goal.loop-column-preserved
loop-column-preserved c =
    let column = get_or c.args.columns.now c.loop-column.column-index (View Link) in
    let octets : c.as_bytes.result.now ≡ column_name column =
    c.as_bytes.ensures.value ∙ c.in_ok-push_name.ensures ∙ ap (λ (before : List ℕ). before ++ column_name column) c.clear.ensures.bytes in
    let passes : is_named c.args.name.now column ≡ false = (λ i. pointwise eqb (sym octets i) c.args.name.now) ∙ sym c.if-eq.ensures in
    c.loop-column.invariant ∙ find-next (is_named c.args.name.now) c.args.columns.now c.loop-column.column-index (View Link) c.loop-column-test.true passes
