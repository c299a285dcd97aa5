use Rattle.std.proofs.Common.{◌≡◌, List, [], ◌∷◌, ◌++◌, true, false, sym, ap, ◌∙◌, append-nil}
use Rattle.smq_kit.specs.declared.names.SessionId.{SessionId}
use Rattle.smq_window.specs.declared.row.Row.{Row}
use Rattle.smq_window.specs.declared.row.Row.TheVariants.{Withdraw}
use Rattle.smq_window.specs.Window.{is_first, is_over, without_first}
use Rattle.smq_window.proofs.Windows.{left-all, left-none, left-some, row-first, row-other}
use Rattle.smq_window.proofs.window.left_behind.Goals as goal

pub returns-then-not-forget : goal.returns-then-not-forget
returns-then-not-forget c d oldest present older shows =
    let other : is_first c.args.made.now.period d.periods ≡ false =
    sym (c.forget.ensures.test d oldest present shows) ∙ c.if-not-forget.true in (
      left-all c.args.made.now d oldest present c.forget.new.self other (c.if-not-forget.ensures.shown d oldest present older shows),
      sym (append-nil c.args.rows.now.items) ∙ ap (λ (x : List Row). c.args.rows.now.items ++ x) (sym (row-other c.args.made.now d other)),
    )

pub returns-then-is_over : goal.returns-then-is_over
returns-then-is_over c d oldest present older shows =
    let first : is_first c.args.made.now.period d.periods ≡ true =
    sym (c.forget.ensures.test d oldest present shows) ∙ c.if-not-forget.false in
    let left = c.if-not-forget.ensures.shown d oldest present older shows in
    let over : is_over (without_first d) ≡ true = sym (c.is_over.ensures (without_first d) oldest present left) ∙ c.if-is_over.true in (
      left-none c.args.made.now d oldest present first over,
      c.in_ok-push.ensures.items ∙ ap (λ (s : SessionId). c.args.rows.now.items ++ Withdraw s ∷ []) c.of_period.ensures
          ∙ ap (λ (x : List Row). c.args.rows.now.items ++ x) (sym (row-first c.args.made.now d first)),
    )

pub returns : goal.returns
returns c d oldest present older shows =
    let first : is_first c.args.made.now.period d.periods ≡ true =
    sym (c.forget.ensures.test d oldest present shows) ∙ c.if-not-forget.false in
    let left = c.if-not-forget.ensures.shown d oldest present older shows in
    let over : is_over (without_first d) ≡ false = sym (c.is_over.ensures (without_first d) oldest present left) ∙ c.if-is_over.false in (
      left-some c.args.made.now d oldest present c.forget.new.self first over left,
      c.in_ok-push.ensures.items ∙ ap (λ (s : SessionId). c.args.rows.now.items ++ Withdraw s ∷ []) c.of_period.ensures
          ∙ ap (λ (x : List Row). c.args.rows.now.items ++ x) (sym (row-first c.args.made.now d first)),
    )
