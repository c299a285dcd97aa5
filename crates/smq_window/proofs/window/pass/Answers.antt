use Rattle.std.proofs.Common.{List, ◌∷◌, sym, subst}
use Rattle.smq_window.specs.declared.made.Made.{Made}
use Rattle.smq_window.specs.within.Standing.{IsFrom, Passes}
use Rattle.smq_window.proofs.Windows.{passes-all, passes-more}
use Rattle.smq_window.proofs.window.pass.Goals as goal

pub loop-first-preserved : goal.loop-first-preserved
loop-first-preserved c known present all =
    let p : Passes known c.args.oldest present c.args.made.now.items c.args.rows.now.items c.loop-first.connections
    (c.in-Some.first ∷ c.pop_older.new.made.items) c.loop-first.rows.items =
    subst (λ (ms : List Made). Passes known c.args.oldest present c.args.made.now.items c.args.rows.now.items c.loop-first.connections ms c.loop-first.rows.items)
    c.in-Some.ensures.some.1 (c.loop-first.invariant known present all) in
    let w = c.in_ok-withdraw_one.ensures p.now present p.shown in
    passes-more known c.args.oldest present c.args.made.now.items c.pop_older.new.made.items c.args.rows.now.items c.loop-first.rows.items
    c.withdraw_one.new.rows.items c.in-Some.first c.loop-first.connections c.withdraw_one.new.connections c.in-Some.ensures.some.0 p w.0 w.1

pub returns : goal.returns
returns c known present all =
    passes-all known c.args.oldest present c.args.made.now.items c.pop_older.new.made.items c.args.rows.now.items c.loop-first.rows.items
    c.loop-first.connections
    (subst (λ (ms : List Made). IsFrom c.args.oldest ms) (sym c.in_default.ensures.none.1) c.in_default.ensures.none.0)
    (subst (λ (ms : List Made). Passes known c.args.oldest present c.args.made.now.items c.args.rows.now.items c.loop-first.connections ms
    c.loop-first.rows.items) (sym c.in_default.ensures.none.1) (c.loop-first.invariant known present all))
