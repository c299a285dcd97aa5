use Rattle.std.proofs.Common.{Option, Some, None, cond, sym, ap, ◌∙◌}
use Rattle.std.specs.BTreeMap.{get}
use Rattle.std.specs.Ordering.{is_eq, nat_cmp}
use Rattle.smq_window.specs.declared.connection.Connection.{Connection}
use Rattle.smq_window.proofs.Windows.{set-twice, withdraw-some}
use Rattle.smq_window.proofs.window.withdraw_one.Goals as goal

pub returns-in_ok-insert-in-Some-2 : goal.returns-in_ok-insert-in-Some-2
returns-in_ok-insert-in-Some-2 c known present all =
    withdraw-some c.args.made.now known c.args.oldest present c.number-number.result c.args.connections.now c.insert.new.self
    c.args.rows.now.items c.left_behind.new.rows.items c.in-Some.connection c.in_ok-connection.field-0 c.number-number.ensures.value
    c.in-Some.ensures.value
    (λ q. set-twice c.number-number.result (Some c.in-Some-2.connection) None c.args.connections.now c.remove.new.self c.insert.new.self
    c.in-Some.ensures.updates.0 c.in_ok-insert-in-Some-2.ensures.updates.0 q
    ∙ ap (λ (v : Option Connection). cond (is_eq (nat_cmp c.number-number.result q)) v (get nat_cmp c.args.connections.now q)) (sym c.in-Some-2.is))
    all (λ d shows. c.in_ok-connection.ensures d c.args.oldest present c.requires shows)

pub returns-in-None : goal.returns-in-None
returns-in-None c known present all =
    withdraw-some c.args.made.now known c.args.oldest present c.number-number.result c.args.connections.now c.remove.new.self
    c.args.rows.now.items c.left_behind.new.rows.items c.in-Some.connection c.in_ok-connection.field-0 c.number-number.ensures.value
    c.in-Some.ensures.value
    (λ q. c.in-Some.ensures.updates.0 q
    ∙ ap (λ (v : Option Connection). cond (is_eq (nat_cmp c.number-number.result q)) v (get nat_cmp c.args.connections.now q)) (sym c.in-None.is))
    all (λ d shows. c.in_ok-connection.ensures d c.args.oldest present c.requires shows)
