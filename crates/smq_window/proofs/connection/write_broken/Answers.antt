use Rattle.std.proofs.Common.{◌≡◌, List, Some, false, sym, ap, ◌∙◌}
use Rattle.smq_window.specs.declared.periods.Period.{Period}
use Rattle.smq_window.specs.Connection.{is_written}
use Rattle.smq_window.specs.within.Kept.{numbers}
use Rattle.smq_window.proofs.Deals.{due-broken, writes-some}
use Rattle.smq_window.proofs.connection.write_broken.Goals as goal

pub returns-in_ok-open-in-Some : goal.returns-in_ok-open-in-Some
returns-in_ok-open-in-Some c pdus kept =
    let not_there : is_written c.args.direction.now.written (numbers c.args.periods.now.items) ≡ false =
    sym (c.is_written.ensures ∙ ap (λ (ps : List Period). is_written c.args.direction.now.written (numbers ps)) c.as_slice.ensures.value)
    ∙ c.if-is_written.false in
    writes-some pdus c.args.span.oldest c.args.span.present c.args.at.now c.args.direction.now c.args.periods.now.items
    c.open.new.periods.items c.in_ok-open-in-Some.field-0 c.args.rows.now.items c.push_piece.new.rows.items c.in-Some.octets
    (due-broken c.args.direction.now (numbers c.args.periods.now.items) (Some c.in-Some.octets) not_there c.in-Some.is)
    c.in_ok-push_piece-in-Some.ensures c.in_ok-open-in-Some.ensures kept
