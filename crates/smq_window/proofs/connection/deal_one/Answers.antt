use Rattle.std.proofs.Common.{◌≡◌, ℕ, List, [], ◌∷◌, ◌++◌, Option, sym, ap, ◌∙◌}
use Rattle.smq_frame.specs.Frame.{FrameValue}
use Rattle.smq_window.specs.declared.exchange.Exchange.{Exchange}
use Rattle.smq_window.specs.Connection.{piece_row}
use Rattle.smq_window.specs.Exchange.{exchange_of}
use Rattle.smq_window.specs.Homes.{home_of}
use Rattle.smq_window.proofs.Deals.{deals-one}
use Rattle.smq_window.proofs.Results.{on-from}
use Rattle.smq_window.proofs.connection.deal_one.Goals as goal

pub returns : goal.returns
returns c =
    let view : c.frame.inside.octets ≡ c.args.frame.now.octets = ap (λ (f : FrameValue). f.octets) c.frame.view_is in
    let is : exchange_of c.args.at.now.sender c.args.frame.now.octets ≡ c.exchange_of-exchange.result =
    sym (c.exchange_of-exchange.ensures ∙ ap (λ (o : List ℕ). exchange_of c.args.at.now.sender o) (c.as_slice.ensures ∙ view)) in
    on-from _ _ c.push_piece.result c.push_piece.ensures (λ pushed pdus kept.
    let put = c.in_ok-home.ensures pdus c.args.at.now.sender c.args.frame.now.octets is kept in
    deals-one pdus c.args.span.oldest c.args.span.present c.args.at.now c.args.frame.now.octets c.args.periods.now.items
    c.put.new.periods.items c.args.rows.now.items c.push_piece.new.rows.items c.in_ok-home.home
    (put.0 ∙ ap (λ (x : Option Exchange). home_of pdus c.args.span.oldest c.args.span.present x) (sym is)) put.1 put.2
    (pushed ∙ ap (λ (o : List ℕ). c.args.rows.now.items ++ piece_row c.args.at.now c.in_ok-home.home o ∷ []) view))
