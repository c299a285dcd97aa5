use Rattle.std.proofs.Common.{◌≡◌, ℕ, ◌<◌, ◌≤◌, ◌+◌, List, [], ◌∷◌, ◌++◌, length, take, sym, ap, subst, ◌∙◌, arith}
use Rattle.std.proofs.lemmas.List.{map_more, take_all}
use Rattle.smq_frame.specs.Frame.{FrameValue}
use Rattle.smq_window.specs.Connection.{homed, octets_of}
use Rattle.smq_window.specs.within.Shown.{Deals}
use Rattle.smq_window.proofs.Deals.{deals-more, deals-none}
use Rattle.smq_window.proofs.connection.deal.Goals as goal

pub loop-frame-init : goal.loop-frame-init
loop-frame-init c pdus kept =
    deals-none pdus c.args.span.oldest c.args.span.present c.args.at.now c.args.periods.now.items c.args.rows.now.items kept

pub loop-frame-preserved : goal.loop-frame-preserved
loop-frame-preserved c pdus kept =
    let i = c.loop-frame.frame-index in
    let low : c.loop-frame.frame-index < length c.args.frames.now = omega arith in
    let front : List (List ℕ) = octets_of (take c.loop-frame.frame-index c.args.frames.now) in
    let whole : octets_of (take (c.loop-frame.frame-index + 1) c.args.frames.now)
    ≡ octets_of (take c.loop-frame.frame-index c.args.frames.now) ++ c.frame-item.result.octets ∷ [] =
    map_more (λ (f : FrameValue). f.octets) c.args.frames.now c.loop-frame.frame-index c.frame-item.result low
    ∙ ap (λ (f : FrameValue). octets_of (take c.loop-frame.frame-index c.args.frames.now) ++ f.octets ∷ []) (sym c.frame-item.is) in
    let d = c.loop-frame.invariant pdus kept in
    subst (λ (os : List (List ℕ)). Deals pdus c.args.span.oldest c.args.span.present c.args.at.now os c.args.periods.now.items
    c.deal_one.new.periods.items c.args.rows.now.items c.deal_one.new.rows.items)
    (sym whole)
    (deals-more pdus c.args.span.oldest c.args.span.present c.args.at.now front (c.frame-item.result.octets ∷ [])
    c.args.periods.now.items c.loop-frame.periods.items c.deal_one.new.periods.items
    c.args.rows.now.items c.loop-frame.rows.items c.deal_one.new.rows.items d
    (c.in_ok-deal_one.ensures (pdus ++ homed pdus c.args.span.oldest c.args.span.present c.args.at.now.sender front) d.kept))

pub returns : goal.returns
returns c pdus kept =
    let all : length c.args.frames.now ≤ c.loop-frame.frame-index = omega arith in
    subst (λ (fs : List FrameValue). Deals pdus c.args.span.oldest c.args.span.present c.args.at.now (octets_of fs) c.args.periods.now.items
    c.loop-frame.periods.items c.args.rows.now.items c.loop-frame.rows.items)
    (take_all c.loop-frame.frame-index c.args.frames.now all) (c.loop-frame.invariant pdus kept)
