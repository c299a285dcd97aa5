use Rattle.std.proofs.Common.{◌≡◌, ◌∙◌, ◌+◌, ◌<◌, ◌≤◌, ◌^◌, List, length, refl, sym, subst, ap, arith, length-append}
use Rattle.std.proofs.lemmas.Option.{MatchOption-at_some}
use Rattle.smq_reassembly.specs.Octet.{Octet}
use Rattle.smq_streams.specs.Direction.{Direction, Gives}
use Rattle.smq_streams.specs.Search.{Search, octets_given}
use Rattle.smq_streams.proofs.Octets.{length-octets}
use Rattle.smq_streams.proofs.Places.{gives-part, in-order, matched-none}
use Rattle.smq_streams.proofs.stream.Stream.next_part.Goals as goal

pub returns-in-Some-clause-some : goal.returns-in-Some-clause-some
returns-in-Some-clause-some c pieces start given g =
    let d = subst (λ (x : Direction). Gives pieces start given x) (sym c.self.view_is) g in
    let p = MatchOption-at_some _ _ _ c.in-Some.is c.in_ok-given.ensures.ok in
    let part = octets_given c.in-Some.given in
    let size : length part ≡ length c.in-Some.given.octets.items = length-octets _ _ _ in
    let long : length c.self.inside.seeker.octets ≡ length part + length c.next_part.new.self.octets =
    ap (λ (os : List Octet). length os) p.2 ∙ length-append part c.next_part.new.self.octets in
    let some : 0 < length c.self.inside.seeker.octets = omega (arith, p.0, size, long) in
    let most : c.self.inside.order.next ≤ 2 ^ 60 = omega (arith, c.next.ensures.value, c.next.ensures.most) in (
      p.1 ∙ d.place some,
      gives-part pieces start given part (length c.in-Some.given.octets.items) _ _ refl p.2 (sym size) p.3 most d,
    )

pub returns-in-None-clause-some : goal.returns-in-None-clause-some
returns-in-None-clause-some c pieces start given g =
    let d = subst (λ (x : Direction). Gives pieces start given x) (sym c.self.view_is) g in
    let n = matched-none _ _ _ c.in-None.is c.in_ok-given.ensures.ok in
    let e = subst (λ (s : Search). Gives pieces start given (record { first = c.self.inside.first; order = c.self.inside.order; extent = c.self.inside.extent; held = s; opened = c.self.inside.opened; notes = c.self.inside.acknowledged; is_searching = c.self.inside.is_searching; is_behind_gap = c.self.inside.is_behind_gap; is_stopped = c.self.inside.is_stopped })) (sym n.1) d in
    in-order pieces start given _ c.next_in_order.new.self c.next_in_order.result (ap (λ (s : Search). s.octets) n.1 ∙ n.0) c.next_in_order.ensures.same.0 e
    c.next_in_order.ensures.place (c.next_in_order.ensures.some pieces start given e)

pub returns-in-Some-clause-fewer : goal.returns-in-Some-clause-fewer
returns-in-Some-clause-fewer c =
    let p = MatchOption-at_some _ _ _ c.in-Some.is c.in_ok-given.ensures.ok in
    let part = octets_given c.in-Some.given in
    let size : length part ≡ length c.in-Some.given.octets.items = length-octets _ _ _ in
    let long : length c.self.inside.seeker.octets ≡ length part + length c.next_part.new.self.octets =
    ap (λ (os : List Octet). length os) p.2 ∙ length-append part c.next_part.new.self.octets in
    rw (← c.self.view_is) (omega (arith, p.0, size, long))
