use Rattle.std.proofs.Common.{◌≡◌, ◌++◌, ◌∙◌, ◌∷◌, ℕ, [], List, length, refl, sym, subst, ap, rules, arith}
use Rattle.std.specs.Prelude.{Some}
use Rattle.std.proofs.lemmas.Option.{same_Some}
use Rattle.smq_reassembly.specs.declared.reassembly.Taken.{Taken}
use Rattle.smq_reassembly.specs.Octet.{Octet}
use Rattle.smq_reassembly.specs.declared.sequence.Place.TheVariants.{Ahead}
use Rattle.smq_reassembly.specs.Segment.{IsTooFarAhead, octets_given, piece_of}
use Rattle.smq_reassembly.specs.Sequence.{IsPlace}
use Rattle.smq_reassembly.specs.State.{Follows}
use Rattle.smq_streams.specs.Direction.{Direction, Gives}
use Rattle.smq_streams.proofs.Directions.{has_next, took_lent, unlent}
use Rattle.smq_streams.proofs.stream.Stream.takes_next.Goals as goal

pub returns-clause-takes : goal.returns-clause-takes
returns-clause-takes c pieces start given f place g first stands =
    let d = subst (λ (x : Direction). Gives pieces start given x) (sym c.self.view_is) g in
    let one = subst (λ (x : Direction). x.first ≡ Some f) (sym c.self.view_is) first in
    let same : c.in-Some.first ≡ f = same_Some _ _ (sym c.in-Some.is ∙ one) in
    let there = subst (λ (x : Direction). IsPlace f x.order.next c.args.sequence place) (sym c.self.view_is) stands in
    let at = subst (λ (n : ℕ). IsPlace n c.self.inside.order.next c.args.sequence place) (sym same) there in
    let v : c.self.inside.seeker.octets ≡ c.args.self.now.held.octets = ap (λ (x : Direction). x.held.octets) c.self.view_is in
    let h = c.is_held.ensures.none c.if-is_held.false in
    let none : c.self.inside.seeker.octets ≡ [] = cc in
    let piece = piece_of place c.self.inside.order.next c.args.packet c.args.octets.now in
    let l = took_lent c.in_ok-next.field-0 pieces piece start given c.self.inside.seeker.octets _ (λ far. absurd (let is = c.in-Lends.is in cc)) none
    (c.in_ok-next.ensures.takes pieces start (given ++ c.self.inside.seeker.octets) place at d.follows) in
    rw (c.note_captured.ensures, ← c.self.view_is)
    (record {
      follows = subst (λ (t : Taken). Follows (pieces ++ piece ∷ []) start ((given ++ octets_given t) ++ c.self.inside.seeker.octets) c.take_segment.new.self) c.in-Lends.is l;
      place = λ some. absurd (omega (arith, some, ap (λ (os : List Octet). length os) none));
    })

pub returns-in_default-2-clause-lends : goal.returns-in_default-2-clause-lends
returns-in_default-2-clause-lends c pieces start given f place g first stands =
    let d = subst (λ (x : Direction). Gives pieces start given x) (sym c.self.view_is) g in
    let one = subst (λ (x : Direction). x.first ≡ Some f) (sym c.self.view_is) first in
    let same : c.in-Some.first ≡ f = same_Some _ _ (sym c.in-Some.is ∙ one) in
    let there = subst (λ (x : Direction). IsPlace f x.order.next c.args.sequence place) (sym c.self.view_is) stands in
    let at = subst (λ (n : ℕ). IsPlace n c.self.inside.order.next c.args.sequence place) (sym same) there in
    let piece = piece_of place c.self.inside.order.next c.args.packet c.args.octets.now in (
      λ e. absurd (cc),
      λ is.
          let far = unlent c.in_ok-next.field-0 pieces piece start ((given ++ c.self.inside.seeker.octets) ++ octets_given c.in_ok-next.field-0) c.self.inside.order c.take_segment.new.self
          c.in_default-2.not-Lends (subst (λ (x : Direction). x.order.waiting ≡ []) (sym c.self.view_is) (c.is_held.ensures.closed c.if-is_held.false)) c.in_ok-next.ensures.changes c.in_ok-next.ensures.next
          (c.in_ok-next.ensures.takes pieces start (given ++ c.self.inside.seeker.octets) place at d.follows)
          (has_next place c.self.inside.order.next c.args.packet c.args.octets.now is.next is.some) in
          let near = subst (λ (x : Direction). IsTooFarAhead x.order.next (piece_of place x.order.next c.args.packet c.args.octets.now) → ⊥) (sym c.self.view_is) is.near in
          absurd (near ((c.in_ok-next.ensures.far place at).0 far.0)),
    )

pub returns-in_default-2-clause-none : goal.returns-in_default-2-clause-none
returns-in_default-2-clause-none c pieces start given f place g first stands e =
    let d = subst (λ (x : Direction). Gives pieces start given x) (sym c.self.view_is) g in
    let here : c.place_of.result ≡ Ahead 0 = cc in
    let at = subst (λ (n : ℕ). IsPlace c.in-Some.first n c.args.sequence c.place_of.result) c.next.ensures.value c.place_of.ensures in
    let piece = piece_of c.place_of.result c.self.inside.order.next c.args.packet c.args.octets.now in
    let far = unlent c.in_ok-next.field-0 pieces piece start ((given ++ c.self.inside.seeker.octets) ++ octets_given c.in_ok-next.field-0) c.self.inside.order c.take_segment.new.self
    c.in_default-2.not-Lends (subst (λ (x : Direction). x.order.waiting ≡ []) (sym c.self.view_is) (c.is_held.ensures.closed c.if-is_held.false)) c.in_ok-next.ensures.changes c.in_ok-next.ensures.next
    (c.in_ok-next.ensures.takes pieces start (given ++ c.self.inside.seeker.octets) c.place_of.result at d.follows)
    (has_next c.place_of.result c.self.inside.order.next c.args.packet c.args.octets.now here (let h = c.is_empty.ensures in let k = c.if-is_empty.false in search rules)) in
    rw (far.1, ← c.self.view_is) refl
