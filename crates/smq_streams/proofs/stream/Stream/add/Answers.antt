use Rattle.std.proofs.Common.{◌≡◌, ◌++◌, ◌∙◌, ◌<◌, ℕ, length, refl, sym, subst, ap, append-nil}
use Rattle.std.specs.Prelude.{Some}
use Rattle.std.proofs.lemmas.Option.{same_Some}
use Rattle.smq_reassembly.specs.declared.reassembly.Taken.{Taken}
use Rattle.smq_reassembly.specs.declared.reassembly.Taken.TheVariants.{TooFarAhead}
use Rattle.smq_reassembly.specs.Segment.{octets_given, piece_of}
use Rattle.smq_reassembly.specs.Sequence.{IsPlace}
use Rattle.smq_streams.specs.Direction.{Direction, Gives}
use Rattle.smq_streams.specs.Search.{Search}
use Rattle.smq_streams.proofs.Directions.{took}
use Rattle.smq_streams.proofs.Places.{ends, place-more}
use Rattle.smq_streams.proofs.stream.Stream.add.Goals.{in-Lends+in_ok-hold-in-Lends, in-Waits}
use Rattle.smq_streams.proofs.stream.Stream.add.Goals as goal

pub returns-in-Repeats-clause-adds : goal.returns-in-Repeats-clause-adds
returns-in-Repeats-clause-adds c pieces start given f place g first stopped some stands =
    let d = subst (λ (x : Direction). Gives pieces start given x) (sym c.self.view_is) g in
    let one = subst (λ (x : Direction). x.first ≡ Some f) (sym c.self.view_is) first in
    let same : c.in-Some.first ≡ f = same_Some _ _ (sym c.in-Some.is ∙ one) in
    let there = subst (λ (x : Direction). IsPlace f x.order.next c.args.sequence place) (sym c.self.view_is) stands in
    let at = subst (λ (n : ℕ). IsPlace n c.self.inside.order.next c.args.sequence place) (sym same) there in
    let piece = piece_of place c.self.inside.order.next c.args.packet c.args.octets.now in
    let near : c.in_ok-next.field-0 ≡ TooFarAhead → ⊥ = λ far. absurd (let is = c.in-Repeats.is in cc) in
    let none : c.self.inside.seeker.octets ≡ c.self.inside.seeker.octets ++ octets_given c.in_ok-next.field-0 =
    sym (append-nil c.self.inside.seeker.octets) ∙ ap (λ (t : Taken). c.self.inside.seeker.octets ++ octets_given t) (sym c.in-Repeats.is) in
    rw (← c.self.view_is) (
      λ far. near ((c.in_ok-next.ensures.far place at).1 far),
      record {
        follows = took c.in_ok-next.field-0 pieces piece start given c.self.inside.seeker.octets c.self.inside.seeker.octets _ _ near none refl
            (c.in_ok-next.ensures.takes pieces start (given ++ c.self.inside.seeker.octets) place at d.follows);
        place = d.place;
      },
    )

pub returns-clause-adds : goal.returns-clause-adds
returns-clause-adds c pieces start given f place g first stopped some stands =
    let d = subst (λ (x : Direction). Gives pieces start given x) (sym c.self.view_is) g in
    let one = subst (λ (x : Direction). x.first ≡ Some f) (sym c.self.view_is) first in
    let same : c.in-Some.first ≡ f = same_Some _ _ (sym c.in-Some.is ∙ one) in
    let there = subst (λ (x : Direction). IsPlace f x.order.next c.args.sequence place) (sym c.self.view_is) stands in
    let at = subst (λ (n : ℕ). IsPlace n c.self.inside.order.next c.args.sequence place) (sym same) there in
    let piece = piece_of place c.self.inside.order.next c.args.packet c.args.octets.now in
    let all = c.note_captured.ensures in
    elim c.match-branch-2.branch [
      | in-Lends+in_ok-hold-in-Lends w ↦
          let near : c.in_ok-next.field-0 ≡ TooFarAhead → ⊥ = λ far. absurd (let is = w.in-Lends.is in cc) in
          let order : c.note_captured.new.self.order ≡ c.take_segment.new.self = ap (λ (x : Direction). x.order) all ∙ ap (λ (x : Direction). x.order) w.self-is ∙ w.in_ok-hold-in-Lends.ensures.ok.0 in
          let held : c.note_captured.new.self.held.octets ≡ c.self.inside.seeker.octets ++ octets_given c.in_ok-next.field-0 =
          ap (λ (x : Direction). x.held.octets) all ∙ ap (λ (x : Direction). x.held.octets) w.self-is ∙ w.in_ok-hold-in-Lends.ensures.ok.1
          ∙ ap (λ (t : Taken). c.self.inside.seeker.octets ++ octets_given t) (sym w.in-Lends.is) in
          rw (← c.self.view_is) (
            λ far. near ((c.in_ok-next.ensures.far place at).1 far),
            record {
              follows = took c.in_ok-next.field-0 pieces piece start given c.self.inside.seeker.octets c.note_captured.new.self.held.octets _ _ near held order
                  (c.in_ok-next.ensures.takes pieces start (given ++ c.self.inside.seeker.octets) place at d.follows);
              place = λ any.
                  ap (λ (x : Direction). x.held.place) all ∙ ap (λ (x : Direction). x.held.place) w.self-is ∙ w.in_ok-hold-in-Lends.ensures.ok.2
                  ∙ place-more start given c.self.inside.seeker.octets c.self.inside.seeker.place c.next-place.result d.place
                  (ends pieces start (given ++ c.self.inside.seeker.octets) c.self.inside.order d.follows ∙ sym c.next-place.ensures.value);
            },
          )
      | in-Waits w ↦
          let near : c.in_ok-next.field-0 ≡ TooFarAhead → ⊥ = λ far. absurd (let is = w.in-Waits.is in cc) in
          let order : c.note_captured.new.self.order ≡ c.take_segment.new.self = ap (λ (x : Direction). x.order) all ∙ ap (λ (x : Direction). x.order) w.self-is in
          let held : c.note_captured.new.self.held.octets ≡ c.self.inside.seeker.octets ++ octets_given c.in_ok-next.field-0 =
          ap (λ (x : Direction). x.held.octets) all ∙ ap (λ (x : Direction). x.held.octets) w.self-is ∙ sym (append-nil c.self.inside.seeker.octets)
          ∙ ap (λ (t : Taken). c.self.inside.seeker.octets ++ octets_given t) (sym w.in-Waits.is) in
          rw (← c.self.view_is) (
            λ far. near ((c.in_ok-next.ensures.far place at).1 far),
            record {
              follows = took c.in_ok-next.field-0 pieces piece start given c.self.inside.seeker.octets c.note_captured.new.self.held.octets _ _ near held order
                  (c.in_ok-next.ensures.takes pieces start (given ++ c.self.inside.seeker.octets) place at d.follows);
              place = λ any.
                  let one = ap (λ (x : Direction). x.held) all ∙ ap (λ (x : Direction). x.held) w.self-is in
                  ap (λ (s : Search). s.place) one ∙ d.place (subst (λ (s : Search). 0 < length s.octets) one any);
            },
          )
    ]
