use Rattle.std.proofs.Common.{◌≡◌, ◌++◌, ◌∙◌, List, sym, subst, append_assoc}
use Rattle.smq_reassembly.specs.Octet.{Octet}
use Rattle.smq_reassembly.specs.State.{Follows}
use Rattle.smq_streams.specs.Direction.{Direction, Gives}
use Rattle.smq_streams.proofs.Places.{ends, place-more}
use Rattle.smq_streams.proofs.stream.Stream.next_in_order.Goals as goal

pub returns-clause-some : goal.returns-clause-some
returns-clause-some c pieces start given g =
    let d = subst (λ (x : Direction). Gives pieces start given x) (sym c.self.view_is) g in
    let held : List Octet = c.self.inside.seeker.octets in
    let f = c.in_ok-packet.ensures.some pieces start (given ++ held) d.follows in
    rw (← c.self.view_is)
    (record {
      follows = subst (λ (os : List Octet). Follows pieces start os c.next_part.new.self) (append_assoc given held _) f;
      place = λ any.
          place-more start given held c.self.inside.seeker.place c.next-place.result d.place
          (ends pieces start (given ++ held) c.self.inside.order d.follows ∙ sym c.next-place.ensures.value);
    })
