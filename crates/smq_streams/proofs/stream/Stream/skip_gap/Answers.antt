use Rattle.std.proofs.Common.{◌≡◌, ◌++◌, List, [], length, refl, sym, subst, ap, arith}
use Rattle.smq_reassembly.specs.Octet.{Octet}
use Rattle.smq_reassembly.specs.State.{Follows}
use Rattle.smq_streams.specs.Direction.{Direction, Gives}
use Rattle.smq_streams.proofs.stream.Stream.skip_gap.Goals as goal

pub returns-clause-skips : goal.returns-clause-skips
returns-clause-skips c pieces start given g =
    let f = subst (λ (d : Direction). Gives pieces start given d) (sym c.self.view_is) g in
    let none : c.self.inside.seeker.octets ≡ [] = c.is_through.ensures.0 c.if-not-is_through.false in
    let s = c.in_ok-until.ensures.some pieces start (given ++ c.self.inside.seeker.octets) f.follows in
    rw (← c.self.view_is)
    (record {
      from = c.next-from.ensures.value;
      gap = s.0;
      gives = record {
        follows = subst (λ (os : List Octet). Follows pieces (record { place = c.in_ok-until.until; moment = c.self.inside.order.last.moment }) os c.skip_gap.new.self)
            (sym none) s.1;
        place = λ some. absurd (omega (arith, some, ap (λ (os : List Octet). length os) none));
      };
      searches = refl;
    })
