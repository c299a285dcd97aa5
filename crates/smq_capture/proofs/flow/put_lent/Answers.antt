use Rattle.std.proofs.Common.{◌≡◌, ◌∙◌, ◌++◌, ◌∷◌, ℕ, List, [], length, refl, sym, ap, subst}
use Rattle.std.specs.Prelude.{replicate}
use Rattle.smq_reassembly.specs.Octet.{octets_of}
use Rattle.smq_capture.specs.declared.direction.Direction.{Direction}
use Rattle.smq_capture.specs.Flow.{Flows, Tells, all_put, raised, timed_of, with_put}
use Rattle.smq_capture.specs.Rows.{Row}
use Rattle.smq_capture.proofs.Flows.{flows-at-once, flows-next, flows-then}
use Rattle.smq_capture.proofs.flow.put_lent.Goals as goal

pub returns-then-is_empty-clause-comes : goal.returns-then-is_empty-clause-comes
returns-then-is_empty-clause-comes c s written is at tells some =
    let n = c.args.next in
    let os = octets_of n.packet n.begins n.octets.now in
    let d = c.raise_moment-moment.new.self in
    let kept = c.raise_moment-moment.ensures.kept in
    let none : c.args.rows.now ≡ [] = c.is_empty.ensures.0 c.if-is_empty.true in
    let now : Direction = record d { framer = c.feed.new.self } in
    let row : Row = record {
      sender = c.args.side;
      place = c.args.place;
      number = n.packet.number;
      moment = c.raise_moment-moment.result;
      octets = n.octets.now;
      sessions = replicate (length n.octets.now) d.session;
    } in (
      λ no. no,
      os,
      row,
      record { sender = refl; moment = refl; octets = refl; sessions = refl },
      refl,
      subst (λ (xs : List Row). Flows (with_put os s) (written ++ row ∷ []) c.args.side now xs) (sym none)
          (flows-at-once s written c.args.side c.args.direction.now now n.packet n.begins row
          (subst (λ (xs : List Row). timed_of c.args.side (written ++ xs) ≡ raised 0 (all_put s)) none is) at refl
          c.raise_moment-moment.ensures.value some (ap (λ (x : Direction). x.moment) kept)
          (subst (λ (x : Direction). Tells (with_put os s) x.stream) (sym kept) tells)),
    )

pub returns-clause-comes : goal.returns-clause-comes
returns-clause-comes c s written is at tells some =
    let n = c.args.next in
    let os = octets_of n.packet n.begins n.octets.now in
    let d = c.raise_moment-moment.new.self in
    let kept = c.raise_moment-moment.ensures.kept in
    let row : List ℕ → Row = (λ (octets : List ℕ). record {
      sender = c.args.side;
      place = c.args.place;
      number = n.packet.number;
      moment = c.raise_moment-moment.result;
      octets = octets;
      sessions = [];
    }) in
    let f = flows-next s written c.args.rows.now c.put.new.self c.args.side c.args.direction.now d n.packet n.begins (row n.octets.now)
    is at (c.in_ok-put.ensures.ok ∙ ap (λ (octets : List ℕ). c.args.rows.now ++ row octets ∷ []) c.in_ok-octets.ensures.items) refl
    c.raise_moment-moment.ensures.value some (ap (λ (x : Direction). x.moment) kept)
    (subst (λ (x : Direction). Tells (with_put os s) x.stream) (sym kept) tells) in
    let h = flows-then s written c.put_all.new.rows c.args.side c.put_all.new.direction os
    (c.in_ok-put_all.ensures.flows (with_put os s) written f) in
    (λ no. no, h.0, h.1, c.in_ok-put_all.ensures.all)
