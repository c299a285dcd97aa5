use Rattle.std.proofs.Common.{◌≡◌, ℕ, ◌≤◌, ◌++◌, List, subst}
use Rattle.smq_reassembly.specs.Octet.{octets_of}
use Rattle.smq_reassembly.specs.Piece.{Piece, octet_in}
use Rattle.smq_reassembly.specs.Segment.{octets_given, piece_of}
use Rattle.smq_reassembly.specs.Sequence.{IsPlace}
use Rattle.smq_reassembly.specs.State.{State, Follows}
use Rattle.smq_reassembly.specs.declared.reassembly.Taken.{Taken}
use Rattle.smq_reassembly.proofs.Places.{one_place}
use Rattle.smq_reassembly.proofs.States.{both_ok, came-is}
use Rattle.smq_reassembly.proofs.reassembly.Reassembly.take_segment.Goals as goal

pub returns-clause-takes : goal.returns-clause-takes
returns-clause-takes c pieces start given place stands f =
    let piece : Piece = piece_of c.place_of-place.result c.args.self.now.next c.args.packet c.args.octets.now in
    let same = subst (λ (s : State). (n : ℕ) → s.next ≤ n
    → octet_in (piece_of c.place_of-place.result s.next c.args.packet c.args.octets.now) n
    ≡ octet_in (record { at = c.from_next-at.result.0; octets = octets_of c.args.packet c.from_next-at.result.1 c.from_next-at.result.2.now }) n)
    c.self.view_is (c.from_next-at.ensures.same c.args.packet) in
    let here = subst (λ (s : State). IsPlace c.args.first s.next c.args.sequence c.place_of-place.result) c.self.view_is c.place_of-place.ensures in
    rw (one_place _ _ _ _ _ stands here)
    (both_ok c.take_at.result (c.take_at.ensures.takes pieces start given piece same f) c.take_at.ensures.near
    (λ (taken : Taken) g near.
    subst (λ (ps : List Piece). Follows ps start (given ++ octets_given taken) c.take_at.new.self) (came-is taken pieces piece near) g))
