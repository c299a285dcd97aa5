use Rattle.std.proofs.Common.{◌≡◌, ◌-◌, arith, sym, ap, subst, refl, ℕ, length}
use Rattle.smq_reassembly.specs.Octet.{octets_of}
use Rattle.smq_reassembly.specs.Piece.{Piece}
use Rattle.smq_reassembly.specs.State.{State, Follows}
use Rattle.smq_reassembly.specs.within.Chain.{piece_of_entry, pieces_of}
use Rattle.smq_reassembly.proofs.Chains.{Entry, head-not, head-out, size}
use Rattle.smq_reassembly.proofs.States.{ended, gives-part}
use Rattle.smq_reassembly.proofs.reassembly.Reassembly.next_part.Goals as goal

pub returns-in_err-end-clause-none : goal.returns-in_err-end-clause-none
returns-in_err-end-clause-none c pieces start given f is =
    let g = subst (λ (s : State). Follows pieces start given s) (sym c.self.view_is) f in
    let none = (c.in_err-end.ensures.none refl).1 in
    ended pieces start given _ g (head-not _ _ c.self.invariant.1 none)

pub returns-clause-some : goal.returns-clause-some
returns-clause-some c pieces start given f =
    let g = subst (λ (s : State). Follows pieces start given s) (sym c.self.view_is) f in
    let e : Entry = (c.in_ok-end.end, c.in_ok-end.held) in
    let out = c.in_ok-end.ensures.some e refl in
    let h = head-out _ _ _ e _ c.self.invariant.1 out.0 out.1 in
    let at : c.in_ok-end.end - length c.in_ok-end.held.octets.items ≡ c.self.inside.next = omega (arith, h.1) in
    let same : ◌≡◌ {A = Piece} (piece_of_entry e)
    (record { at = c.self.inside.next; octets = octets_of c.in_ok-end.held.packet c.in_ok-end.held.begins c.in_ok-end.held.octets.items }) =
    ap (λ (n : ℕ). record { at = n; octets = octets_of c.in_ok-end.held.packet c.in_ok-end.held.begins c.in_ok-end.held.octets.items }) at in
    rw c.later_of-self-inside.ensures
    (gives-part pieces start given _ _ (piece_of_entry e) c.in_ok-end.held.packet c.in_ok-end.held.begins c.in_ok-end.held.octets.items
    g (ap pieces_of out.0) same h.0 h.1 refl)

pub returns-clause-fewer : goal.returns-clause-fewer
returns-clause-fewer c =
    let e : Entry = (c.in_ok-end.end, c.in_ok-end.held) in
    let out = c.in_ok-end.ensures.some e refl in
    let h = head-out _ _ _ e _ c.self.invariant.1 out.0 out.1 in
    rw (← c.self.view_is) (h.0, h.1, rw out.0 (omega (arith, size e)))
