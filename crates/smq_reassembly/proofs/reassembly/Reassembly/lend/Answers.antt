use Rattle.std.proofs.Common.{◌≡◌, ◌≤◌, ◌<◌, ◌+◌, ◌^◌, length, arith, sym, subst, refl, ℕ}
use Rattle.std.specs.Prelude.{None}
use Rattle.smq_reassembly.specs.Octet.{octets_of}
use Rattle.smq_reassembly.specs.Piece.{first_octet, octet_in}
use Rattle.smq_reassembly.specs.State.{State, Follows}
use Rattle.smq_reassembly.specs.within.Chain.{pieces_of}
use Rattle.smq_reassembly.proofs.Chains.{chain-later}
use Rattle.smq_reassembly.proofs.States.{gives-front}
use Rattle.smq_reassembly.proofs.reassembly.Reassembly.lend.Goals.{In_ok-keep}
use Rattle.smq_reassembly.proofs.reassembly.Reassembly.lend.Goals as goal

missing : (c : In_ok-keep) → (n : ℕ) → c.self.inside.next ≤ n → n < c.self.inside.next + c.args.count
    → first_octet (pieces_of c.self.inside.waiting) n ≡ None
missing c =
    subst (λ (s : State). (n : ℕ) → s.next ≤ n → n < s.next + c.args.count → first_octet s.waiting n ≡ None) (sym c.self.view_is) c.requires.none

pub invariant_of-self-2 : goal.invariant_of-self-2
invariant_of-self-2 c =
    let end : c.self.inside.next + c.args.count ≤ 2 ^ 60 =
    (let end = subst (λ (s : State). s.next + length c.args.octets.now ≤ 2 ^ 60) (sym c.self.view_is) c.requires.end in omega (arith, end, c.requires.whole)) in (
      end,
      c.in_ok-keep.ensures.apart _ (omega arith)
          (chain-later c.self.inside.next c.args.count c.self.inside.waiting c.self.invariant.1 (missing (goal.at.invariant_of-self-2 c).In_ok-keep)),
    )

pub returns-clause-takes : goal.returns-clause-takes
returns-clause-takes c pieces start given piece same f =
    let g = subst (λ (s : State). Follows pieces start given s) (sym c.self.view_is) f in
    let alike = subst (λ (s : State). (n : ℕ) → s.next ≤ n
    → octet_in piece n ≡ octet_in (record { at = s.next; octets = octets_of c.args.packet c.args.begins c.args.octets.now }) n)
    (sym c.self.view_is) same in
    rw (c.later_of-self-inside.ensures, c.split_at.ensures.front)
    (gives-front pieces piece start given _ _ c.args.packet c.args.begins c.args.octets.now c.args.count alike g c.requires.some c.requires.whole
    (missing (goal.at.returns-clause-takes c).In_ok-keep) refl refl
    (rw c.split_at.ensures.back at c.in_ok-keep.ensures.brings))
