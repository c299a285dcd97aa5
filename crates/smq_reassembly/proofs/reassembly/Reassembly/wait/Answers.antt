use Rattle.std.proofs.Common.{◌≡◌, ◌≤◌, [], sym, subst, refl, ℕ}
use Rattle.std.proofs.lemmas.List.{append-nil}
use Rattle.smq_reassembly.specs.Octet.{octets_of}
use Rattle.smq_reassembly.specs.Piece.{Piece, octet_in}
use Rattle.smq_reassembly.specs.Segment.{octets_given}
use Rattle.smq_reassembly.specs.State.{State, Follows}
use Rattle.smq_reassembly.proofs.States.{waits-whole}
use Rattle.smq_reassembly.proofs.reassembly.Reassembly.wait.Goals.{then-any, else-any}
use Rattle.smq_reassembly.proofs.reassembly.Reassembly.wait.Goals as goal

pub returns-clause-takes : goal.returns-clause-takes
returns-clause-takes c pieces start given piece same f =
    let g = subst (λ (s : State). Follows pieces start given s) (sym c.self.view_is) f in
    let whole : Piece = record { at = c.args.at; octets = octets_of c.args.packet c.args.begins c.args.octets.now } in
    let alike = subst (λ (s : State). (n : ℕ) → s.next ≤ n → octet_in piece n ≡ octet_in whole n) (sym c.self.view_is) same in
    let none : octets_given c.if-any.result ≡ [] =
    elim c.if-any.branch [ then-any w ↦ rw w.result-is refl | else-any w ↦ rw w.result-is refl ] in
    rw (none, append-nil) (waits-whole pieces piece whole start given _ _ alike g refl refl c.in_ok-any.ensures.brings)
