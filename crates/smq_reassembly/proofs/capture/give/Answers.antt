use Rattle.std.proofs.Common.{ℕ, List, ◌++◌, ap, sym, ◌∙◌}
use Rattle.smq_reassembly.specs.Capture.{octets_of_parts}
use Rattle.smq_reassembly.specs.Octet.{octets_of}
use Rattle.smq_reassembly.specs.Segment.{octets_given}
use Rattle.smq_reassembly.specs.declared.reassembly.Taken.{Taken}
use Rattle.smq_reassembly.proofs.Captures.{comes, gives-none, parts-push, zero_start}
use Rattle.smq_reassembly.proofs.capture.give.Goals as goal

pub returns-in_ok-push : goal.returns-in_ok-push
returns-in_ok-push c pieces g f =
    comes c.args.first pieces c.args.segment c.in_ok-next.field-0 _ _ _ _ g f c.in_ok-next.ensures.stands
    (λ place stands. c.in_ok-next.ensures.takes pieces zero_start _ place stands f) c.in_ok-next.ensures.far
    (ap octets_of_parts c.in_ok-push.ensures.items
    ∙ parts-push c.args.parts.now.items
    (record { packet = c.in-Lends.next.packet; begins = c.in-Lends.next.begins; octets = c.in_ok-from_slice.field-0 })
    ∙ ap (λ (vs : List ℕ). octets_of_parts c.args.parts.now.items ++ octets_of c.in-Lends.next.packet c.in-Lends.next.begins vs)
    c.in_ok-from_slice.ensures.items
    ∙ ap (λ (t : Taken). octets_of_parts c.args.parts.now.items ++ octets_given t) (sym c.in-Lends.is))

pub returns-in_default : goal.returns-in_default
returns-in_default c pieces g f =
    comes c.args.first pieces c.args.segment c.in_ok-next.field-0 _ _ _ _ g f c.in_ok-next.ensures.stands
    (λ place stands. c.in_ok-next.ensures.takes pieces zero_start _ place stands f) c.in_ok-next.ensures.far
    (gives-none (octets_of_parts c.args.parts.now.items) c.in_ok-next.field-0 c.in_default.not-Lends)
