use Rattle.std.proofs.Common.{◌≡◌, ◌∷◌, ◌∙◌, ℕ, List, sym, subst, rules}
use Rattle.std.proofs.KnownBytes.{Appends-trans}
use Rattle.std.specs.List.{flat_map}
use Rattle.std.specs.Io.KnownBytes.{Appends}
use Rattle.smq_kit.specs.declared.message_id.Form.{Form}
use Rattle.smq_kit.specs.declared.names.LinkId.{LinkId}
use Rattle.smq_deal.specs.Texts.{form_row}
use Rattle.smq_deal.proofs.head.Head.write_forms.Goals as goal

pub loop-link-preserved : goal.loop-link-preserved
loop-link-preserved g c final more =
    let contents = g.W.Write.contents in
    let e : LinkId × (Form × Form) = (c.in-Some.link.now, c.in-Some.field-0-1.now) in
    let entry : c.loop-link.link-iterator ≡ e ∷ c.next.new.self = search rules in
    let row : c.as_bytes.result.now ≡ form_row e = c.as_bytes.ensures.value ∙ c.in_ok-row.ensures in
    c.loop-link.invariant final (
    subst (λ (es : List (LinkId × (Form × Form))). Appends (contents c.loop-link.writer) final (flat_map form_row es)) (sym entry) (
    Appends-trans (contents c.loop-link.writer) (contents c.send.new.writer) final (form_row e) (flat_map form_row c.next.new.self)
    (subst (λ (t : List ℕ). Appends (contents c.loop-link.writer) (contents c.send.new.writer) t) row c.in_ok-send.ensures) more))
