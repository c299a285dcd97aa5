-- The submitted messages of a session, one PDU at a time.
use Rattle.std.proofs.Common.{◌≡◌, ℕ, ◌+◌, ◌<◌, List, [], ◌∷◌, length, take, drop, take-append-drop, get_or, Option, Some, sym, ap, ◌∙◌, arith}
use Rattle.std.specs.Prelude.{slice_get}
use Rattle.std.specs.List.{enumerate_from}
use Rattle.std.proofs.lemmas.List.{drop_more, length-take}
use Rattle.std.proofs.lemmas.Option.{slice_get_within}
use Rattle.smq_pdu.specs.declared.body.Submit.{Submit}
use Rattle.smq_present.specs.declared.present.kept.StoredPdu.{StoredPdu}
use Rattle.smq_present.specs.declared.pairing.pairs.SessionForms.{SessionForms}
use Rattle.smq_present.specs.present.Kept.{submit_in}
use Rattle.smq_present.specs.within.Messages.{message_of, submit_by}
use Rattle.smq_present.specs.within.Pairs.{SubmitsAreRequests}
use Rattle.smq_present.proofs.lemmas.join.AgreeLists.{response-same}
use Rattle.smq_present.specs.declared.pairing.sides.Kind.TheVariants.{Request}
use Rattle.smq_present.specs.within.Turns.{HasPartners, partner_at}

-- the PDUs from the i-th on with their indexes begin with it
pub enumerate_more : (client : List StoredPdu) (i : ℕ) (x : StoredPdu) → i < length client → x ≡ get_or client i x
    → enumerate_from i (drop i client) ≡ (i, x) ∷ enumerate_from (i + 1) (drop (i + 1) client)
enumerate_more client i x h is =
    ap (λ (ps : List StoredPdu). enumerate_from i ps) (drop_more client i x h ∙ ap (λ (y : StoredPdu). y ∷ drop (i + 1) client) (sym is))

-- the response that is kept for the i-th PDU is its own
pub submit-is : (source : SessionForms) (client centre : List StoredPdu) (i : ℕ) (x : StoredPdu) (submit : Submit) (responses : List (Option ℕ))
    → HasPartners Request client centre responses → slice_get client i ≡ Some x → SubmitsAreRequests client → Some submit ≡ submit_in x.content
    → message_of source x submit (partner_at responses centre i) ∷ [] ≡ submit_by (submit_in x.content) source client centre i x
submit-is source client centre i x submit responses has at ask said =
    let h = slice_get_within client i x at in
    ap (λ (r : Option StoredPdu). message_of source x submit r ∷ []) (has i x h at (ask.each i x submit at (sym said))
    ∙ response-same client centre (take i client) (drop i client) i x (sym (take-append-drop i client)) (let l = length-take i client in omega (arith, l, h)))
    ∙ ap (λ (s : Option Submit). submit_by s source client centre i x) said
