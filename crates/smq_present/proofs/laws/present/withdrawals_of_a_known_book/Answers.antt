use Rattle.std.proofs.Common.{◌≡◌, List, [], ◌∷◌, ◌++◌, Option, Some, None, ap, ◌∙◌}
use Rattle.std.specs.Prelude.{unwrap_or, option_map}
use Rattle.std.specs.Cmp.{nat_cmp_total}
use Rattle.std.specs.FinMap.{empty, get-insert, get-empty}
use Rattle.std.specs.Ordering.{nat_cmp}
use Rattle.smq_kit.specs.declared.message_id.Form.TheVariants.{Decimal, Hexadecimal}
use Rattle.smq_kit.specs.declared.names.LinkId.{LinkId}
use Rattle.smq_kit.specs.declared.place.Dir.{Dir}
use Rattle.smq_kit.specs.declared.place.Dir.TheVariants.{FromClient, FromCentre}
use Rattle.smq_frame.specs.Framing.{rest_of, rest_within}
use Rattle.smq_frame.specs.Stream.{Octet, handed_in}
use Rattle.smq_frame.specs.Tail.{tail_from}
use Rattle.smq_present.specs.declared.present.forms.Forms.{Forms}
use Rattle.smq_present.specs.declared.present.session.Session.{Session}
use Rattle.smq_present.specs.declared.present.edit.Edit.TheVariants.{Withdraw}
use Rattle.smq_present.specs.known.Present.{two_directions, withdrawn, anew, waiting}
use Rattle.smq_present.specs.present.Present.{PresentValue, session_of, link_of, octets_in, octets_of}
use Rattle.smq_present.specs.present.Batch.{BatchValue}
use Rattle.smq_present.specs.present.Replies.{no_session, reply}
use Rattle.smq_present.specs.present.Settings.{opening_forms, forms_of}
use Rattle.smq_present.specs.present.Steps.{step, change}
use Rattle.smq_present.specs.present.Stream.{last_moment}
use Rattle.smq_present.proofs.lemmas.present.Changes.{appends-change, withdraws-change, step-made}
use Rattle.smq_present.proofs.lemmas.present.OneOctet.{batch, refusal}
use Rattle.smq_present.proofs.laws.present.withdrawals_of_a_known_book.Goals as goal

both : Session
both = record { link = record { 0 = 1 }; client = handed_in 1000 (0 ∷ []); centre = handed_in 1000 (0 ∷ []) }

set : Forms
set = record { response = Hexadecimal; receipt = Decimal }

at_nine : session_of two_directions 9 ≡ None
at_nine = get-insert nat_cmp_total empty 10 _ 9 ∙ get-empty nat_cmp 9

at_ten : session_of two_directions 10 ≡ Some both
unfolding both
at_ten = get-insert nat_cmp_total empty 10 both 10

withdrawn_is : withdrawn ≡ change two_directions (Withdraw (record { 0 = 10 }))
withdrawn_is = step-made two_directions (Withdraw (record { 0 = 10 })) (ap no_session at_ten)

gone : session_of withdrawn 10 ≡ None
gone = ap (λ (p : PresentValue). session_of p 10) withdrawn_is ∙ (withdraws-change two_directions (record { 0 = 10 })).absent

fresh : BatchValue
fresh = batch 2 10 FromCentre (waiting 0 []) 500

taken : reply withdrawn anew ≡ None
unfolding tail_from rest_of rest_within last_moment
taken = ap (λ (o : Option Session). refusal o (batch 2 10 FromCentre (waiting 0 []) 500)) gone

made : step withdrawn anew ≡ change withdrawn anew
made = step-made withdrawn anew taken

none_from : (d : Dir) → octets_of withdrawn 10 d ≡ []
none_from d = ap (octets_in d) gone

linked : Option LinkId → Option LinkId
linked o = Some (unwrap_or o (record { 0 = 2 }))

pub returns : goal.returns
unfolding fresh both set linked
returns c =
    let appends = appends-change withdrawn fresh in
    record {
      of_another_number = ap no_session at_nine;
      of_no_session = ap no_session (get-empty nat_cmp 9);
      made = ap no_session at_ten;
      client = none_from FromClient;
      centre = none_from FromCentre;
      forms = ap (λ (p : PresentValue). forms_of p.settings (record { 0 = 1 })) withdrawn_is
          ∙ ap (λ (o : Option Forms). unwrap_or o opening_forms) (get-insert nat_cmp_total empty 1 set 1);
      anew_made = taken;
      anew_link = ap (λ (p : PresentValue). link_of p 10) made ∙ appends.link
          ∙ ap (λ (o : Option Session). linked (option_map (λ (s : Session). s.link) o)) gone;
      anew_client = ap (λ (p : PresentValue). octets_of p 10 FromClient) made ∙ appends.other_direction FromClient (λ h. cc) ∙ none_from FromClient;
      anew_centre = ap (λ (p : PresentValue). octets_of p 10 FromCentre) made ∙ appends.grown
          ∙ ap (λ (o : List Octet). o ++ handed_in 500 (0 ∷ [])) (none_from FromCentre);
    }
