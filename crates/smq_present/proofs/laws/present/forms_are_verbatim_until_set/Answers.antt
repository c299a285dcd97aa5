use Rattle.std.proofs.Common.{◌≡◌, [], ◌∷◌, ◌++◌, Option, Some, None, refl, ap, ◌∙◌}
use Rattle.std.specs.Prelude.{unwrap_or}
use Rattle.std.specs.Cmp.{nat_cmp_total}
use Rattle.std.specs.FinMap.{empty, get-insert, get-empty}
use Rattle.std.specs.Ordering.{nat_cmp}
use Rattle.smq_kit.specs.declared.message_id.Form.TheVariants.{Decimal, Hexadecimal}
use Rattle.smq_kit.specs.declared.place.Dir.TheVariants.{FromClient}
use Rattle.smq_frame.specs.Framing.{rest_of, rest_within}
use Rattle.smq_frame.specs.Stream.{handed_in}
use Rattle.smq_frame.specs.Tail.{tail_from}
use Rattle.smq_present.specs.declared.present.edit.Edit.{Edit}
use Rattle.smq_present.specs.declared.present.forms.Forms.{Forms}
use Rattle.smq_present.specs.declared.present.session.Session.{Session}
use Rattle.smq_present.specs.known.Present.{with_forms, with_forms_and_octets, waiting, one_more}
use Rattle.smq_present.specs.present.Present.{PresentValue, octets_in, octets_of}
use Rattle.smq_present.specs.present.Settings.{opening_forms, forms_if_set, forms_of}
use Rattle.smq_present.specs.present.Steps.{change}
use Rattle.smq_present.specs.present.Stream.{last_moment}
use Rattle.smq_present.proofs.lemmas.present.Changes.{appends-change, step-made}
use Rattle.smq_present.proofs.lemmas.present.OneOctet.{batch, at_ten, reply_at_ten}
use Rattle.smq_present.proofs.laws.present.forms_are_verbatim_until_set.Goals as goal

known : Forms
known = record { response = Hexadecimal; receipt = Decimal }

or_opening : Option Forms → Forms
or_opening o = unwrap_or o opening_forms

set_of_one : forms_if_set with_forms.settings 1 ≡ Some known
unfolding known
set_of_one = get-insert nat_cmp_total empty 1 known 1

set_of_two : forms_if_set with_forms.settings 2 ≡ None
unfolding known
set_of_two = get-insert nat_cmp_total empty 1 known 2 ∙ get-empty nat_cmp 2

set_of_far : forms_if_set with_forms.settings 65537 ≡ None
unfolding known
set_of_far = get-insert nat_cmp_total empty 1 known 65537 ∙ get-empty nat_cmp 65537

more : Edit
more = one_more 1 10 FromClient (waiting 1 (0 ∷ [])) 2000

made : with_forms_and_octets ≡ change with_forms more
unfolding more tail_from rest_of rest_within last_moment
made = step-made with_forms more (reply_at_ten 1 FromClient (waiting 1 (0 ∷ [])) 2000)

appended : octets_of with_forms_and_octets 10 FromClient ≡ handed_in 1000 (0 ∷ []) ++ handed_in 2000 (0 ∷ [])
unfolding more
appended =
    let appends = appends-change with_forms (batch 1 10 FromClient (waiting 1 (0 ∷ [])) 2000) in
    ap (λ (p : PresentValue). octets_of p 10 FromClient) made ∙ appends.grown
    ∙ ap (λ (o : Option Session). octets_in FromClient o ++ handed_in 2000 (0 ∷ [])) at_ten

pub returns : goal.returns
unfolding known or_opening more
returns c = record {
  opening = refl;
  never_set = λ link. ap or_opening (get-empty nat_cmp link.0);
  there = ap or_opening set_of_one;
  other_link = ap or_opening set_of_two;
  far_link = ap or_opening set_of_far;
  octets = ap (octets_in FromClient) at_ten;
  appended = appended;
  there_still = ap (λ (p : PresentValue). forms_of p.settings (record { 0 = 1 })) made ∙ ap or_opening set_of_one;
}
