use Rattle.std.proofs.Common.{◌≡◌, ℕ, [], ◌∷◌, ◌++◌, Option, Some, None, refl, ap, ◌∙◌}
use Rattle.std.specs.Prelude.{unwrap_or}
use Rattle.std.specs.Cmp.{nat_cmp_total}
use Rattle.std.specs.FinMap.{empty, insert, get-insert, get-empty}
use Rattle.std.specs.Ordering.{nat_cmp}
use Rattle.smq_kit.proofs.MapLemmas.{entries-from_entries}
use Rattle.smq_kit.specs.declared.message_id.Form.TheVariants.{Decimal, Hexadecimal}
use Rattle.smq_kit.specs.declared.place.Dir.TheVariants.{FromClient, FromCentre}
use Rattle.smq_frame.specs.Framing.{rest_of, rest_within}
use Rattle.smq_frame.specs.Stream.{handed_in}
use Rattle.smq_frame.specs.Tail.{tail_from}
use Rattle.smq_present.specs.declared.present.edit.Edit.{Edit}
use Rattle.smq_present.specs.declared.present.edit.Edit.TheVariants.{Withdraw}
use Rattle.smq_present.specs.declared.present.forms.Forms.{Forms}
use Rattle.smq_present.specs.declared.present.session.Session.{Session}
use Rattle.smq_present.specs.join.Circumstances.{window_of}
use Rattle.smq_present.specs.known.Present.{known_versions, with_window, with_window_anew, with_window_and_octets, waiting, one_more}
use Rattle.smq_present.specs.present.Present.{PresentValue, session_of, octets_in, octets_of}
use Rattle.smq_present.specs.present.Replies.{no_session}
use Rattle.smq_present.specs.present.Settings.{opening_forms, opening_window, window_if_set}
use Rattle.smq_present.specs.present.Steps.{change}
use Rattle.smq_present.specs.present.Stream.{last_moment}
use Rattle.smq_present.proofs.lemmas.present.Changes.{appends-change, step-made}
use Rattle.smq_present.proofs.lemmas.present.OneOctet.{batch, refusal}
use Rattle.smq_route.proofs.VersionOrders.{versions_total, versions_exact}
use Rattle.smq_present.proofs.laws.present.windows_of_known_links.Goals as goal

both : Session
both = record { link = record { 0 = 1 }; client = handed_in 1000 (0 ∷ []); centre = handed_in 1000 (0 ∷ []) }

at_ten : session_of with_window 10 ≡ Some both
unfolding both
at_ten = get-insert nat_cmp_total empty 10 both 10

set : Forms
set = record { response = Hexadecimal; receipt = Decimal }

or_opening : Option ℕ → ℕ
or_opening o = unwrap_or o opening_window

set_of_one : window_if_set with_window.settings 1 ≡ Some 1000
set_of_one = get-insert nat_cmp_total empty 1 1000 1

set_of_two : window_if_set with_window.settings 2 ≡ None
set_of_two = get-insert nat_cmp_total empty 1 1000 2 ∙ get-empty nat_cmp 2

set_of_far : window_if_set with_window.settings 65537 ≡ None
set_of_far = get-insert nat_cmp_total empty 1 1000 65537 ∙ get-empty nat_cmp 65537

set_anew : window_if_set with_window_anew.settings 1 ≡ Some 1001
set_anew = get-insert nat_cmp_total (insert empty 1 1000) 1 1001 1

set_of_two_anew : window_if_set with_window_anew.settings 2 ≡ None
set_of_two_anew = get-insert nat_cmp_total (insert empty 1 1000) 1 1001 2 ∙ set_of_two

there : window_of with_window.settings (record { 0 = 1 }) ≡ 1000
unfolding or_opening
there = ap or_opening set_of_one

more : Edit
more = one_more 1 10 FromClient (waiting 1 (0 ∷ [])) 2000

made : with_window_and_octets ≡ change with_window more
unfolding more both tail_from rest_of rest_within last_moment
made = step-made with_window more (ap (λ (o : Option Session). refusal o (batch 1 10 FromClient (waiting 1 (0 ∷ [])) 2000)) at_ten)

appended : octets_of with_window_and_octets 10 FromClient ≡ handed_in 1000 (0 ∷ []) ++ handed_in 2000 (0 ∷ [])
unfolding more both
appended =
    let appends = appends-change with_window (batch 1 10 FromClient (waiting 1 (0 ∷ [])) 2000) in
    ap (λ (p : PresentValue). octets_of p 10 FromClient) made ∙ appends.grown
    ∙ ap (λ (o : Option Session). octets_in FromClient o ++ handed_in 2000 (0 ∷ [])) at_ten

-- the window of link 1
window : PresentValue → ℕ
window p = window_of p.settings (record { 0 = 1 })

pub returns : goal.returns
unfolding both set or_opening window more
returns c = record {
  never_set = λ link. ap or_opening (get-empty nat_cmp link.0);
  none_set = get-empty nat_cmp 1;
  before = ap or_opening (get-empty nat_cmp 1);
  made = λ p link window. refl;
  set = set_of_one;
  there = there;
  none_of_another = set_of_two;
  other_link = ap or_opening set_of_two;
  far_link = ap or_opening set_of_far;
  there_anew = ap or_opening set_anew;
  other_link_anew = ap or_opening set_of_two_anew;
  client = ap (octets_in FromClient) at_ten;
  centre = ap (octets_in FromCentre) at_ten;
  forms = ap (λ (o : Option Forms). unwrap_or o opening_forms) (get-insert nat_cmp_total empty 1 set 1);
  versions = entries-from_entries versions_total versions_exact known_versions tt;
  clock = refl;
  appended = appended;
  there_still = ap window made ∙ there;
  withdrawn = ap window (step-made with_window (Withdraw (record { 0 = 10 })) (ap no_session at_ten)) ∙ there;
  forms_set = there;
  advanced = there;
}
