use Rattle.std.proofs.Common.{◌≡◌, [], ◌∷◌, Option, Some, refl, ap}
use Rattle.std.specs.Prelude.{unwrap_or}
use Rattle.std.specs.Cmp.{nat_cmp_total}
use Rattle.std.specs.FinMap.{empty, get-insert}
use Rattle.smq_kit.proofs.MapLemmas.{entries-from_entries}
use Rattle.smq_kit.specs.declared.message_id.Form.TheVariants.{Decimal, Hexadecimal}
use Rattle.smq_kit.specs.declared.place.Dir.TheVariants.{FromClient, FromCentre}
use Rattle.smq_frame.specs.Stream.{handed_in}
use Rattle.smq_present.specs.declared.present.edit.Edit.TheVariants.{Withdraw}
use Rattle.smq_present.specs.declared.present.forms.Forms.{Forms}
use Rattle.smq_present.specs.declared.present.session.Session.{Session}
use Rattle.smq_present.specs.known.Present.{known_versions, at_five}
use Rattle.smq_present.specs.present.Present.{PresentValue, session_of, octets_in}
use Rattle.smq_present.specs.present.Replies.{no_session}
use Rattle.smq_present.specs.present.Settings.{opening_forms}
use Rattle.smq_present.proofs.lemmas.present.Changes.{step-made}
use Rattle.smq_route.proofs.VersionOrders.{versions_total, versions_exact}
use Rattle.smq_present.proofs.laws.present.edits_of_a_known_clock.Goals as goal

both : Session
both = record { link = record { 0 = 1 }; client = handed_in 1000 (0 ∷ []); centre = handed_in 1000 (0 ∷ []) }

at_ten : session_of at_five 10 ≡ Some both
unfolding both
at_ten = get-insert nat_cmp_total empty 10 both 10

set : Forms
set = record { response = Hexadecimal; receipt = Decimal }

pub returns : goal.returns
unfolding both set
returns c = record {
  opening = refl;
  opening_again = refl;
  before = refl;
  made = refl;
  again = refl;
  next = refl;
  back = refl;
  back_to_the_opening = refl;
  back_to_1 = refl;
  to_the_last = refl;
  back_by_1 = refl;
  last_again = refl;
  clock = refl;
  last_clock = refl;
  client = ap (octets_in FromClient) at_ten;
  centre = ap (octets_in FromCentre) at_ten;
  forms = ap (λ (o : Option Forms). unwrap_or o opening_forms) (get-insert nat_cmp_total empty 1 set 1);
  versions = entries-from_entries versions_total versions_exact known_versions tt;
  refused = refl;
  stands = refl;
  withdrawn = ap (λ (p : PresentValue). p.settings.clock) (step-made at_five (Withdraw (record { 0 = 10 })) (ap no_session at_ten));
  forms_set = refl;
}
