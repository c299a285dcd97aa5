use Rattle.std.proofs.Common.{◌≡◌, ℕ, List, [], ◌∷◌, Option, Some, None, refl, ap, ◌∙◌}
use Rattle.std.specs.Prelude.{codes, ◌&&◌, map, filter, option_map, unwrap_or}
use Rattle.std.specs.Cmp.{nat_cmp_total}
use Rattle.std.specs.FinMap.{empty, entries, insert, find, put, from_entries, get-entries, entries-insert, get-insert}
use Rattle.smq_kit.proofs.MapLemmas.{entries-from_entries}
use Rattle.smq_kit.specs.declared.message_id.Form.TheVariants.{Decimal, Hexadecimal}
use Rattle.smq_kit.specs.declared.place.Dir.TheVariants.{FromCentre}
use Rattle.smq_kit.specs.declared.refusal.Refusal.{Refusal}
use Rattle.smq_kit.specs.declared.refusal.Refusal.TheVariants as r
use Rattle.smq_kit.specs.Replies.{first_of}
use Rattle.smq_frame.specs.Stream.{handed_in}
use Rattle.smq_route.specs.declared.version.Version.{Version}
use Rattle.smq_route.specs.declared.version.VersionKey.{VersionKey}
use Rattle.smq_route.specs.Edits.{end_refusals, correct_refusals, changed_where, ending, corrected}
use Rattle.smq_route.specs.Versions.{version_cmp, key_at, version_of, lasts_past, is_of, least}
use Rattle.smq_present.specs.declared.present.edit.Edit.{Edit}
use Rattle.smq_present.specs.declared.present.edit.Edit.TheVariants.{Withdraw, EndRoute}
use Rattle.smq_present.specs.declared.present.forms.Forms.{Forms}
use Rattle.smq_present.specs.declared.present.session.Session.{Session}
use Rattle.smq_present.specs.known.Present.{known_versions, routed, adding, correcting, versions_of}
use Rattle.smq_present.specs.present.Present.{PresentValue, session_of, octets_in, octets_of}
use Rattle.smq_present.specs.present.Replies.{no_session, reply}
use Rattle.smq_present.specs.present.Settings.{opening_settings, opening_forms, forms_of}
use Rattle.smq_present.specs.present.Steps.{change, step}
use Rattle.smq_present.proofs.lemmas.present.Changes.{step-made, step-refused}
use Rattle.smq_route.proofs.VersionOrders.{versions_total, versions_exact}
use Rattle.smq_present.proofs.laws.present.edits_of_known_routes.Goals as goal

there : versions_of routed ≡ known_versions
there = entries-from_entries versions_total versions_exact known_versions tt

none : entries opening_settings.versions ≡ []
none = entries-from_entries versions_total versions_exact [] tt

-- what refuses a version of a prefix, by the entries of all
abbrev overlap_among : List ℕ → ℕ → List (VersionKey × Version) → Option Refusal
overlap_among prefix from es =
    first_of (option_map r.Overlap (least (map (λ e. e.0.from) (filter (λ e. is_of prefix e && lasts_past from e.1.until) es))) ∷ [])

adds : (prefix : List ℕ) (from : ℕ) → reply routed (adding prefix from) ≡ overlap_among prefix from known_versions
adds prefix from = ap (overlap_among prefix from) there

at : (prefix : List ℕ) (from : ℕ) → version_of routed.settings.versions prefix from ≡ find version_cmp (key_at prefix from) known_versions
at prefix from = get-entries (from_entries known_versions) (key_at prefix from) ∙ ap (find version_cmp (key_at prefix from)) there

ends : (prefix : List ℕ) (from until : ℕ) → reply routed (EndRoute prefix from until)
    ≡ first_of (end_refusals (find version_cmp (key_at prefix from) known_versions) from until)
ends prefix from until = ap (λ (o : Option Version). first_of (end_refusals o from until)) (at prefix from)

corrects : (prefix : List ℕ) (from : ℕ) → reply routed (correcting prefix from)
    ≡ first_of (correct_refusals (find version_cmp (key_at prefix from) known_versions))
corrects prefix from = ap (λ (o : Option Version). first_of (correct_refusals o)) (at prefix from)

pub returns-clause-replies : goal.returns-clause-replies
returns-clause-replies c = record {
  before_all = adds (codes "447") 5000;
  within_one = adds (codes "447") 15000;
  at_an_end = adds (codes "447") 20000;
  at_its_beginning = adds (codes "447") 30000;
  after_all = adds (codes "447") 40000;
  shorter_prefix = adds (codes "44") 40000;
  other_prefix = adds (codes "4477") 15000;
  first_digit = adds (codes "4") 0;
  on_no_routes = ap (overlap_among (codes "447") 0) none;
  no_route = ends (codes "44") 1 1;
  no_route_of_the_prefix = ends (codes "4477") 0 0;
  ended = ends (codes "447") 10000 10000;
  ends_at_its_beginning = ends (codes "447") 30000 30000;
  ends_before_it = ends (codes "447") 30000 29999;
  ends = ends (codes "447") 30000 30001;
  no_version = corrects (codes "44") 1;
  corrects_an_ended_one = corrects (codes "447") 0;
}

both : Session
both = record { link = record { 0 = 1 }; client = handed_in 1000 (0 ∷ []); centre = handed_in 1000 (0 ∷ []) }

at_ten : session_of routed 10 ≡ Some both
unfolding both
at_ten = get-insert nat_cmp_total empty 10 both 10

set : Forms
set = record { response = Hexadecimal; receipt = Decimal }

set_of_one : forms_of routed.settings (record { 0 = 1 }) ≡ record { response = Hexadecimal; receipt = Decimal }
unfolding set
set_of_one = ap (λ (o : Option Forms). unwrap_or o opening_forms) (get-insert nat_cmp_total empty 1 set 1)

more : Edit
more = adding (codes "446") 70000

added : step routed more ≡ change routed more
unfolding more
added = step-made routed more (adds (codes "446") 70000)

-- the entries once one is put in
put-in : (k : VersionKey) (v : Version) → entries (insert routed.settings.versions k v) ≡ put version_cmp k v known_versions
put-in k v = entries-insert versions_total (from_entries known_versions) k v ∙ ap (put version_cmp k v) there

-- the entries once a version is changed
changes : (prefix : List ℕ) (from : ℕ) (f : Version → Version) (v : Version) → find version_cmp (key_at prefix from) known_versions ≡ Some v
    → entries (changed_where (version_of routed.settings.versions prefix from) routed.settings.versions prefix from f)
    ≡ put version_cmp (key_at prefix from) (f v) known_versions
changes prefix from f v is =
    ap (λ (o : Option Version). entries (changed_where o routed.settings.versions prefix from f)) (at prefix from ∙ is)
    ∙ put-in (key_at prefix from) (f v)

ended : Edit
ended = EndRoute (codes "447") 30000 30001

corrected_one : Edit
corrected_one = correcting (codes "447") 10000

pub returns-clause-left : goal.returns-clause-left
unfolding more set both ended corrected_one
returns-clause-left c = record {
  opening = none;
  there = there;
  added = ap versions_of added ∙ put-in (key_at (codes "446") 70000) (record { until = None; route = record { 0 = 5 }; network = codes "234330" });
  ended = ap versions_of (step-made routed ended (ends (codes "447") 30000 30001)) ∙ changes (codes "447") 30000 (ending 30001) _ refl;
  corrected = ap versions_of (step-made routed corrected_one (corrects (codes "447") 10000))
      ∙ changes (codes "447") 10000 (corrected (record { 0 = 5 }) (codes "234330")) _ refl;
  refused = step-refused routed (EndRoute (codes "447") 30000 30000) r.BadEnd (ends (codes "447") 30000 30000);
  octets = ap (λ (p : PresentValue). octets_of p 10 FromCentre) added ∙ ap (octets_in FromCentre) at_ten;
  forms = ap (λ (p : PresentValue). forms_of p.settings (record { 0 = 1 })) added ∙ set_of_one;
  withdrawn = ap versions_of (step-made routed (Withdraw (record { 0 = 10 })) (ap no_session at_ten)) ∙ there;
  forms_set = there;
}
