-- What the versions are that specs/Known.antt writes out.
use Rattle.std.proofs.Common.{◌≡◌, ℕ, List, [], ◌∷◌, Option, Some, None, ap, ◌∙◌}
use Rattle.std.specs.Prelude.{codes, filter, map, option_map}
use Rattle.std.specs.FinMap.{empty, entries, entries-insert, get-entries, find, put}
use Rattle.smq_kit.proofs.MapLemmas as maps
use Rattle.smq_kit.specs.Replies.{first_of}
use Rattle.smq_kit.specs.declared.refusal.Refusal.TheVariants.{Overlap}
use Rattle.smq_route.specs.declared.version.Version.{Version}
use Rattle.smq_route.specs.Versions.{Versions, version_cmp, key_at, version_of, serves, longest, route_at, least, is_of, lasts_past}
use Rattle.smq_route.specs.Edits.{add_refusals, end_refusals, correct_refusals, changed_where, ending}
use Rattle.smq_route.specs.Known.{plan_versions, plan, version, added_first, unsorted}
use Rattle.smq_route.proofs.VersionOrders.{versions_total, versions_exact}
use Rattle.smq_route.proofs.Least.{Entry}
use Rattle.smq_route.proofs.Edited.{put-there}
use Rattle.std.specs.Prelude.{◌&&◌}

pub plan-entries : entries plan ≡ plan_versions
plan-entries = maps.entries-from_entries versions_total versions_exact plan_versions tt

pub plan-route : (number : List ℕ) (t : ℕ)
    → route_at plan number t ≡ option_map (λ e. (e.1.route, e.1.network)) (longest (filter (serves number t) plan_versions))
plan-route number t = ap (λ (es : List Entry). option_map (λ e. (e.1.route, e.1.network)) (longest (filter (serves number t) es))) plan-entries

pub plan-overlap : (p : List ℕ) (t : ℕ) → first_of (add_refusals plan p t)
    ≡ first_of (option_map Overlap (least (map (λ e. e.0.from) (filter (λ e. is_of p e && lasts_past t e.1.until) plan_versions)))
    ∷ [])
plan-overlap p t = ap (λ (es : List Entry). first_of
    (option_map Overlap (least (map (λ e. e.0.from) (filter (λ e. is_of p e && lasts_past t e.1.until) es))) ∷ [])) plan-entries

pub plan-version : (p : List ℕ) (f : ℕ) → version_of plan p f ≡ find version_cmp (key_at p f) plan_versions
plan-version p f = get-entries plan (key_at p f) ∙ ap (find version_cmp (key_at p f)) plan-entries

pub plan-end : (p : List ℕ) (f until : ℕ) → first_of (end_refusals (version_of plan p f) f until)
    ≡ first_of (end_refusals (find version_cmp (key_at p f) plan_versions) f until)
plan-end p f until = ap (λ (o : Option Version). first_of (end_refusals o f until)) (plan-version p f)

pub plan-correct : (p : List ℕ) (f : ℕ) → first_of (correct_refusals (version_of plan p f))
    ≡ first_of (correct_refusals (find version_cmp (key_at p f) plan_versions))
plan-correct p f = ap (λ (o : Option Version). first_of (correct_refusals o)) (plan-version p f)

abbrev no_versions : Versions
no_versions = empty

pub none-there : entries no_versions ≡ []
none-there = maps.entries-from_entries versions_total versions_exact [] tt

first-entries : entries added_first ≡ (key_at (codes "44") 0, version None 3 (codes "23410"))
    ∷ (key_at (codes "447") 0, version None 2 (codes "23410")) ∷ (key_at (codes "45") 0, version None 1 (codes "23410")) ∷ []
first-entries =
    entries-insert versions_total _ _ _
    ∙ ap (put version_cmp (key_at (codes "44") 0) (version None 3 (codes "23410")))
    (entries-insert versions_total _ _ _
    ∙ ap (put version_cmp (key_at (codes "447") 0) (version None 2 (codes "23410")))
    (entries-insert versions_total _ _ _ ∙ ap (put version_cmp (key_at (codes "45") 0) (version None 1 (codes "23410"))) none-there))

pub unsorted-entries : entries unsorted
    ≡ (key_at (codes "44") 0, version (Some 5) 3 (codes "23410")) ∷ (key_at (codes "44") 5, version None 4 (codes "23410"))
    ∷ (key_at (codes "447") 0, version None 2 (codes "23410")) ∷ (key_at (codes "45") 0, version None 1 (codes "23410")) ∷ []
unsorted-entries =
    entries-insert versions_total _ _ _
    ∙ ap (put version_cmp (key_at (codes "44") 5) (version None 4 (codes "23410")))
    (ap (λ (o : Option Version). entries (changed_where o added_first (codes "44") 0 (ending 5)))
    (put-there _ (key_at (codes "44") 0) (version None 3 (codes "23410")))
    ∙ entries-insert versions_total added_first (key_at (codes "44") 0) (version (Some 5) 3 (codes "23410"))
    ∙ ap (put version_cmp (key_at (codes "44") 0) (version (Some 5) 3 (codes "23410"))) first-entries)

pub unsorted-version : (p : List ℕ) (f : ℕ) → version_of unsorted p f ≡ find version_cmp (key_at p f) (entries unsorted)
unsorted-version p f = get-entries unsorted (key_at p f)
