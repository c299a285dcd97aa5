-- What an edit of a prefix leaves of the versions that serve a number which the prefix doesn't begin.
use Rattle.std.proofs.Common.{◌≡◌, ℕ, Bool, false, cond, List, [], ◌∷◌, Option, Some, None, refl, sym, ap, ◌∙◌}
use Rattle.std.specs.Prelude.{◌&&◌, filter, option_map}
use Rattle.std.specs.declared.cmp.Ordering.TheVariants.{Less, Equal, Greater}
use Rattle.std.specs.FinMap.{entries, insert, entries-insert}
use Rattle.std.specs.FinMap.Entries.{put, by_order}
use Rattle.smq_route.specs.declared.version.VersionKey.{VersionKey}
use Rattle.smq_route.specs.declared.version.Version.{Version}
use Rattle.smq_route.specs.Versions.{Versions, version_cmp, key_at, version_of, begins, holds, serves, longest, route_at}
use Rattle.smq_route.specs.Edits.{changed, changed_where}
use Rattle.smq_route.proofs.VersionOrders.{versions_total, versions_exact}
use Rattle.smq_route.proofs.Least.{Entry}

-- a key whose entries all fail a test
filter-put : (test : Entry → Bool) (k : VersionKey) (v : Version) (es : List Entry) → ((w : Version) → test (k, w) ≡ false)
    → filter test (put version_cmp k v es) ≡ filter test es
filter-put test k v [] none = ap (λ b. cond b ((k, v) ∷ []) []) (none v)
filter-put test k v (e ∷ es) none =
    elim (version_cmp k e.0) as (λ r. version_cmp k e.0 ≡ r
    → filter test (by_order r ((k, v) ∷ e ∷ es) ((e.0, v) ∷ es) (e ∷ put version_cmp k v es)) ≡ filter test (e ∷ es)) [
      | Less ↦ λ r. ap (λ b. cond b ((k, v) ∷ filter test (e ∷ es)) (filter test (e ∷ es))) (none v)
      | Equal ↦ λ r.
          let key : e.0 ≡ k = sym (versions_exact k e.0 r) in
          let new : test (e.0, v) ≡ false = (λ i. test (key i, v)) ∙ none v in
          let old : test e ≡ false = (λ i. test (key i, e.1)) ∙ none e.1 in
          ap (λ b. cond b ((e.0, v) ∷ filter test es) (filter test es)) new ∙ sym (ap (λ b. cond b (e ∷ filter test es) (filter test es)) old)
      | Greater ↦ λ r. ap (λ (rest : List Entry). cond (test e) (e ∷ rest) rest) (filter-put test k v es none)
    ] refl

pub put-elsewhere : (m : Versions) (p : List ℕ) (f : ℕ) (v : Version) (number : List ℕ) (t : ℕ) → begins number p ≡ false
    → route_at (insert m (key_at p f) v) number t ≡ route_at m number t
put-elsewhere m p f v number t other =
    ap (λ (es : List Entry). option_map (λ e. (e.1.route, e.1.network)) (longest es))
    (ap (filter (serves number t)) (entries-insert versions_total m (key_at p f) v)
    ∙ filter-put (serves number t) (key_at p f) v (entries m) (λ w. ap (λ b. b && holds t (key_at p f, w)) other))

pub changed-elsewhere : (m : Versions) (p : List ℕ) (f : ℕ) (change : Version → Version) (number : List ℕ) (t : ℕ)
    → begins number p ≡ false → route_at (changed m p f change) number t ≡ route_at m number t
changed-elsewhere m p f change number t other = by (version_of m p f)
  where
    by : (o : Option Version) → route_at (changed_where o m p f change) number t ≡ route_at m number t
    by None = refl
    by (Some v) = put-elsewhere m p f (change v) number t other
