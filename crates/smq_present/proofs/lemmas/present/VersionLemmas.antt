-- Versions of routes, of which one is put in or changed.
use Rattle.std.proofs.Common.{◌≡◌, ◌≢◌, ◌⊎◌, ℕ, cond, List, Option, Some, None, refl, sym, ◌∙◌, subst, inl, inr}
use Rattle.std.specs.Prelude.{option_map}
use Rattle.std.specs.Cmp.{tied_itself}
use Rattle.std.specs.FinMap.{get, insert, get-insert, same_map}
use Rattle.std.specs.Ordering.{is_eq}
use Rattle.std.specs.declared.cmp.Ordering.{Ordering}
use Rattle.std.specs.declared.cmp.Ordering.TheVariants.{Less, Equal, Greater}
use Rattle.smq_route.specs.declared.version.VersionKey.{VersionKey}
use Rattle.smq_route.specs.declared.version.Version.{Version}
use Rattle.smq_route.specs.Edits.{changed, changed_where}
use Rattle.smq_route.specs.Versions.{Versions, version_cmp, key_at, version_of}
use Rattle.smq_route.proofs.VersionOrders.{versions_total, versions_exact}

pub put-there : (m : Versions) (k : VersionKey) (v : Version) → get (insert m k v) k ≡ Some v
put-there m k v = get-insert versions_total m k v k ∙ (λ i. cond (is_eq (tied_itself versions_total k i)) (Some v) (get m k))

unless : (k q : VersionKey) (v w : Option Version) (o : Ordering) → version_cmp q k ≡ o → q ≢ k → cond (is_eq o) v w ≡ w
unless k q v w Less e ne = refl
unless k q v w Equal e ne = absurd (ne (versions_exact q k e))
unless k q v w Greater e ne = refl

pub put-elsewhere : (m : Versions) (k : VersionKey) (v : Version) (q : VersionKey) → q ≢ k → get (insert m k v) q ≡ get m q
put-elsewhere m k v q ne = get-insert versions_total m k v q ∙ unless k q (Some v) (get m q) (version_cmp q k) refl ne

pub changed-there : (m : Versions) (p : List ℕ) (f : ℕ) (g : Version → Version) → version_of (changed m p f g) p f ≡ option_map g (version_of m p f)
changed-there m p f g = by (version_of m p f) refl
  where
    by : (o : Option Version) → version_of m p f ≡ o → version_of (changed_where o m p f g) p f ≡ option_map g o
    by None e = e
    by (Some v) e = put-there m (key_at p f) (g v)

pub changed-elsewhere : (m : Versions) (p : List ℕ) (f : ℕ) (g : Version → Version) (q : VersionKey) → q ≢ key_at p f
    → get (changed m p f g) q ≡ get m q
changed-elsewhere m p f g q ne = by (version_of m p f)
  where
    by : (o : Option Version) → get (changed_where o m p f g) q ≡ get m q
    by None = refl
    by (Some v) = put-elsewhere m (key_at p f) (g v) q ne

either_key : (q k : VersionKey) (o : Ordering) → version_cmp q k ≡ o → (q ≡ k) ⊎ (q ≢ k)
either_key q k Less e = inr (λ is. let same : version_cmp q k ≡ Equal =
    subst (λ (n : VersionKey). version_cmp q n ≡ Equal) is (tied_itself versions_total q) in
    cc)
either_key q k Equal e = inl (versions_exact q k e)
either_key q k Greater e = inr (λ is. let same : version_cmp q k ≡ Equal =
    subst (λ (n : VersionKey). version_cmp q n ≡ Equal) is (tied_itself versions_total q) in
    cc)

-- versions that have the same at one key, and are as before elsewhere
pub same_versions : (old m n : Versions) (k : VersionKey) → get m k ≡ get n k → ((q : VersionKey) → q ≢ k → get m q ≡ get old q)
    → ((q : VersionKey) → q ≢ k → get n q ≡ get old q) → m ≡ n
same_versions old m n k here one two = same_map versions_total versions_exact m n (λ q.
    elim (either_key q k (version_cmp q k) refl) [
      | inl is ↦ subst (λ (j : VersionKey). get m j ≡ get n j) (sym is) here
      | inr ne ↦ one q ne ∙ sym (two q ne)
    ])
