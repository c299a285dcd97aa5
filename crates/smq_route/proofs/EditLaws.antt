-- What edits that are accepted leave: versions that are apart, hold up to their ends, keep their dates, and are one set
-- in whatever order they were added.
use Rattle.std.proofs.Common.{◌≡◌, ◌≢◌, ◌<◌, ◌≤◌, ℕ, Bool, true, false, cond, inl, inr, List, [], ◌∷◌, Option, Some, None, subst, refl, sym, ap, ◌∙◌}
use Rattle.std.proofs.lemmas.Bool.{false≢true}
use Rattle.std.specs.Prelude.{◌&&◌, option_map}
use Rattle.std.specs.Ordering.{eq_by_cmp}
use Rattle.std.specs.FinMap.{get, insert, get-insert, same_map}
use Rattle.smq_kit.proofs.Comparisons.{is_equal}
use Rattle.smq_kit.specs.Numbers.{IsDigits}
use Rattle.smq_kit.specs.Replies.{first_of}
use Rattle.smq_kit.specs.declared.names.RouteId.{RouteId}
use Rattle.smq_kit.specs.declared.refusal.Refusal.TheVariants.{Overlap}
use Rattle.smq_route.specs.declared.version.VersionKey.{VersionKey}
use Rattle.smq_route.specs.declared.version.Version.{Version}
use Rattle.smq_route.specs.Versions.{Versions, version_cmp, key_at, version_of, lasts_past, overlap, AreApart}
use Rattle.smq_route.specs.Edits.{add_refusals, added, changed, changed_where, corrected}
use Rattle.smq_route.specs.Laws.{IsAccepted}
use Rattle.smq_route.proofs.VersionOrders.{versions_total, versions_exact}
use Rattle.smq_route.proofs.Lookups.{at-insert}
use Rattle.smq_route.proofs.Edited.{put-there}
use Rattle.smq_route.proofs.Apart.{added-apart, all-ended, no-overlap, overlap-none}

accepted : (o : Option ℕ) → o ≡ None → IsAccepted (option_map Overlap o ∷ [])
accepted o e = ap (λ (x : Option ℕ). first_of (option_map Overlap x ∷ [])) e

-- ---- apart

pub adds-apart : (m : Versions) (p : List ℕ) (f : ℕ) (r : RouteId) (n : List ℕ) → AreApart m → IsDigits p
    → IsAccepted (add_refusals m p f) → AreApart (added m p f r n)
adds-apart m p f r n a digits accept = added-apart m p f r n a digits (no-overlap (overlap m p f) accept)

-- ---- dates

pub dates-stay : (m : Versions) (p : List ℕ) (f : ℕ) (r : RouteId) (n : List ℕ) (k : VersionKey)
    → option_map (λ v. v.until) (get (changed m p f (corrected r n)) k) ≡ option_map (λ v. v.until) (get m k)
dates-stay m p f r n k = by (version_of m p f) refl
  where
    by : (o : Option Version) → version_of m p f ≡ o → option_map (λ v. v.until) (get (changed_where o m p f (corrected r n)) k)
        ≡ option_map (λ v. v.until) (get m k)
    by None e = refl
    by (Some v) e =
        ap (option_map (λ (x : Version). x.until)) (get-insert versions_total m (key_at p f) (corrected r n v) k)
        ∙ elim (eq_by_cmp version_cmp k (key_at p f)) as (λ b. eq_by_cmp version_cmp k (key_at p f) ≡ b
        → option_map (λ x. x.until) (cond b (Some (corrected r n v)) (get m k)) ≡ option_map (λ x. x.until) (get m k)) [
          | true ↦ λ same.
              let key : k ≡ key_at p f = versions_exact k (key_at p f) (is_equal (version_cmp k (key_at p f)) same) in
              ap (option_map (λ (x : Version). x.until)) (sym (ap (get m) key ∙ e))
          | false ↦ λ other. refl
        ] refl

-- ---- order

-- what is there and is open or ends after a moment, is so after a version more
still-lasts : (m : Versions) (k q : VersionKey) (t : ℕ) (r : RouteId) (n : List ℕ) (w : Version) → get m q ≡ Some w → lasts_past t w.until ≡ true
    → (x : Version) × (get (insert m k (record { until = None; route = r; network = n })) q ≡ Some x) × (lasts_past t x.until ≡ true)
still-lasts m k q t r n w there lasts =
    elim (eq_by_cmp version_cmp q k) as (λ b. eq_by_cmp version_cmp q k ≡ b
    → (x : Version) × (get (insert m k (record { until = None; route = r; network = n })) q ≡ Some x)
    × (lasts_past t x.until ≡ true)) [
      | true ↦ λ e. (
        record { until = None; route = r; network = n },
        get-insert versions_total m k _ q
            ∙ ap (λ (b : Bool). cond b (Some (record { until = None; route = r; network = n })) (get m q)) e,
        refl,
      )
      | false ↦ λ e. (
        w,
        get-insert versions_total m k _ q
            ∙ ap (λ (b : Bool). cond b (Some (record { until = None; route = r; network = n })) (get m q)) e ∙ there,
        lasts,
      )
    ] refl

pub second-alone : (m : Versions) (p q : List ℕ) (f g : ℕ) (r : RouteId) (n : List ℕ) → IsAccepted (add_refusals m p f)
    → IsAccepted (add_refusals (added m p f r n) q g) → IsAccepted (add_refusals m q g)
second-alone m p q f g r n one two =
    accepted (overlap m q g)
    (overlap-none m q g (λ h w there lasts.
    let now = still-lasts m (key_at p f) (key_at q h) g r n w there lasts in
    absurd (false≢true (sym (all-ended (added m p f r n) q g (no-overlap (overlap (added m p f r n) q g) two) h now.0 now.1) ∙ now.2))))

-- two that are accepted one after the other are of two prefixes
prefixes-differ : (m : Versions) (p q : List ℕ) (f g : ℕ) (r : RouteId) (n : List ℕ) → IsAccepted (add_refusals (added m p f r n) q g) → p ≢ q
prefixes-differ m p q f g r n two same =
    absurd (false≢true (sym (all-ended (added m p f r n) q g (no-overlap (overlap (added m p f r n) q g) two) f
    (record { until = None; route = r; network = n })
    (subst (λ (x : List ℕ). version_of (added m p f r n) x f ≡ Some (record { until = None; route = r; network = n })) same
    (put-there m (key_at p f) (record { until = None; route = r; network = n }))))))

pub first-after : (m : Versions) (p q : List ℕ) (f g : ℕ) (r s : RouteId) (n o : List ℕ) → IsAccepted (add_refusals m p f)
    → IsAccepted (add_refusals (added m p f r n) q g)
    → IsAccepted (add_refusals (added m q g s o) p f)
first-after m p q f g r s n o one two =
    accepted (overlap (added m q g s o) p f)
    (overlap-none (added m q g s o) p f (λ h w there lasts.
    elim (at-insert m (key_at q g) (record { until = None; route = s; network = o }) (key_at p h) w there) [
      | inl is ↦ prefixes-differ m p q f g r n two (ap (λ (k : VersionKey). k.prefix) is.0)
      | inr old ↦ absurd (false≢true (sym (all-ended m p f (no-overlap (overlap m p f) one) h w old) ∙ lasts))
    ]))

swapped : (m : Versions) (k l : VersionKey) (v w : Version) → k ≢ l → (q : VersionKey) → get (insert (insert m k v) l w) q
    ≡ get (insert (insert m l w) k v) q
swapped m k l v w other q =
    get-insert versions_total (insert m k v) l w q
    ∙ ap (cond (eq_by_cmp version_cmp q l) (Some w)) (get-insert versions_total m k v q)
    ∙ by (eq_by_cmp version_cmp q l) (eq_by_cmp version_cmp q k) refl refl
    ∙ sym (get-insert versions_total (insert m l w) k v q ∙ ap (cond (eq_by_cmp version_cmp q k) (Some v)) (get-insert versions_total m l w q))
  where
    by : (b c : Bool) → eq_by_cmp version_cmp q l ≡ b → eq_by_cmp version_cmp q k ≡ c → cond b (Some w) (cond c (Some v) (get m q))
        ≡ cond c (Some v) (cond b (Some w) (get m q))
    by true true x y =
        absurd (other (sym (versions_exact q k (is_equal (version_cmp q k) y)) ∙ versions_exact q l (is_equal (version_cmp q l) x)))
    by true false x y = refl
    by false true x y = refl
    by false false x y = refl

pub one-set : (m : Versions) (p q : List ℕ) (f g : ℕ) (r s : RouteId) (n o : List ℕ) → IsAccepted (add_refusals (added m p f r n) q g)
    → added (added m p f r n) q g s o ≡ added (added m q g s o) p f r n
one-set m p q f g r s n o two =
    same_map versions_total versions_exact _ _
    (swapped m (key_at p f) (key_at q g) (record { until = None; route = r; network = n })
    (record { until = None; route = s; network = o })
    (λ same. prefixes-differ m p q f g r n two (ap (λ (k : VersionKey). k.prefix) same)))
