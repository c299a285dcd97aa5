-- How many digits the prefixes of versions have at most.
use Rattle.std.proofs.Common.{◌≡◌, ◌≤◌, inl, inr, ℕ, List, length, Option, Some, None, Result, subst, refl, sym, ◌∙◌, arith}
use Rattle.std.specs.FinMap.{get, insert}
use Rattle.smq_kit.specs.declared.names.RouteId.{RouteId}
use Rattle.smq_kit.specs.declared.refusal.Refusal.{Refusal}
use Rattle.smq_kit.specs.Replies.{IsReply}
use Rattle.smq_route.specs.declared.version.VersionKey.{VersionKey}
use Rattle.smq_route.specs.declared.version.Version.{Version}
use Rattle.smq_route.specs.Versions.{Versions, key_at, version_of}
use Rattle.smq_route.specs.within.Kept.{AreWithin}
use Rattle.smq_route.specs.Edits.{added, changed, changed_where}
use Rattle.smq_route.proofs.Edited.{reply-keeps}
use Rattle.smq_route.proofs.Lookups.{at-insert}

-- no versions
pub none-within : (most : ℕ) (m : Versions) → ((k : VersionKey) → get m k ≡ None) → AreWithin most m
none-within most m none k v there = let no : ◌≡◌ {A = Option Version} None (Some v) = sym (none k) ∙ there in absurd cc

-- a version is put in
put-within : (most : ℕ) (m : Versions) (p : List ℕ) (f : ℕ) (v : Version) → AreWithin most m → length p ≤ most
    → AreWithin most (insert m (key_at p f) v)
put-within most m p f v within bound k w there =
    elim (at-insert m (key_at p f) v k w there) [
      | inl is ↦ subst (λ (x : VersionKey). length x.prefix ≤ most) (sym is.0) bound
      | inr old ↦ within k w old
    ]

pub add-within : {T : Type 0} (most : ℕ) (m n : Versions) (p : List ℕ) (f : ℕ) (route : RouteId) (network : List ℕ)
    (o : Option Refusal) (r : Result T Refusal)
    → AreWithin most m → length p ≤ most → IsReply o r (n ≡ added m p f route network) (n ≡ m) → AreWithin most n
add-within most m n p f route network o r within bound h =
    reply-keeps (AreWithin most) o r m n _ within (λ _. put-within most m p f (record { until = None; route = route; network = network }) within bound) h

-- a version is changed
changed-within : (most : ℕ) (m : Versions) (p : List ℕ) (f : ℕ) (g : Version → Version) → AreWithin most m → AreWithin most (changed m p f g)
changed-within most m p f g within = by (version_of m p f) refl
  where
    by : (o : Option Version) → version_of m p f ≡ o → AreWithin most (changed_where o m p f g)
    by None e = within
    by (Some v) e = put-within most m p f (g v) within (within (key_at p f) v e)

pub change-within : {T : Type 0} (most : ℕ) (m n : Versions) (p : List ℕ) (f : ℕ) (g : Version → Version) (o : Option Refusal) (r : Result T Refusal)
    → AreWithin most m → IsReply o r (n ≡ changed m p f g) (n ≡ m) → AreWithin most n
change-within most m n p f g o r within h = reply-keeps (AreWithin most) o r m n _ within (λ _. changed-within most m p f g within) h

-- more digits are enough too
pub within-more : (most more : ℕ) (m : Versions) → most ≤ more → AreWithin most m → AreWithin more m
within-more most more m bound within k v there = let below = within k v there in omega (arith, bound, below)
