-- What is so of versions that are apart, of edits, and of the route of a number.
use Rattle.std.specs.Prelude.{◌≡◌, ◌↔◌, ◌≢◌, ◌≤◌, ◌<◌, ℕ, true, false, List, length, Option, Some, None, IsTrue, option_map}
use Rattle.std.specs.FinMap as fin
use Rattle.smq_kit.specs.Numbers.{IsDigits}
use Rattle.smq_kit.specs.Replies.{first_of}
use Rattle.smq_kit.specs.declared.names.RouteId.{RouteId}
use Rattle.smq_kit.specs.declared.refusal.Refusal.{Refusal}
use Rattle.smq_route.specs.contracts.version.VersionKeyOrd.TheImpl as key_ord
use Rattle.smq_route.specs.contracts.version.VersionKeyPartialEq.TheImpl as key_eq
use Rattle.smq_route.specs.contracts.version.VersionPartialEq.TheImpl as version_eq
use Rattle.smq_route.specs.declared.version.VersionKey.{VersionKey}
use Rattle.smq_route.specs.declared.version.Version.{Version}
use Rattle.smq_route.specs.Versions.{Versions, version_cmp, key_at, version_of, lasts_past, holds, begins, serves, route_at, overlap, AreApart}
use Rattle.smq_route.specs.Edits.{add_refusals, end_refusals, added, changed, ending, corrected}

-- `cmp` of keys is their order, by prefix, then by beginning, and `==` says whether they are one
pub record KeysAreOrdered : Type 0 where
  pub order : (a b : VersionKey) → key_ord.ghosts.cmp a b ≡ version_cmp a b
  pub same : (a b : VersionKey) → IsTrue (key_eq.ghosts.eq a b) ↔ (a ≡ b)

-- `==` of versions says whether they are one
abbrev pub VersionsAreTold : Type 0
VersionsAreTold = (a b : Version) → IsTrue (version_eq.ghosts.eq a b) ↔ (a ≡ b)

-- One version of a prefix at most holds at a moment.
pub record OneHolds : Type 0 where
  pub one : (versions : Versions) (prefix : List ℕ) (t f g : ℕ) (v w : Version) → AreApart versions
      → version_of versions prefix f ≡ Some v → version_of versions prefix g ≡ Some w
      → holds t (key_at prefix f, v) ≡ true → holds t (key_at prefix g, w) ≡ true → f ≡ g

-- An edit puts in or changes one version, and no other.
pub record EditsChangeOne : Type 0 where
  pub added_there : (versions : Versions) (prefix : List ℕ) (from : ℕ) (route : RouteId) (network : List ℕ)
      → version_of (added versions prefix from route network) prefix from
      ≡ Some (record { until = None; route = route; network = network })
  pub added_elsewhere : (versions : Versions) (prefix : List ℕ) (from : ℕ) (route : RouteId) (network : List ℕ)
      (key : VersionKey) → key ≢ key_at prefix from
      → fin.get (added versions prefix from route network) key ≡ fin.get versions key
  pub changed_there : (versions : Versions) (prefix : List ℕ) (from : ℕ) (f : Version → Version) (v : Version)
      → version_of versions prefix from ≡ Some v → version_of (changed versions prefix from f) prefix from ≡ Some (f v)
  pub changed_elsewhere : (versions : Versions) (prefix : List ℕ) (from : ℕ) (f : Version → Version)
      (key : VersionKey) → key ≢ key_at prefix from
      → fin.get (changed versions prefix from f) key ≡ fin.get versions key

-- none of these refusals holds
abbrev pub IsAccepted : List (Option Refusal) → Type 0
IsAccepted refusals = first_of refusals ≡ None

-- An edit that is accepted keeps versions of one prefix from overlapping.
pub record EditsKeepApart : Type 0 where
  pub adds : (versions : Versions) (prefix : List ℕ) (from : ℕ) (route : RouteId) (network : List ℕ)
      → AreApart versions → IsDigits prefix → IsAccepted (add_refusals versions prefix from)
      → AreApart (added versions prefix from route network)
  pub ends : (versions : Versions) (prefix : List ℕ) (from until : ℕ) → AreApart versions
      → IsAccepted (end_refusals (version_of versions prefix from) from until)
      → AreApart (changed versions prefix from (ending until))
  pub corrects : (versions : Versions) (prefix : List ℕ) (from : ℕ) (route : RouteId) (network : List ℕ)
      → AreApart versions → AreApart (changed versions prefix from (corrected route network))

-- A version whose end is accepted holds from its beginning up to the end, and no longer: before the end as it did.
pub record EndsAtItsEnd : Type 0 where
  pub first : (key : VersionKey) (v : Version) (until : ℕ) → IsAccepted (end_refusals (Some v) key.from until)
      → holds key.from (key, ending until v) ≡ true
  pub before : (key : VersionKey) (v : Version) (until t : ℕ) → IsAccepted (end_refusals (Some v) key.from until)
      → t < until → holds t (key, ending until v) ≡ holds t (key, v)
  pub after : (key : VersionKey) (v : Version) (until t : ℕ) → IsAccepted (end_refusals (Some v) key.from until)
      → until ≤ t → holds t (key, ending until v) ≡ false

-- A correction changes no date: each version is there as before, and has the end that it had.
pub record KeepsDates : Type 0 where
  pub dates : (versions : Versions) (prefix : List ℕ) (from : ℕ) (route : RouteId) (network : List ℕ) (key : VersionKey)
      → option_map (λ v. v.until) (fin.get (changed versions prefix from (corrected route network)) key)
      ≡ option_map (λ v. v.until) (fin.get versions key)

-- Of two versions that are added one after the other either may come first: both are accepted, and make one set.
pub record OrderIsIdle : Type 0 where
  pub second_alone : (versions : Versions) (p q : List ℕ) (f g : ℕ) (r : RouteId) (n : List ℕ)
      → IsAccepted (add_refusals versions p f) → IsAccepted (add_refusals (added versions p f r n) q g)
      → IsAccepted (add_refusals versions q g)
  pub first_after : (versions : Versions) (p q : List ℕ) (f g : ℕ) (r s : RouteId) (n m : List ℕ)
      → IsAccepted (add_refusals versions p f) → IsAccepted (add_refusals (added versions p f r n) q g)
      → IsAccepted (add_refusals (added versions q g s m) p f)
  pub same : (versions : Versions) (p q : List ℕ) (f g : ℕ) (r s : RouteId) (n m : List ℕ)
      → IsAccepted (add_refusals versions p f) → IsAccepted (add_refusals (added versions p f r n) q g)
      → added (added versions p f r n) q g s m ≡ added (added versions q g s m) p f r n

-- The route of a number is that of the version which holds and begins it, where no other such one has a longer prefix.
-- Where there is none the number has no route, and nowhere else. What is told is the route of a version that holds and
-- begins it.
pub record IsOfLongest : Type 0 where
  pub found : (versions : Versions) (number prefix : List ℕ) (t from : ℕ) (v : Version) → AreApart versions
      → version_of versions prefix from ≡ Some v → serves number t (key_at prefix from, v) ≡ true
      → ((other : List ℕ) (g : ℕ) (w : Version) → version_of versions other g ≡ Some w
      → serves number t (key_at other g, w) ≡ true → length other ≤ length prefix)
      → route_at versions number t ≡ Some (v.route, v.network)
  pub none : (versions : Versions) (number : List ℕ) (t : ℕ)
      → ((other : List ℕ) (g : ℕ) (w : Version) → version_of versions other g ≡ Some w
      → serves number t (key_at other g, w) ≡ false)
      → route_at versions number t ≡ None
  pub only_there : (versions : Versions) (number prefix : List ℕ) (t from : ℕ) (v : Version)
      → route_at versions number t ≡ None → version_of versions prefix from ≡ Some v
      → serves number t (key_at prefix from, v) ≡ false
  pub witness : (versions : Versions) (number : List ℕ) (t : ℕ) (told : RouteId × List ℕ)
      → route_at versions number t ≡ Some told
      → (prefix : List ℕ) × (from : ℕ) × (v : Version) × (version_of versions prefix from ≡ Some v)
      × (serves number t (key_at prefix from, v) ≡ true) × ((v.route, v.network) ≡ told)

-- What a new version overlaps first is the least beginning of the versions of its prefix that are open or end after the
-- new one begins. Where there is none it overlaps nothing, and nowhere else.
pub record IsLeastOverlap : Type 0 where
  pub found : (versions : Versions) (prefix : List ℕ) (t from : ℕ) (v : Version)
      → version_of versions prefix from ≡ Some v → lasts_past t v.until ≡ true
      → ((g : ℕ) (w : Version) → version_of versions prefix g ≡ Some w → lasts_past t w.until ≡ true → from ≤ g)
      → overlap versions prefix t ≡ Some from
  pub none : (versions : Versions) (prefix : List ℕ) (t : ℕ)
      → ((g : ℕ) (w : Version) → version_of versions prefix g ≡ Some w → lasts_past t w.until ≡ false)
      → overlap versions prefix t ≡ None
  pub only_there : (versions : Versions) (prefix : List ℕ) (t from : ℕ) (v : Version)
      → overlap versions prefix t ≡ None → version_of versions prefix from ≡ Some v → lasts_past t v.until ≡ false

-- An edit of a prefix changes no route of a number that the prefix doesn't begin.
pub record EditsStayInPrefix : Type 0 where
  pub adds : (versions : Versions) (prefix : List ℕ) (from : ℕ) (route : RouteId) (network number : List ℕ) (t : ℕ)
      → begins number prefix ≡ false
      → route_at (added versions prefix from route network) number t ≡ route_at versions number t
  pub changes : (versions : Versions) (prefix : List ℕ) (from : ℕ) (f : Version → Version) (number : List ℕ) (t : ℕ)
      → begins number prefix ≡ false → route_at (changed versions prefix from f) number t ≡ route_at versions number t
