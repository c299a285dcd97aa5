-- Versions of one prefix that don't overlap: which holds, which overlap a new one, and what edits leave.
use Rattle.std.proofs.lemmas.Bool.Decides.{nat_tests}
use Rattle.std.proofs.lemmas.Bool.{false≢true}
use Rattle.std.proofs.Common.{◌≡◌, ◌<◌, ◌≤◌, ℕ, Bool, true, false, cond, inl, inr, List, [], ◌∷◌, Option, Some, None, Result, subst, refl, sym, ap, ◌∙◌, arith}
use Rattle.std.specs.Prelude.{◌&&◌, nat_le, IsSome, MatchOption, option_map}
use Rattle.std.specs.List.{AllByRecursion}
use Rattle.std.specs.Cmp.Lexicographic.{bytes_decides, pointwise}
use Rattle.std.specs.FinMap.{entries, get, insert, get-entries}
use Rattle.smq_kit.proofs.MapLemmas as maps
use Rattle.smq_shelf.proofs.Walks.{both}
use Rattle.smq_kit.specs.Numbers.{IsDigits}
use Rattle.smq_kit.specs.declared.names.RouteId.{RouteId}
use Rattle.smq_kit.specs.declared.refusal.Refusal.{Refusal}
use Rattle.smq_kit.specs.declared.refusal.Refusal.TheVariants.{Overlap, Ended, BadEnd}
use Rattle.smq_route.specs.declared.version.VersionKey.{VersionKey}
use Rattle.smq_route.specs.declared.version.Version.{Version}
use Rattle.smq_kit.specs.Replies.{IsReply, first_of}
use Rattle.smq_route.specs.Versions.{Versions, key_at, version_of, lasts_past, is_of, overlap, EndsBy, LastsPast, AreApart}
use Rattle.smq_route.specs.within.Kept.{NoneHolds}
use Rattle.smq_route.specs.Edits.{add_refusals, end_refusals, correct_refusals, added, changed, changed_where, ending, corrected}
use Rattle.smq_route.proofs.VersionOrders.{versions_total, versions_exact}
use Rattle.smq_route.specs.Laws.{IsAccepted}
use Rattle.smq_route.proofs.Edited.{reply-keeps}
use Rattle.smq_route.proofs.Lookups.{at-insert}
use Rattle.smq_route.proofs.Least.{Entry, AllPassing, least-found, least-none, none-pass}

-- ---- ends

pub ended-then : (f t : ℕ) (o : Option ℕ) → EndsBy f o → f ≤ t → lasts_past t o ≡ false
ended-then f t None e h = absurd e
ended-then f t (Some u) e h = grind (arith, nat_tests, e, h)

pub lasts-before : (f t : ℕ) (o : Option ℕ) → LastsPast f o → t ≤ f → lasts_past t o ≡ true
lasts-before f t None e h = refl
lasts-before f t (Some u) e h = grind (arith, nat_tests, e, h)

ends-by : (t : ℕ) (o : Option ℕ) → lasts_past t o ≡ false → EndsBy t o
ends-by t None e = absurd cc
ends-by t (Some u) e = grind (arith, nat_tests, e)

same-value : (v w : Version) (o : Option Version) → o ≡ Some v → o ≡ Some w → v ≡ w
same-value v w o p q = cc

some-of : (o : Option Version) (v : Version) → o ≡ Some v → IsSome o
some-of o v e = subst IsSome (sym e) refl

-- ---- the version that holds

-- the last version up to a moment has ended: none holds
pub none-holds : (m : Versions) (p : List ℕ) (t f : ℕ) (v : Version) → AreApart m → f ≤ t → version_of m p f ≡ Some v
    → ((g : ℕ) → g ≤ t → IsSome (version_of m p g) → g ≤ f) → lasts_past t v.until ≡ false → NoneHolds m p t
none-holds m p t f v a below there most over g w w_there g_below =
    let before = λ (less : g < f). ended-then f t w.until (a.apart p g f w v w_there there less) below in
    let at = λ (same : g ≡ f).
    let one : v ≡ w = same-value v w (version_of m p g) (ap (version_of m p) same ∙ there) w_there in
    ap (λ (x : Version). lasts_past t x.until) (sym one) ∙ over in
    grind (arith, before, at, most g g_below (some-of (version_of m p g) w w_there))

-- there is none up to a moment
pub none-there : (m : Versions) (p : List ℕ) (t : ℕ) → ((g : ℕ) → g ≤ t → version_of m p g ≡ None) → NoneHolds m p t
none-there m p t none g w there below = let no : ◌≡◌ {A = Option Version} None (Some w) = sym (none g below) ∙ there in absurd cc

-- ---- overlaps

abbrev pub passes : List ℕ → ℕ → Entry → Bool
passes p t e = is_of p e && lasts_past t e.1.until

same-octets : (p : List ℕ) → pointwise Rattle.std.specs.Prelude.nat_eq p p ≡ true
same-octets p = (bytes_decides p p).1 refl

passes-at : (p : List ℕ) (t f : ℕ) (v : Version) → lasts_past t v.until ≡ true → passes p t (key_at p f, v) ≡ true
passes-at p t f v h = rw (same-octets p, h) refl

fails-at : (p : List ℕ) (t f : ℕ) (v : Version) → passes p t (key_at p f, v) ≡ false → lasts_past t v.until ≡ false
fails-at p t f v h = ap (λ (b : Bool). b && lasts_past t v.until) (sym (same-octets p)) ∙ h

passing : (p : List ℕ) (t : ℕ) (e : Entry) → passes p t e ≡ true → (e.0.prefix ≡ p) × (lasts_past t e.1.until ≡ true)
passing p t e h =
    let parts = both (pointwise Rattle.std.specs.Prelude.nat_eq e.0.prefix p) (lasts_past t e.1.until) h in
    ((bytes_decides e.0.prefix p).0 parts.0, parts.1)

-- what is so of each version of the prefix that is open or ends later is so of each entry that passes
all-passing : (m : Versions) (p : List ℕ) (t : ℕ) (P : ℕ → Type 0)
    → ((f : ℕ) (v : Version) → version_of m p f ≡ Some v → lasts_past t v.until ≡ true → P f)
    → (es : List Entry) → AllByRecursion (λ e. get m e.0 ≡ Some e.1) es → AllPassing (passes p t) (λ e. P e.0.from) es
all-passing m p t P h [] a = tt
all-passing m p t P h (e ∷ es) a = (
  λ pass.
      let is = passing p t e pass in
      let key : e.0 ≡ key_at p e.0.from = λ i. record { prefix = is.0 i; from = e.0.from } in
      h e.0.from e.1 (ap (get m) (sym key) ∙ a.0) is.1,
  all-passing m p t P h es a.1,
)

pub overlap-found : (m : Versions) (p : List ℕ) (t f : ℕ) (v : Version) → version_of m p f ≡ Some v → lasts_past t v.until ≡ true
    → ((g : ℕ) (w : Version) → version_of m p g ≡ Some w → lasts_past t w.until ≡ true → f ≤ g) → overlap m p t ≡ Some f
overlap-found m p t f v there lasts least =
    least-found (passes p t) (entries m) (key_at p f) v (sym (get-entries m (key_at p f)) ∙ there) (passes-at p t f v lasts)
    (all-passing m p t (λ g. f ≤ g) least (entries m) (maps.get-entry versions_total versions_exact m))

none-passing : (p : List ℕ) (t : ℕ) (es : List Entry) → AllPassing (passes p t) (λ _. ⊥) es → AllByRecursion (λ e. passes p t e ≡ false) es
none-passing p t [] a = tt
none-passing p t (e ∷ es) a = (
  elim (passes p t e) as (λ b. passes p t e ≡ b → b ≡ false) [ true ↦ λ h. absurd (a.0 h) | false ↦ λ h. refl ] refl,
  none-passing p t es a.1,
)

pub overlap-none : (m : Versions) (p : List ℕ) (t : ℕ)
    → ((g : ℕ) (w : Version) → version_of m p g ≡ Some w → lasts_past t w.until ≡ true → ⊥) → overlap m p t ≡ None
overlap-none m p t none =
    least-none (passes p t) (entries m) (none-passing p t (entries m)
    (all-passing m p t (λ _. ⊥) none (entries m) (maps.get-entry versions_total versions_exact m)))

-- where there is no overlap, each version of the prefix has ended
pub all-ended : (m : Versions) (p : List ℕ) (t : ℕ) → overlap m p t ≡ None → (g : ℕ) (w : Version) → version_of m p g ≡ Some w
    → lasts_past t w.until ≡ false
all-ended m p t none g w there =
    fails-at p t g w (none-pass (passes p t) (entries m) none (key_at p g) w (sym (get-entries m (key_at p g)) ∙ there))

-- the version that holds is the least overlap
pub overlap-holding : (m : Versions) (p : List ℕ) (t f : ℕ) (v : Version) → AreApart m → f ≤ t → version_of m p f ≡ Some v
    → lasts_past t v.until ≡ true → overlap m p t ≡ Some f
overlap-holding m p t f v a below there lasts =
    overlap-found m p t f v there lasts (λ g w w_there w_lasts.
    let over = λ (less : g < f). ended-then f t w.until (a.apart p g f w v w_there there less) below in grind (arith, over, w_lasts))

later : (m : Versions) (p : List ℕ) (t g : ℕ) (w : Version) → NoneHolds m p t → version_of m p g ≡ Some w → lasts_past t w.until ≡ true → t ≤ g
later m p t g w none there lasts = grind (arith, none g w there, lasts)

-- where none holds, the first version from then on is the least overlap
pub overlap-first : (m : Versions) (p : List ℕ) (t : ℕ) (r : Option ℕ) → AreApart m → NoneHolds m p t
    → MatchOption r ((g : ℕ) → t ≤ g → version_of m p g ≡ None) (λ f. (t ≤ f) × IsSome (version_of m p f)
    × ((g : ℕ) → t ≤ g → IsSome (version_of m p g) → f ≤ g)) → r ≡ overlap m p t
overlap-first m p t None a none h =
    sym (overlap-none m p t (λ g w there lasts. let no : ◌≡◌ {A = Option Version} None (Some w) =
    sym (h g (later m p t g w none there lasts)) ∙ there in absurd cc))
overlap-first m p t (Some f) a none h =
    elim (version_of m p f) as (λ o. version_of m p f ≡ o → IsSome o → Some f ≡ overlap m p t) [
      | None ↦ λ e s. absurd cc
      | Some v ↦ λ e s. sym (overlap-found m p t f v e (lasts-before f t v.until (a.forward p f v e) h.0)
          (λ g w there lasts. h.2 g (later m p t g w none there lasts) (some-of (version_of m p g) w there)))
    ] refl h.1

-- ---- edits

-- the key's prefix and beginning
prefix-is : (p q : List ℕ) (f g : ℕ) → key_at p f ≡ key_at q g → p ≡ q
prefix-is p q f g e = ap (λ (k : VersionKey). k.prefix) e

from-is : (p q : List ℕ) (f g : ℕ) → key_at p f ≡ key_at q g → f ≡ g
from-is p q f g e = ap (λ (k : VersionKey). k.from) e

-- no versions don't overlap
pub none-apart : (m : Versions) → ((k : VersionKey) → get m k ≡ None) → AreApart m
none-apart m none = record {
  digits = λ p f v there. let no : ◌≡◌ {A = Option Version} None (Some v) = sym (none (key_at p f)) ∙ there in absurd cc;
  forward = λ p f v there. let no : ◌≡◌ {A = Option Version} None (Some v) = sym (none (key_at p f)) ∙ there in absurd cc;
  apart = λ p f g v w there there_too less. let no : ◌≡◌ {A = Option Version} None (Some v) = sym (none (key_at p f)) ∙ there in absurd cc;
}

-- a version is put in that is apart from those of its prefix
pub put-apart : (m : Versions) (p : List ℕ) (f : ℕ) (v : Version) → AreApart m → IsDigits p → LastsPast f v.until
    → ((g : ℕ) (w : Version) → version_of m p g ≡ Some w → g < f → EndsBy f w.until)
    → ((g : ℕ) (w : Version) → version_of m p g ≡ Some w → f < g → EndsBy g v.until)
    → AreApart (insert m (key_at p f) v)
put-apart m p f v a digits forward before after = record {
  digits = λ q g w there.
      elim (at-insert m (key_at p f) v (key_at q g) w there) [
        | inl is ↦ subst IsDigits (sym (prefix-is q p g f is.0)) digits
        | inr old ↦ a.digits q g w old
      ];
  forward = λ q g w there.
      elim (at-insert m (key_at p f) v (key_at q g) w there) [
        | inl is ↦ subst (λ (n : ℕ). LastsPast n w.until) (sym (from-is q p g f is.0))
            (subst (λ (x : Version). LastsPast f x.until) (sym is.1) forward)
        | inr old ↦ a.forward q g w old
      ];
  apart = λ q g h w x there there_too less.
      elim (at-insert m (key_at p f) v (key_at q g) w there) [
        | inl is ↦
            elim (at-insert m (key_at p f) v (key_at q h) x there_too) [
              | inl both ↦ let one = from-is q p g f is.0 in let two = from-is q p h f both.0 in absurd (omega (arith, one, two, less))
              | inr old ↦
                  let same : q ≡ p = prefix-is q p g f is.0 in
                  let start : g ≡ f = from-is q p g f is.0 in
                  subst (λ (y : Version). EndsBy h y.until) (sym is.1)
                  (after h x (subst (λ (r : List ℕ). version_of m r h ≡ Some x) same old) (subst (λ (n : ℕ). n < h) start less))
            ]
        | inr old ↦
            elim (at-insert m (key_at p f) v (key_at q h) x there_too) [
              | inl is ↦
                  let same : q ≡ p = prefix-is q p h f is.0 in
                  let start : h ≡ f = from-is q p h f is.0 in
                  subst (λ (n : ℕ). EndsBy n w.until) (sym start)
                  (before g w (subst (λ (r : List ℕ). version_of m r g ≡ Some w) same old) (subst (λ (n : ℕ). g < n) start less))
              | inr too ↦ a.apart q g h w x old too less
            ]
      ];
}

-- an open version that overlaps none
pub added-apart : (m : Versions) (p : List ℕ) (f : ℕ) (route : RouteId) (network : List ℕ) → AreApart m → IsDigits p
    → overlap m p f ≡ None → AreApart (added m p f route network)
added-apart m p f route network a digits none =
    put-apart m p f (record { until = None; route = route; network = network }) a digits tt
    (λ g w there less. ends-by f w.until (all-ended m p f none g w there))
    (λ g w there more. absurd (false≢true (sym (all-ended m p f none g w there)
    ∙ lasts-before g f w.until (a.forward p g w there) (omega (arith, more)))))

pub no-overlap : (o : Option ℕ) → IsAccepted (option_map Overlap o ∷ []) → o ≡ None
no-overlap None a = refl
no-overlap (Some f) a = absurd cc

pub add-apart : {T : Type 0} (m n : Versions) (p : List ℕ) (f : ℕ) (route : RouteId) (network : List ℕ) (r : Result T Refusal)
    → AreApart m → IsDigits p
    → IsReply (first_of (add_refusals m p f)) r (n ≡ added m p f route network) (n ≡ m) → AreApart n
add-apart m n p f route network r a digits h =
    reply-keeps AreApart _ r m n _ a (λ none. added-apart m p f route network a digits (no-overlap (overlap m p f) none)) h

-- a version's end is set
ending-apart : (m : Versions) (p : List ℕ) (f until : ℕ) (v : Version) → AreApart m → version_of m p f ≡ Some v → v.until ≡ None
    → f < until → AreApart (insert m (key_at p f) (ending until v))
ending-apart m p f until v a there is_open forward =
    put-apart m p f (ending until v) a (a.digits p f v there) forward
    (λ g w w_there less. a.apart p g f w v w_there there less)
    (λ g w w_there more. absurd (subst (λ (o : Option ℕ). EndsBy g o) is_open (a.apart p f g v w there w_there more)))

pub open-then-after : (o : Option ℕ) (b : Bool) → IsAccepted (None ∷ option_map Ended o ∷ cond b (Some BadEnd) None ∷ []) → (o ≡ None) × (b ≡ false)
open-then-after None true a = absurd cc
open-then-after None false a = (refl, refl)
open-then-after (Some u) b a = absurd cc

pub ends-apart : (m : Versions) (p : List ℕ) (f until : ℕ) → AreApart m → IsAccepted (end_refusals (version_of m p f) f until)
    → AreApart (changed m p f (ending until))
ends-apart m p f until a accept = by (version_of m p f) refl accept
  where
    by : (o : Option Version) → version_of m p f ≡ o → IsAccepted (end_refusals o f until) → AreApart (changed_where o m p f (ending until))
    by None e x = absurd cc
    by (Some v) e x =
        let is = open-then-after v.until (nat_le until f) x in
        let late = is.1 in ending-apart m p f until v a e is.0 (grind (arith, nat_tests, late))

pub end-apart : {T : Type 0} (m n : Versions) (p : List ℕ) (f until : ℕ) (r : Result T Refusal) → AreApart m
    → IsReply (first_of (end_refusals (version_of m p f) f until)) r (n ≡ changed m p f (ending until)) (n ≡ m) → AreApart n
end-apart m n p f until r a h = reply-keeps AreApart _ r m n _ a (ends-apart m p f until a) h

-- a version is corrected
pub corrects-apart : (m : Versions) (p : List ℕ) (f : ℕ) (r : RouteId) (n : List ℕ) → AreApart m → AreApart (changed m p f (corrected r n))
corrects-apart m p f r n a = by (version_of m p f) refl
  where
    by : (o : Option Version) → version_of m p f ≡ o → AreApart (changed_where o m p f (corrected r n))
    by None e = a
    by (Some v) e =
        put-apart m p f (corrected r n v) a (a.digits p f v e) (a.forward p f v e)
        (λ q w there less. a.apart p q f w v there e less)
        (λ q w there more. a.apart p f q v w e there more)

pub correct-apart : {T : Type 0} (m n : Versions) (p : List ℕ) (f : ℕ) (route : RouteId) (network : List ℕ) (r : Result T Refusal) → AreApart m
    → IsReply (first_of (correct_refusals (version_of m p f))) r (n ≡ changed m p f (corrected route network)) (n ≡ m) → AreApart n
correct-apart m n p f route network r a h = reply-keeps AreApart _ r m n _ a (λ _. corrects-apart m p f route network a) h
