-- What is looked up in a map of std of versions.
use Rattle.std.proofs.Common.{◌≡◌, ◌≤◌, ℕ, Bool, true, false, cond, ◌⊎◌, inl, inr, List, [], Option, Some, None, subst, refl, sym, ap, ◌∙◌}
use Rattle.std.specs.Cmp.Lexicographic.{bytes_decides}
use Rattle.smq_kit.specs.contracts.number.DigitsPartialEq.TheImpl as digits_eq
use Rattle.std.proofs.lemmas.Bool.{false≢true}
use Rattle.std.specs.Prelude.{IsSome}
use Rattle.std.specs.List.Sorted.{IsStrictlySortedBy}
use Rattle.std.specs.Map.{keys_of, lookup}
use Rattle.std.specs.declared.cmp.Ordering.{Ordering}
use Rattle.std.specs.declared.cmp.Ordering.TheVariants.{Less, Equal, Greater}
use Rattle.std.specs.Ordering.{is_gt, is_lt, nat_cmp, ordering_then, ordering_reverse, eq_by_cmp}
use Rattle.std.proofs.lemmas.Bool.Decides.{nat_tests}
use Rattle.std.proofs.lemmas.Cmp.{nat_list_cmp_total}
use Rattle.std.proofs.Common.{arith}
use Rattle.std.proofs.lemmas.Map.Keys.{le_from_not_gt, ge_from_not_lt}
use Rattle.std.specs.BTreeMap.{is_at}
use Rattle.std.specs.FinMap.{entries, get, insert, get-insert, from_entries, slice_cmp-IsAntisymmetric, nat_cmp-IsAntisymmetric}
use Rattle.smq_kit.specs.Orders.{octets_cmp}
use Rattle.smq_route.specs.declared.version.VersionKey.{VersionKey}
use Rattle.smq_route.specs.declared.version.Version.{Version}
use Rattle.smq_route.specs.Versions.{version_cmp, Versions, key_at, version_of}
use Rattle.smq_route.specs.within.Kept.{kept_version_cmp}
use Rattle.smq_route.proofs.VersionOrders.{version-order, versions_total, versions_exact, in-prefix}
use Rattle.smq_kit.proofs.Comparisons.{is_equal}
use Rattle.smq_kit.proofs.Ordered as ordered

abbrev pub seen : List (VersionKey × Version) → Versions
seen es = from_entries es

pub get-seen : (es : List (VersionKey × Version)) (q : VersionKey) → get (seen es) q ≡ lookup (is_at (kept_version_cmp q)) es
get-seen es q = ordered.get-kept versions_total versions_exact version-order es q

pub insert-seen : (es fs : List (VersionKey × Version)) (k : VersionKey) (v : Version)
    → ((q : VersionKey) → lookup (is_at (kept_version_cmp q)) fs
    ≡ cond (is_at (kept_version_cmp k) q) (Some v) (lookup (is_at (kept_version_cmp q)) es))
    → seen fs ≡ insert (seen es) k v
insert-seen es fs k v h = ordered.put-kept versions_total versions_exact version-order es fs k v h

pub insert-same : (m : Versions) (k : VersionKey) (v : Version) → get m k ≡ Some v → insert m k v ≡ m
insert-same m k v h = ordered.insert-same versions_total versions_exact version-order m k v h

pub entries-seen : (es : List (VersionKey × Version)) → IsStrictlySortedBy kept_version_cmp (keys_of es) → entries (seen es) ≡ es
entries-seen es s = ordered.entries-kept versions_total versions_exact version-order es s

-- ---- the last up to a key

pub some-there : (es : List (VersionKey × Version)) (q : VersionKey) → IsSome (get (seen es) q) → IsSome (lookup (is_at (kept_version_cmp q)) es)
some-there es q h = subst IsSome (get-seen es q) h

none-of : (o : Option Version) → (IsSome o → ⊥) → o ≡ None
none-of None h = refl
none-of (Some v) h = absurd (h refl)

same-prefix : (a b : List ℕ) (r : Ordering) → octets_cmp a b ≡ r → (r ≡ Less → ⊥) → (r ≡ Greater → ⊥) → a ≡ b
same-prefix a b Less e l g = absurd (l refl)
same-prefix a b Equal e l g = slice_cmp-IsAntisymmetric nat_cmp-IsAntisymmetric a b e
same-prefix a b Greater e l g = absurd (g refl)

not-less : (q s : Ordering) → is_lt (ordering_then q s) ≡ false → q ≡ Less → ⊥
not-less q s h e = grind (arith, h, e)

not-greater : (q s : Ordering) → is_gt (ordering_then q s) ≡ false → q ≡ Greater → ⊥
not-greater q s h e = grind (arith, h, e)

pub not-gt : (a b : ℕ) → a ≤ b → is_gt (nat_cmp a b) ≡ false
not-gt a b h = grind (arith, nat_tests, h)

-- whether a key comes after another
abbrev pub is_after : VersionKey → VersionKey → Bool
is_after a b = is_gt (version_cmp a b)

-- the last entry up to a key, where it is one of the key's prefix
last-at : (es : List (VersionKey × Version)) (p : List ℕ) (t f : ℕ) (v : Version) → is_after (key_at p f) (key_at p t) ≡ false
    → lookup (is_at (kept_version_cmp (key_at p f))) es ≡ Some v
    → ((q : VersionKey) → is_after q (key_at p t) ≡ false → IsSome (lookup (is_at (kept_version_cmp q)) es) → is_lt (version_cmp (key_at p f) q) ≡ false)
    → (f ≤ t) × (version_of (seen es) p f ≡ Some v) × ((g : ℕ) → g ≤ t → IsSome (version_of (seen es) p g) → g ≤ f)
last-at es p t f v le found most = (
  le_from_not_gt f t (ap is_gt (sym (in-prefix p f t)) ∙ le),
  get-seen es (key_at p f) ∙ found,
  λ g below there. ge_from_not_lt f g (ap is_lt (sym (in-prefix p f g))
      ∙ most (key_at p g) (ap is_gt (in-prefix p g t) ∙ not-gt g t below) (some-there es (key_at p g) there)),
)

pub last-same : (es : List (VersionKey × Version)) (p : List ℕ) (t : ℕ) (k : VersionKey) (v : Version)
    → is_after k (key_at p t) ≡ false → lookup (is_at (kept_version_cmp k)) es ≡ Some v
    → ((q : VersionKey) → is_after q (key_at p t) ≡ false → IsSome (lookup (is_at (kept_version_cmp q)) es) → is_lt (version_cmp k q) ≡ false) → k.prefix ≡ p
    → (k.from ≤ t) × (version_of (seen es) p k.from ≡ Some v) × ((g : ℕ) → g ≤ t → IsSome (version_of (seen es) p g) → g ≤ k.from)
last-same es p t k v le found most same =
    let is : k ≡ key_at p k.from = λ i. record { prefix = same i; from = k.from } in
    last-at es p t k.from v
    (subst (λ (x : VersionKey). is_after x (key_at p t) ≡ false) is le)
    (subst (λ (x : VersionKey). lookup (is_at (kept_version_cmp x)) es ≡ Some v) is found)
    (subst (λ (x : VersionKey). (q : VersionKey) → is_after q (key_at p t) ≡ false → IsSome (lookup (is_at (kept_version_cmp q)) es)
    → is_lt (version_cmp x q) ≡ false) is most)

-- where it is another prefix's, the prefix has none
pub last-other : (es : List (VersionKey × Version)) (p : List ℕ) (t : ℕ) (k : VersionKey) → is_after k (key_at p t) ≡ false
    → ((q : VersionKey) → is_after q (key_at p t) ≡ false → IsSome (lookup (is_at (kept_version_cmp q)) es)
    → is_lt (version_cmp k q) ≡ false) → (k.prefix ≡ p → ⊥)
    → (g : ℕ) → g ≤ t → version_of (seen es) p g ≡ None
last-other es p t k le most other g below =
    none-of (version_of (seen es) p g) (λ there.
    let before : is_lt (version_cmp k (key_at p g)) ≡ false = most (key_at p g) (ap is_gt (in-prefix p g t)
    ∙ not-gt g t below) (some-there es (key_at p g) there) in
    other (same-prefix k.prefix p (octets_cmp k.prefix p) refl (not-less (octets_cmp k.prefix p) (nat_cmp k.from g) before)
    (not-greater (octets_cmp k.prefix p) (nat_cmp k.from t) le)))

pub last-none : (es : List (VersionKey × Version)) (p : List ℕ) (t : ℕ)
    → ((q : VersionKey) → is_after q (key_at p t) ≡ false → lookup (is_at (kept_version_cmp q)) es ≡ None)
    → (g : ℕ) → g ≤ t → version_of (seen es) p g ≡ None
last-none es p t none g below = get-seen es (key_at p g) ∙ none (key_at p g) (ap is_gt (in-prefix p g t) ∙ not-gt g t below)

-- ---- the first from a key

first-at : (es : List (VersionKey × Version)) (p : List ℕ) (t f : ℕ) (v : Version) → is_after (key_at p t) (key_at p f) ≡ false
    → lookup (is_at (kept_version_cmp (key_at p f))) es ≡ Some v
    → ((q : VersionKey) → is_after (key_at p t) q ≡ false → IsSome (lookup (is_at (kept_version_cmp q)) es) → is_after (key_at p f) q ≡ false)
    → (t ≤ f) × IsSome (version_of (seen es) p f) × ((g : ℕ) → t ≤ g → IsSome (version_of (seen es) p g) → f ≤ g)
first-at es p t f v le found least = (
  le_from_not_gt t f (ap is_gt (sym (in-prefix p t f)) ∙ le),
  subst IsSome (sym (get-seen es (key_at p f) ∙ found)) refl,
  λ g above there. le_from_not_gt f g (ap is_gt (sym (in-prefix p f g))
      ∙ least (key_at p g) (ap is_gt (in-prefix p t g) ∙ not-gt t g above) (some-there es (key_at p g) there)),
)

pub first-same : (es : List (VersionKey × Version)) (p : List ℕ) (t : ℕ) (k : VersionKey) (v : Version)
    → is_after (key_at p t) k ≡ false → lookup (is_at (kept_version_cmp k)) es ≡ Some v
    → ((q : VersionKey) → is_after (key_at p t) q ≡ false → IsSome (lookup (is_at (kept_version_cmp q)) es) → is_after k q ≡ false) → k.prefix ≡ p
    → (t ≤ k.from) × IsSome (version_of (seen es) p k.from) × ((g : ℕ) → t ≤ g → IsSome (version_of (seen es) p g) → k.from ≤ g)
first-same es p t k v le found least same =
    let is : k ≡ key_at p k.from = λ i. record { prefix = same i; from = k.from } in
    first-at es p t k.from v
    (subst (λ (x : VersionKey). is_after (key_at p t) x ≡ false) is le)
    (subst (λ (x : VersionKey). lookup (is_at (kept_version_cmp x)) es ≡ Some v) is found)
    (subst (λ (x : VersionKey). (q : VersionKey) → is_after (key_at p t) q ≡ false → IsSome (lookup (is_at (kept_version_cmp q)) es)
    → is_after x q ≡ false) is least)

pub first-other : (es : List (VersionKey × Version)) (p : List ℕ) (t : ℕ) (k : VersionKey) → is_after (key_at p t) k ≡ false
    → ((q : VersionKey) → is_after (key_at p t) q ≡ false → IsSome (lookup (is_at (kept_version_cmp q)) es) → is_after k q ≡ false) → (k.prefix ≡ p → ⊥)
    → (g : ℕ) → t ≤ g → version_of (seen es) p g ≡ None
first-other es p t k le least other g above =
    none-of (version_of (seen es) p g) (λ there.
    let after : is_after k (key_at p g) ≡ false = least (key_at p g) (ap is_gt (in-prefix p t g)
    ∙ not-gt t g above) (some-there es (key_at p g) there) in
    other (sym (same-prefix p k.prefix (octets_cmp p k.prefix) refl
    (λ e. not-greater (octets_cmp k.prefix p) (nat_cmp k.from g) after (nat_list_cmp_total.antisymm k.prefix p ∙ ap ordering_reverse e))
    (not-greater (octets_cmp p k.prefix) (nat_cmp t k.from) le))))

pub first-none : (es : List (VersionKey × Version)) (p : List ℕ) (t : ℕ)
    → ((q : VersionKey) → is_after (key_at p t) q ≡ false → lookup (is_at (kept_version_cmp q)) es ≡ None)
    → (g : ℕ) → t ≤ g → version_of (seen es) p g ≡ None
first-none es p t none g above = get-seen es (key_at p g) ∙ none (key_at p g) (ap is_gt (in-prefix p t g) ∙ not-gt t g above)

-- ---- an entry that is put in

pub at-insert : (m : Versions) (k : VersionKey) (v : Version) (q : VersionKey) (w : Version) → get (insert m k v) q ≡ Some w
    → ((q ≡ k) × (w ≡ v)) ⊎ (get m q ≡ Some w)
at-insert m k v q w h =
    elim (eq_by_cmp version_cmp q k) as (λ b. eq_by_cmp version_cmp q k ≡ b → cond b (Some v) (get m q) ≡ Some w
    → ((q ≡ k) × (w ≡ v)) ⊎ (get m q ≡ Some w)) [
      | true ↦ λ e g. inl (versions_exact q k (is_equal (version_cmp q k) e), cc)
      | false ↦ λ e g. inr g
    ] refl (sym (get-insert versions_total m k v q) ∙ h)

-- ---- equal digits

pub same-digits : (a b : List ℕ) (r : Bool) → r ≡ (digits_eq.ghosts).eq a b → r ≡ true → a ≡ b
same-digits a b r is t = (bytes_decides a b).0 (sym is ∙ t)

pub other-digits : (a b : List ℕ) (r : Bool) → r ≡ (digits_eq.ghosts).eq a b → r ≡ false → a ≡ b → ⊥
other-digits a b r is f same = false≢true (sym f ∙ is ∙ (bytes_decides a b).1 same)

-- nothing is in an empty map
pub get-none : (es : List (VersionKey × Version)) (q : VersionKey) → es ≡ [] → get (seen es) q ≡ None
get-none es q e = ap (λ (fs : List (VersionKey × Version)). get (seen fs) q) e ∙ get-seen [] q
