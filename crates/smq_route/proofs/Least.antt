-- The least beginning and the longest prefix of versions that pass a test.
use Rattle.std.proofs.Common.{◌≡◌, ◌<◌, ◌≤◌, ℕ, Bool, true, false, cond, ◌⊎◌, inl, inr, List, [], ◌∷◌, length, Option, Some, None, refl, sym, ap, ◌∙◌, arith}
use Rattle.std.proofs.lemmas.Bool.{false≢true}
use Rattle.std.proofs.lemmas.Bool.Decides.{nat_tests}
use Rattle.std.specs.Prelude.{nat_lt, nat_le, map, filter, IfSome, unwrap_or, option_map}
use Rattle.std.specs.List.{AllByRecursion, find, list_all}
use Rattle.std.specs.Ordering.{eq_by_cmp}
use Rattle.std.specs.FinMap.{find as map_find}
use Rattle.smq_route.specs.declared.version.VersionKey.{VersionKey}
use Rattle.smq_route.specs.declared.version.Version.{Version}
use Rattle.smq_route.specs.Versions.{version_cmp, least, longest, is_longest}
use Rattle.smq_route.proofs.VersionOrders.{versions_exact}
use Rattle.smq_kit.proofs.Comparisons.{is_equal}

abbrev pub Entry : Type 0
Entry = VersionKey × Version

-- what holds of each entry that passes
abbrev pub AllPassing : (Entry → Bool) → (Entry → Type 0) → List Entry → Type 0
AllPassing test P es = AllByRecursion (λ e. test e ≡ true → P e) es

-- ---- there is a longest

raised : (n m : ℕ) (es : List Entry) → n ≤ m → list_all (λ o. nat_le (length o.0.prefix) n) es ≡ true
    → list_all (λ o. nat_le (length o.0.prefix) m) es ≡ true
raised n m [] le h = refl
raised n m (e ∷ es) le h = grind (arith, nat_tests, h, le, raised n m es le)

-- what is so of each entry is so of one of the longest
one-of-longest : (P : Entry → Type 0) (e : Entry) (es : List Entry) → AllByRecursion P (e ∷ es) → (x : Entry) × P x × (is_longest (e ∷ es) x ≡ true)
one-of-longest P e [] a = (e, a.0, let yes : nat_le (length e.0.prefix) (length e.0.prefix) ≡ true = grind (arith, nat_tests) in rw yes refl)
one-of-longest P e (f ∷ fs) a =
    let top = one-of-longest P f fs a.1 in
    elim (nat_le (length e.0.prefix) (length top.0.0.prefix)) as (λ b. nat_le (length e.0.prefix) (length top.0.0.prefix) ≡ b
    → (x : Entry) × P x × (is_longest (e ∷ f ∷ fs) x ≡ true)) [
      | true ↦ λ le. (top.0, top.1, rw le top.2)
      | false ↦ λ gt.
          let below : length top.0.0.prefix ≤ length e.0.prefix = grind (arith, nat_tests, gt) in
          let yes : nat_le (length e.0.prefix) (length e.0.prefix) ≡ true = grind (arith, nat_tests) in
          (e, a.0, rw yes (raised (length top.0.0.prefix) (length e.0.prefix) (f ∷ fs) below top.2))
    ] refl

none-good : (good : Entry → Bool) (es : List Entry) → find good es ≡ None → AllByRecursion (λ e. good e ≡ false) es
none-good good [] n = tt
none-good good (e ∷ es) n =
    let bad : good e ≡ false = grind (arith, n) in
    (bad, none-good good es (ap (λ b. cond b (Some e) (find good es)) (sym bad) ∙ n))

-- where there is no longest, there is none
pub no-longest : (es : List Entry) → longest es ≡ None → es ≡ []
no-longest [] n = refl
no-longest (e ∷ es) n =
    let top = one-of-longest (λ x. is_longest (e ∷ es) x ≡ false) e es (none-good (is_longest (e ∷ es)) (e ∷ es) n) in
    absurd (false≢true (sym top.1 ∙ top.2))

module _ (test : Entry → Bool) where
  -- ---- the longest prefix

  passing-map : (P Q : Entry → Type 0) → ((e : Entry) → P e → Q e) → (es : List Entry) → AllPassing test P es → AllPassing test Q es
  passing-map P Q f [] a = tt
  passing-map P Q f (e ∷ es) a = (λ t. f e (a.0 t), passing-map P Q f es a.1)

  none-kept : (es : List Entry) → AllByRecursion (λ e. test e ≡ false) es → filter test es ≡ []
  none-kept [] a = refl
  none-kept (e ∷ es) a = rw a.0 (none-kept es a.1)

  pub longest-none : (es : List Entry) → AllByRecursion (λ e. test e ≡ false) es → longest (filter test es) ≡ None
  longest-none es a = ap longest (none-kept es a)

  -- an entry is this one, or its prefix is shorter
  abbrev pub IsShorter : Entry → Entry → Type 0
  IsShorter x e = (length e.0.prefix < length x.0.prefix) ⊎ (e ≡ x)

  at-most : (x e : Entry) → IsShorter x e → length e.0.prefix ≤ length x.0.prefix
  at-most x e (inl s) = omega (arith, s)
  at-most x e (inr s) = let same = ap (λ (y : Entry). length y.0.prefix) s in omega (arith, same)

  -- where none that passes is longer, the test says so
  all-within : (n : ℕ) (es : List Entry) → AllPassing test (λ e. length e.0.prefix ≤ n) es
      → list_all (λ o. nat_le (length o.0.prefix) n) (filter test es) ≡ true
  all-within n [] a = refl
  all-within n (e ∷ es) a = grind (arith, nat_tests, a.0, all-within n es a.1)

  -- where one that passes is longer, the test says so
  one-longer : (n : ℕ) (es : List Entry) (k : VersionKey) (v : Version) → map_find version_cmp k es ≡ Some v → test (k, v) ≡ true
      → n < length k.prefix
      → list_all (λ o. nat_le (length o.0.prefix) n) (filter test es) ≡ false
  one-longer n [] k v f t less = absurd cc
  one-longer n (e ∷ es) k v f t less =
      elim (eq_by_cmp version_cmp k e.0) as (λ b. eq_by_cmp version_cmp k e.0 ≡ b → cond b (Some e.1) (map_find version_cmp k es)
      ≡ Some v → list_all (λ o. nat_le (length o.0.prefix) n) (filter test (e ∷ es)) ≡ false) [
        | true ↦ λ same g.
            let key : k ≡ e.0 = versions_exact k e.0 (is_equal (version_cmp k e.0) same) in
            let value : v ≡ e.1 = cc in
            let passes : test e ≡ true = sym (λ i. test (key i, value i)) ∙ t in
            let no : nat_le (length e.0.prefix) n ≡ false = let len = ap (λ (x : VersionKey). length x.prefix) key in
            grind (arith, nat_tests, less, len) in
            rw (passes, no) refl
        | false ↦ λ other g.
            let rest = one-longer n es k v g t less in
            grind (arith, rest)
      ] refl f

  -- the one that is good among those that pass is found
  first-good : (good : Entry → Bool) (es : List Entry) (k : VersionKey) (v : Version) → map_find version_cmp k es ≡ Some v
      → test (k, v) ≡ true → good (k, v) ≡ true
      → AllPassing test (λ e. (good e ≡ false) ⊎ (e ≡ (k, v))) es → find good (filter test es) ≡ Some (k, v)
  first-good good [] k v f t g a = absurd cc
  first-good good (e ∷ es) k v f t g a =
      elim (eq_by_cmp version_cmp k e.0) as (λ b. eq_by_cmp version_cmp k e.0 ≡ b → cond b (Some e.1) (map_find version_cmp k es)
      ≡ Some v → find good (filter test (e ∷ es)) ≡ Some (k, v)) [
        | true ↦ λ same h.
            let key : k ≡ e.0 = versions_exact k e.0 (is_equal (version_cmp k e.0) same) in
            let value : v ≡ e.1 = cc in
            let this : (k, v) ≡ e = λ i. (key i, value i) in
            let passes : test e ≡ true = ap test (sym this) ∙ t in
            let well : good e ≡ true = ap good (sym this) ∙ g in
            rw (passes, well) (ap Some (sym this))
        | false ↦ λ other h.
            let rest = first-good good es k v h t g a.1 in
            grind (arith, a.0, rest)
      ] refl f

  pub longest-found : (es : List Entry) (k : VersionKey) (v : Version) → map_find version_cmp k es ≡ Some v → test (k, v) ≡ true
      → AllPassing test (IsShorter (k, v)) es → longest (filter test es) ≡ Some (k, v)
  longest-found es k v f t a =
      first-good (is_longest (filter test es)) es k v f t
      (all-within (length k.prefix) es (passing-map (IsShorter (k, v)) (λ e. length e.0.prefix ≤ length k.prefix) (at-most (k, v))
      es a))
      (passing-map (IsShorter (k, v)) (λ e. (is_longest (filter test es) e ≡ false) ⊎ (e ≡ (k, v))) (λ e s.
      elim s [
        | inl less ↦ inl (one-longer (length e.0.prefix) es k v f t less)
        | inr is ↦ inr is
      ]) es a)

  -- ---- the least beginning

  abbrev least_of : List Entry → Option ℕ
  least_of es = least (map (λ e. e.0.from) (filter test es))

  abbrev lower : ℕ → Option ℕ → ℕ
  lower n o = unwrap_or (option_map (λ m. cond (nat_lt m n) m n) o) n

  lower-same : (n x : ℕ) (o : Option ℕ) → n ≡ x → IfSome o (λ m. x ≤ m) → lower n o ≡ x
  lower-same n x None e h = e
  lower-same n x (Some m) e h = let no : nat_lt m n ≡ false = grind (arith, nat_tests, e, h) in rw no e

  lower-other : (n x : ℕ) → x ≤ n → lower n (Some x) ≡ x
  lower-other n x h = grind (arith, nat_tests, h)

  lower-more : (n x : ℕ) (o : Option ℕ) → x ≤ n → IfSome o (λ m. x ≤ m) → x ≤ lower n o
  lower-more n x None e h = e
  lower-more n x (Some m) e h = elim (nat_lt m n) as (λ b. x ≤ cond b m n) [ true ↦ h | false ↦ e ]

  least-low : (es : List Entry) (x : ℕ) → AllPassing test (λ e. x ≤ e.0.from) es → IfSome (least_of es) (λ m. x ≤ m)
  least-low [] x a = tt
  least-low (e ∷ es) x a =
      elim (test e) as (λ b. test e ≡ b → IfSome (least (map (λ y. y.0.from) (cond b (e ∷ filter test es) (filter test es)))) (λ m. x ≤ m)) [
        | true ↦ λ t. lower-more e.0.from x (least_of es) (a.0 t) (least-low es x a.1)
        | false ↦ λ t. least-low es x a.1
      ] refl

  pub least-none : (es : List Entry) → AllByRecursion (λ e. test e ≡ false) es → least_of es ≡ None
  least-none [] a = refl
  least-none (e ∷ es) a = rw a.0 (least-none es a.1)

  pub least-found : (es : List Entry) (k : VersionKey) (v : Version) → map_find version_cmp k es ≡ Some v → test (k, v) ≡ true
      → AllPassing test (λ e. k.from ≤ e.0.from) es → least_of es ≡ Some k.from
  least-found [] k v f t a = absurd cc
  least-found (e ∷ es) k v f t a =
      elim (eq_by_cmp version_cmp k e.0) as (λ b. eq_by_cmp version_cmp k e.0 ≡ b → cond b (Some e.1) (map_find version_cmp k es)
      ≡ Some v → least_of (e ∷ es) ≡ Some k.from) [
        | true ↦ λ same g.
            let key : k ≡ e.0 = versions_exact k e.0 (is_equal (version_cmp k e.0) same) in
            let value : v ≡ e.1 = cc in
            let passes : test e ≡ true = sym (λ i. test (key i, value i)) ∙ t in
            rw passes (ap Some (lower-same e.0.from k.from (least_of es) (ap (λ (x : VersionKey). x.from) (sym key)) (least-low es k.from a.1)))
        | false ↦ λ other g.
            elim (test e) as (λ b. test e ≡ b → least (map (λ y. y.0.from) (cond b (e ∷ filter test es) (filter test es))) ≡ Some k.from) [
              | true ↦ λ p. ap (λ (o : Option ℕ). Some (lower e.0.from o)) (least-found es k v g t a.1)
                  ∙ ap Some (lower-other e.0.from k.from (a.0 p))
              | false ↦ λ p. least-found es k v g t a.1
            ] refl
      ] refl f

  -- where there is no least, none passes
  pub none-pass : (es : List Entry) → least_of es ≡ None → (k : VersionKey) (v : Version) → map_find version_cmp k es ≡ Some v → test (k, v) ≡ false
  none-pass [] n k v f = absurd cc
  none-pass (e ∷ es) n k v f =
      elim (test e) as (λ b. test e ≡ b → least (map (λ y. y.0.from) (cond b (e ∷ filter test es) (filter test es))) ≡ None → test (k, v) ≡ false) [
        | true ↦ λ p m. absurd cc
        | false ↦ λ p m.
            elim (eq_by_cmp version_cmp k e.0) as (λ b. eq_by_cmp version_cmp k e.0 ≡ b
            → cond b (Some e.1) (map_find version_cmp k es) ≡ Some v → test (k, v) ≡ false) [
              | true ↦ λ same g.
                  let key : k ≡ e.0 = versions_exact k e.0 (is_equal (version_cmp k e.0) same) in
                  let value : v ≡ e.1 = cc in
                  (λ i. test (key i, value i)) ∙ p
              | false ↦ λ other g. none-pass es m k v g
            ] refl f
      ] refl n
