-- The version of a number at a moment, from the longest prefix on.
use Rattle.std.proofs.lemmas.Bool.Decides.{nat_tests}
use Rattle.std.proofs.lemmas.Bool.{false≢true}
use Rattle.std.proofs.Common.{◌≡◌, ◌<◌, ◌≤◌, ◌+◌, ℕ, Bool, true, false, cond, ◌⊎◌, inl, inr, List, [], ◌∷◌, length, take, length-take-le, Option, Some, None, subst, refl, sym, ap, ◌∙◌, arith}
use Rattle.std.specs.Prelude.{◌&&◌, nat_lt, nat_le, map, filter, option_map}
use Rattle.std.specs.List.{AllByRecursion, find}
use Rattle.std.specs.Cmp.Lexicographic.{bytes_decides}
use Rattle.std.specs.FinMap.{entries, get, get-entries}
use Rattle.smq_kit.proofs.MapLemmas as maps
use Rattle.smq_kit.specs.declared.names.RouteId.{RouteId}
use Rattle.smq_route.specs.declared.version.VersionKey.{VersionKey}
use Rattle.smq_route.specs.declared.version.Version.{Version}
use Rattle.smq_route.specs.Versions.{Versions, key_at, version_of, lasts_past, holds, begins, serves, version_at, route_at, is_longest, least, AreApart}
use Rattle.smq_route.specs.within.Kept.{NoneHolds}
use Rattle.smq_route.specs.within.Searches.{NoneLonger}
use Rattle.smq_route.proofs.VersionOrders.{versions_total, versions_exact}
use Rattle.smq_route.proofs.Least.{Entry, AllPassing, IsShorter, longest-found, longest-none, no-longest, none-pass}
use Rattle.smq_route.proofs.Apart.{ended-then}

abbrev pub pairing : RouteId → List ℕ → Option (RouteId × List ℕ)
pairing route network = Some (route, network)

both : (a b : Bool) → (a && b) ≡ true → (a ≡ true) × (b ≡ true)
both true b h = (refl, h)
both false b h = absurd (false≢true h)

-- what a version for a number is
pub serving : (number : List ℕ) (t : ℕ) (k : VersionKey) (v : Version) → serves number t (k, v) ≡ true
    → (k.prefix ≡ take (length k.prefix) number) × (k.from ≤ t) × (lasts_past t v.until ≡ true)
serving number t k v h =
    let parts = both (begins number k.prefix) (holds t (k, v)) h in
    let times = both (nat_le k.from t) (lasts_past t v.until) parts.1 in (
      (bytes_decides k.prefix (take (length k.prefix) number)).0 parts.0,
      (let below = times.0 in grind (arith, nat_tests, below)),
      times.1,
    )

pub short : (k : VersionKey) (number : List ℕ) → k.prefix ≡ take (length k.prefix) number → length k.prefix ≤ length number
short k number e = let l = ap length e in let m = Rattle.std.proofs.Common.length-take (length k.prefix) number in omega (arith, l, m)

-- none of this many digits holds
pub no_longer-next : (m : Versions) (number : List ℕ) (t n : ℕ) → NoneLonger m number t (n + 1) → NoneHolds m (take (n + 1) number) t
    → NoneLonger m number t n
no_longer-next m number t n all none k v there h =
    let is = serving number t k v h in
    let over = λ (len : length k.prefix ≡ n + 1).
    let prefix : k.prefix ≡ take (n + 1) number = is.0 ∙ ap (λ (i : ℕ). take i number) len in
    let key : k ≡ key_at (take (n + 1) number) k.from = λ i. record { prefix = prefix i; from = k.from } in
    none k.from v (ap (get m) (sym key) ∙ there) is.1 in
    grind (arith, over, is.2, all k v there h)

-- versions of one prefix that hold at one moment are one
pub one-holds : (m : Versions) (p : List ℕ) (t f g : ℕ) (v w : Version) → AreApart m → version_of m p f ≡ Some v → version_of m p g ≡ Some w
    → f ≤ t → lasts_past t v.until ≡ true → g ≤ t → lasts_past t w.until ≡ true → f ≡ g
one-holds m p t f g v w a there there_too f_below f_lasts g_below g_lasts =
    let f_ends = λ (less : f < g). ended-then g t v.until (a.apart p f g v w there there_too less) g_below in
    let g_ends = λ (less : g < f). ended-then f t w.until (a.apart p g f w v there_too there less) f_below in
    grind (arith, f_ends, f_lasts, g_ends, g_lasts)

value-is : (v w : Version) (o : Option Version) → o ≡ Some v → o ≡ Some w → v ≡ w
value-is v w o p q = cc

at_most : (m : Versions) (number : List ℕ) (t n f : ℕ) (v : Version) → AreApart m → NoneLonger m number t n
    → length (take n number) ≡ n → version_of m (take n number) f ≡ Some v → f ≤ t → lasts_past t v.until ≡ true
    → (k : VersionKey) (w : Version) → get m k ≡ Some w → serves number t (k, w) ≡ true → (length k.prefix < length (take n number))
    ⊎ ◌≡◌ {A = Entry} (k, w) (key_at (take n number) f, v)
at_most m number t n f v a longer len there below lasts k w w_there serves_w =
    let is = serving number t k w serves_w in
    let most = longer k w w_there serves_w in
    elim (nat_lt (length k.prefix) n) as (λ b. nat_lt (length k.prefix) n ≡ b → (length k.prefix < length (take n number))
    ⊎ ◌≡◌ {A = Entry} (k, w) (key_at (take n number) f, v)) [
      | true ↦ λ e. inl (let less : length k.prefix < n = grind (arith, nat_tests, e) in omega (arith, less, len))
      | false ↦ λ e.
          let same : length k.prefix ≡ n = grind (arith, nat_tests, e, most) in
          let prefix : k.prefix ≡ take n number = is.0 ∙ ap (λ (i : ℕ). take i number) same in
          let key : k ≡ key_at (take n number) k.from = λ i. record { prefix = prefix i; from = k.from } in
          let w_at : version_of m (take n number) k.from ≡ Some w = ap (get m) (sym key) ∙ w_there in
          let from : k.from ≡ f = one-holds m (take n number) t k.from f w v a w_at there is.1 is.2 below lasts in
          let at_f : k ≡ key_at (take n number) f = λ i. record { prefix = prefix i; from = from i } in
          let value : w ≡ v = value-is w v (version_of m (take n number) f) (ap (version_of m (take n number)) (sym from) ∙ w_at) there in
          inr (λ i. (at_f i, value i))
    ] refl

all-shorter : (m : Versions) (test : Entry → Bool) (x : Entry)
    → ((k : VersionKey) (w : Version) → get m k ≡ Some w → test (k, w) ≡ true → (length k.prefix < length x.0.prefix)
    ⊎ ◌≡◌ {A = Entry} (k, w) x)
    → (es : List Entry) → AllByRecursion (λ e. get m e.0 ≡ Some e.1) es → AllPassing test (IsShorter test x) es
all-shorter m test x h [] a = tt
all-shorter m test x h (e ∷ es) a = (λ p. h e.0 e.1 a.0 p, all-shorter m test x h es a.1)

-- what is found first, from the longest prefix on, is the version
pub route-found : (m : Versions) (number : List ℕ) (t n f : ℕ) (v : Version) → AreApart m → NoneLonger m number t n
    → n ≤ length number → version_of m (take n number) f ≡ Some v → f ≤ t → lasts_past t v.until ≡ true
    → route_at m number t ≡ Some (v.route, v.network)
route-found m number t n f v a longer fits there below lasts =
    let len : length (take n number) ≡ n = length-take-le n number fits in
    let first : begins number (take n number) ≡ true = (bytes_decides (take n number) (take (length (take n number)) number)).1
    (ap (λ (i : ℕ). take i number) (sym len)) in
    let starts : nat_le f t ≡ true = grind (arith, nat_tests, below) in
    let this : serves number t (key_at (take n number) f, v) ≡ true = rw (first, starts, lasts) refl in
    ap (option_map (λ (e : Entry). (e.1.route, e.1.network)))
    (longest-found (serves number t) (entries m) (key_at (take n number) f) v (sym (get-entries m (key_at (take n number) f)) ∙ there) this
    (all-shorter m (serves number t) (key_at (take n number) f, v) (at_most m number t n f v a longer len there below lasts)
    (entries m) (maps.get-entry versions_total versions_exact m)))

all-fail : (m : Versions) (test : Entry → Bool) → ((k : VersionKey) (w : Version) → get m k ≡ Some w → test (k, w) ≡ true → ⊥)
    → (es : List Entry) → AllByRecursion (λ e. get m e.0 ≡ Some e.1) es → AllByRecursion (λ e. test e ≡ false) es
all-fail m test h [] a = tt
all-fail m test h (e ∷ es) a = (
  elim (test e) as (λ b. test e ≡ b → b ≡ false) [ true ↦ λ p. absurd (h e.0 e.1 a.0 p) | false ↦ λ p. refl ] refl,
  all-fail m test h es a.1,
)

-- where no prefix of the number holds there is none
pub route-none : (m : Versions) (number : List ℕ) (t : ℕ) → AreApart m → NoneLonger m number t 0 → route_at m number t ≡ None
route-none m number t a longer =
    ap (option_map (λ (e : Entry). (e.1.route, e.1.network)))
    (longest-none (serves number t) (entries m) (all-fail m (serves number t)
    (λ k w there passes.
    let most = longer k w there passes in
    let some = (a.digits k.prefix k.from w there).not_empty in
    absurd (omega (arith, most, some)))
    (entries m) (maps.get-entry versions_total versions_exact m)))

-- a version that serves with the longest prefix gives the route
pub route-longest : (m : Versions) (number p : List ℕ) (t f : ℕ) (v : Version) → AreApart m → version_of m p f ≡ Some v
    → serves number t (key_at p f, v) ≡ true
    → ((q : List ℕ) (g : ℕ) (w : Version) → version_of m q g ≡ Some w → serves number t (key_at q g, w) ≡ true
    → length q ≤ length p) → route_at m number t ≡ Some (v.route, v.network)
route-longest m number p t f v a there serves_v most =
    let is = serving number t (key_at p f) v serves_v in
    route-found m number t (length p) f v a (λ k w w_there serves_w. most k.prefix k.from w w_there serves_w) (short (key_at p f) number is.0)
    (subst (λ (q : List ℕ). version_of m q f ≡ Some v) is.0 there) is.1 is.2

pub route-absent : (m : Versions) (number : List ℕ) (t : ℕ) → ((q : List ℕ) (g : ℕ) (w : Version) → version_of m q g ≡ Some w
    → serves number t (key_at q g, w) ≡ false) → route_at m number t ≡ None
route-absent m number t none =
    ap (option_map (λ (e : Entry). (e.1.route, e.1.network)))
    (longest-none (serves number t) (entries m)
    (all-fail m (serves number t) (λ k w there passes. absurd (false≢true (sym (none k.prefix k.from w there) ∙ passes)))
    (entries m) (maps.get-entry versions_total versions_exact m)))

pub holding : (t : ℕ) (k : VersionKey) (v : Version) → holds t (k, v) ≡ true → (k.from ≤ t) × (lasts_past t v.until ≡ true)
holding t k v h =
    let times = both (nat_le k.from t) (lasts_past t v.until) h in ((let below = times.0 in grind (arith, nat_tests, below)), times.1)

none-before : (o : Option Entry) → option_map {U = RouteId × List ℕ} (λ e. (e.1.route, e.1.network)) o ≡ None → o ≡ None
none-before None n = refl
none-before (Some e) n = absurd cc

-- where there is no route no version serves
pub absent-route : (m : Versions) (number p : List ℕ) (t f : ℕ) (v : Version) → route_at m number t ≡ None
    → version_of m p f ≡ Some v → serves number t (key_at p f, v) ≡ false
absent-route m number p t f v none there =
    let empty : filter (serves number t) (entries m) ≡ [] =
    no-longest (filter (serves number t) (entries m)) (none-before (version_at m number t) none) in
    none-pass (serves number t) (entries m) (ap (λ (es : List Entry). least (map (λ e. e.0.from) es)) empty) (key_at p f) v
    (sym (get-entries m (key_at p f)) ∙ there)

-- what passes a test is of the list
passing : (P : Entry → Type 0) (test : Entry → Bool) (es : List Entry) → AllByRecursion P es
    → AllByRecursion (λ e. P e × (test e ≡ true)) (filter test es)
passing P test [] a = tt
passing P test (e ∷ es) a =
    elim (test e) as (λ b. test e ≡ b → AllByRecursion (λ e. P e × (test e ≡ true)) (cond b (e ∷ filter test es) (filter test es))) [
      | true ↦ λ p. ((a.0, p), passing P test es a.1)
      | false ↦ λ p. passing P test es a.1
    ] refl

-- what is found is of the list
found-in : (P : Entry → Type 0) (test : Entry → Bool) (es : List Entry) (e : Entry) → AllByRecursion P es → find test es ≡ Some e → P e
found-in P test [] e a f = absurd cc
found-in P test (x ∷ es) e a f =
    elim (test x) as (λ b. cond b (Some x) (find test es) ≡ Some e → P e) [
      | true ↦ λ is. subst P (let same : x ≡ e = cc in same) a.0
      | false ↦ λ later. found-in P test es e a.1 later
    ] f

told-of : (o : Option Entry) (told : RouteId × List ℕ) → option_map {U = RouteId × List ℕ} (λ e. (e.1.route, e.1.network)) o ≡ Some told
    → (e : Entry) × (o ≡ Some e) × ((e.1.route, e.1.network) ≡ told)
told-of None told h = absurd cc
told-of (Some e) told h = (e, refl, let same : (e.1.route, e.1.network) ≡ told = cc in same)

-- the route that is told is that of a version which serves
pub route-witness : (m : Versions) (number : List ℕ) (t : ℕ) (told : RouteId × List ℕ) → route_at m number t ≡ Some told
    → (p : List ℕ) × (f : ℕ) × (v : Version) × (version_of m p f ≡ Some v) × (serves number t (key_at p f, v) ≡ true) × ((v.route, v.network) ≡ told)
route-witness m number t told h =
    let one = told-of (version_at m number t) told h in
    let e = one.0 in
    let is = found-in (λ e. (get m e.0 ≡ Some e.1) × (serves number t e ≡ true)) (is_longest (filter (serves number t) (entries m)))
    (filter (serves number t) (entries m)) e
    (passing (λ e. get m e.0 ≡ Some e.1) (serves number t) (entries m) (maps.get-entry versions_total versions_exact m)) one.1 in
    (e.0.prefix, e.0.from, e.1, is.0, is.1, one.2)
