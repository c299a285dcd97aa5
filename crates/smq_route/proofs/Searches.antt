-- What the greatest version at or below a number's first digits tells: the versions of the number's prefixes stand at or
-- below it, so their prefixes begin its own, too.
use Rattle.std.proofs.Common.{◌≡◌, ◌<◌, ◌≤◌, ◌+◌, ◌-◌, ℕ, true, false, List, length, take, length-take, length-take-le, Some, None, subst, refl, sym, ap, ◌∙◌, arith}
use Rattle.std.specs.Prelude.{IsSome}
use Rattle.std.specs.Cmp.Lexicographic.{bytes_decides}
use Rattle.std.specs.FinMap.{get, nat_cmp-IsAntisymmetric, slice_cmp-IsAntisymmetric}
use Rattle.std.specs.Map.{lookup}
use Rattle.std.specs.BTreeMap.{is_at}
use Rattle.std.specs.declared.cmp.Ordering.{Ordering}
use Rattle.std.specs.declared.cmp.Ordering.TheVariants.{Equal}
use Rattle.std.specs.Ordering.{is_gt, is_lt, nat_cmp, ordering_reverse, ordering_then}
use Rattle.std.proofs.lemmas.Bool.Decides.{nat_tests}
use Rattle.std.proofs.lemmas.Cmp.{nat_list_cmp_total}
use Rattle.std.proofs.lemmas.List.{take_all, take-take}
use Rattle.std.proofs.lemmas.Map.Keys.{ge_from_not_lt, le_from_not_gt}
use Rattle.smq_kit.specs.Orders.{octets_cmp}
use Rattle.smq_route.specs.declared.version.VersionKey.{VersionKey}
use Rattle.smq_route.specs.declared.version.Version.{Version}
use Rattle.smq_route.specs.Versions.{version_cmp, key_at, version_of, lasts_past, begins, serves, route_at, AreApart}
use Rattle.smq_route.specs.within.Kept.{kept_version_cmp, NoneHolds}
use Rattle.smq_route.specs.within.Searches.{NoneLonger}
use Rattle.smq_route.proofs.Apart.{none-holds}
use Rattle.smq_route.proofs.Found.{no_longer-next, route-found, serving, short}
use Rattle.smq_route.proofs.Lookups.{get-seen, is_after, not-gt, seen, some-there}
use Rattle.smq_route.proofs.NumberOrders.{none_past, not_below}
use Rattle.smq_route.proofs.VersionOrders.{in-prefix}

-- ---- orders

then-not_gt : (r s : Ordering) → is_gt r ≡ false → is_gt s ≡ false → is_gt (ordering_then r s) ≡ false
then-not_gt r s h k = grind (arith, h, k)

first-not_gt : (r s : Ordering) → is_gt (ordering_then r s) ≡ false → is_gt r ≡ false
first-not_gt r s h = grind (arith, h)

turned : (r : Ordering) → is_lt r ≡ is_gt (ordering_reverse r)
turned r = grind arith

first-not_lt : (r s : Ordering) → is_lt (ordering_then r s) ≡ false → is_lt r ≡ false
first-not_lt r s h = grind (arith, h)

equal : (r : Ordering) → is_gt r ≡ false → is_lt r ≡ false → r ≡ Equal
equal r g l = grind (arith, g, l)

-- what isn't below comes after or is equal
not_above : (a b : List ℕ) → is_lt (octets_cmp a b) ≡ false → is_gt (octets_cmp b a) ≡ false
not_above a b h = ap is_gt (nat_list_cmp_total.antisymm b a) ∙ sym (turned (octets_cmp a b)) ∙ h

not_lt : (a b : List ℕ) → is_gt (octets_cmp a b) ≡ false → is_lt (octets_cmp b a) ≡ false
not_lt a b h = turned (octets_cmp b a) ∙ ap is_gt (sym (nat_list_cmp_total.antisymm a b)) ∙ h

pub later : (a b : ℕ) → is_lt (nat_cmp a b) ≡ true → a < b
later a b h = grind (arith, nat_tests, h)

below-else : (c n : ℕ) → (n ≤ c → ⊥) → c < n
below-else c n h = grind (arith, h)

-- ---- first digits

of-begun : (number prefix : List ℕ) → begins number prefix ≡ true → prefix ≡ take (length prefix) number
of-begun number prefix h = (bytes_decides prefix (take (length prefix) number)).0 h

begun-of : (number prefix : List ℕ) → prefix ≡ take (length prefix) number → begins number prefix ≡ true
begun-of number prefix e = (bytes_decides prefix (take (length prefix) number)).1 e

begun-short : (number prefix : List ℕ) → begins number prefix ≡ true → length prefix ≤ length number
begun-short number prefix h = let e = ap length (of-begun number prefix h) in let m = length-take (length prefix) number in omega (arith, e, m)

-- what begins a number begins its first digits, if they are as many
begun-first : (number prefix : List ℕ) (n : ℕ) → prefix ≡ take (length prefix) number → length prefix ≤ n → begins (take n number) prefix ≡ true
begun-first number prefix n e fits = begun-of (take n number) prefix (e ∙ sym (take-take (length prefix) n number fits))

-- ---- what is found

-- the first digits of a number
module _ (es : List (VersionKey × Version)) (number first : List ℕ) (t len : ℕ) (start : first ≡ take len number) where
  begun : (prefix : List ℕ) → prefix ≡ take (length prefix) number → length prefix ≤ len → begins first prefix ≡ true
  begun prefix e fits = subst (λ (xs : List ℕ). begins xs prefix ≡ true) (sym start) (begun-first number prefix len e fits)

  -- the versions for the number stand at or below its first digits
  up_to : (q : VersionKey) (w : Version) → NoneLonger (seen es) number t len → get (seen es) q ≡ Some w → serves number t (q, w) ≡ true
      → is_after q (key_at first t) ≡ false
  up_to q w longest there h =
      let is = serving number t q w h in
      then-not_gt (octets_cmp q.prefix first) (nat_cmp q.from t)
      (not_below first q.prefix (begun q.prefix is.0 (longest q w there h)))
      (not-gt q.from t is.1)

  -- where nothing does there are none
  pub none-longest : ((q : VersionKey) → is_after q (key_at first t) ≡ false → lookup (is_at (kept_version_cmp q)) es ≡ None)
      → NoneLonger (seen es) number t len → NoneLonger (seen es) number t 0
  none-longest none longest q w there h =
      let absent : get (seen es) q ≡ None = get-seen es q ∙ none q (up_to q w longest there h) in
      absurd cc

  -- k is the greatest that stands there
  module _ (k : VersionKey) (below : is_after k (key_at first t) ≡ false)
      (most : (q : VersionKey) → is_after q (key_at first t) ≡ false → IsSome (lookup (is_at (kept_version_cmp q)) es) → is_lt (version_cmp k q) ≡ false) where
    prefix_below : is_gt (octets_cmp k.prefix first) ≡ false
    prefix_below = first-not_gt (octets_cmp k.prefix first) (nat_cmp k.from t) below

    -- the prefixes of the number's versions begin its own
    begins-found : (q : VersionKey) (w : Version) → NoneLonger (seen es) number t len → get (seen es) q ≡ Some w → serves number t (q, w) ≡ true
        → begins k.prefix q.prefix ≡ true
    begins-found q w longest there h =
        let before = most q (up_to q w longest there h) (some-there es q (subst IsSome (sym there) refl)) in
        let up = not_above k.prefix q.prefix (first-not_lt (octets_cmp k.prefix q.prefix) (nat_cmp k.from q.from) before) in
        let past = λ (e : begins k.prefix q.prefix ≡ false). none_past q.prefix k.prefix first up e prefix_below in
        grind (arith, past, begun q.prefix (serving number t q w h).0 (longest q w there h))

    -- so none has more digits than it shares with the number
    pub shared-longest : (c : ℕ) → ((l : ℕ) → l ≤ length k.prefix → l ≤ length number → take l k.prefix ≡ take l number → l ≤ c)
        → NoneLonger (seen es) number t len → NoneLonger (seen es) number t c
    shared-longest c shares longest q w there h =
        let begins_it = begins-found q w longest there h in
        let own = (serving number t q w h).0 in
        shares (length q.prefix) (begun-short k.prefix q.prefix begins_it) (short q number own) (sym (of-begun k.prefix q.prefix begins_it) ∙ own)

    -- a prefix that begins with the first digits is those
    same : (c : ℕ) → take c k.prefix ≡ take c number → len ≤ length number → len ≤ c → k.prefix ≡ first
    same c e fits over =
        let firsts : first ≡ take len k.prefix = start ∙ sym (take-take len c number over) ∙ sym (ap (λ (xs : List ℕ). take len xs) e) ∙ take-take len c k.prefix over in
        let count : len ≡ length first = sym (ap length start ∙ length-take-le len number fits) in
        let begins_it : begins k.prefix first ≡ true = begun-of k.prefix first (firsts ∙ ap (λ (i : ℕ). take i k.prefix) count) in
        slice_cmp-IsAntisymmetric nat_cmp-IsAntisymmetric k.prefix first
        (equal (octets_cmp k.prefix first) prefix_below (not_lt first k.prefix (not_below k.prefix first begins_it)))

    as_many : (c : ℕ) → take c k.prefix ≡ take c number → len ≤ length number → len ≤ c → length k.prefix ≡ len
    as_many c e fits over = ap length (same c e fits over ∙ start) ∙ length-take-le len number fits

    -- it shares fewer digits where it has others, too
    pub fewer-other : (c : ℕ) → take c k.prefix ≡ take c number → len ≤ length number → c < length k.prefix → c < len
    fewer-other c e fits h = below-else c len (λ over. let n = as_many c e fits over in omega (arith, n, h, over))

    -- or begins later
    pub fewer-later : (c : ℕ) → take c k.prefix ≡ take c number → len ≤ length number → t < k.from → c < len
    fewer-later c e fits h =
        below-else c len (λ over.
        let prefix = same c e fits over in
        let is : k ≡ key_at first k.from = λ i. record { prefix = prefix i; from = k.from } in
        let by = le_from_not_gt k.from t (ap is_gt (sym (in-prefix first k.from t)) ∙ subst (λ (x : VersionKey). is_after x (key_at first t) ≡ false) is below) in
        omega (arith, by, h))

    -- and never more than those
    pub fewer-ended : (c : ℕ) → take c k.prefix ≡ take c number → len ≤ length number → c ≤ length k.prefix → 1 ≤ len → c - 1 < len
    fewer-ended c e fits h one = below-else (c - 1) len (λ over.
        let more : len ≤ c = omega (arith, over) in
        let n = as_many c e fits more in omega (arith, n, h, over, one))

    -- ---- where all its digits begin the number, and it begins by the moment

    last : (g : ℕ) → g ≤ t → IsSome (version_of (seen es) k.prefix g) → g ≤ k.from
    last g by there =
        ge_from_not_lt k.from g (ap is_lt (sym (in-prefix k.prefix k.from g))
        ∙ most (key_at k.prefix g) (then-not_gt (octets_cmp k.prefix first) (nat_cmp g t) prefix_below (not-gt g t by)) (some-there es (key_at k.prefix g) there))

    module _ (v : Version) (c : ℕ) (apart : AreApart (seen es)) (found : lookup (is_at (kept_version_cmp k)) es ≡ Some v) (e : take c k.prefix ≡ take c number)
        (whole : length k.prefix ≤ c) (by : k.from ≤ t) where
      there : version_of (seen es) k.prefix k.from ≡ Some v
      there = get-seen es k ∙ found

      own : k.prefix ≡ take c number
      own = sym (take_all c k.prefix whole) ∙ e

      -- it is the version, if it lasts
      pub tells-longest : NoneLonger (seen es) number t c → c ≤ length number → lasts_past t v.until ≡ true
          → route_at (seen es) number t ≡ Some (v.route, v.network)
      tells-longest longest fits lasts =
          route-found (seen es) number t c k.from v apart longest fits (subst (λ (p : List ℕ). version_of (seen es) p k.from ≡ Some v) own there) by lasts

      -- and none of so many digits is, if it has ended
      pub tells-ended : NoneLonger (seen es) number t c → lasts_past t v.until ≡ false → NoneLonger (seen es) number t (c - 1)
      tells-ended longest over =
          let some = (apart.digits k.prefix k.from v there).not_empty in
          let next : c ≡ (c - 1) + 1 = omega (arith, some, whole) in
          no_longer-next (seen es) number t (c - 1) (subst (NoneLonger (seen es) number t) next longest)
          (subst (λ (p : List ℕ). NoneHolds (seen es) p t) (own ∙ ap (λ (i : ℕ). take i number) next)
          (none-holds (seen es) k.prefix t k.from v apart by there last over))
