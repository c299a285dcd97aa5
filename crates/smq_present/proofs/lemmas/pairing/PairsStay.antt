-- A pair that stands stays once one PDU more comes, and at each of its places one of its PDUs stands.
use Rattle.std.proofs.Common.{◌≡◌, ℕ, zero, suc, Bool, true, false, cond, List, [], ◌∷◌, ◌++◌, Option, Some, None, ◌⊎◌, inl, inr, refl, sym, ap, subst, ◌∙◌}
use Rattle.std.specs.Prelude.{filter, count_by, slice_get, option_and_then, option_map}
use Rattle.std.specs.List.{AllByRecursion}
use Rattle.std.specs.Ordering.{eq_by_cmp}
use Rattle.std.proofs.lemmas.List.{append_assoc}
use Rattle.std.proofs.lemmas.List.Elements.{filter-append}
use Rattle.smq_kit.specs.declared.place.Dir.{Dir}
use Rattle.smq_kit.specs.declared.place.Dir.TheVariants.{FromClient, FromCentre}
use Rattle.smq_kit.specs.declared.place.Place.{Place}
use Rattle.smq_kit.specs.Orders.{place_cmp}
use Rattle.smq_kit.proofs.MapLemmas as maps
use Rattle.smq_kit.proofs.PlaceOrders.{places_total, places_exact}
use Rattle.smq_pdu.specs.Pairing.{is_request, is_request_of, is_response, is_response_of}
use Rattle.smq_pair.specs.declared.pairing.Pair.{Pair}
use Rattle.smq_pair.specs.Growth.{pushed, pushed_in}
use Rattle.smq_pair.specs.Pairing.{PairingValue, PlacedHeader, headers, opposite, pair_after, pair_at, pair_of, pdus_from, request_of, response_to, standing_at, with_earlier}

-- what stands in front stays
get-front : {X : Type 0} (xs ys : List X) (i : ℕ) (x : X) → slice_get xs i ≡ Some x → slice_get (xs ++ ys) i ≡ Some x
get-front [] ys i x at = absurd cc
get-front (y ∷ xs) ys zero x at = at
get-front (y ∷ xs) ys (suc i) x at = get-front xs ys i x at

filtered-front : {X : Type 0} (test : X → Bool) (xs : List X) (y : X) (i : ℕ) (x : X) → slice_get (filter test xs) i ≡ Some x
    → slice_get (filter test (xs ++ y ∷ [])) i ≡ Some x
filtered-front test xs y i x at =
    ap (λ zs. slice_get zs i) (filter-append test xs (y ∷ [])) ∙ get-front (filter test xs) (filter test (y ∷ [])) i x at

earlier-front : (before xs : List PlacedHeader) (y : PlacedHeader)
    → with_earlier before (xs ++ y ∷ []) ≡ with_earlier before xs ++ (before ++ xs, y) ∷ []
earlier-front before [] y = ap (λ (zs : List PlacedHeader). (zs, y) ∷ []) (sym (append-none before))
  where
    append-none : (zs : List PlacedHeader) → zs ++ [] ≡ zs
    append-none [] = refl
    append-none (z ∷ zs) = ap (λ (ws : List PlacedHeader). z ∷ ws) (append-none zs)
earlier-front before (x ∷ xs) y =
    ap (λ es. (before, x) ∷ es) (earlier-front (before ++ x ∷ []) xs y
    ∙ ap (λ (zs : List PlacedHeader). with_earlier (before ++ x ∷ []) xs ++ (zs, y) ∷ []) (append_assoc before (x ∷ []) xs))

module _ (q : Place) (x : PlacedHeader) where
  standing-front : (xs : List PlacedHeader) (e : List PlacedHeader × PlacedHeader) → standing_at q xs ≡ Some e → standing_at q (xs ++ x ∷ []) ≡ Some e
  standing-front xs e at =
      ap (λ es. slice_get (filter (λ (e : List PlacedHeader × PlacedHeader). eq_by_cmp place_cmp q e.1.place) es) 0) (earlier-front [] xs x)
      ∙ filtered-front (λ (e : List PlacedHeader × PlacedHeader). eq_by_cmp place_cmp q e.1.place) (with_earlier [] xs) (xs, x) 0 e at

  after-front : (other earlier : List PlacedHeader) (p : PlacedHeader) (pair : Pair) → pair_after other earlier p ≡ Some pair
      → pair_after (other ++ x ∷ []) earlier p ≡ Some pair
  after-front other earlier p pair is = by (is_request p.header) (is_response p.header) is
    where
      some : (f : PlacedHeader → Pair) (test : PlacedHeader → Bool) (n : ℕ) (r : Option PlacedHeader) → slice_get (filter test other) n ≡ r
          → option_map f r ≡ Some pair → option_map f (slice_get (filter test (other ++ x ∷ [])) n) ≡ Some pair
      some f test n None at e = absurd cc
      some f test n (Some r) at e = ap (option_map f) (filtered-front test other x n r at) ∙ e

      by : (a b : Bool) → cond a (option_map (λ r. pair_of p r) (response_to other earlier p))
          (cond b (option_map (λ r. pair_of r p) (request_of other earlier p)) None) ≡ Some pair
          → cond a (option_map (λ r. pair_of p r) (response_to (other ++ x ∷ []) earlier p))
          (cond b (option_map (λ r. pair_of r p) (request_of (other ++ x ∷ []) earlier p)) None) ≡ Some pair
      by true b e = some (λ r. pair_of p r) (λ r. is_response_of p.header.seq r.header) (count_by (is_request_of p.header.seq) (headers earlier))
          (response_to other earlier p) refl e
      by false true e = some (λ r. pair_of r p) (λ r. is_request_of p.header.seq r.header) (count_by (is_response_of p.header.seq) (headers earlier))
          (request_of other earlier p) refl e
      by false false e = e

  stays-by : (own other : List PlacedHeader) (pair : Pair) (e : Option (List PlacedHeader × PlacedHeader)) → standing_at q own ≡ e
      → option_and_then (λ (e : List PlacedHeader × PlacedHeader). pair_after other e.0 e.1) e ≡ Some pair
      → (option_and_then (λ (e : List PlacedHeader × PlacedHeader). pair_after other e.0 e.1) (standing_at q (own ++ x ∷ [])) ≡ Some pair)
      × (option_and_then (λ (e : List PlacedHeader × PlacedHeader). pair_after (other ++ x ∷ []) e.0 e.1) (standing_at q own) ≡ Some pair)
  stays-by own other pair None at is = absurd cc
  stays-by own other pair (Some e) at is = (
    ap (option_and_then (λ (e : List PlacedHeader × PlacedHeader). pair_after other e.0 e.1)) (standing-front own e at) ∙ is,
    ap (option_and_then (λ (e : List PlacedHeader × PlacedHeader). pair_after (other ++ x ∷ []) e.0 e.1)) at
        ∙ after-front other e.0 e.1 pair is,
  )

  stays-in : (v : PairingValue) (pair : Pair) (d f : Dir) → q.dir ≡ d → x.place.dir ≡ f
      → option_and_then (λ (e : List PlacedHeader × PlacedHeader). pair_after (pdus_from (opposite d) v) e.0 e.1) (standing_at q (pdus_from d v)) ≡ Some pair
      → option_and_then (λ (e : List PlacedHeader × PlacedHeader). pair_after (pdus_from (opposite d) (pushed_in f v x)) e.0 e.1)
      (standing_at q (pdus_from d (pushed_in f v x))) ≡ Some pair
  stays-in v pair FromClient FromClient a b is = (stays-by v.client v.centre pair (standing_at q v.client) refl is).0
  stays-in v pair FromClient FromCentre a b is = (stays-by v.client v.centre pair (standing_at q v.client) refl is).1
  stays-in v pair FromCentre FromCentre a b is = (stays-by v.centre v.client pair (standing_at q v.centre) refl is).0
  stays-in v pair FromCentre FromClient a b is = (stays-by v.centre v.client pair (standing_at q v.centre) refl is).1

-- one PDU more leaves each pair
pub pair-stays : (v : PairingValue) (x : PlacedHeader) (q : Place) (pair : Pair) → pair_at v q ≡ Some pair → pair_at (pushed v x) q ≡ Some pair
pair-stays v x q pair is = stays-in q x v pair q.dir x.place.dir refl refl is

-- ---- the request of a pair

-- what is got of those that pass is one of all
passed-all : {X : Type 0} (P : X → Type 0) (test : X → Bool) (xs : List X) (i : ℕ) (x : X) → AllByRecursion P xs → slice_get (filter test xs) i ≡ Some x → P x
passed-all P test [] i x a at = absurd cc
passed-all P test (y ∷ xs) i x a at = by (λ n. passed-all P test xs n x a.1) (test y) i at
  where
    by : ((n : ℕ) → slice_get (filter test xs) n ≡ Some x → P x) → (b : Bool) (n : ℕ)
        → slice_get (cond b (y ∷ filter test xs) (filter test xs)) n ≡ Some x → P x
    by later true zero e = let one : y ≡ x = cc in subst P one a.0
    by later true (suc n) e = later n e
    by later false n e = later n e

passed-test : {X : Type 0} (test : X → Bool) (xs : List X) (i : ℕ) (x : X) → slice_get (filter test xs) i ≡ Some x → test x ≡ true
passed-test test [] i x at = absurd cc
passed-test test (y ∷ xs) i x at = by (λ n. passed-test test xs n x) (test y) refl i at
  where
    by : ((n : ℕ) → slice_get (filter test xs) n ≡ Some x → test x ≡ true) → (b : Bool) → test y ≡ b → (n : ℕ)
        → slice_get (cond b (y ∷ filter test xs) (filter test xs)) n ≡ Some x → test x ≡ true
    by later true t zero e = let one : y ≡ x = cc in ap test (sym one) ∙ t
    by later true t (suc n) e = later n e
    by later false t n e = later n e

-- PDUs of a direction
abbrev pub AllOf : Dir → List PlacedHeader → Type 0
AllOf dir ps = AllByRecursion (λ (p : PlacedHeader). p.place.dir ≡ dir) ps

-- the request of the pair at a place stands there, or in the other direction
pub request-side : (v : PairingValue) (q : Place) (pair : Pair) → AllOf (opposite q.dir) (pdus_from (opposite q.dir) v) → pair_at v q ≡ Some pair
    → (pair.request ≡ q) ⊎ (pair.request.dir ≡ opposite q.dir)
request-side v q pair all is = by (standing_at q (pdus_from q.dir v)) refl is
  where
    there : (e : List PlacedHeader × PlacedHeader) → standing_at q (pdus_from q.dir v) ≡ Some e → q ≡ e.1.place
    there e at =
        maps.same_key places_total places_exact q e.1.place
        (passed-test (λ (e : List PlacedHeader × PlacedHeader). eq_by_cmp place_cmp q e.1.place) (with_earlier [] (pdus_from q.dir v)) 0 e at)

    made : (p : PlacedHeader) (earlier : List PlacedHeader) → q ≡ p.place → (a b : Bool)
        → cond a (option_map (λ r. pair_of p r) (response_to (pdus_from (opposite q.dir) v) earlier p))
        (cond b (option_map (λ r. pair_of r p) (request_of (pdus_from (opposite q.dir) v) earlier p)) None) ≡ Some pair
        → (pair.request ≡ q) ⊎ (pair.request.dir ≡ opposite q.dir)
    made p earlier same true b e = asked (response_to (pdus_from (opposite q.dir) v) earlier p) e
      where
        asked : (r : Option PlacedHeader) → option_map (λ r. pair_of p r) r ≡ Some pair → (pair.request ≡ q) ⊎ (pair.request.dir ≡ opposite q.dir)
        asked None e = absurd cc
        asked (Some r) e = let one : pair_of p r ≡ pair = cc in inl (ap (λ (x : Pair). x.request) (sym one) ∙ sym same)
    made p earlier same false true e = answers (request_of (pdus_from (opposite q.dir) v) earlier p) refl e
      where
        answers : (r : Option PlacedHeader) → request_of (pdus_from (opposite q.dir) v) earlier p ≡ r → option_map (λ r. pair_of r p) r ≡ Some pair
            → (pair.request ≡ q) ⊎ (pair.request.dir ≡ opposite q.dir)
        answers None at e = absurd cc
        answers (Some r) at e =
            let one : pair_of r p ≡ pair = cc in
            inr (ap (λ (x : Pair). x.request.dir) (sym one)
            ∙ passed-all (λ (p : PlacedHeader). p.place.dir ≡ opposite q.dir) (λ (r : PlacedHeader). is_request_of p.header.seq r.header)
            (pdus_from (opposite q.dir) v) (count_by (is_response_of p.header.seq) (headers earlier)) r all at)
    made p earlier same false false e = absurd cc

    by : (e : Option (List PlacedHeader × PlacedHeader)) → standing_at q (pdus_from q.dir v) ≡ e
        → option_and_then (λ (e : List PlacedHeader × PlacedHeader). pair_after (pdus_from (opposite q.dir) v) e.0 e.1) e ≡ Some pair
        → (pair.request ≡ q) ⊎ (pair.request.dir ≡ opposite q.dir)
    by None at e = absurd cc
    by (Some s) at e = made s.1 s.0 (there s at) (is_request s.1.header) (is_response s.1.header) e

-- a request stands in its own pair as the request
pub own-request : (v : PairingValue) (q : Place) (pair : Pair) (e : List PlacedHeader × PlacedHeader) → standing_at q (pdus_from q.dir v) ≡ Some e
    → is_request e.1.header ≡ true → e.1.place ≡ q → pair_at v q ≡ Some pair → pair.request ≡ q
own-request v q pair e at request here is =
    by (response_to (pdus_from (opposite q.dir) v) e.0 e.1)
    (sym (ap (λ b. cond b (option_map (λ r. pair_of e.1 r) (response_to (pdus_from (opposite q.dir) v) e.0 e.1))
    (cond (is_response e.1.header) (option_map (λ r. pair_of r e.1) (request_of (pdus_from (opposite q.dir) v) e.0 e.1)) None)) request)
    ∙ sym (ap (option_and_then (λ (e : List PlacedHeader × PlacedHeader). pair_after (pdus_from (opposite q.dir) v) e.0 e.1)) at) ∙ is)
  where
    by : (r : Option PlacedHeader) → option_map (λ r. pair_of e.1 r) r ≡ Some pair → pair.request ≡ q
    by None s = absurd cc
    by (Some r) s = let one : pair_of e.1 r ≡ pair = cc in ap (λ (x : Pair). x.request) (sym one) ∙ here
