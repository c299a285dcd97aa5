-- The element that passes a test and before which so many pass it.
use Rattle.std.proofs.Common.{◌≡◌, ℕ, zero, suc, ◌+◌, Bool, true, false, cond, List, [], ◌∷◌, take, Option, Some, None, refl, sym, ap, subst, ◌∙◌, arith}
use Rattle.std.specs.Prelude.{slice_get, count_by, filter, map, option_map, option_and_then, ◌==◌, ◌&&◌}
use Rattle.std.proofs.lemmas.Bool.Decides.{nat_tests}
use Rattle.std.proofs.lemmas.List.Sums.{sum_by-cons}
use Rattle.smq_pdu.specs.Header.{Header}
use Rattle.smq_pdu.specs.Pairing.{IsPair, is_request_of, is_response_of, is_response, nth_index, response_index, request_rank, response_rank, FindsPairs, FindsEachPair, HasOneRequest, FindsInTurn}
use Rattle.smq_pdu.proofs.Mandatory.{some_is}

shifted_is : (f : Option ℕ) (j : ℕ) → option_map suc f ≡ Some j → (i : ℕ) × (f ≡ Some i) × (suc i ≡ j)
shifted_is None j e = absurd cc
shifted_is (Some i) j e = (i, refl, some_is (suc i) j e)

module _ {X : Type 0} (p : X → Bool) where
  pub record Stands (xs : List X) (k j : ℕ) : Type 0 where
    pub element : X
    pub there : slice_get xs j ≡ Some element
    pub passes : p element ≡ true
    pub before : count_by p (take j xs) ≡ k

  counted-cons : (x : X) (xs : List X) (b : Bool) → p x ≡ b → count_by p (x ∷ xs) ≡ cond b 1 0 + count_by p xs
  counted-cons x xs b e = sum_by-cons (λ y. cond (p y) 1 0) x xs ∙ ap (λ c. cond c 1 0 + count_by p xs) e

  -- ---- what is found stands there

  later : (x : X) (xs : List X) (k i : ℕ) (b : Bool) → p x ≡ b → Stands xs k i → Stands (x ∷ xs) (cond b 1 0 + k) (suc i)
  later x xs k i b e s = record {
    element = s.element;
    there = s.there;
    passes = s.passes;
    before = counted-cons x (take i xs) b e ∙ ap (λ n. cond b 1 0 + n) s.before;
  }

  stands_zero : (x : X) (xs : List X) (j : ℕ) (b : Bool) → p x ≡ b → ((i : ℕ) → nth_index p xs 0 ≡ Some i → Stands xs 0 i)
      → cond b (Some 0) (option_map suc (nth_index p xs 0)) ≡ Some j → Stands (x ∷ xs) 0 j
  stands_zero x xs j true e ih h = subst (λ n. Stands (x ∷ xs) 0 n) (some_is 0 j h) (record { element = x; there = refl; passes = e; before = refl })
  stands_zero x xs j false e ih h =
      let s = shifted_is (nth_index p xs 0) j h in
      subst (λ n. Stands (x ∷ xs) 0 n) s.2 (later x xs 0 s.0 false e (ih s.0 s.1))

  stands_suc : (x : X) (xs : List X) (k j : ℕ) (b : Bool) → p x ≡ b → ((n i : ℕ) → nth_index p xs n ≡ Some i → Stands xs n i)
      → option_map suc (nth_index p xs (cond b k (suc k))) ≡ Some j → Stands (x ∷ xs) (suc k) j
  stands_suc x xs k j true e ih h =
      let s = shifted_is (nth_index p xs k) j h in
      let more : 1 + k ≡ suc k = omega arith in
      subst (λ n. Stands (x ∷ xs) (suc k) n) s.2 (subst (λ n. Stands (x ∷ xs) n (suc s.0)) more (later x xs k s.0 true e (ih k s.0 s.1)))
  stands_suc x xs k j false e ih h =
      let s = shifted_is (nth_index p xs (suc k)) j h in
      let same : 0 + suc k ≡ suc k = omega arith in
      subst (λ n. Stands (x ∷ xs) (suc k) n) s.2 (subst (λ n. Stands (x ∷ xs) n (suc s.0)) same (later x xs (suc k) s.0 false e (ih (suc k) s.0 s.1)))

  pub stands : (xs : List X) (k j : ℕ) → nth_index p xs k ≡ Some j → Stands xs k j
  unfolding nth_index
  stands [] k j h = absurd cc
  stands (x ∷ xs) zero j h = stands_zero x xs j (p x) refl (λ i. stands xs zero i) h
  stands (x ∷ xs) (suc k) j h = stands_suc x xs k j (p x) refl (λ n i. stands xs n i) h

  -- ---- what stands there is found

  skipped : (x : X) (xs : List X) (k : ℕ) → p x ≡ false → nth_index p (x ∷ xs) k ≡ option_map suc (nth_index p xs k)
  unfolding nth_index
  skipped x xs zero e = rw e refl
  skipped x xs (suc k) e = rw e refl

  taken : (x : X) (xs : List X) (k : ℕ) → p x ≡ true → nth_index p (x ∷ xs) (suc k) ≡ option_map suc (nth_index p xs k)
  unfolding nth_index
  taken x xs k e = rw e refl

  first : (x : X) (xs : List X) → p x ≡ true → nth_index p (x ∷ xs) 0 ≡ Some 0
  unfolding nth_index
  first x xs e = rw e refl

  found_at : (x : X) (xs : List X) (j : ℕ) (b : Bool) → p x ≡ b → nth_index p xs (count_by p (take j xs)) ≡ Some j
      → nth_index p (x ∷ xs) (count_by p (x ∷ take j xs)) ≡ Some (suc j)
  found_at x xs j true e ih =
      let count : count_by p (x ∷ take j xs) ≡ suc (count_by p (take j xs)) = counted-cons x (take j xs) true e ∙ omega arith in
      ap (λ n. nth_index p (x ∷ xs) n) count ∙ taken x xs (count_by p (take j xs)) e ∙ ap (λ f. option_map suc f) ih
  found_at x xs j false e ih =
      let count : count_by p (x ∷ take j xs) ≡ count_by p (take j xs) = counted-cons x (take j xs) false e ∙ omega arith in
      ap (λ n. nth_index p (x ∷ xs) n) count ∙ skipped x xs (count_by p (take j xs)) e ∙ ap (λ f. option_map suc f) ih

  pub found : (xs : List X) (j : ℕ) (x : X) → slice_get xs j ≡ Some x → p x ≡ true → nth_index p xs (count_by p (take j xs)) ≡ Some j
  found [] j x h t = absurd cc
  found (y ∷ xs) zero x h t = first y xs (ap p (some_is y x h) ∙ t)
  found (y ∷ xs) (suc j) x h t = found_at y xs j (p y) refl (found xs j x h t)

  -- ---- in turn

  moved : {Y : Type 0} (y : Y) (ys : List Y) (f : Option ℕ) → option_and_then (slice_get (y ∷ ys)) (option_map suc f)
      ≡ option_and_then (slice_get ys) f
  moved y ys None = refl
  moved y ys (Some i) = refl

  pub in_turn : (xs : List X) (k : ℕ) → slice_get (filter p xs) k ≡ option_and_then (slice_get xs) (nth_index p xs k)
  unfolding nth_index
  in_turn [] k = refl
  in_turn (x ∷ xs) k = turn_at x xs k (p x) refl (in_turn xs)
    where
      turn_at : (x : X) (xs : List X) (k : ℕ) (b : Bool) → p x ≡ b
          → ((n : ℕ) → slice_get (filter p xs) n ≡ option_and_then (slice_get xs) (nth_index p xs n))
          → slice_get (filter p (x ∷ xs)) k ≡ option_and_then (slice_get (x ∷ xs)) (nth_index p (x ∷ xs) k)
      turn_at x xs k false e ih = rw (skipped x xs k e, e) (ih k ∙ sym (moved x xs (nth_index p xs k)))
      turn_at x xs zero true e ih = rw (first x xs e, e) refl
      turn_at x xs (suc k) true e ih = rw (taken x xs k e, e) (ih k ∙ sym (moved x xs (nth_index p xs k)))

-- a test of what stands beside each item finds the same places
pub nth_index-map : {A X : Type 0} (p : X → Bool) (of : A → X) (items : List A) (k : ℕ) → nth_index p (map of items) k
    ≡ nth_index (λ a. p (of a)) items k
unfolding nth_index
nth_index-map p of [] k = refl
nth_index-map p of (a ∷ items) zero = ap (λ (f : Option ℕ). cond (p (of a)) (Some 0) (option_map suc f)) (nth_index-map p of items zero)
nth_index-map p of (a ∷ items) (suc k) = ap (option_map suc) (nth_index-map p of items (cond (p (of a)) k (suc k)))

-- ---- pairs

both : (a b : Bool) → a && b ≡ true → (a ≡ true) × (b ≡ true)
both true true h = (refl, refl)
both true false h = absurd cc
both false b h = absurd cc

and_of : (a b : Bool) → a ≡ true → b ≡ true → a && b ≡ true
and_of a b h k = rw (h, k) refl

pub finds_pairs : FindsPairs
finds_pairs mine other i j request at request_is e =
    let s = stands (is_response_of request.seq) other (request_rank mine i request.seq) j e in
    let parts : (is_response s.element ≡ true) × (s.element.seq == request.seq ≡ true) = both _ _ s.passes in
    let same : request.seq ≡ s.element.seq = grind (arith, nat_tests, parts.1) in (
      s.element,
      record {
        request_at = at;
        response_at = s.there;
        is_request = request_is;
        is_response = parts.0;
        seq = same;
        rank = sym s.before ∙ ap (λ n. response_rank other j n) same;
      },
    )

pub finds_each : FindsEachPair
finds_each mine other i j request response pair =
    let same : response.seq == request.seq ≡ true = grind (arith, nat_tests, pair.seq) in
    let passes : is_response_of request.seq response ≡ true = and_of _ _ pair.is_response same in
    let rank : request_rank mine i request.seq ≡ response_rank other j request.seq = pair.rank ∙ ap (λ n. response_rank other j n) (sym pair.seq) in
    ap (λ n. response_index other request.seq n) rank ∙ found (is_response_of request.seq) other j response pair.response_at passes

-- the place of a request is found by the rank of its response
request_found : (mine other : List Header) (i j : ℕ) (request response : Header) → IsPair mine other i j request response
    → nth_index (is_request_of response.seq) mine (response_rank other j response.seq) ≡ Some i
request_found mine other i j request response pair =
    let same : request.seq == request.seq ≡ true = grind (arith, nat_tests) in
    let passes : is_request_of request.seq request ≡ true = and_of _ _ pair.is_request same in
    let here : nth_index (is_request_of request.seq) mine (request_rank mine i request.seq) ≡ Some i =
    found (is_request_of request.seq) mine i request pair.request_at passes in
    let by_response : nth_index (is_request_of request.seq) mine (response_rank other j response.seq) ≡ Some i =
    ap (λ n. nth_index (is_request_of request.seq) mine n) (sym pair.rank) ∙ here in
    ap (λ n. nth_index (is_request_of n) mine (response_rank other j response.seq)) (sym pair.seq) ∙ by_response

pub has_one_request : HasOneRequest
has_one_request mine other i k j one two response first second =
    some_is i k (sym (request_found mine other i j one response first) ∙ request_found mine other k j two response second)

pub finds_in_turn : FindsInTurn
finds_in_turn other seq rank = in_turn (is_response_of seq) other rank

-- the same of items that each have a header
pub response-in-turn : {A : Type 0} (header_of : A → Header) (items : List A) (seq rank : ℕ)
    → slice_get (filter (λ x. is_response_of seq (header_of x)) items) rank
    ≡ option_and_then (slice_get items) (response_index (map header_of items) seq rank)
response-in-turn header_of items seq rank =
    in_turn (λ x. is_response_of seq (header_of x)) items rank
    ∙ ap (option_and_then (slice_get items)) (sym (nth_index-map (is_response_of seq) header_of items rank))
