-- The candidates of a key: a look-up of the next place, and a walk to the first that isn't vacant.
use Rattle.std.proofs.Common.{◌≡◌, ◌≤◌, ◌+◌, arith, length, Bool, true, false, cond, List, [], ◌∷◌, Option, Some, None, refl, sym, ap, ◌∙◌, filter, find}
use Rattle.std.specs.Prelude.{◌&&◌, not, option_map, is_some}
use Rattle.std.specs.Ordering.{is_lt, nat_cmp, ordering_then}
use Rattle.std.specs.Cmp.{IsTotalOrder}
use Rattle.std.proofs.lemmas.Cmp.{on_total, then_total, nat_cmp_total}
use Rattle.std.specs.List.Sorted.{IsStrictlySortedBy}
use Rattle.std.specs.Map.{keys_of}
use Rattle.smq_kit.specs.declared.link_key.LinkKey.{LinkKey}
use Rattle.smq_kit.specs.LinkKeys.{same_key, link_key_cmp}
use Rattle.smq_kit.proofs.Comparisons.{is_equal}
use Rattle.smq_kit.proofs.LinkKeyOrders.{link_keys_exact}
use Rattle.smq_shelf.specs.Places.{content_of, with_place}
use Rattle.smq_shelf.specs.Walks.{left_above, stands_after}
use Rattle.smq_shelf.proofs.Finds.{filter_same}
use mathlib.Core.Bool.{and_comm}
use Rattle.smq_shelf.proofs.Walks.{Narrows, after-rises, left-found}
use Rattle.smq_kit.specs.Orders.{kept_place_cmp}
use Rattle.smq_group.specs.declared.member.Candidate.{Candidate}
use Rattle.smq_group.specs.declared.group_summary.Earliest.{Earliest}
use Rattle.smq_group.specs.within.Orders.{kept_candidate_cmp}
use Rattle.smq_group.specs.within.Walked.{candidate_at, candidate_key, earliest_of, first_candidate_after, first_there, of_candidate, vacant_left, vacant_of}
use Rattle.smq_group.proofs.Finding.{other_above, le_of_lt}
use Rattle.smq_kit.proofs.HashedKeyOrders.{hashed_keys_total}
use Rattle.smq_group.proofs.Placing.{kept_places_total}

pub candidates_total : IsTotalOrder kept_candidate_cmp
candidates_total = then_total (on_total (λ c. c.key) hashed_keys_total) (then_total (on_total (λ c. c.moment) nat_cmp_total) (on_total (λ c. c.place) kept_places_total))

module _ {V : Type 0} (key : LinkKey) where
  -- the next one after a candidate of the key
  pub next-narrows : (after : Candidate) → same_key key after.key ≡ true → Narrows kept_candidate_cmp (λ (e : Candidate × V). is_lt (kept_candidate_cmp after e.0)) (of_candidate key) (stands_after kept_candidate_cmp (of_candidate key) after)
  next-narrows after own =
      let same : key ≡ after.key = link_keys_exact key after.key (is_equal (link_key_cmp key after.key) own) in
      record {
        both = λ e. refl;
        up = λ e f h n l. ap (λ (k : LinkKey). same_key k f.0.key) same ∙ other_above after.key e.0.key f.0.key
            (ordering_then (nat_cmp after.moment e.0.moment) (kept_place_cmp after.place e.0.place)) (ordering_then (nat_cmp e.0.moment f.0.moment) (kept_place_cmp e.0.place f.0.place))
            (le_of_lt (kept_candidate_cmp after e.0) h) (ap (λ (k : LinkKey). same_key k e.0.key) (sym same) ∙ n) l;
      }

-- ---- the walk

-- the first candidate is the first place that isn't vacant
module _ (q : Candidate → Bool) where
  abbrev passing : List (Candidate × Option Bool) → List (Candidate × Option Bool)
  passing es = filter (λ e. q e.0) es

  abbrev first_of : List (Candidate × Bool) → Option Earliest
  first_of es = option_map earliest_of (find (λ e. q e.0) es)

  first_at : (c : Candidate) (x : Option Bool) (es : List (Candidate × Option Bool)) (b : Bool) → q c ≡ b → first_of (content_of es) ≡ first_there (passing es)
      → first_of (with_place c x (content_of es)) ≡ first_there (cond b ((c, x) ∷ passing es) (passing es))
  first_at c None es true t h = h
  first_at c None es false t h = h
  first_at c (Some v) es true t h = ap (λ b. option_map earliest_of (cond b (Some (c, v)) (find (λ e. q e.0) (content_of es)))) t
  first_at c (Some v) es false t h = ap (λ b. option_map earliest_of (cond b (Some (c, v)) (find (λ e. q e.0) (content_of es)))) t ∙ h

  first-is : (es : List (Candidate × Option Bool)) → first_of (content_of es) ≡ first_there (passing es)
  first-is [] = refl
  first-is (e ∷ es) = first_at e.0 e.1 es (q e.0) refl (first-is es)

module _ (key : LinkKey) (es : List (Candidate × Option Bool)) (so : IsStrictlySortedBy kept_candidate_cmp (keys_of es)) where
  abbrev of : Candidate × Option Bool → Bool
  of e = of_candidate key e

  abbrev left : Option (Candidate × Option Bool) → List (Candidate × Option Bool)
  left next = left_above kept_candidate_cmp of es next

  abbrev Follows : Candidate → Option (Candidate × Option Bool) → Type 0
  Follows c next = next ≡ find (stands_after kept_candidate_cmp of c) es

  left_is : (c : Candidate) (next : Option (Candidate × Option Bool)) → Follows c next → left next ≡ filter (stands_after kept_candidate_cmp of c) es
  left_is c next h = left-found candidates_total of es so (stands_after kept_candidate_cmp of c) next (after-rises candidates_total of c) h

  pub left-start : (from : Earliest) (next : Option (Candidate × Option Bool)) → Follows (candidate_at key from) next → first_candidate_after key from (content_of es) ≡ first_there (left next)
  left-start from next h = first-is (λ c. is_lt (kept_candidate_cmp (candidate_at key from) c) && same_key key c.key) es ∙ sym (ap first_there (left_is (candidate_at key from) next h))

  left_of : (c : Candidate) (v : Option Bool) (next then : Option (Candidate × Option Bool)) → next ≡ Some (c, v) → Follows c then → left next ≡ (c, v) ∷ left then
  left_of c v next then n h = ap left n ∙ ap (λ (xs : List (Candidate × Option Bool)). (c, v) ∷ xs) (sym (left_is c then h))

  pub left-more : (x : Option Earliest) (c : Candidate) (v : Option Bool) (next then : Option (Candidate × Option Bool)) → x ≡ first_there (left next) → next ≡ Some (c, v) → is_some v ≡ false → Follows c then → x ≡ first_there (left then)
  left-more x c v next then h n f a = h ∙ ap first_there (left_of c v next then n a) ∙ ap (λ b. option_map earliest_of (cond b (Some (c, v)) (find (λ e. is_some e.1) (left then)))) f

  pub left-there : (x : Option Earliest) (c : Candidate) (v : Option Bool) (next : Option (Candidate × Option Bool)) → x ≡ first_there (left next) → next ≡ Some (c, v) → is_some v ≡ true → x ≡ Some (earliest_of (c, v))
  left-there x c v next h n t = h ∙ ap (λ (m : Option (Candidate × Option Bool)). first_there (left m)) n
      ∙ ap (λ b. option_map earliest_of (cond b (Some (c, v)) (find (λ e. is_some e.1) (filter (stands_after kept_candidate_cmp of c) es)))) t

  pub left-vacant : (c : Candidate) (v : Option Bool) (next then : Option (Candidate × Option Bool)) → next ≡ Some (c, v) → is_some v ≡ false → Follows c then → vacant_left (left then) + 1 ≡ vacant_left (left next)
  left-vacant c v next then n f a =
      let rest : List (Candidate × Option Bool) = filter (λ e. not (is_some e.1)) (left then) in
      let h : vacant_left (left next) ≡ length ((c, v) ∷ rest) = ap vacant_left (left_of c v next then n a) ∙ ap (λ b. length (cond (not b) ((c, v) ∷ rest) rest)) f in
      omega (arith, h)

  bound_at : (c : Candidate) (x : Option Bool) (vs ws : List (Candidate × Option Bool)) (s t : Bool) → vacant_left vs ≤ length ws
      → vacant_left (cond (s && t) ((c, x) ∷ vs) vs) ≤ length (cond (s && not (is_some x)) ((c, x) ∷ ws) ws)
  bound_at c None vs ws true true h = omega arith
  bound_at c None vs ws true false h = omega arith
  bound_at c (Some v) vs ws true true h = h
  bound_at c _ vs ws _ _ h = h

  bound : (from : Candidate) (xs : List (Candidate × Option Bool)) → vacant_left (filter (λ e. of e && is_lt (kept_candidate_cmp from e.0)) xs) ≤ vacant_of candidate_key key xs
  bound from [] = omega arith
  bound from (x ∷ xs) = bound_at x.0 x.1 (filter (λ e. of e && is_lt (kept_candidate_cmp from e.0)) xs) (filter (λ e. of e && not (is_some e.1)) xs) (of x) (is_lt (kept_candidate_cmp from x.0)) (bound from xs)

  pub left-bound : (from : Candidate) (next : Option (Candidate × Option Bool)) → Follows from next → vacant_left (left next) ≤ vacant_of candidate_key key es
  left-bound from next h =
      let e : vacant_left (left next) ≡ vacant_left (filter (λ e. of e && is_lt (kept_candidate_cmp from e.0)) es) =
      ap vacant_left (left_is from next h ∙ filter_same (stands_after kept_candidate_cmp of from) (λ e. of e && is_lt (kept_candidate_cmp from e.0)) (λ e. and_comm (is_lt (kept_candidate_cmp from e.0)) (of e)) es) in
      omega (arith, e, bound from es)
