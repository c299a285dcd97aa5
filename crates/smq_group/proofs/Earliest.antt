-- The earliest receipt of a key that can decide, as receipts come and go: there is one at most, so what comes after none
-- of those that can is the one that is found.
use Rattle.std.proofs.Common.{◌≡◌, ℕ, Bool, true, false, cond, ◌||◌, List, [], ◌∷◌, Option, Some, None, refl, sym, ap, ◌∙◌, subst}
use Rattle.std.specs.Prelude.{◌&&◌, ◌==◌, map, filter, option_map, find}
use Rattle.std.specs.List.{AllByRecursion, list_any, reduce}
use Rattle.std.specs.declared.cmp.Ordering.{Ordering}
use Rattle.std.specs.declared.cmp.Ordering.TheVariants.{Less, Equal, Greater}
use Rattle.std.specs.Cmp.{IsTotalOrder, tied_itself, upto}
use Rattle.std.specs.Ordering.{eq_by_cmp, is_eq, is_gt, is_lt, nat_cmp, ordering_then, ordering_reverse}
use Rattle.std.specs.Map.{keys_of, lookup}
use Rattle.std.specs.BTreeMap.{is_at}
use Rattle.std.specs.List.Sorted.{IsStrictlySortedBy}
use Rattle.std.specs.FinMap as fin
use Rattle.std.specs.FinMap.{entries, get, get-entries, nat_cmp-IsAntisymmetric}
use Rattle.std.proofs.lemmas.Bool.{cond_both, false≢true, false_from_ne_true, eqb-true, eq-eqb, or_right}
use Rattle.std.proofs.lemmas.Option.{cond_some}
use Rattle.std.proofs.lemmas.Cmp.{on_total, then_total, nat_cmp_total}
use Rattle.smq_kit.specs.declared.place.Place.{Place}
use Rattle.smq_kit.specs.declared.link_key.LinkKey.{LinkKey}
use Rattle.smq_kit.specs.Orders.{kept_place_cmp, place_cmp}
use Rattle.smq_kit.specs.HashedKeys.{hashed_key_cmp}
use Rattle.smq_kit.specs.LinkKeys.{link_key_cmp, same_key}
use Rattle.smq_kit.specs.Maps.{same_option}
use Rattle.smq_kit.proofs.PlaceOrders.{place-order, places_total, places_exact}
use Rattle.smq_kit.proofs.LinkKeyOrders.{link_keys_total, link_keys_exact}
use Rattle.smq_kit.proofs.Comparisons.{is_equal, then_first, then_second}
use Rattle.smq_kit.proofs.MapLemmas as maps
use Rattle.smq_shelf.specs.Walks.{stands_after}
use Rattle.smq_shelf.proofs.Walks.{both, found-passes, less}
use Rattle.smq_group.specs.Matching as m
use Rattle.smq_group.specs.Matching.{Grouping, GroupedReceipt, CanDecide, candidates, candidate_cmp, earlier}
use Rattle.smq_group.specs.declared.member.Candidate.{Candidate}
use Rattle.smq_group.specs.declared.group_summary.Earliest.{Earliest}
use Rattle.smq_group.specs.within.KeyLaws.{one_candidate}
use Rattle.smq_group.specs.within.Orders.{kept_candidate_cmp}
use Rattle.smq_group.specs.within.Outlooks.{is_before}
use Rattle.smq_group.specs.within.Stored.{earliest_at, is_candidate}
use Rattle.smq_group.specs.within.Walked.{candidate_at, earliest_of, first_candidate_after, of_candidate}
use Rattle.smq_group.proofs.CandidateWalks.{candidates_total}
use Rattle.smq_group.proofs.Least.{least-found, reduce-all}
use Rattle.smq_kit.proofs.HashedKeyOrders.{hashed_keys_total}
use Rattle.smq_group.proofs.Placing.{not_none, one_of, own_place, same_place}
use Rattle.smq_group.proofs.Stepping.{finds, FindsUpTo, found-there}

pub own_key : (key : LinkKey) → same_key key key ≡ true
own_key key = ap is_eq (tied_itself link_keys_total key)

pub one_key : (a b : LinkKey) → same_key a b ≡ true → a ≡ b
one_key a b e = link_keys_exact a b (is_equal (link_key_cmp a b) e)

-- by moment, then by place
pub pairs_total : IsTotalOrder candidate_cmp
pairs_total = then_total (on_total (λ c. c.0) nat_cmp_total) (on_total (λ c. c.1) places_total)

pub pairs_exact : (a b : m.Candidate) → candidate_cmp a b ≡ Equal → a ≡ b
pairs_exact a b e =
    let moments : Ordering = nat_cmp a.0 b.0 in
    let places : Ordering = place_cmp a.1 b.1 in
    λ i. (nat_cmp-IsAntisymmetric a.0 b.0 (then_first moments places e) i, places_exact a.1 b.1 (then_second moments places e) i)

-- ---- the candidates of a grouping

module _ (g : Grouping) (key : LinkKey) where
  abbrev passes : Place × GroupedReceipt → Bool
  passes e = same_key key e.1.key && e.1.decides

  abbrev candidate : Place × GroupedReceipt → m.Candidate
  candidate e = (e.1.moment, e.0)

  can : (e : Place × GroupedReceipt) → get g.receipts e.0 ≡ Some e.1 → passes e ≡ true → CanDecide g key e.1.moment e.0
  can e there h =
      let parts = both (same_key key e.1.key) e.1.decides h in
      record { stands = there ∙ (λ i. Some (record { key = sym (one_key key e.1.key parts.0) i; moment = e.1.moment; decides = parts.1 i })) }

  all-can : (es : List (Place × GroupedReceipt)) → AllByRecursion (λ e. get g.receipts e.0 ≡ Some e.1) es
      → AllByRecursion (λ (c : m.Candidate). CanDecide g key c.0 c.1) (map candidate (filter passes es))
  all-can [] a = tt
  all-can (e ∷ es) a =
      cond_both (passes e) (e ∷ filter passes es) (filter passes es) (λ xs. AllByRecursion (λ (c : m.Candidate). CanDecide g key c.0 c.1) (map candidate xs))
      (λ h. (can e a.0 h, all-can es a.1)) (λ _. all-can es a.1)

  -- a receipt that can decide is among the candidates
  among : (p : m.Candidate → Bool) (moment : ℕ) (place : Place) (es : List (Place × GroupedReceipt)) (r : GroupedReceipt)
      → r ≡ (record { key = key; moment = moment; decides = true })
      → fin.find place_cmp place es ≡ Some r → p (moment, place) ≡ true → list_any p (map candidate (filter passes es)) ≡ true
  among p moment place [] r is e h = absurd cc
  among p moment place (x ∷ es) r is e h =
      elim (eq_by_cmp place_cmp place x.0) as (λ b. eq_by_cmp place_cmp place x.0 ≡ b → cond b (Some x.1) (fin.find place_cmp place es)
      ≡ Some r → list_any p (map candidate (cond (passes x) (x ∷ filter passes es) (filter passes es))) ≡ true) [
        | true ↦ λ t found.
            let same : place ≡ x.0 = same_place place x.0 t in
            let value : x.1 ≡ (record { key = key; moment = moment; decides = true }) = one_of x.1 r (Some x.1) refl found ∙ is in
            let pass : passes x ≡ true = ap (λ (v : GroupedReceipt). same_key key v.key && v.decides) value ∙ ap (λ b. b && true) (own_key key) in
            let at : p (candidate x) ≡ true = (λ i. p ((value i).moment, sym same i)) ∙ h in
            ap (λ b. list_any p (map candidate (cond b (x ∷ filter passes es) (filter passes es)))) pass
            ∙ ap (λ b. b || list_any p (map candidate (filter passes es))) at
        | false ↦ λ t found.
            let rest = among p moment place es r is found h in
            cond_both (passes x) (x ∷ filter passes es) (filter passes es) (λ xs. list_any p (map candidate xs) ≡ true)
            (λ _. or_right (p (candidate x)) (list_any p (map candidate (filter passes es))) rest) (λ _. rest)
      ] refl e

  among-candidates : (p : m.Candidate → Bool) (moment : ℕ) (place : Place) → CanDecide g key moment place
      → p (moment, place) ≡ true → list_any p (candidates g key) ≡ true
  among-candidates p moment place h e = among p moment place (entries g.receipts)
      (record { key = key; moment = moment; decides = true }) refl (sym (get-entries g.receipts place) ∙ h.stands) e

-- ---- the earliest: one that can decide and comes after none that can, or none where none can

abbrev pub IsFirst : Grouping → LinkKey → Option m.Candidate → Type 0
IsFirst g key None = (moment : ℕ) (place : Place) → CanDecide g key moment place → ⊥
IsFirst g key (Some c) = CanDecide g key c.0 c.1 × ((moment : ℕ) (place : Place) → CanDecide g key moment place → is_gt (candidate_cmp c (moment, place)) ≡ false)

no_candidates : (cs : List m.Candidate) → reduce earlier cs ≡ None → list_any (λ c. true) cs ≡ false
no_candidates [] e = refl
no_candidates (c ∷ cs) e = absurd cc

pub first-is : (g : Grouping) (key : LinkKey) (o : Option m.Candidate) → reduce earlier (candidates g key) ≡ o → IsFirst g key o
first-is g key None e = λ moment place can. false≢true (sym (no_candidates (candidates g key) e) ∙ among-candidates g key (λ c. true) moment place can refl)
first-is g key (Some c) e =
    let least = least-found candidate_cmp pairs_total (candidates g key) c e in (
      reduce-all candidate_cmp pairs_total (λ (c : m.Candidate). CanDecide g key c.0 c.1) (candidates g key) c
          (all-can g key (entries g.receipts) (maps.get-entry places_total places_exact g.receipts)) e,
      λ moment place other. false_from_ne_true (is_gt (candidate_cmp c (moment, place))) (λ after.
          false≢true (sym least.after_none ∙ among-candidates g key (λ y. is_gt (candidate_cmp c y)) moment place other after)),
    )

tied_both : (r s : Ordering) → s ≡ ordering_reverse r → is_gt r ≡ false → is_gt s ≡ false → r ≡ Equal
tied_both Less s e p q = absurd (false≢true (sym q ∙ ap is_gt e))
tied_both Equal s e p q = refl
tied_both Greater s e p q = absurd (false≢true (sym p))

one_first : (g : Grouping) (key : LinkKey) (a b : Option m.Candidate) → IsFirst g key a → IsFirst g key b → a ≡ b
one_first g key None None x y = refl
one_first g key None (Some d) x y = absurd (x d.0 d.1 y.0)
one_first g key (Some c) None x y = absurd (y c.0 c.1 x.0)
one_first g key (Some c) (Some d) x y =
    ap Some (pairs_exact c d (tied_both (candidate_cmp c d) (candidate_cmp d c) (pairs_total.antisymm d c) (x.1 d.0 d.1 y.0) (y.1 c.0 c.1 x.0)))

-- what is the earliest is the one that is found
pub first-found : (g : Grouping) (key : LinkKey) (o : Option m.Candidate) → IsFirst g key o → reduce earlier (candidates g key) ≡ o
first-found g key o f = one_first g key (reduce earlier (candidates g key)) o (first-is g key (reduce earlier (candidates g key)) refl) f

-- ---- one receipt more

-- One receipt more, where none stood.
pub record HasMore (g h : Grouping) (place : Place) (r : GroupedReceipt) : Type 0 where
  pub absent : get g.receipts place ≡ None
  pub each : (q : Place) → get h.receipts q ≡ cond (eq_by_cmp place_cmp q place) (Some r) (get g.receipts q)

abbrev AfterNone : m.Candidate → ℕ → Place → Type 0
AfterNone c moment place = is_gt (candidate_cmp c (moment, place)) ≡ false

abbrev pub a_candidate : LinkKey → ℕ → GroupedReceipt
a_candidate key moment = record { key = key; moment = moment; decides = true }

module _ (g h : Grouping) (place : Place) (r : GroupedReceipt) (more : HasMore g h place r) (key : LinkKey) where
  pub new_there : get h.receipts place ≡ Some r
  new_there = more.each place ∙ ap (λ b. cond b (Some r) (get g.receipts place)) (own_place place place refl)

  pub absent_can : (moment : ℕ) (p : Place) → p ≡ place → CanDecide g key moment p → ⊥
  absent_can moment p t c = not_none (a_candidate key moment) (get g.receipts p) (ap (get g.receipts) t ∙ more.absent) c.stands

  pub kept_can : (moment : ℕ) (p : Place) (b : Bool) → eq_by_cmp place_cmp p place ≡ b → CanDecide g key moment p → CanDecide h key moment p
  kept_can moment p true t c = absurd (absent_can moment p (same_place p place t) c)
  kept_can moment p false t c = record { stands = more.each p ∙ ap (λ b. cond b (Some r) (get g.receipts p)) t ∙ c.stands }

  -- what can decide then is the new one, or could before
  pub each_can : (P : ℕ → Place → Type 0) → ((moment : ℕ) (p : Place) → (p ≡ place) × (r ≡ a_candidate key moment) → P moment p) → ((moment : ℕ) (p : Place) → CanDecide g key moment p → P moment p)
      → (moment : ℕ) (p : Place) → CanDecide h key moment p → P moment p
  each_can P new old moment p c = by (eq_by_cmp place_cmp p place) refl
    where
      by : (b : Bool) → eq_by_cmp place_cmp p place ≡ b → P moment p
      by true t = new moment p (same_place p place t, one_of r (a_candidate key moment) (get h.receipts p) (more.each p ∙ ap (λ b. cond b (Some r) (get g.receipts p)) t) c.stands)
      by false t = old moment p (record { stands = sym (more.each p ∙ ap (λ b. cond b (Some r) (get g.receipts p)) t) ∙ c.stands })

  pub new_here : same_key key r.key ≡ true → r.decides ≡ true → CanDecide h key r.moment place
  new_here s d = record {
    stands = new_there ∙ (λ i. Some (record { key = sym (one_key key r.key s) i; moment = r.moment; decides = d i }));
  }

  no_candidate : (moment : ℕ) → (same_key key r.key && r.decides) ≡ false → r ≡ a_candidate key moment → ⊥
  no_candidate moment n e = false≢true (sym n ∙ ap (λ (x : GroupedReceipt). same_key key x.key && x.decides) e ∙ ap (λ b. b && true) (own_key key))

  -- a receipt of another key, or that can't decide, changes nothing
  pub more-other : (same_key key r.key && r.decides) ≡ false → (o : Option m.Candidate) → IsFirst g key o → IsFirst h key o
  more-other n None f = each_can (λ _ _. ⊥) (λ moment p x. no_candidate moment n x.1) f
  more-other n (Some e) f = (kept_can e.0 e.1 (eq_by_cmp place_cmp e.1 place) refl f.0, each_can (AfterNone e) (λ moment p x. absurd (no_candidate moment n x.1)) f.1)

  at_new : (e : m.Candidate) (moment : ℕ) (p : Place) → (p ≡ place) × (r ≡ a_candidate key moment) → is_gt (candidate_cmp e (r.moment, place)) ≡ false → is_gt (candidate_cmp e (moment, p)) ≡ false
  at_new e moment p x n = (λ i. is_gt (candidate_cmp e (sym (ap (λ (y : GroupedReceipt). y.moment) x.1) i, x.0 i))) ∙ n

  itself : is_gt (candidate_cmp (r.moment, place) (r.moment, place)) ≡ false
  itself = ap is_gt (tied_itself pairs_total (r.moment, place))

  not_after : (a b : m.Candidate) → is_lt (candidate_cmp a b) ≡ false → is_gt (candidate_cmp b a) ≡ false
  not_after a b n = ap is_gt (pairs_total.antisymm b a) ∙ turned (candidate_cmp a b) n
    where
      turned : (r : Ordering) → is_lt r ≡ false → is_gt (ordering_reverse r) ≡ false
      turned Less n = absurd (false≢true (sym n))
      turned _ n = refl

  -- one that can decide is the earliest where it comes before the one that was
  pub more-first : same_key key r.key ≡ true → r.decides ≡ true → (o : Option m.Candidate) (b : Bool) → is_before (earliest_at (r.moment, place)) (option_map earliest_at o) ≡ b → IsFirst g key o
      → IsFirst h key (cond b (Some (r.moment, place)) o)
  more-first s d None false t f = absurd (false≢true (sym t))
  more-first s d None true t f = (new_here s d, each_can (AfterNone (r.moment, place)) (λ moment p x. at_new (r.moment, place) moment p x itself) (λ moment p c. absurd (f moment p c)))
  more-first s d (Some e) true t f = (
    new_here s d,
    each_can (AfterNone (r.moment, place)) (λ moment p x. at_new (r.moment, place) moment p x itself)
        (λ moment p c. upto pairs_total (r.moment, place) e (moment, p) (ap is_gt (less (candidate_cmp (r.moment, place) e) t)) (f.1 moment p c)),
  )
  more-first s d (Some e) false t f =
      (kept_can e.0 e.1 (eq_by_cmp place_cmp e.1 place) refl f.0, each_can (AfterNone e) (λ moment p x. at_new e moment p x (not_after (r.moment, place) e t)) f.1)

-- ---- one receipt less: that is one more, seen from those that are left

-- the moment and place of a receipt
abbrev pair_of : Earliest → m.Candidate
pair_of e = (e.moment, e.place)

-- one of a key that can decide, as the index keeps it
abbrev in_index : LinkKey → m.Candidate → Candidate
in_index key c = record { key = key; moment = c.0; place = c.1 }

module _ (g h : Grouping) (place : Place) (r : GroupedReceipt) (more : HasMore g h place r) (key : LinkKey) where
  pub was_there : (e : m.Candidate) → CanDecide h key e.0 e.1 → e.1 ≡ place → r ≡ a_candidate key e.0
  was_there e c t = one_of r (a_candidate key e.0) (get h.receipts place) (new_there g h place r more key) (ap (get h.receipts) (sym t) ∙ c.stands)

  module _ (index : List (Candidate × Bool)) (so : IsStrictlySortedBy kept_candidate_cmp (keys_of index))
      (indexed : (c : Candidate) → same_key key c.key ≡ true → lookup (is_at (kept_candidate_cmp c)) index ≡ cond (is_candidate c (get g.receipts c.place)) (Some true) None) where
    in_indexed : (moment : ℕ) (p : Place) → CanDecide g key moment p → lookup (is_at (kept_candidate_cmp (in_index key (moment, p)))) index ≡ Some true
    in_indexed moment p c =
        indexed (in_index key (moment, p)) (own_key key) ∙ ap (λ (x : Option GroupedReceipt). cond (is_candidate (in_index key (moment, p)) x) (Some true) None) c.stands
        ∙ (λ i. cond ((own_key key i && (eq-eqb moment moment refl) i) && true) (Some true) None)

    from_index : (c : Candidate) (x : Option GroupedReceipt) (v : Bool) → same_key key c.key ≡ true → get g.receipts c.place ≡ x → cond (is_candidate c x) (Some true) None ≡ Some v → CanDecide g key c.moment c.place
    from_index c None v s e l = absurd cc
    from_index c (Some y) v s e l =
        let all = both (same_key c.key y.key && (y.moment == c.moment)) y.decides (cond_some (same_key c.key y.key && (y.moment == c.moment) && y.decides) true v l).0 in
        let parts = both (same_key c.key y.key) (y.moment == c.moment) all.0 in
        record {
          stands = e ∙ (λ i. Some (record { key = (sym (one_key c.key y.key parts.0) ∙ sym (one_key key c.key s)) i; moment = eqb-true y.moment c.moment parts.1 i; decides = all.1 i }));
        }

    module _ (f : IsFirst h key (Some (r.moment, place))) where
      abbrev from : Earliest
      from = earliest_at (r.moment, place)

      less_of : (o : Ordering) → is_gt o ≡ false → (o ≡ Equal → ⊥) → is_lt o ≡ true
      less_of Less n e = refl
      less_of Equal n e = absurd (e refl)
      less_of Greater n e = absurd (false≢true (sym n))

      abbrev following : Candidate × Bool → Bool
      following e = stands_after kept_candidate_cmp (of_candidate key) (candidate_at key from) e

      -- each that can decide comes after the one that did
      comes_after : (moment : ℕ) (p : Place) → CanDecide g key moment p → is_lt (kept_candidate_cmp (candidate_at key from) (in_index key (moment, p))) ≡ true
      comes_after moment p c =
          ap (λ o. is_lt (ordering_then o (ordering_then (nat_cmp r.moment moment) (kept_place_cmp place p)))) (tied_itself hashed_keys_total key)
          ∙ (λ i. is_lt (ordering_then (nat_cmp r.moment moment) (place-order i place p)))
          ∙ less_of (candidate_cmp (r.moment, place) (moment, p)) (f.1 moment p (kept_can g h place r more key moment p (eq_by_cmp place_cmp p place) refl c))
          (λ e. absent_can g h place r more key moment p (sym (ap (λ (x : m.Candidate). x.1) (pairs_exact (r.moment, place) (moment, p) e))) c)

      later : (moment : ℕ) (p : Place) → CanDecide g key moment p → FindsUpTo candidates_total following index (in_index key (moment, p))
      later moment p c = finds candidates_total one_candidate following index (in_index key (moment, p)) true so (in_indexed moment p c)
          ((λ i. comes_after moment p c i && own_key key i))

      by_pair : (c : Candidate) (moment : ℕ) (p : Place) → same_key key c.key ≡ true → is_gt (kept_candidate_cmp c (in_index key (moment, p))) ≡ false → is_gt (candidate_cmp (c.moment, c.place) (moment, p)) ≡ false
      by_pair c moment p s n =
          let same : key ≡ c.key = one_key key c.key s in
          let tied : hashed_key_cmp c.key key ≡ Equal = ap (hashed_key_cmp c.key) same ∙ tied_itself hashed_keys_total c.key in
          sym (ap (λ o. is_gt (ordering_then o (ordering_then (nat_cmp c.moment moment) (kept_place_cmp c.place p)))) tied ∙ (λ i. is_gt (ordering_then (nat_cmp c.moment moment) (place-order i c.place p)))) ∙ n

      next_by : (y : Option (Candidate × Bool)) → find following index ≡ y → IsFirst g key (option_map pair_of (option_map earliest_of y))
      next_by None e = λ moment p c. (let at = later moment p c in not_none at.at (find following index) e at.is)
      next_by (Some x) e =
          let own : same_key key x.0.key ≡ true = (both (is_lt (kept_candidate_cmp (candidate_at key from) x.0)) (same_key key x.0.key) (found-passes following index x e)).1 in (
            from_index x.0 (get g.receipts x.0.place) x.1 own refl (sym (indexed x.0 own) ∙ found-there candidates_total following index x so e),
            λ moment p c. (let at = later moment p c in
                let same : at.at ≡ x = one_of at.at x (find following index) at.is e in
                by_pair x.0 moment p own (ap (λ (z : Candidate × Bool). is_gt (kept_candidate_cmp z.0 (in_index key (moment, p)))) (sym same) ∙ at.up_to)),
          )

      -- after the one that decided is taken out, the next candidate of the index is the earliest
      pub less-next : IsFirst g key (option_map pair_of (first_candidate_after key from index))
      less-next = next_by (find following index) refl

-- ---- the deciding receipt of each key's outlook

paired : (o : Option Earliest) → option_map earliest_at (option_map pair_of o) ≡ o
paired None = refl
paired (Some e) = refl

chosen : (b : Bool) (c : m.Candidate) (o : Option m.Candidate) → option_map earliest_at (cond b (Some c) o) ≡ cond b (Some (earliest_at c)) (option_map earliest_at o)
chosen true c o = refl
chosen false c o = refl

abbrev pub decider_in : Grouping → LinkKey → Option Earliest
decider_in g key = option_map earliest_at (reduce earlier (candidates g key))

stays_first : (g h : Grouping) (key : LinkKey) → ((o : Option m.Candidate) → reduce earlier (candidates g key) ≡ o → IsFirst g key o → IsFirst h key o) → decider_in h key ≡ decider_in g key
stays_first g h key f = let o = reduce earlier (candidates g key) in ap (option_map earliest_at) (first-found h key o (f o refl (first-is g key o refl)))

-- with one receipt more
pub decider-more : (g h : Grouping) (place : Place) (r : GroupedReceipt) → HasMore g h place r → (key : LinkKey) (s d : Bool) → same_key key r.key ≡ s → r.decides ≡ d
    → decider_in h key ≡ cond s (cond (d && is_before (earliest_at (r.moment, place)) (decider_in g key)) (Some (earliest_at (r.moment, place))) (decider_in g key)) (decider_in g key)
decider-more g h place r more key true true s d =
    let o : Option m.Candidate = reduce earlier (candidates g key) in
    let b : Bool = is_before (earliest_at (r.moment, place)) (option_map earliest_at o) in
    ap (option_map earliest_at) (first-found h key (cond b (Some (r.moment, place)) o) (more-first g h place r more key s d o b refl (first-is g key o refl)))
    ∙ chosen b (r.moment, place) o
decider-more g h place r more key true false s d =
    stays_first g h key (λ o t. more-other g h place r more key (λ i. s i && d i) o)
decider-more g h place r more key false d s e =
    stays_first g h key (λ o t. more-other g h place r more key (ap (λ b. b && r.decides) s) o)

abbrev pub is_decided : Option Earliest → Place → Bool
is_decided o place = same_option (eq_by_cmp place_cmp) (option_map (λ e. e.place) o) (Some place)

-- what decides is the one receipt more, or what decided
pub decider-either : (g h : Grouping) (place : Place) (r : GroupedReceipt) → HasMore g h place r → (b : Bool) → is_before (earliest_at (r.moment, place)) (decider_in g r.key) ≡ b → r.decides ≡ true
    → decider_in h r.key ≡ cond b (Some (earliest_at (r.moment, place))) (decider_in g r.key)
decider-either g h place r more b e d =
    decider-more g h place r more r.key true true (own_key r.key) d ∙ ap (λ b. cond b (Some (earliest_at (r.moment, place))) (decider_in g r.key)) e

-- with one receipt less that doesn't decide
pub decider-stays : (g h : Grouping) (place : Place) (r : GroupedReceipt) → HasMore g h place r → (r.decides && is_decided (decider_in h r.key) place) ≡ false → decider_in g r.key ≡ decider_in h r.key
decider-stays g h place r more n = by r.decides (is_before (earliest_at (r.moment, place)) (decider_in g r.key)) refl refl
  where
    by : (d b : Bool) → r.decides ≡ d → is_before (earliest_at (r.moment, place)) (decider_in g r.key) ≡ b → decider_in g r.key ≡ decider_in h r.key
    by false b d e = sym (decider-more g h place r more r.key true false (own_key r.key) d)
    by true false d e = sym (decider-either g h place r more false e d)
    by true true d e = absurd (false≢true (sym n ∙ (λ i. d i && is_decided (decider-either g h place r more true e d i) place) ∙ own_place place place refl))

-- with one receipt less that decided: the next candidate
pub decider-next : (g h : Grouping) (place : Place) (r : GroupedReceipt) → HasMore g h place r → (index : List (Candidate × Bool)) → IsStrictlySortedBy kept_candidate_cmp (keys_of index)
    → ((c : Candidate) → same_key r.key c.key ≡ true → lookup (is_at (kept_candidate_cmp c)) index ≡ cond (is_candidate c (get g.receipts c.place)) (Some true) None)
    → decider_in h r.key ≡ Some (earliest_at (r.moment, place)) → decider_in g r.key ≡ first_candidate_after r.key (earliest_at (r.moment, place)) index
decider-next g h place r more index so indexed was =
    ap (option_map earliest_at) (first-found g r.key (option_map pair_of next) (less-next g h place r more r.key index so indexed (here (reduce earlier (candidates h r.key)) refl was)))
    ∙ paired next
  where
    next : Option Earliest
    next = first_candidate_after r.key (earliest_at (r.moment, place)) index

    here : (o : Option m.Candidate) → reduce earlier (candidates h r.key) ≡ o → option_map earliest_at o ≡ Some (earliest_at (r.moment, place)) → IsFirst h r.key (Some (r.moment, place))
    here None t d = absurd cc
    here (Some e) t d =
        let same : earliest_at e ≡ earliest_at (r.moment, place) = cc in
        subst (λ (c : m.Candidate). IsFirst h r.key (Some c)) (λ i. ((same i).moment, (same i).place)) (first-is h r.key (Some e) t)
