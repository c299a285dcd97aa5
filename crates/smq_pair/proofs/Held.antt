-- Entries whose offsets ascend: what is found at an offset, one more, and a log that takes changes back.
use Rattle.std.proofs.Common.{◌≡◌, ◌≢◌, ℕ, zero, suc, ◌<◌, ◌≤◌, ◌⊎◌, inl, inr, true, false, cond, List, [], ◌∷◌, ◌++◌, length, get_or, take, Option, Some, None, refl, sym, ap, ◌∙◌, subst, arith, length-append}
use Rattle.std.specs.Prelude.{nat_lt, slice_get, slice_set}
use Rattle.std.proofs.Math.ListN.{get_or-map}
use Rattle.std.proofs.lemmas.List.{length-set, take_all, take-append-le, take-set-le}
use Rattle.std.proofs.lemmas.List.Elements.{All-push, All-set}
use Rattle.std.proofs.lemmas.Option.{slice_get-get_or, slice_get_within, get_or_from_slice_get}
use Rattle.std.proofs.lemmas.Cmp.{eq_by_cmp_equiv, tied_itself, nat_cmp_total}
use Rattle.std.proofs.lemmas.Map.Entries.{length-keys_of, lookup_at_gap, lookup_from_place, place_from_lookup}
use Rattle.std.proofs.lemmas.Map.Keys.{IsDistinct-from_sorted, non_decreasing_from_sorted, sorted_head, sorted_tail}
use Rattle.std.proofs.lemmas.Bool.Decides.{nat_tests}
use Rattle.std.specs.declared.cmp.Ordering.{Ordering}
use Rattle.std.specs.declared.cmp.Ordering.TheVariants.{Less, Greater}
use Rattle.std.specs.Ordering.{match_ordering, nat_cmp, ordering_index, ordering_reverse}
use Rattle.std.specs.Cmp.{nat_cmp_is}
use Rattle.std.specs.List.{All, AllByRecursion}
use Rattle.std.specs.List.Sorted.{IsNonDecreasingBy, IsPartitionPoint, IsStrictlySortedBy}
use Rattle.std.specs.Map.{keys_of}
use Rattle.std.specs.BTreeMap.{insert_entry, is_at}
use Rattle.std.specs.FinMap.{nat_cmp-IsAntisymmetric}
use Rattle.smq_kit.proofs.Comparisons.{is_equal}
use Rattle.smq_shelf.specs.Values.{with_value}
use Rattle.smq_shelf.proofs.Changes.{remove_entry-none}
use Rattle.smq_pair.specs.declared.paired_pdu.PairedPdu.{PairedPdu}
use Rattle.smq_pair.specs.declared.paired_pdu.PduLink.{PduLink}
use Rattle.smq_pair.specs.within.Stream.{Ascend, Held, IsUndoable, logged, undone}
use Rattle.smq_pair.specs.within.Kept.{held_at, linked, with_link}
use Rattle.smq_pair.proofs.Lists.{some-is, never}
use Rattle.smq_pair.proofs.Standing.{all-at}

-- an entry with a link
abbrev pub linked_to : PduLink → Held → Held
linked_to link e = (e.0, record e.1 { link = link })

-- ---- what is found

pub above-head : (x : Held) (xs : List Held) (j : ℕ) (e : Held) → Ascend (x ∷ xs) → slice_get xs j ≡ Some e → nat_cmp x.0 e.0 ≡ Less
above-head x xs j e s at = all-at (λ y. nat_cmp x.0 y ≡ Less) (λ (y : Held). y.0) xs j e (sorted_head nat_cmp x.0 (keys_of xs) s) at

turned : (p q : ℕ) (r : Ordering) → nat_cmp p q ≡ r → nat_cmp q p ≡ ordering_reverse r
turned p q r h = nat_cmp_total.antisymm q p ∙ ap ordering_reverse h

-- the one at an index is found by its offset, and is set there
pub found-kept : (es : List Held) (j : ℕ) (e : Held) → Ascend es → slice_get es j ≡ Some e → held_at e.0 es ≡ Some e.1
found-kept es j e s at = lookup_from_place (eq_by_cmp_equiv nat_cmp_total) es j e.0 e.1 (IsDistinct-from_sorted nat_cmp (keys_of es) s) at

set-kept : (es : List Held) (j : ℕ) (e : Held) (w : PairedPdu) → Ascend es → slice_get es j ≡ Some e
    → insert_entry nat_cmp es e.0 w ≡ slice_set es j (e.0, w)
set-kept [] j e w s at = absurd cc
set-kept (x ∷ xs) zero e w s at =
    let same : x ≡ e = some-is x e at in
    ap (λ r. match_ordering r ((e.0, w) ∷ x ∷ xs) ((x.0, w) ∷ xs) (x ∷ insert_entry nat_cmp xs e.0 w))
    (ap (λ (y : Held). nat_cmp e.0 y.0) same ∙ tied_itself nat_cmp_total e.0)
    ∙ ap (λ (y : Held). (y.0, w) ∷ xs) same
set-kept (x ∷ xs) (suc j) e w s at =
    ap (λ r. match_ordering r ((e.0, w) ∷ x ∷ xs) ((x.0, w) ∷ xs) (x ∷ insert_entry nat_cmp xs e.0 w)) (turned x.0 e.0 Less (above-head x xs j e s at))
    ∙ ap (λ (ys : List Held). x ∷ ys) (set-kept xs j e w (sorted_tail nat_cmp x.0 (keys_of xs) s) at)

-- what is found stands at an index, and where nothing is found nothing stands
pub stands-kept : (es : List Held) (q : ℕ) (x : PairedPdu) → held_at q es ≡ Some x → (i : ℕ) × (slice_get es i ≡ Some (q, x))
stands-kept es q x h =
    let there = place_from_lookup (is_at (nat_cmp q)) es x h in
    (there.0, there.2 ∙ ap (λ (p : ℕ). Some (p, x)) (sym (nat_cmp-IsAntisymmetric q there.1 (is_equal _ there.3))))

pub none-kept : (es : List Held) (q : ℕ) → Ascend es → held_at q es ≡ None → (i : ℕ) (e : Held) → slice_get es i ≡ Some e → e.0 ≢ q
none-kept es q s none i e at same = never (held_at q es) e.1 none (ap (λ p. held_at p es) (sym same) ∙ found-kept es i e s at)

pub linked-kept : (o : Option ℕ) (l : PduLink) (es : List Held) (j : ℕ) (y : Held) → o ≡ Some y.0 → Ascend es → slice_get es j ≡ Some y
    → linked o l es ≡ slice_set es j (linked_to l y)
linked-kept o l es j y some s at =
    ap (λ (o : Option ℕ). linked o l es) some
    ∙ ap (λ (x : Option PairedPdu). with_value nat_cmp y.0 (with_link l x) es) (found-kept es j y s at)
    ∙ set-kept es j y (record y.1 { link = l }) s at

-- ---- a search

compared : (a b q : ℕ) → a ≤ b → ordering_index (nat_cmp a q) ≤ ordering_index (nat_cmp b q)
compared a b q h = grind (arith, nat_tests)

rises : (es : List Held) (q : ℕ) → Ascend es → IsNonDecreasingBy (λ (e : Held). ordering_index (nat_cmp e.0 q)) es
rises es q s i j d le lt =
    let keys : get_or (keys_of es) i d.0 ≤ get_or (keys_of es) j d.0 =
    non_decreasing_from_sorted (keys_of es) s i j d.0 le (subst (λ n. j < n) (sym (length-keys_of es)) lt) in
    compared (get_or es i d).0 (get_or es j d).0 q (rw (← get_or-map (λ (e : Held). e.0) es i d, ← get_or-map (λ (e : Held). e.0) es j d) keys)

-- what a search by offsets doesn't find is not there
pub search-none : (es : List Held) (q i : ℕ) → Ascend es
    → (IsNonDecreasingBy (λ (e : Held). ordering_index (nat_cmp e.0 q)) es
    → IsPartitionPoint (λ (e : Held). nat_cmp e.0 q ≡ Less) (λ (e : Held). nat_cmp e.0 q ≡ Greater) es i) → held_at q es ≡ None
search-none es q i s searched =
    let point = searched (rises es q s) in
    lookup_at_gap nat_cmp_total q es i s
    (λ j e before at. turned e.0 q Less (ap (λ (x : Held). nat_cmp x.0 q) (sym (get_or_from_slice_get es j e e at)) ∙ point.0 j e (omega arith) before))
    (λ e at. turned e.0 q Greater (ap (λ (x : Held). nat_cmp x.0 q) (sym (get_or_from_slice_get es i e e at))
    ∙ point.1 i e (omega arith) (slice_get_within es i e at)))

-- An entry is at an offset, and at an index.
pub record IsFound (es : List Held) (q i : ℕ) (e : Held) : Type 0 where
  pub at : slice_get es i ≡ Some e
  pub key : e.0 ≡ q

pub search-found : (es xs : List Held) (q i : ℕ) (e : Held) → xs ≡ es → i < length xs → ((d : Held) → (get_or xs i d).0 ≡ q)
    → e ≡ get_or es i e → IsFound es q i e
search-found es xs q i e same lt at is = record {
  at = slice_get-get_or es i e (subst (λ ys. i < length ys) same lt) ∙ ap Some (sym is);
  key = ap (λ (x : Held). x.0) (is ∙ ap (λ ys. get_or ys i e) (sym same)) ∙ at e;
}

pub found-held : (es : List Held) (q i : ℕ) (e : Held) → Ascend es → IsFound es q i e → held_at q es ≡ Some e.1
found-held es q i e s f = ap (λ p. held_at p es) (sym f.key) ∙ found-kept es i e s f.at

pub found-linked : (es : List Held) (q i : ℕ) (e : Held) (p : PduLink) → Ascend es → IsFound es q i e → slice_set es i (linked_to p e) ≡ linked (Some q) p es
found-linked es q i e p s f = sym (linked-kept (Some q) p es i e (ap Some (sym f.key)) s f.at)

-- where none is found, none has a partner to be given
pub absent-linked : (es xs : List Held) (q : ℕ) (p : PduLink) → xs ≡ es → held_at q xs ≡ None → es ≡ linked (Some q) p es
absent-linked es xs q p same none =
    let absent : held_at q es ≡ None = ap (held_at q) (sym same) ∙ none in
    sym (ap (λ (x : Option PairedPdu). with_value nat_cmp q (with_link p x) es) absent ∙ remove_entry-none nat_cmp_total (is_at (nat_cmp q)) es absent)

-- what is above all stays so
pub linked-above : (o : Option ℕ) (l : PduLink) (es : List Held) (q : ℕ) → Ascend es → All (λ (e : Held). e.0 < q) es → All (λ (e : Held). e.0 < q) (linked o l es)
linked-above None l es q s all = all
linked-above (Some at) l es q s all = by_held (held_at at es) refl
  where
    by_held : (x : Option PairedPdu) → held_at at es ≡ x → All (λ (e : Held). e.0 < q) (linked (Some at) l es)
    by_held None none = subst (All (λ (e : Held). e.0 < q)) (absent-linked es es at l refl none) all
    by_held (Some x) some =
        let there = stands-kept es at x some in
        let within = slice_get_within es there.0 (at, x) there.1 in
        let less : at < q = subst (λ (e : Held). e.0 < q) (get_or_from_slice_get es there.0 (at, x) (at, x) there.1) (all there.0 (at, x) within) in
        subst (All (λ (e : Held). e.0 < q)) (sym (linked-kept (Some at) l es there.0 (at, x) refl s there.1))
        (All-set (λ (e : Held). e.0 < q) es there.0 (linked_to l (at, x)) less all)

-- ---- one more

-- one more that is above all
pub ascend-last : (es : List Held) (q : ℕ) (x : PairedPdu) → Ascend es → All (λ (e : Held). e.0 < q) es → Ascend (es ++ (q, x) ∷ [])
unfolding IsStrictlySortedBy
ascend-last [] q x s below = (tt, tt)
ascend-last (e ∷ es) q x s below =
    let less : nat_cmp e.0 q ≡ Less = sym (nat_cmp_is e.0 q Less (below 0 e (omega arith))) in
    (later es s.0 less, ascend-last es q x s.1 (λ k d lt. below (suc k) d (omega (arith, lt))))
  where
    later : (xs : List Held) → AllByRecursion (λ y. nat_cmp e.0 y ≡ Less) (keys_of xs) → nat_cmp e.0 q ≡ Less
        → AllByRecursion (λ y. nat_cmp e.0 y ≡ Less) (keys_of (xs ++ (q, x) ∷ []))
    later [] h less = (less, tt)
    later (y ∷ ys) h less = (h.0, later ys h.1 less)

-- ---- a log

pub undone-last : (log : List (ℕ × Held)) (i : ℕ) (e : Held) (es : List Held) → undone (log ++ (i, e) ∷ []) es ≡ undone log (slice_set es i e)
undone-last [] i e es = refl
undone-last (c ∷ cs) i e es = ap (λ xs. slice_set xs c.0 c.1) (undone-last cs i e es)

-- what was set is set back
set-back : (n : ℕ) (es : List Held) (i : ℕ) (x y : Held) → slice_get es i ≡ Some x → slice_set (take n (slice_set es i y)) i x ≡ take n es
set-back n [] i x y at = absurd cc
set-back zero (z ∷ zs) i x y at = refl
set-back (suc n) (z ∷ zs) zero x y at = ap (λ (w : Held). w ∷ take n zs) (sym (some-is z x at))
set-back (suc n) (z ∷ zs) (suc i) x y at = ap (λ ws. z ∷ ws) (set-back n zs i x y at)

-- the keys stay where an entry is set at its own
keys-set : (es : List Held) (i : ℕ) (x y : Held) → slice_get es i ≡ Some x → y.0 ≡ x.0 → keys_of (slice_set es i y) ≡ keys_of es
keys-set [] i x y at same = absurd cc
keys-set (z ∷ zs) zero x y at same = ap (λ k. k ∷ keys_of zs) (same ∙ ap (λ (w : Held). w.0) (sym (some-is z x at)))
keys-set (z ∷ zs) (suc i) x y at same = ap (λ ks. z.0 ∷ ks) (keys-set zs i x y at same)

ascend-set : (es : List Held) (i : ℕ) (x y : Held) → slice_get es i ≡ Some x → y.0 ≡ x.0 → Ascend es → Ascend (slice_set es i y)
ascend-set es i x y at same = subst (IsStrictlySortedBy nat_cmp) (sym (keys-set es i x y at same))

module _ (es : List Held) (n : ℕ) (log : List (ℕ × Held)) (i : ℕ) (x y : Held) (after : List (ℕ × Held)) (at : slice_get es i ≡ Some x)
    (is : after ≡ logged n i x log) where
  either : ((i < n) × (after ≡ log ++ (i, x) ∷ [])) ⊎ ((n ≤ i) × (after ≡ log))
  either = elim (nat_lt i n) as (λ b. nat_lt i n ≡ b → after ≡ cond b (log ++ (i, x) ∷ []) log
      → ((i < n) × (after ≡ log ++ (i, x) ∷ [])) ⊎ ((n ≤ i) × (after ≡ log))) [
        | true ↦ λ e is. inl (grind (arith, nat_tests, e), is)
        | false ↦ λ e is. inr (grind (arith, nat_tests, e), is)
      ] refl is

  pub logged-settled : undone after (take n (slice_set es i y)) ≡ undone log (take n es)
  logged-settled = elim either [
    | inl h ↦ ap (λ cs. undone cs (take n (slice_set es i y))) h.1 ∙ undone-last log i x (take n (slice_set es i y))
        ∙ ap (undone log) (set-back n es i x y at)
    | inr h ↦ ap (λ cs. undone cs (take n (slice_set es i y))) h.1 ∙ ap (undone log) (take-set-le n es i y h.0)
  ]

  pub logged-keeps : y.0 ≡ x.0 → IsUndoable es n log → IsUndoable (slice_set es i y) n after
  logged-keeps same u = record {
    ascend = ascend-set es i x y at same u.ascend;
    ascended = subst Ascend (sym logged-settled) u.ascended;
    within = subst (λ m. n ≤ m) (sym (length-set es i y)) u.within;
    logged = elim either [
      | inl h ↦ subst (All (λ (c : ℕ × Held). c.0 < n)) (sym h.1) (All-push (λ (c : ℕ × Held). c.0 < n) log (i, x) u.logged h.0)
      | inr h ↦ subst (All (λ (c : ℕ × Held). c.0 < n)) (sym h.1) u.logged
    ];
  }

-- one more, above all
pub pushed-keeps : (es : List Held) (n : ℕ) (log : List (ℕ × Held)) (q : ℕ) (x : PairedPdu) → All (λ (e : Held). e.0 < q) es → IsUndoable es n log
    → IsUndoable (es ++ (q, x) ∷ []) n log
pushed-keeps es n log q x above u = record {
  ascend = ascend-last es q x u.ascend above;
  ascended = subst (λ xs. Ascend (undone log xs)) (sym (take-append-le n es ((q, x) ∷ []) u.within)) u.ascended;
  within = let more = length-append es ((q, x) ∷ []) in omega (arith, more, u.within);
  logged = u.logged;
}

-- entries that are all settled
pub all-settled : (es : List Held) (n : ℕ) (log : List (ℕ × Held)) → log ≡ [] → n ≡ length es → Ascend es → IsUndoable es n log
all-settled es n log none all s = record {
  ascend = s;
  ascended = subst (λ cs. Ascend (undone cs (take n es))) (sym none) (subst Ascend (sym (take_all n es (omega (arith, all)))) s);
  within = omega (arith, all);
  logged = subst (All (λ (c : ℕ × Held). c.0 < n)) (sym none) (λ k d lt. absurd (omega (arith, lt)));
}

pub none-settled : (es : List Held) (log : List (ℕ × Held)) → es ≡ [] → log ≡ [] → IsUndoable es 0 log
unfolding IsStrictlySortedBy
none-settled es log none empty = all-settled es 0 log empty (ap length (sym none)) (subst Ascend (sym none) tt)
