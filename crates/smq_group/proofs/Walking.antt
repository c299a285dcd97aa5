-- A walk over the members of a key, or of its link, from member to member.
use Rattle.std.proofs.Common.{◌≡◌, ◌≤◌, ◌+◌, ◌++◌, arith, length, append_assoc, append-nil, length-append, Bool, true, false, cond, List, [], ◌∷◌, Option, Some, None, refl, sym, ap, ◌∙◌, map, map-id, filter, find, subst}
use Rattle.std.specs.Prelude.{◌&&◌, not, is_some}
use Rattle.std.specs.declared.cmp.Ordering.TheVariants.{Less}
use Rattle.std.specs.Ordering.{ordering_then}
use Rattle.std.specs.List.{AllByRecursion}
use Rattle.std.specs.List.Sorted.{IsStrictlySortedBy}
use Rattle.std.specs.Map.{keys_of}
use Rattle.std.proofs.lemmas.Bool.{cond_both}
use Rattle.std.proofs.lemmas.List.{length-map, nil_from_length}
use Rattle.std.proofs.lemmas.List.Kept.{IsStrictlySortedBy-filter}
use Rattle.std.proofs.lemmas.List.Filters.{length-filter_both}
use Rattle.std.proofs.lemmas.Map.Keys.{sorted_head, sorted_tail}
use Rattle.smq_kit.specs.declared.place.Place.{Place}
use Rattle.smq_kit.specs.declared.link_key.LinkKey.{LinkKey}
use Rattle.smq_kit.specs.Orders.{kept_place_cmp, place_cmp}
use Rattle.smq_kit.specs.HashedKeys.{hashed_key_cmp}
use Rattle.smq_kit.specs.LinkKeys.{same_key, link_key_cmp}
use Rattle.smq_kit.proofs.Comparisons.{is_equal}
use Rattle.smq_kit.proofs.LinkKeyOrders.{link_keys_exact}
use Rattle.smq_kit.proofs.PlaceOrders.{place-order}
use Rattle.smq_shelf.specs.Places.{content_of, with_place}
use Rattle.smq_shelf.specs.Walks.{left_above, stands_after}
use Rattle.smq_shelf.proofs.Changes.{content_ordered}
use Rattle.smq_shelf.proofs.Finds.{filter_places}
use Rattle.smq_shelf.proofs.Walks.{after-rises, filled-are, left-found}
use Rattle.smq_group.specs.declared.member.Member.{Member}
use Rattle.smq_group.specs.within.Orders.{kept_member_cmp}
use Rattle.smq_group.specs.within.Walked.{is_like, of_key, of_part, placed, vacant_part}
use Rattle.smq_group.proofs.Finding.{kept_equal}
use Rattle.smq_group.proofs.Placing.{members_total, sorted_none}

whole : {A : Type 0} (xs rest all : List A) → xs ++ rest ≡ all → length all ≤ length xs → xs ≡ all
whole xs rest all e h =
    let l : length xs + length rest ≡ length all = sym (length-append xs rest) ∙ ap length e in
    sym (append-nil xs) ∙ ap (λ ys. xs ++ ys) (sym (nil_from_length rest (omega (arith, l, h)))) ∙ e

-- the places of a key, or of its link, are those of its members and those that are vacant
module _ {V : Type 0} (by_link : Bool) (key : LinkKey) where
  abbrev of : Member × Option V → Bool
  of e = of_part by_link key e

  abbrev had : Member × V → Bool
  had e = of_part by_link key e

  abbrev vacant : Member × Option V → Bool
  vacant e = of e && not (is_some e.1)

  parted_at : (m : Member) (x : Option V) (es : List (Member × Option V)) (b : Bool) → is_like by_link key m.key ≡ b → length (filter of es) ≡ length (filter vacant es) + length (filter had (content_of es))
      → length (cond b ((m, x) ∷ filter of es) (filter of es)) ≡ length (cond (b && not (is_some x)) ((m, x) ∷ filter vacant es) (filter vacant es)) + length (filter had (with_place m x (content_of es)))
  parted_at m None es true t h = omega (arith, h)
  parted_at m None es false t h = h
  parted_at m (Some v) es b t h =
      let e : length (filter had ((m, v) ∷ content_of es)) ≡ length (cond b ((m, v) ∷ filter had (content_of es)) (filter had (content_of es))) =
      ap (λ b. length (cond b ((m, v) ∷ filter had (content_of es)) (filter had (content_of es)))) t in by b e
    where
      by : (b : Bool) → length (filter had ((m, v) ∷ content_of es)) ≡ length (cond b ((m, v) ∷ filter had (content_of es)) (filter had (content_of es)))
          → length (cond b ((m, Some v) ∷ filter of es) (filter of es)) ≡ length (cond (b && false) ((m, Some v) ∷ filter vacant es) (filter vacant es)) + length (filter had ((m, v) ∷ content_of es))
      by true e = omega (arith, e, h)
      by false e = omega (arith, e, h)

  parted : (es : List (Member × Option V)) → length (filter of es) ≡ vacant_part by_link key es + length (filter had (content_of es))
  parted [] = omega arith
  parted (e ∷ es) = parted_at e.0 e.1 es (is_like by_link key e.0.key) refl (parted es)

  pub places-parted : (es : List (Member × Option V)) (content : List (Member × V)) (members : List (Place × V)) → content ≡ content_of es → members ≡ map placed (filter had content)
      → length (filter of es) ≡ vacant_part by_link key es + length members
  places-parted es content members shown are =
      let p = parted es in
      let l : length members ≡ length (filter had (content_of es)) = ap length are ∙ length-map (filter had content) placed ∙ ap (λ (xs : List (Member × V)). length (filter had xs)) shown in
      omega (arith, p, l)

  -- there are at most as many members as places
  pub members-fit : (es : List (Member × Option V)) (content : List (Member × V)) → content ≡ content_of es → length (map placed (filter had content)) ≤ length es
  members-fit es content shown =
      let p = places-parted es content (map placed (filter had content)) shown refl in
      let b = length-filter_both of (λ e. not (of e)) (λ e. refl) es in
      omega (arith, p, b)

  -- ---- what a walk has left, from step to step

  module _ (es : List (Member × Option V)) (so : IsStrictlySortedBy kept_member_cmp (keys_of es)) where
    abbrev left : Option (Member × Option V) → List (Place × V)
    left next = map placed (content_of (left_above kept_member_cmp of es next))

    with_one : (m : Member) (x : Option V) (xs : List (Member × Option V)) → content_of ((m.place, x) ∷ []) ++ map placed (content_of xs) ≡ map placed (content_of ((m, x) ∷ xs))
    with_one m None xs = refl
    with_one m (Some v) xs = refl

    pub step-gathered : (m : Member) (x : Option V) (next then : Option (Member × Option V)) (members more all : List (Place × V)) → next ≡ Some (m, x) → then ≡ find (stands_after kept_member_cmp of m) es
        → members ++ left next ≡ all → more ≡ members ++ content_of ((m.place, x) ∷ []) → more ++ left then ≡ all
    step-gathered m x next then members more all n h g e =
        ap (λ (xs : List (Place × V)). xs ++ left then) e
        ∙ append_assoc members (content_of ((m.place, x) ∷ [])) (left then)
        ∙ ap (λ (xs : List (Place × V)). members ++ xs) (with_one m x (left_above kept_member_cmp of es then)
        ∙ sym (ap left n ∙ ap (λ (xs : List (Member × Option V)). map placed (content_of ((m, x) ∷ xs))) (sym (left-found members_total of es so (stands_after kept_member_cmp of m) then (after-rises members_total of m) h))))
        ∙ g

    members-are : (content : List (Member × V)) → content ≡ content_of es → map placed (content_of (filter of es)) ≡ map placed (filter had content)
    members-are content shown = ap (map placed) (filter_places (λ m. is_like by_link key m.key) es) ∙ ap (λ (xs : List (Member × V)). map placed (filter had xs)) (sym shown)

    -- at the end: nothing is left
    pub end-gathered : (next : Option (Member × Option V)) (members : List (Place × V)) (content : List (Member × V)) → members ++ left next ≡ map placed (content_of (filter of es)) → next ≡ None
        → content ≡ content_of es → members ≡ map placed (filter had content)
    end-gathered next members content g n shown = sym (append-nil members) ∙ sym (ap (λ (m : Option (Member × Option V)). members ++ left m) n) ∙ g ∙ members-are content shown

    -- at as many as there can be: these are all
    pub full-gathered : (m : Member) (x : Option V) (next : Option (Member × Option V)) (members more : List (Place × V)) (content : List (Member × V))
        → members ++ left next ≡ map placed (content_of (filter of es)) → next ≡ Some (m, x) → more ≡ members ++ content_of ((m.place, x) ∷ []) → content ≡ content_of es
        → length (map placed (filter had content)) ≤ length more → more ≡ map placed (filter had content)
    full-gathered m x next members more content g n e shown full =
        let then : Option (Member × Option V) = find (stands_after kept_member_cmp of m) es in
        whole more (left then) (map placed (filter had content)) (step-gathered m x next then members more (map placed (content_of (filter of es))) n refl g e ∙ members-are content shown) full

place_above : (key : LinkKey) (j k : Member) → same_key key j.key ≡ true → same_key key k.key ≡ true → kept_member_cmp j k ≡ Less → place_cmp j.place k.place ≡ Less
place_above key j k sj sk l =
    let ej : key ≡ j.key = link_keys_exact key j.key (is_equal (link_key_cmp key j.key) sj) in
    let tied = ap (λ (x : LinkKey). hashed_key_cmp x k.key) (sym ej) ∙ kept_equal key k.key sk in
    sym (λ i. place-order i j.place k.place) ∙ sym (ap (λ r. ordering_then r (kept_place_cmp j.place k.place)) tied) ∙ l

sorted_cons : (p : Place) (ps : List Place) → AllByRecursion (λ j. place_cmp p j ≡ Less) ps → IsStrictlySortedBy place_cmp ps → IsStrictlySortedBy place_cmp (p ∷ ps)
unfolding IsStrictlySortedBy
sorted_cons p ps a s = (a, s)

module _ {V : Type 0} (key : LinkKey) where
  all_of : (es : List (Member × V)) → AllByRecursion (λ e. same_key key e.0.key ≡ true) (filter (of_key key) es)
  all_of [] = tt
  all_of (e ∷ es) =
      cond_both (same_key key e.0.key) (e ∷ filter (of_key key) es) (filter (of_key key) es) (AllByRecursion (λ x. same_key key x.0.key ≡ true)) (λ t. (t, all_of es)) (λ _. all_of es)

  places_above : (e : Member × V) (es : List (Member × V)) → same_key key e.0.key ≡ true → AllByRecursion (λ x. same_key key x.0.key ≡ true) es
      → AllByRecursion (λ k. kept_member_cmp e.0 k ≡ Less) (keys_of es) → AllByRecursion (λ p. place_cmp e.0.place p ≡ Less) (keys_of (map placed es))
  places_above e [] t a l = tt
  places_above e (f ∷ es) t a l = (place_above key e.0 f.0 t a.0 l.0, places_above e es t a.1 l.1)

  by_place : (es : List (Member × V)) → AllByRecursion (λ x. same_key key x.0.key ≡ true) es → IsStrictlySortedBy kept_member_cmp (keys_of es) → IsStrictlySortedBy place_cmp (keys_of (map placed es))
  by_place [] a so = sorted_none
  by_place (e ∷ es) a so = sorted_cons e.0.place (keys_of (map placed es)) (places_above e es a.0 a.1 (sorted_head kept_member_cmp e.0 (keys_of es) so)) (by_place es a.1 (sorted_tail kept_member_cmp e.0 (keys_of es) so))

  -- the members of a key stand in the order of their places
  pub members-by_place : (by_link : Bool) (es : List (Member × Option V)) (content : List (Member × V)) (members : List (Place × V)) → by_link ≡ false → IsStrictlySortedBy kept_member_cmp (keys_of es) → content ≡ content_of es
      → members ≡ map placed (filter (of_part by_link key) content) → IsStrictlySortedBy place_cmp (keys_of members)
  members-by_place by_link es content members is so shown are =
      let own : Member → Bool = λ m. same_key key m.key in
      let kept : keys_of (filter (of_key key) (content_of es)) ≡ filter own (keys_of (content_of es)) =
      sym (ap (λ (xs : List (Member × V)). keys_of xs) (filter_places own es)) ∙ filled-are (λ m. m) own es ∙ map-id (filter own (keys_of (content_of es))) in
      subst (λ (ms : List (Place × V)). IsStrictlySortedBy place_cmp (keys_of ms)) (sym (are ∙ (λ i. map placed (filter (of_part (is i) key) (shown i)))))
      (by_place (filter (of_key key) (content_of es)) (all_of (content_of es))
      (subst (IsStrictlySortedBy kept_member_cmp) (sym kept) (IsStrictlySortedBy-filter kept_member_cmp own (keys_of (content_of es)) (content_ordered members_total es so))))
