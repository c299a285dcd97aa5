-- Members kept by key and place, seen by place: what a member more and a member less change. A place stands once, under
-- whatever key, so the map by place has each member.
use Rattle.std.proofs.Common.{◌≡◌, Bool, true, false, cond, List, [], ◌∷◌, Option, Some, None, refl, sym, ap, ◌∙◌, subst}
use Rattle.std.specs.Prelude.{map}
use Rattle.std.specs.declared.cmp.Ordering.TheVariants.{Less, Equal, Greater}
use Rattle.std.specs.Ordering.{is_eq, eq_by_cmp, match_ordering}
use Rattle.std.specs.Cmp.{IsTotalOrder, tied_itself}
use Rattle.std.proofs.lemmas.Cmp.{on_total, then_total}
use Rattle.smq_kit.proofs.HashedKeyOrders.{hashed_keys_total}
use Rattle.std.specs.List.Sorted.{IsStrictlySortedBy}
use Rattle.std.specs.Map.{lookup, remove_entry}
use Rattle.std.specs.BTreeMap.{is_at, insert_entry}
use Rattle.std.specs.FinMap.{find, insert, remove, from_entries, get-from_entries, get-insert, get-remove, same_map}
use Rattle.std.proofs.lemmas.Bool.{cond_both, false≢true, false_from_ne_true}
use Rattle.smq_kit.specs.declared.place.Place.{Place}
use Rattle.smq_kit.specs.declared.link_key.LinkKey.{LinkKey}
use Rattle.smq_kit.specs.Orders.{kept_place_cmp, place_cmp}
use Rattle.smq_kit.proofs.PlaceOrders.{place-order, places_total, places_exact}
use Rattle.smq_kit.proofs.Comparisons.{is_equal}
use Rattle.smq_group.specs.declared.member.Member.{Member}
use Rattle.smq_group.specs.within.Orders.{kept_member_cmp}
use Rattle.smq_group.specs.within.KeyLaws.{one_member}
use Rattle.smq_group.specs.within.Stored.{by_place, StandsOnce}

pub same_place : (q p : Place) → eq_by_cmp place_cmp q p ≡ true → q ≡ p
same_place q p e = places_exact q p (is_equal (place_cmp q p) e)

pub own_place : (q p : Place) → q ≡ p → eq_by_cmp place_cmp q p ≡ true
own_place q p e = ap (λ (x : Place). eq_by_cmp place_cmp q x) (sym e) ∙ ap is_eq (tied_itself places_total q)

pub none_head : {A : Type 0} (b : Bool) (x : A) (y : Option A) → b ≡ true → cond b (Some x) y ≡ None → ⊥
none_head true x y e h = absurd cc
none_head false x y e h = absurd (false≢true e)

pub rest_none : {A : Type 0} (b : Bool) (x : A) (y : Option A) → cond b (Some x) y ≡ None → y ≡ None
rest_none true x y h = absurd cc
rest_none false x y h = h

-- an option has one value, or none
pub one_of : {A : Type 0} (x z : A) (y : Option A) → y ≡ Some x → y ≡ Some z → x ≡ z
one_of x z y e f = cc

pub not_none : {A : Type 0} (x : A) (y : Option A) → y ≡ None → y ≡ Some x → ⊥
not_none x y e f = absurd cc

pub sorted_none : IsStrictlySortedBy place_cmp []
unfolding IsStrictlySortedBy
sorted_none = tt

pub sorted_one : (p : Place) → IsStrictlySortedBy place_cmp (p ∷ [])
unfolding IsStrictlySortedBy
sorted_one p = (tt, tt)

pub sorted_two : (p q : Place) → place_cmp p q ≡ Less → IsStrictlySortedBy place_cmp (p ∷ q ∷ [])
unfolding IsStrictlySortedBy
sorted_two p q l = ((l, tt), (tt, tt))

-- of two tests that don't both pass, either may be asked first
pub swapped : {A : Type 0} (a b : Bool) (x y z : Option A) → (a ≡ true → b ≡ true → ⊥) → cond a x (cond b y z) ≡ cond b y (cond a x z)
swapped true true x y z h = absurd (h refl refl)
swapped _ _ x y z h = refl

-- the order by which maps of std compare places
pub kept_places_total : IsTotalOrder kept_place_cmp
kept_places_total = subst IsTotalOrder (sym place-order) places_total

pub members_total : IsTotalOrder kept_member_cmp
members_total = then_total (on_total (λ m. m.key) hashed_keys_total) (on_total (λ m. m.place) kept_places_total)

module _ {V W : Type 0} (value : LinkKey → V → W) where
  -- what stands at a place
  abbrev pub at : Place → List (Member × V) → Option W
  at q es = find place_cmp q (map (by_place value) es)

  -- another place than that of a member that isn't there
  apart : (m : Member) (e : Member × V) (es : List (Member × V)) → at m.place (e ∷ es) ≡ None → m.place ≡ e.0.place → ⊥
  apart m e es h same = none_head (eq_by_cmp place_cmp m.place e.0.place) (value e.0.key e.1) (at m.place es) (own_place m.place e.0.place same) h

  later : (q : Place) (e : Member × V) (es : List (Member × V)) → at q (e ∷ es) ≡ None → at q es ≡ None
  later q e es h = rest_none (eq_by_cmp place_cmp q e.0.place) (value e.0.key e.1) (at q es) h

  -- ---- one member more

  pub insert-at : (m : Member) (v : V) (es : List (Member × V)) → at m.place es ≡ None → (q : Place)
      → at q (insert_entry kept_member_cmp es m v) ≡ cond (eq_by_cmp place_cmp q m.place) (Some (value m.key v)) (at q es)
  insert-at m v [] h q = refl
  insert-at m v (e ∷ es) h q =
      elim (kept_member_cmp m e.0) as (λ r. kept_member_cmp m e.0 ≡ r → at q (match_ordering r ((m, v) ∷ e ∷ es) ((e.0, v) ∷ es) (e ∷ insert_entry kept_member_cmp es m v)) ≡ cond (eq_by_cmp place_cmp q m.place) (Some (value m.key v)) (at q (e ∷ es))) [
        | Less ↦ λ r. refl
        | Equal ↦ λ r. absurd (apart m e es h (ap (λ (k : Member). k.place) (one_member m e.0 r)))
        | Greater ↦ λ r.
            ap (cond (eq_by_cmp place_cmp q e.0.place) (Some (value e.0.key e.1))) (insert-at m v es (later m.place e es h) q)
            ∙ swapped (eq_by_cmp place_cmp q e.0.place) (eq_by_cmp place_cmp q m.place) (Some (value e.0.key e.1)) (Some (value m.key v)) (at q es)
            (λ a b. apart m e es h (sym (same_place q m.place b) ∙ same_place q e.0.place a))
      ] refl

  pub once-insert : (m : Member) (v : V) (es : List (Member × V)) → at m.place es ≡ None → StandsOnce value es → StandsOnce value (insert_entry kept_member_cmp es m v)
  once-insert m v [] h o = (refl, tt)
  once-insert m v (e ∷ es) h o =
      elim (kept_member_cmp m e.0) as (λ r. kept_member_cmp m e.0 ≡ r → StandsOnce value (match_ordering r ((m, v) ∷ e ∷ es) ((e.0, v) ∷ es) (e ∷ insert_entry kept_member_cmp es m v))) [
        | Less ↦ λ r. (h, o)
        | Equal ↦ λ r. absurd (apart m e es h (ap (λ (k : Member). k.place) (one_member m e.0 r)))
        | Greater ↦ λ r. (
          insert-at m v es (later m.place e es h) e.0.place
              ∙ ap (λ b. cond b (Some (value m.key v)) (at e.0.place es)) (false_from_ne_true (eq_by_cmp place_cmp e.0.place m.place) (λ t. apart m e es h (sym (same_place e.0.place m.place t))))
              ∙ o.0,
          once-insert m v es (later m.place e es h) o.1,
        )
      ] refl

  -- the map by place has the member more
  pub with-member : (m : Member) (v : V) (es : List (Member × V)) → at m.place es ≡ None
      → from_entries {R = place_cmp} (map (by_place value) (insert_entry kept_member_cmp es m v)) ≡ insert (from_entries (map (by_place value) es)) m.place (value m.key v)
  with-member m v es h = same_map places_total places_exact _ _ (λ q.
      get-from_entries places_total (map (by_place value) (insert_entry kept_member_cmp es m v)) q
      ∙ insert-at m v es h q
      ∙ ap (cond (eq_by_cmp place_cmp q m.place) (Some (value m.key v))) (sym (get-from_entries places_total (map (by_place value) es) q))
      ∙ sym (get-insert places_total (from_entries (map (by_place value) es)) m.place (value m.key v) q))

  -- ---- one member less

  remove-none : (t : Member → Bool) (q : Place) (es : List (Member × V)) → at q es ≡ None → at q (remove_entry t es) ≡ None
  remove-none t q [] h = refl
  remove-none t q (e ∷ es) h =
      let rest = later q e es h in
      cond_both (t e.0) es (e ∷ remove_entry t es) (λ xs. at q xs ≡ None) (λ _. rest)
      (λ _. ap (λ b. cond b (Some (value e.0.key e.1)) (at q (remove_entry t es))) (false_from_ne_true (eq_by_cmp place_cmp q e.0.place) (λ s. none_head (eq_by_cmp place_cmp q e.0.place) (value e.0.key e.1) (at q es) s h))
      ∙ remove-none t q es rest)

  pub once-remove : (t : Member → Bool) (es : List (Member × V)) → StandsOnce value es → StandsOnce value (remove_entry t es)
  once-remove t [] o = tt
  once-remove t (e ∷ es) o =
      cond_both (t e.0) es (e ∷ remove_entry t es) (StandsOnce value) (λ _. o.1) (λ _. (remove-none t e.0.place es o.0, once-remove t es o.1))

  -- where a member is there, something stands at its place
  stands : (m : Member) (v : V) (es : List (Member × V)) → lookup (is_at (kept_member_cmp m)) es ≡ Some v → at m.place es ≡ None → ⊥
  stands m v [] h n = absurd cc
  stands m v (e ∷ es) h n =
      elim (kept_member_cmp m e.0) as (λ r. kept_member_cmp m e.0 ≡ r → cond (is_eq r) (Some e.1) (lookup (is_at (kept_member_cmp m)) es) ≡ Some v → ⊥) [
        | Equal ↦ λ r l. apart m e es n (ap (λ (k : Member). k.place) (one_member m e.0 r))
        | _ ↦ λ r l. stands m v es l (later m.place e es n)
      ] refl h

  pub remove-at : (m : Member) (v : V) (es : List (Member × V)) → StandsOnce value es → lookup (is_at (kept_member_cmp m)) es ≡ Some v → (q : Place)
      → at q (remove_entry (is_at (kept_member_cmp m)) es) ≡ cond (eq_by_cmp place_cmp q m.place) None (at q es)
  remove-at m v [] o h q = absurd cc
  remove-at m v (e ∷ es) o h q =
      elim (kept_member_cmp m e.0) as (λ r. kept_member_cmp m e.0 ≡ r → cond (is_eq r) (Some e.1) (lookup (is_at (kept_member_cmp m)) es) ≡ Some v
      → at q (cond (is_eq r) es (e ∷ remove_entry (is_at (kept_member_cmp m)) es)) ≡ cond (eq_by_cmp place_cmp q m.place) None (at q (e ∷ es))) [
        | Equal ↦ λ r l. taken (ap (λ (k : Member). k.place) (one_member m e.0 r)) (eq_by_cmp place_cmp q m.place) refl
        | _ ↦ λ r l. kept_on l (remove-at m v es o.1 l q)
      ] refl h
    where
      kept_on : lookup (is_at (kept_member_cmp m)) es ≡ Some v → at q (remove_entry (is_at (kept_member_cmp m)) es) ≡ cond (eq_by_cmp place_cmp q m.place) None (at q es) → at q (e ∷ remove_entry (is_at (kept_member_cmp m)) es) ≡ cond (eq_by_cmp place_cmp q m.place) None (at q (e ∷ es))
      kept_on l ih =
          ap (cond (eq_by_cmp place_cmp q e.0.place) (Some (value e.0.key e.1))) ih
          ∙ swapped (eq_by_cmp place_cmp q e.0.place) (eq_by_cmp place_cmp q m.place) (Some (value e.0.key e.1)) None (at q es)
          (λ a b. stands m v es l (ap (λ (p : Place). at p es) (sym (same_place q m.place b) ∙ same_place q e.0.place a) ∙ o.0))

      taken : m.place ≡ e.0.place → (b : Bool) → eq_by_cmp place_cmp q m.place ≡ b → at q es ≡ cond b None (at q (e ∷ es))
      taken same true t = ap (λ (p : Place). at p es) (same_place q m.place t ∙ same) ∙ o.0
      taken same false t =
          sym (ap (λ b. cond b (Some (value e.0.key e.1)) (at q es)) (ap (λ (p : Place). eq_by_cmp place_cmp q p) (sym same) ∙ t))

  -- the map by place has the member less
  pub without-member : (m : Member) (v : V) (es : List (Member × V)) → StandsOnce value es → lookup (is_at (kept_member_cmp m)) es ≡ Some v
      → from_entries {R = place_cmp} (map (by_place value) (remove_entry (is_at (kept_member_cmp m)) es)) ≡ remove (from_entries (map (by_place value) es)) m.place
  without-member m v es o h = same_map places_total places_exact _ _ (λ q.
      get-from_entries places_total (map (by_place value) (remove_entry (is_at (kept_member_cmp m)) es)) q
      ∙ remove-at m v es o h q
      ∙ ap (cond (eq_by_cmp place_cmp q m.place) None) (sym (get-from_entries places_total (map (by_place value) es) q))
      ∙ sym (get-remove places_total (from_entries (map (by_place value) es)) m.place q))

  -- ---- what stands at a place is a member

  pub record Found (p : Place) (w : W) (es : List (Member × V)) : Type 0 where
    pub key : LinkKey
    pub v : V
    pub is : value key v ≡ w
    pub there : lookup (is_at (kept_member_cmp (record { key = key; place = p }))) es ≡ Some v

  hit : (p : Place) (w : W) (e : Member × V) (es : List (Member × V)) → p ≡ e.0.place → Some (value e.0.key e.1) ≡ Some w → Found p w (e ∷ es)
  hit p w e es same is = record {
    key = e.0.key;
    v = e.1;
    is = cc;
    there =
        ap (λ b. cond b (Some e.1) (lookup (is_at (kept_member_cmp (record { key = e.0.key; place = p }))) es))
        (ap (λ (x : Place). is_eq (kept_member_cmp (record { key = e.0.key; place = x }) e.0)) same ∙ ap is_eq (tied_itself members_total e.0));
  }

  missed : (p : Place) (w : W) (e : Member × V) (es : List (Member × V)) → eq_by_cmp place_cmp p e.0.place ≡ false → Found p w es → Found p w (e ∷ es)
  missed p w e es t f = record {
    key = f.key;
    v = f.v;
    is = f.is;
    there =
        ap (λ b. cond b (Some e.1) (lookup (is_at (kept_member_cmp (record { key = f.key; place = p }))) es))
        (false_from_ne_true (is_eq (kept_member_cmp (record { key = f.key; place = p }) e.0))
        (λ s. false≢true (sym t ∙ own_place p e.0.place (ap (λ (k : Member). k.place) (one_member (record { key = f.key; place = p }) e.0 (is_equal (kept_member_cmp (record { key = f.key; place = p }) e.0) s))))))
        ∙ f.there;
  }

  -- what stands at a place is a member's
  pub found : (p : Place) (w : W) (es : List (Member × V)) → at p es ≡ Some w → Found p w es
  found p w [] h = absurd cc
  found p w (e ∷ es) h =
      elim (eq_by_cmp place_cmp p e.0.place) as (λ b. eq_by_cmp place_cmp p e.0.place ≡ b → cond b (Some (value e.0.key e.1)) (at p es) ≡ Some w → Found p w (e ∷ es)) [
        | true ↦ λ t is. hit p w e es (same_place p e.0.place t) is
        | false ↦ λ t is. missed p w e es t (found p w es is)
      ] refl h
