-- Which lists are of receipts, and which places stand in them.
use Rattle.std.proofs.Common.{◌≡◌, Bool, true, false, ◌||◌, List, [], ◌∷◌, Option, Some, None, refl, sym, ap, ◌∙◌}
use Rattle.std.specs.Prelude.{◌&&◌, not, map, option_and_then}
use Rattle.std.specs.List.{flat_map, list_any}
use Rattle.std.specs.declared.cmp.Ordering.{Ordering}
use Rattle.std.specs.declared.cmp.Ordering.TheVariants.{Less, Equal, Greater}
use Rattle.std.specs.Ordering.{eq_by_cmp, is_eq, nat_cmp, ordering_then}
use Rattle.std.specs.FinMap.{nat_cmp-IsAntisymmetric}
use Rattle.std.proofs.lemmas.Bool.{false≢true}
use Rattle.std.proofs.lemmas.List.Folds.{list_any-append}
use Rattle.smq_kit.specs.declared.place.Place.{Place}
use Rattle.smq_kit.specs.Orders.{place_cmp}
use Rattle.smq_kit.proofs.Comparisons.{is_equal}
use Rattle.smq_tally.specs.declared.list.List as l
use Rattle.smq_tally.specs.declared.list.Listed.{Listed}
use Rattle.smq_tally.specs.Lists.{list_rank, listed, listed_cmp}
use Rattle.smq_tally.proofs.ListOrders as orders
use Rattle.smq_group.specs.Matching.{ReceiptStanding, Stray}
use Rattle.smq_present.specs.join.Listings.{is_named, is_receipt_list, list_of_standing, receipt_listings, receipt_lists, same_list, is_traffic_list}

-- ---- lists

-- lists that pass the test of being one are one
same-lists : (list other : l.List) → same_list list other ≡ true → list ≡ other
same-lists list other e = orders.same_list list other (nat_cmp-IsAntisymmetric (list_rank list) (list_rank other) (is_equal _ e))

-- a list is of receipts, if there is one
abbrev pub of_receipts : Option l.List → Bool
of_receipts None = true
of_receipts (Some list) = is_receipt_list list

-- as that of a receipt by its standing is
pub of-standing : (x : Option ReceiptStanding) → of_receipts (option_and_then list_of_standing x) ≡ true
of-standing None = refl
of-standing (Some Stray) = refl
of-standing (Some _) = refl

pub named-of-receipts : (name : l.List) (list : Option l.List) → of_receipts list ≡ true → is_named name list ≡ true → is_receipt_list name ≡ true
named-of-receipts name None one e = absurd (false≢true e)
named-of-receipts name (Some list) one e = ap is_receipt_list (same-lists name list e) ∙ one

-- so another list isn't it
pub never-in : (name : l.List) (list : Option l.List) → of_receipts list ≡ true → is_traffic_list name ≡ true → is_named name list ≡ false
never-in name list one other = by (is_named name list) refl
  where
    by : (b : Bool) → is_named name list ≡ b → b ≡ false
    by true e = absurd (false≢true (sym (ap not (named-of-receipts name list one e)) ∙ other))
    by false e = refl

-- ---- places in lists

-- places in lists are one where the lists and the places are
pub same-listing : (list other : l.List) (q k : Place)
    → eq_by_cmp listed_cmp (listed list q) (listed other k) ≡ (same_list list other && eq_by_cmp place_cmp q k)
same-listing list other q k = by (nat_cmp (list_rank list) (list_rank other))
  where
    by : (r : Ordering) → is_eq (ordering_then r (place_cmp q k)) ≡ (is_eq r && eq_by_cmp place_cmp q k)
    by Less = refl
    by Equal = refl
    by Greater = refl

pub any-of-list : (list other : l.List) (q : Place) (ks : List Place)
    → list_any (eq_by_cmp listed_cmp (listed list q)) (map (listed other) ks) ≡ (same_list list other && list_any (eq_by_cmp place_cmp q) ks)
any-of-list list other q [] = elim (same_list list other) as (λ b. false ≡ (b && false)) [ true ↦ refl | false ↦ refl ]
any-of-list list other q (k ∷ ks) =
    (λ i. same-listing list other q k i || any-of-list list other q ks i)
    ∙ elim (same_list list other) as (λ b. ((b && eq_by_cmp place_cmp q k) || (b && list_any (eq_by_cmp place_cmp q) ks))
    ≡ (b && list_any (eq_by_cmp place_cmp q) (k ∷ ks))) [ true ↦ refl | false ↦ refl ]

any-of-lists : (e : Listed) (ks : List Place) (names : List l.List)
    → list_any (eq_by_cmp listed_cmp e) (flat_map (λ name. map (listed name) ks) names)
    ≡ (list_any (same_list e.list) names && list_any (eq_by_cmp place_cmp e.place) ks)
any-of-lists e ks [] = refl
any-of-lists e ks (name ∷ names) =
    list_any-append (eq_by_cmp listed_cmp e) (map (listed name) ks) (flat_map (λ name. map (listed name) ks) names)
    ∙ (λ i. any-of-list e.list name e.place ks i || any-of-lists e ks names i)
    ∙ by (same_list e.list name) (list_any (same_list e.list) names) (list_any (eq_by_cmp place_cmp e.place) ks)
  where
    by : (a b c : Bool) → ((a && c) || (b && c)) ≡ ((a || b) && c)
    by true true true = refl
    by true true false = refl
    by true false true = refl
    by true false false = refl
    by false b c = refl

-- a place is among the listings of some where its list is of receipts and it is one of them
pub listings-any : (e : Listed) (ks : List Place)
    → list_any (eq_by_cmp listed_cmp e) (receipt_listings ks) ≡ (is_receipt_list e.list && list_any (eq_by_cmp place_cmp e.place) ks)
listings-any e ks = any-of-lists e ks receipt_lists

-- or it is the only one
pub listings-one : (e : Listed) (k : Place)
    → list_any (eq_by_cmp listed_cmp e) (receipt_listings (k ∷ [])) ≡ (is_receipt_list e.list && eq_by_cmp place_cmp e.place k)
listings-one e k = listings-any e (k ∷ []) ∙ ap (λ b. is_receipt_list e.list && b) (or_false (eq_by_cmp place_cmp e.place k))
  where
    or_false : (b : Bool) → (b || false) ≡ b
    or_false true = refl
    or_false false = refl
