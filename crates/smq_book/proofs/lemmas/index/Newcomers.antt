-- A place that no list of receipts but its own notes is noted there, and stands in its list alone.
use Rattle.std.proofs.Common.{◌≡◌, Bool, true, false, cond, ◌||◌, Option, Some, None, refl, sym, ap, ◌∙◌}
use Rattle.std.specs.Prelude.{◌&&◌, not}
use Rattle.std.specs.FinMap.{get, get-insert, same_map}
use Rattle.std.specs.FinSet.{FinSet}
use Rattle.std.specs.Ordering.{eq_by_cmp}
use Rattle.std.proofs.lemmas.Bool.{false≢true}
use Rattle.smq_kit.specs.Orders.{place_cmp}
use Rattle.smq_kit.specs.declared.place.Place.{Place}
use Rattle.smq_kit.proofs.Comparisons.{or_first, or_second}
use Rattle.smq_kit.proofs.MapLemmas as maps
use Rattle.smq_kit.proofs.PlaceOrders.{places_total, places_exact}
use Rattle.smq_tally.specs.Lists.{listed, listed_cmp}
use Rattle.smq_tally.specs.declared.list.List as l
use Rattle.smq_tally.specs.declared.list.Listed.{Listed}
use Rattle.smq_tally.specs.within.ListOrder.{listed_total}
use Rattle.smq_tally.proofs.ListOrders.{listed_exact}
use Rattle.smq_group.specs.declared.change.Standing as told
use Rattle.smq_group.specs.declared.change.Standing.TheVariants as t
use Rattle.smq_present.specs.join.Listings.{is_named, is_receipt_list, is_traffic_list}
use Rattle.smq_book.specs.index.Following.{IsInNoOther, with_note}
use Rattle.smq_book.specs.index.Held.{IsUnlisted, list_by, noted, with_listing}
use Rattle.smq_present.proofs.lemmas.join.ReceiptLists.{named-of-receipts, of_receipts, same-listing}
use Rattle.smq_book.proofs.lemmas.index.Unlisted.{listed-at, unnoted}

-- a place that no list notes is in no other
pub unlisted-alone : (n : FinSet listed_cmp) (q : Place) (list : Option l.List) → IsUnlisted n q → IsInNoOther n q list
unlisted-alone n q list is = record { none = λ name out. is.none name (or_first (is_traffic_list name) (is_named name list) out) }

-- it stays so where listings are set anew
pub alone-again : (q : Place) (list : Option l.List) (p : Place) (other : Option l.List) → (q ≡ p → other ≡ list) → (n : FinSet listed_cmp)
    → IsInNoOther n q list → IsInNoOther (with_listing n p other) q list
alone-again q list p other same n is = record {
  none = λ name out. unnoted n p other name q (is.none name out) (λ e.
      ap (is_named name) (same (maps.same_key places_total places_exact q p e)) ∙ or_second (is_traffic_list name) (is_named name list) out);
}

-- ---- where its own list notes it

module _ (n : FinSet listed_cmp) (q : Place) where
  note-at : (list : Option l.List) (e : Listed)
      → get (with_note n q list) e ≡ cond (is_named e.list list && eq_by_cmp place_cmp e.place q) (Some tt) (get n e)
  note-at None e = refl
  note-at (Some list) e = get-insert listed_total n (listed list q) tt e ∙ ap (λ b. cond b (Some tt) (get n e)) (same-listing e.list list e.place q)

  noted-of-receipts : (list : Option l.List) → of_receipts list ≡ true → IsInNoOther n q list → with_note n q list ≡ with_listing n q list
  noted-of-receipts list one is = same_map listed_total listed_exact _ _ (λ e.
      note-at list e
      ∙ by e (is_named e.list list) (is_receipt_list e.list) (eq_by_cmp place_cmp e.place q) refl refl refl (named-of-receipts e.list list one)
      ∙ sym (listed-at n q list e))
    where
      by : (e : Listed) (m r p : Bool) → is_named e.list list ≡ m → is_receipt_list e.list ≡ r → eq_by_cmp place_cmp e.place q ≡ p → (m ≡ true → r ≡ true)
          → cond (m && p) (Some tt) (get n e) ≡ cond (r && p) (noted m) (get n e)
      by e true true true h k l own = refl
      by e true true false h k l own = refl
      by e true false p h k l own = absurd (false≢true (own refl))
      by e false true true h k l own =
          ap (λ (place : Place). get n (listed e.list place)) (maps.same_key places_total places_exact e.place q l)
          ∙ is.none e.list (λ i. not (k i) || h i)
      by e false true false h k l own = refl
      by e false false p h k l own = refl

  -- by the standing that is told
  pub noted-alone : (standing : Option told.Standing) → IsInNoOther n q (list_by true standing)
      → with_note n q (list_by true standing) ≡ with_listing n q (list_by true standing)
  noted-alone standing = noted-of-receipts (list_by true standing) (by standing)
    where
      by : (standing : Option told.Standing) → of_receipts (list_by true standing) ≡ true
      by None = refl
      by (Some t.Stray) = refl
      by (Some _) = refl

-- one that no list notes needs no taking out
pub unlisted-same : (q : Place) (n : FinSet listed_cmp) → IsUnlisted n q → with_listing n q None ≡ n
unlisted-same q n is = sym (noted-of-receipts n q None refl (unlisted-alone n q None is))
