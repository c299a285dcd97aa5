-- A place where no receipt stands is noted in no list of receipts, whatever is told: its listings need no look.
use Rattle.std.proofs.Common.{◌≡◌, Bool, true, false, cond, List, [], ◌∷◌, Option, Some, None, refl, sym, ap, ◌∙◌}
use Rattle.std.specs.Prelude.{◌&&◌, option_and_then}
use Rattle.std.specs.FinMap.{get}
use Rattle.std.specs.FinSet.{FinSet}
use Rattle.std.specs.Ordering.{eq_by_cmp}
use Rattle.smq_kit.specs.Orders.{place_cmp}
use Rattle.smq_kit.specs.declared.place.Place.{Place}
use Rattle.smq_kit.proofs.MapLemmas as maps
use Rattle.smq_kit.proofs.PlaceOrders.{places_total, places_exact}
use Rattle.smq_tally.specs.Lists.{listed, listed_cmp}
use Rattle.smq_tally.specs.declared.list.List as l
use Rattle.smq_tally.specs.declared.list.Listed.{Listed}
use Rattle.smq_tally.specs.within.ListOrder.{listed_total}
use Rattle.smq_tally.proofs.ListOrders.{listed_exact}
use Rattle.smq_group.specs.declared.change.Change.{Change}
use Rattle.smq_group.specs.Matching.{Grouping, GroupedReceipt, receipt_standing}
use Rattle.smq_present.specs.present.Settings.{SettingsValue}
use Rattle.smq_present.specs.pairing.Traffic.{ReceivedReceipt, TrafficValue}
use Rattle.smq_present.specs.join.Keyed.{keyed_receipt}
use Rattle.smq_present.specs.join.Listings.{is_named, is_receipt_list, list_of_standing, receipt_listings}
use Rattle.smq_book.specs.index.Held.{AreOf, IsUnlisted, list_held, noted, notes_anew, with_listing}
use Rattle.smq_present.proofs.lemmas.join.ReceiptLists.{listings-one}
use Rattle.smq_book.proofs.lemmas.index.Stored.{at-receipts}

-- where no receipt stands at a place, it has no list
pub unheld : (s : SettingsValue) (u : TrafficValue) (g : Grouping) → AreOf s u g → (q : Place) → get u.receipts q ≡ None → list_held g q ≡ None
unheld s u g are q none =
    ap (option_and_then (λ (r : GroupedReceipt). list_of_standing (receipt_standing g q r)))
    (at-receipts s u g are q ∙ ap (option_and_then (λ (r : ReceivedReceipt). Some (keyed_receipt s r))) none)

-- ---- where a place is listed

module _ (n : FinSet listed_cmp) (p : Place) (list : Option l.List) where
  -- the lists of receipts have it where they are its own, and else all stays
  pub listed-at : (e : Listed) → get (with_listing n p list) e
      ≡ cond (is_receipt_list e.list && eq_by_cmp place_cmp e.place p) (noted (is_named e.list list)) (get n e)
  listed-at e =
      maps.get-patched listed_total listed_exact n (λ (note : Listed). noted (is_named note.list list)) (receipt_listings (p ∷ [])) e
      ∙ ap (λ b. cond b (noted (is_named e.list list)) (get n e)) (listings-one e p)

  -- what isn't noted stays so, unless it is that place in its own list
  pub unnoted : (name : l.List) (q : Place) → get n (listed name q) ≡ None → (eq_by_cmp place_cmp q p ≡ true → is_named name list ≡ false)
      → get (with_listing n p list) (listed name q) ≡ None
  unnoted name q none other = listed-at (listed name q) ∙ by (is_receipt_list name) (eq_by_cmp place_cmp q p) refl
    where
      by : (r b : Bool) → eq_by_cmp place_cmp q p ≡ b → cond (r && b) (noted (is_named name list)) (get n (listed name q)) ≡ None
      by true true e = ap noted (other e)
      by true false e = none
      by false b e = none

module _ (q : Place) where
  -- it stays so where another place is noted, and where it is taken out
  pub unlisted-listing : (n : FinSet listed_cmp) → IsUnlisted n q → (p : Place) (list : Option l.List)
      → (eq_by_cmp place_cmp q p ≡ true → list ≡ None) → IsUnlisted (with_listing n p list) q
  unlisted-listing n is p list idle = record { none = λ name one. unnoted n p list name q (is.none name one) (λ e. ap (is_named name) (idle e)) }

  idle-at : (g : Grouping) (p : Place) → list_held g q ≡ None → eq_by_cmp place_cmp q p ≡ true → list_held g p ≡ None
  idle-at g p none e = ap (list_held g) (sym (maps.same_key places_total places_exact q p e)) ∙ none

  -- it stays so where the listings of places are set anew
  pub unlisted-anew : (g : Grouping) → list_held g q ≡ None → (n : FinSet listed_cmp) → IsUnlisted n q → (cs : List Change)
      → IsUnlisted (notes_anew g n cs) q
  unlisted-anew g none n is [] = is
  unlisted-anew g none n is (c ∷ cs) =
      unlisted-anew g none (with_listing n c.place (list_held g c.place))
      (unlisted-listing n is c.place (list_held g c.place) (idle-at g c.place none)) cs
