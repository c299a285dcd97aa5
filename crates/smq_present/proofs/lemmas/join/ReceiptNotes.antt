-- Notes differ at the receipts whose standings do, and in the lists of receipts alone, where the traffic notes the same.
use Rattle.std.proofs.Common.{◌≡◌, Bool, true, false, cond, ◌||◌, List, [], ◌∷◌, ◌++◌, Option, Some, None, refl, sym, ap, ◌∙◌}
use Rattle.std.specs.Prelude.{T, is_some, ◌&&◌, map, not, option_map, option_and_then, option_to_list}
use Rattle.std.specs.List.{flat_map, list_any}
use Rattle.std.specs.Ordering.{eq_by_cmp}
use Rattle.std.specs.FinMap.{FinMap, entries, entries_sorted, find, get, is_sorted, keys, get-entries, contains_key, contains_key-keys, insert, remove, get-insert, get-remove}
use Rattle.std.specs.FinSet.{FinSet}
use Rattle.std.proofs.lemmas.Bool.{false≢true}
use Rattle.std.proofs.lemmas.List.Folds.{list_any-append}
use Rattle.smq_kit.specs.declared.place.Place.{Place}
use Rattle.smq_kit.specs.Maps.{kept_of, chosen, patched, SameOutside}
use Rattle.smq_kit.specs.Orders.{place_cmp}
use Rattle.smq_kit.proofs.MapLemmas as maps
use Rattle.smq_kit.proofs.PlaceOrders.{places_total, places_exact}
use Rattle.smq_tally.specs.declared.list.List as l
use Rattle.smq_tally.specs.declared.list.Listed.{Listed}
use Rattle.smq_tally.specs.Lists.{listed, listed_cmp}
use Rattle.smq_tally.specs.within.ListOrder.{listed_total}
use Rattle.smq_tally.proofs.ListOrders.{listed_exact}
use Rattle.smq_tally.proofs.Listings.{marked, get-listed}
use Rattle.smq_present.specs.present.Settings.{SettingsValue}
use Rattle.smq_present.specs.pairing.Traffic.{TrafficValue}
use Rattle.smq_present.specs.join.Keyed.{grouping_of}
use Rattle.smq_present.specs.join.Listings.{is_named, is_receipt_list, list_of_standing, receipt_listing, receipt_listings, receipt_notes, notes_of, same_list}
use Rattle.smq_present.proofs.lemmas.join.ReceiptLists.{listings-any, never-in, of-standing, same-listing}
use Rattle.smq_group.specs.Matching.{Grouping, GroupedReceipt, ReceiptStanding, Stray, Deciding, Extra, Noted, KeyShared, receipt_standing}
use Rattle.smq_present.specs.join.Moves.{receipt_standings_of, same_receipt_standing, receipt_changes_of}

-- ---- the lists of receipts by place

abbrev list_at : Grouping → Place → GroupedReceipt → Option l.List
list_at g place r = list_of_standing (receipt_standing g place r)

abbrev lists_of : Grouping → FinMap place_cmp l.List
lists_of g = chosen (list_at g) g.receipts

abbrev in_list_of : Place × l.List → Listed
in_list_of e = listed e.1 e.0

module _ (g : Grouping) where
  one_note : (place : Place) (o : Option l.List) (xs : List Listed) (ys : List (Place × l.List)) → xs ≡ map in_list_of ys
      → option_to_list (option_map (λ list. listed list place) o) ++ xs ≡ map in_list_of (map (λ list. (place, list)) (option_to_list o) ++ ys)
  one_note place None xs ys h = h
  one_note place (Some list) xs ys h = ap (λ zs. listed list place ∷ zs) h

  notes-from : (es : List (Place × GroupedReceipt)) → flat_map (λ e. option_to_list (receipt_listing g e)) es ≡ map in_list_of (flat_map (kept_of (list_at g)) es)
  notes-from [] = refl
  notes-from (e ∷ es) = one_note e.0 (list_at g e.0 e.1) (flat_map (λ e. option_to_list (receipt_listing g e)) es) (flat_map (kept_of (list_at g)) es) (notes-from es)

  -- the noted receipts are the entries of the map of their lists
  notes-are : receipt_notes g ≡ map in_list_of (entries (lists_of g))
  notes-are = notes-from (entries g.receipts) ∙ ap (map in_list_of) (sym (maps.entries-chosen places_total places_exact (list_at g) g.receipts))

-- ---- whether a place is listed

or_same : (b : Bool) → (b || b) ≡ b
or_same true = refl
or_same false = refl

or_false : (b : Bool) → (b || false) ≡ b
or_false true = refl
or_false false = refl

and_true : (b : Bool) → (b && true) ≡ b
and_true true = refl
and_true false = refl

and_false : (b : Bool) → (b && false) ≡ false
and_false true = refl
and_false false = refl

module _ (list : l.List) (q : Place) where
  found_as : (x : Option l.List) (other : l.List) (found : (v : l.List) → x ≡ Some v → v ≡ other) → (same_list list other || is_named list x) ≡ same_list list other
  found_as None other found = or_false (same_list list other)
  found_as (Some v) other found = ap (λ w. same_list list other || same_list list w) (found v refl) ∙ or_same (same_list list other)

  some_is : (v w : l.List) (b : Bool) (x : Option l.List) → b ≡ true → cond b (Some v) x ≡ Some w → w ≡ v
  some_is v w true x t e = cc
  some_is v w false x t e = absurd (false≢true t)

  any-listed : (es : List (Place × l.List)) → T (is_sorted place_cmp es) → list_any (eq_by_cmp listed_cmp (listed list q)) (map in_list_of es) ≡ is_named list (find place_cmp q es)
  any-listed [] h = refl
  any-listed (e ∷ es) h =
      (λ i. same-listing list e.1 q e.0 i || any-listed es (maps.sorted-behind places_total places_exact e es h) i)
      ∙ by (eq_by_cmp place_cmp q e.0) refl
    where
      by : (b : Bool) → eq_by_cmp place_cmp q e.0 ≡ b → ((same_list list e.1 && b) || is_named list (find place_cmp q es))
          ≡ is_named list (cond b (Some e.1) (find place_cmp q es))
      by true t =
          ap (λ b. b || is_named list (find place_cmp q es)) (and_true (same_list list e.1))
          ∙ found_as (find place_cmp q es) e.1 (λ v is.
          some_is e.1 v (eq_by_cmp place_cmp q e.0) (find place_cmp q es) t (maps.find-later places_total places_exact q v e es h is))
      by false t = ap (λ b. b || is_named list (find place_cmp q es)) (and_false (same_list list e.1))

-- what the notes have of a place in a list
note-at : (s : SettingsValue) (t : TrafficValue) (e : Listed)
    → get (notes_of s t) e ≡ marked (list_any (eq_by_cmp listed_cmp e) (keys t.notes) || is_named e.list (get (lists_of (grouping_of s t)) e.place))
note-at s t e =
    get-listed (keys t.notes ++ receipt_notes (grouping_of s t)) e
    ∙ ap marked (list_any-append (eq_by_cmp listed_cmp e) (keys t.notes) (receipt_notes (grouping_of s t))
    ∙ ap (λ b. list_any (eq_by_cmp listed_cmp e) (keys t.notes) || b)
    (ap (list_any (eq_by_cmp listed_cmp e)) (notes-are (grouping_of s t))
    ∙ any-listed e.list e.place (entries (lists_of (grouping_of s t))) (entries_sorted (lists_of (grouping_of s t)))
    ∙ ap (is_named e.list) (sym (get-entries (lists_of (grouping_of s t)) e.place))))

-- the list of a receipt is that of its standing
list-of : (g : Grouping) (q : Place) → get (lists_of g) q ≡ option_and_then list_of_standing (get (receipt_standings_of g) q)
list-of g q =
    maps.get-chosen places_total places_exact (list_at g) g.receipts q
    ∙ by_receipt (get g.receipts q)
    ∙ ap (option_and_then list_of_standing) (sym (maps.get-chosen places_total places_exact (λ place r. Some (receipt_standing g place r)) g.receipts q))
  where
    by_receipt : (r : Option GroupedReceipt) → option_and_then (list_at g q) r ≡ option_and_then list_of_standing (option_and_then (λ r. Some (receipt_standing g q r)) r)
    by_receipt None = refl
    by_receipt (Some r) = refl

-- so what the notes have of it follows from how the receipt there stands
pub note-by : (s : SettingsValue) (t : TrafficValue) (list : l.List) (q : Place) (x : Option ReceiptStanding) → get (receipt_standings_of (grouping_of s t)) q ≡ x
    → get (notes_of s t) (listed list q) ≡ marked (contains_key t.notes (listed list q) || is_named list (option_and_then list_of_standing x))
note-by s t list q x is =
    note-at s t (listed list q)
    ∙ (λ i. marked (sym (contains_key-keys t.notes (listed list q)) i || is_named list ((list-of (grouping_of s t) q ∙ ap (option_and_then list_of_standing) is) i)))

-- ---- outside of places

same-in-list : (list : l.List) (q : Place) (ks : List Place) (x y : Option ReceiptStanding) → (list_any (eq_by_cmp place_cmp q) ks ≡ false → x ≡ y)
    → list_any (eq_by_cmp listed_cmp (listed list q)) (receipt_listings ks) ≡ false
    → is_named list (option_and_then list_of_standing x) ≡ is_named list (option_and_then list_of_standing y)
same-in-list list q ks x y same out = by (list_any (eq_by_cmp place_cmp q) ks) refl
  where
    by : (b : Bool) → list_any (eq_by_cmp place_cmp q) ks ≡ b → is_named list (option_and_then list_of_standing x) ≡ is_named list (option_and_then list_of_standing y)
    by false e = ap (λ z. is_named list (option_and_then list_of_standing z)) (same e)
    by true e =
        let apart : is_receipt_list list ≡ false = sym (and_true (is_receipt_list list)) ∙ ap (λ b. is_receipt_list list && b) (sym e)
        ∙ sym (listings-any (listed list q) ks) ∙ out in
        never-in list (option_and_then list_of_standing x) (of-standing x) (ap not apart)
        ∙ sym (never-in list (option_and_then list_of_standing y) (of-standing y) (ap not apart))

-- where the traffic notes the same, notes stay but those of receipts whose standings may differ
pub notes-outside : (s z : SettingsValue) (t u : TrafficValue) (ks : List Place) → t.notes ≡ u.notes
    → SameOutside ks (receipt_standings_of (grouping_of s t)) (receipt_standings_of (grouping_of z u))
    → SameOutside (receipt_listings ks) (notes_of s t) (notes_of z u)
notes-outside s z t u ks same stand = record {
  at = λ e out.
      note-at s t e
      ∙ (λ i. marked (list_any (eq_by_cmp listed_cmp e) (keys (same i)) || is_named e.list (get (lists_of (grouping_of s t)) e.place)))
      ∙ ap (λ b. marked (list_any (eq_by_cmp listed_cmp e) (keys u.notes) || b))
      (ap (is_named e.list) (list-of (grouping_of s t) e.place)
      ∙ same-in-list e.list e.place ks (get (receipt_standings_of (grouping_of s t)) e.place) (get (receipt_standings_of (grouping_of z u)) e.place) (λ h. stand.at e.place h) out
      ∙ ap (is_named e.list) (sym (list-of (grouping_of z u) e.place)))
      ∙ sym (note-at z u e);
}

-- so setting them at these places makes the new notes of the old
pub moved-notes : (s z : SettingsValue) (t u : TrafficValue) (ks : List Place) → t.notes ≡ u.notes
    → SameOutside ks (receipt_standings_of (grouping_of s t)) (receipt_standings_of (grouping_of z u))
    → patched (notes_of s t) (get (notes_of z u)) (receipt_listings ks) ≡ notes_of z u
moved-notes s z t u ks same stand = maps.patched-is listed_total listed_exact (receipt_listings ks) (notes_of s t) (notes_of z u) (notes-outside s z t u ks same stand)

-- ---- the places whose standings differ are enough

receipt_standings_decided : (x y : ReceiptStanding) → same_receipt_standing x y ≡ true → x ≡ y
receipt_standings_decided Stray Stray e = refl
receipt_standings_decided Deciding Deciding e = refl
receipt_standings_decided Extra Extra e = refl
receipt_standings_decided Noted Noted e = refl
receipt_standings_decided KeyShared KeyShared e = refl
receipt_standings_decided _ _ e = absurd (false≢true e)

pub receipt-changes-cover : (g h : Grouping) → SameOutside (receipt_changes_of g h) (receipt_standings_of g) (receipt_standings_of h)
receipt-changes-cover g h = maps.outside-differing places_total places_exact same_receipt_standing receipt_standings_decided (receipt_standings_of g) (receipt_standings_of h)

-- ---- a note that is put in or taken out

module _ (s : SettingsValue) (t : TrafficValue) (note : Listed) where
  other_false : (b : Bool) → (b || false) ≡ false → b ≡ false
  other_false true e = e
  other_false false e = refl

  -- the other notes stay where the sets are one outside of it
  note-outside : (notes : FinSet listed_cmp) → ((e : Listed) → eq_by_cmp listed_cmp e note ≡ false → get t.notes e ≡ get notes e) → SameOutside (note ∷ []) (notes_of s t) (notes_of s (record t { notes = notes }))
  note-outside notes same = record {
    at = λ e out.
        note-at s t e
        ∙ ap (λ b. marked (b || is_named e.list (get (lists_of (grouping_of s t)) e.place)))
        (sym (contains_key-keys t.notes e) ∙ ap is_some (same e (other_false (eq_by_cmp listed_cmp e note) out)) ∙ contains_key-keys notes e)
        ∙ sym (note-at s (record t { notes = notes }) e);
  }

  pub put-outside : SameOutside (note ∷ []) (notes_of s t) (notes_of s (record t { notes = insert t.notes note tt }))
  put-outside = note-outside (insert t.notes note tt) (λ e apart. sym (get-insert listed_total t.notes note tt e ∙ ap (λ b. cond b (Some tt) (get t.notes e)) apart))

  pub take-outside : SameOutside (note ∷ []) (notes_of s t) (notes_of s (record t { notes = remove t.notes note }))
  take-outside = note-outside (remove t.notes note) (λ e apart. sym (get-remove listed_total t.notes note e ∙ ap (λ b. cond b None (get t.notes e)) apart))
