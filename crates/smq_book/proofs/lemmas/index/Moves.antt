-- What a move changes is set anew by what groups tell: the facts and the listings of the places that are told, and those of its
-- own place. So facts and notes are then those of the traffic after it.
use Rattle.std.proofs.Common.{◌≡◌, Bool, true, false, cond, ◌||◌, List, [], ◌∷◌, Option, Some, None, refl, sym, ap, ◌∙◌}
use Rattle.std.specs.Prelude.{◌&&◌, is_some, map, not, option_and_then, option_map}
use Rattle.std.specs.List.{list_any}
use Rattle.std.specs.Ordering.{eq_by_cmp}
use Rattle.std.specs.FinMap.{FinMap, get, insert, remove, get-insert, get-remove, same_map}
use Rattle.std.specs.FinSet.{FinSet}
use Rattle.std.proofs.lemmas.Bool.{false≢true}
use Rattle.std.proofs.lemmas.List.{map-append}
use Rattle.std.proofs.lemmas.List.Folds.{list_any-append}
use Rattle.smq_kit.specs.declared.link_key.LinkKey.{LinkKey}
use Rattle.smq_kit.specs.declared.place.Place.{Place}
use Rattle.smq_kit.specs.Maps.{patched, set_at}
use Rattle.smq_kit.specs.Orders.{place_cmp}
use Rattle.smq_kit.proofs.Comparisons.{or_first, or_second}
use Rattle.smq_kit.proofs.MapLemmas as maps
use Rattle.smq_kit.proofs.PlaceOrders.{places_total, places_exact}
use Rattle.smq_tally.specs.declared.fact.Fact.{Fact}
use Rattle.smq_tally.specs.declared.list.List as l
use Rattle.smq_tally.specs.declared.list.Listed.{Listed}
use Rattle.smq_tally.specs.Lists.{listed, listed_cmp}
use Rattle.smq_tally.specs.within.ListOrder.{listed_total}
use Rattle.smq_tally.proofs.ListOrders.{listed_exact}
use Rattle.smq_tally.proofs.Listings.{marked}
use Rattle.smq_group.specs.declared.change.Change.{Change}
use Rattle.smq_group.specs.declared.change.Standing as told
use Rattle.smq_group.specs.Changes.{TellsChanges, changed, receipt_at, submit_at, told_at, told_of_receipt, told_of_submit}
use Rattle.smq_group.specs.Matching.{Grouping, GroupedReceipt, receipt_standing, submit_standing, ReceiptStanding}
use Rattle.smq_present.specs.present.Settings.{SettingsValue}
use Rattle.smq_present.specs.pairing.Traffic.{TrafficValue}
use Rattle.smq_present.specs.join.Facts.{facts_of}
use Rattle.smq_present.specs.join.Keyed.{grouping_of}
use Rattle.smq_present.specs.join.Listings.{is_named, is_receipt_list, is_traffic_list, list_of_standing, notes_of}
use Rattle.smq_present.specs.join.Moves.{IsMove, PutNote, TakeNote, moved, receipt_standings_of, standings_of}
use Rattle.smq_book.specs.edits.Told.{told_places}
use Rattle.smq_book.specs.index.Held.{IsTraffic, facts_anew, list_held, noted, notes_anew, with_listing}
use Rattle.smq_present.proofs.lemmas.join.MoveLemmas.{moved-facts}
use Rattle.smq_present.proofs.lemmas.join.ReceiptLists.{listings-any, listings-one, never-in, of-standing}
use Rattle.smq_present.proofs.lemmas.join.ReceiptNotes.{note-by, notes-outside}
use Rattle.smq_book.proofs.lemmas.edits.Told.{facts-covered, notes-covered}
use Rattle.smq_book.proofs.lemmas.index.Unlisted.{listed-at}

-- ---- tests

both_false : (a b : Bool) → a ≡ false → b ≡ false → (a || b) ≡ false
both_false true b e f = e
both_false false b e f = f

or_true : (b : Bool) → (b || true) ≡ true
or_true true = refl
or_true false = refl

-- what is chosen by a test is the first where the second is the first wherever the test fails
unless : {X : Type 0} (b : Bool) (x y : X) → (b ≡ false → y ≡ x) → cond b x y ≡ x
unless true x y same = refl
unless false x y same = same refl

-- ---- the places that changes tell

-- whether changes tell of a place
abbrev pub tells_of : Place → List Change → Bool
tells_of p cs = list_any (eq_by_cmp place_cmp p) (map (λ c. c.place) cs)

-- what is told of a place stands among the changes
told-among : (p : Place) (standing : told.Standing) (cs : List Change) → told_at p cs ≡ Some standing → tells_of p cs ≡ true
told-among p standing [] e = absurd cc
told-among p standing (c ∷ cs) e = by (eq_by_cmp place_cmp p c.place) (told-among p standing cs) e
  where
    by : (b : Bool) → (told_at p cs ≡ Some standing → tells_of p cs ≡ true) → cond b (Some c.standing) (told_at p cs) ≡ Some standing
        → (b || tells_of p cs) ≡ true
    by true later e = refl
    by false later e = later e

module _ (g h : Grouping) (cs : List Change) (tells : TellsChanges g h cs) (p : Place) where
  -- changes tell of submits and of receipts
  tells-parts : tells_of p cs ≡ (tells_of p tells.submits || tells_of p tells.receipts)
  tells-parts =
      ap (tells_of p) tells.parts
      ∙ ap (list_any (eq_by_cmp place_cmp p)) (map-append (λ (c : Change). c.place) tells.submits tells.receipts)
      ∙ list_any-append (eq_by_cmp place_cmp p) (map (λ (c : Change). c.place) tells.submits) (map (λ (c : Change). c.place) tells.receipts)

  no-submit-told : tells_of p cs ≡ false → tells_of p tells.submits ≡ false
  no-submit-told out = or_first (tells_of p tells.submits) _ (sym tells-parts ∙ out)

  no-receipt-told : tells_of p cs ≡ false → tells_of p tells.receipts ≡ false
  no-receipt-told out = or_second (tells_of p tells.submits) _ (sym tells-parts ∙ out)

  -- a submit or a receipt that came is told
  pub came-submit : (key : LinkKey) → get g.submits p ≡ None → get h.submits p ≡ Some key → tells_of p cs ≡ true
  came-submit key absent there =
      let before : submit_at g p ≡ None = ap (option_map (λ (key : LinkKey). told_of_submit (submit_standing g key))) absent in
      let after : submit_at h p ≡ Some (told_of_submit (submit_standing h key)) =
      ap (option_map (λ (key : LinkKey). told_of_submit (submit_standing h key))) there in
      let among : tells_of p tells.submits ≡ true = told-among p (told_of_submit (submit_standing h key)) tells.submits
      (tells.each_submit p ∙ (λ i. changed (before i) (after i))) in
      tells-parts ∙ ap (λ b. b || tells_of p tells.receipts) among

  pub came-receipt : (r : GroupedReceipt) → get g.receipts p ≡ None → get h.receipts p ≡ Some r → tells_of p cs ≡ true
  came-receipt r absent there =
      let before : receipt_at g p ≡ None = ap (option_map (λ (r : GroupedReceipt). told_of_receipt (receipt_standing g p r))) absent in
      let after : receipt_at h p ≡ Some (told_of_receipt (receipt_standing h p r)) =
      ap (option_map (λ (r : GroupedReceipt). told_of_receipt (receipt_standing h p r))) there in
      let among : tells_of p tells.receipts ≡ true = told-among p (told_of_receipt (receipt_standing h p r)) tells.receipts
      (tells.each_receipt p ∙ (λ i. changed (before i) (after i))) in
      tells-parts ∙ ap (λ b. tells_of p tells.submits || b) among ∙ or_true (tells_of p tells.submits)

-- a place of which nothing is told isn't one of which something is
apart-of : (p q : Place) (cs : List Change) → tells_of q cs ≡ true → tells_of p cs ≡ false → eq_by_cmp place_cmp p q ≡ false
apart-of p q cs there out = by (eq_by_cmp place_cmp p q) refl
  where
    by : (b : Bool) → eq_by_cmp place_cmp p q ≡ b → b ≡ false
    by true e = absurd (false≢true (sym out ∙ ap (λ (x : Place). tells_of x cs) (maps.same_key places_total places_exact p q e) ∙ there))
    by false e = refl

-- ---- facts

module _ (fact : Place → Option Fact) where
  anew-patched : (m : FinMap place_cmp Fact) (cs : List Change) → facts_anew fact m cs ≡ patched m fact (map (λ c. c.place) cs)
  anew-patched m [] = refl
  anew-patched m (c ∷ cs) = anew-patched (set_at m c.place (fact c.place)) cs

  -- facts that are set anew: those of the places that are told, and else what there was
  anew-at : (m : FinMap place_cmp Fact) (cs : List Change) (p : Place) → get (facts_anew fact m cs) p ≡ cond (tells_of p cs) (fact p) (get m p)
  anew-at m cs p =
      ap (λ n. get n p) (anew-patched m cs) ∙ maps.get-patched places_total places_exact m fact (map (λ (c : Change). c.place) cs) p

module _ (s : SettingsValue) (q : Place) (t u : TrafficValue) (cs : List Change) (tells : TellsChanges (grouping_of s t) (grouping_of s u) cs)
    (move : IsMove q t u) where
  abbrev now : FinMap place_cmp Fact
  now = facts_of s u

  abbrev anew : FinMap place_cmp Fact
  anew = facts_anew (get now) (facts_of s t) cs

  last_at : (p : Place) (b : Bool) → eq_by_cmp place_cmp p q ≡ b
      → cond b (get now q) (cond (tells_of p cs) (get now p) (get (facts_of s t) p)) ≡ get now p
  last_at p true e = ap (get now) (sym (maps.same_key places_total places_exact p q e))
  last_at p false e = unless (tells_of p cs) (get now p) (get (facts_of s t) p) (λ out.
      (facts-covered s q t u cs tells move).at p
      (both_false (eq_by_cmp place_cmp p q) (tells_of p tells.submits) e (no-submit-told (grouping_of s t) (grouping_of s u) cs tells p out)))

  -- where something is taken out, the fact of its place is set last
  pub taken-facts : set_at anew q (get now q) ≡ now
  taken-facts = same_map places_total places_exact _ _ (λ p.
      maps.get-set_at places_total places_exact anew q (get now q) p
      ∙ ap (cond (eq_by_cmp place_cmp p q) (get now q)) (anew-at (get now) (facts_of s t) cs p)
      ∙ last_at p (eq_by_cmp place_cmp p q) refl)

  -- where the place of the move is told, it is set with the others
  pub told-facts : tells_of q cs ≡ true → anew ≡ now
  told-facts there =
      sym (maps.set-same places_total places_exact anew q)
      ∙ ap (set_at anew q) (anew-at (get now) (facts_of s t) cs q ∙ ap (λ b. cond b (get now q) (get (facts_of s t) q)) there)
      ∙ taken-facts

-- where groups stay, the place of the move is all that is set
pub alone-facts : (s : SettingsValue) (q : Place) (t u : TrafficValue) → IsMove q t u → grouping_of s t ≡ grouping_of s u
    → set_at (facts_of s t) q (get (facts_of s u) q) ≡ facts_of s u
alone-facts s q t u move alike = moved-facts q t u move s [] (record { at = λ p out. ap (λ (g : Grouping). get (standings_of g) p) alike })

-- ---- the list of a receipt

held-by : (g : Grouping) (p : Place) → option_and_then list_of_standing (get (receipt_standings_of g) p) ≡ list_held g p
held-by g p =
    ap (option_and_then list_of_standing) (maps.get-chosen places_total places_exact (λ place r. Some (receipt_standing g place r)) g.receipts p)
    ∙ by (get g.receipts p)
  where
    by : (x : Option GroupedReceipt) → option_and_then list_of_standing (option_and_then (λ r. Some (receipt_standing g p r)) x)
        ≡ option_and_then (λ r. list_of_standing (receipt_standing g p r)) x
    by None = refl
    by (Some r) = refl

marked-noted : (b : Bool) → marked b ≡ noted b
marked-noted true = refl
marked-noted false = refl

-- ---- notes

module _ (s : SettingsValue) (t u : TrafficValue) (same : t.notes ≡ u.notes) (traffic : IsTraffic t) where
  abbrev h : Grouping
  h = grouping_of s u

  abbrev noted_now : FinSet listed_cmp
  noted_now = notes_of s u

  none_there : (v : Option (Unit {0})) (b : Bool) → v ≡ None → marked (is_some v || b) ≡ noted b
  none_there None b none = marked-noted b
  none_there (Some v) b none = absurd cc

  -- a list of receipts has those alone whose standing gives it
  pub receipt-now : (list : l.List) (p : Place) → is_traffic_list list ≡ false → get noted_now (listed list p) ≡ noted (is_named list (list_held h p))
  receipt-now list p one =
      let x : Option ReceiptStanding = get (receipt_standings_of h) p in
      note-by s u list p x refl
      ∙ none_there (get u.notes (listed list p)) (is_named list (option_and_then list_of_standing x))
      (ap (λ (notes : FinSet listed_cmp). get notes (listed list p)) (sym same) ∙ (traffic.unlisted p).none list one)
      ∙ ap (λ held. noted (is_named list held)) (held-by h p)

  -- the listings of a place by its list are those of the notes
  listing-at : (n : FinSet listed_cmp) (p : Place) (e : Listed)
      → get (with_listing n p (list_held h p)) e ≡ cond (is_receipt_list e.list && eq_by_cmp place_cmp e.place p) (get noted_now e) (get n e)
  listing-at n p e = listed-at n p (list_held h p) e ∙ by (is_receipt_list e.list) (eq_by_cmp place_cmp e.place p) refl refl
    where
      by : (r b : Bool) → is_receipt_list e.list ≡ r → eq_by_cmp place_cmp e.place p ≡ b
          → cond (r && b) (noted (is_named e.list (list_held h p))) (get n e) ≡ cond (r && b) (get noted_now e) (get n e)
      by true true one here =
          ap (λ (q : Place). noted (is_named e.list (list_held h q))) (sym (maps.same_key places_total places_exact e.place p here))
          ∙ sym (receipt-now e.list e.place (ap not one))
      by true false one here = refl
      by false b one here = refl

  in_turn : {X : Type 0} (r a b : Bool) (x y : X) → cond (r && b) x (cond (r && a) x y) ≡ cond (r && (a || b)) x y
  in_turn false a b x y = refl
  in_turn true true true x y = refl
  in_turn true true false x y = refl
  in_turn true false true x y = refl
  in_turn true false false x y = refl

  none_told : {X : Type 0} (r : Bool) (x y : X) → y ≡ cond (r && false) x y
  none_told true x y = refl
  none_told false x y = refl

  -- notes that are set anew: the listings of the places that are told, and else what there was
  noted-at : (n : FinSet listed_cmp) (cs : List Change) (e : Listed)
      → get (notes_anew h n cs) e ≡ cond (is_receipt_list e.list && tells_of e.place cs) (get noted_now e) (get n e)
  noted-at n [] e = none_told (is_receipt_list e.list) (get noted_now e) (get n e)
  noted-at n (c ∷ cs) e =
      noted-at (with_listing n c.place (list_held h c.place)) cs e
      ∙ ap (cond (is_receipt_list e.list && tells_of e.place cs) (get noted_now e)) (listing-at n c.place e)
      ∙ in_turn (is_receipt_list e.list) (eq_by_cmp place_cmp e.place c.place) (tells_of e.place cs) (get noted_now e) (get n e)

  module _ (q : Place) (cs : List Change) (tells : TellsChanges (grouping_of s t) (grouping_of s u) cs) (move : IsMove q t u) where
    untold-stays : (e : Listed) → (is_receipt_list e.list && (eq_by_cmp place_cmp e.place q || tells_of e.place tells.receipts)) ≡ false
        → get (notes_of s t) e ≡ get noted_now e
    untold-stays e out = (notes-covered s q t u cs tells move same).at e (listings-any e (told_places q tells.receipts) ∙ out)

    out-of-both : (e : Listed) (r : Bool) → (r && eq_by_cmp place_cmp e.place q) ≡ false → (r && tells_of e.place cs) ≡ false
        → (r && (eq_by_cmp place_cmp e.place q || tells_of e.place tells.receipts)) ≡ false
    out-of-both e false here out = refl
    out-of-both e true here out = both_false (eq_by_cmp place_cmp e.place q) (tells_of e.place tells.receipts)
        here (no-receipt-told (grouping_of s t) (grouping_of s u) cs tells e.place out)

    -- where something is taken out, the listings of its place are set last
    pub taken-notes : with_listing (notes_anew h (notes_of s t) cs) q (list_held h q) ≡ notes_of s u
    taken-notes = same_map listed_total listed_exact _ _ (λ e.
        listing-at (notes_anew h (notes_of s t) cs) q e
        ∙ unless (is_receipt_list e.list && eq_by_cmp place_cmp e.place q) (get noted_now e) (get (notes_anew h (notes_of s t) cs) e) (λ here.
        noted-at (notes_of s t) cs e
        ∙ unless (is_receipt_list e.list && tells_of e.place cs) (get noted_now e) (get (notes_of s t) e) (λ out.
        untold-stays e (out-of-both e (is_receipt_list e.list) here out))))

    told-out : (e : Listed) (r : Bool) → tells_of q cs ≡ true → (r && tells_of e.place cs) ≡ false
        → (r && eq_by_cmp place_cmp e.place q) ≡ false
    told-out e false there out = refl
    told-out e true there out = apart-of e.place q cs there out

    -- where the place of the move is told, they are set with the others
    pub told-notes : tells_of q cs ≡ true → notes_anew h (notes_of s t) cs ≡ notes_of s u
    told-notes there = same_map listed_total listed_exact _ _ (λ e.
        noted-at (notes_of s t) cs e
        ∙ unless (is_receipt_list e.list && tells_of e.place cs) (get noted_now e) (get (notes_of s t) e) (λ out.
        untold-stays e (out-of-both e (is_receipt_list e.list) (told-out e (is_receipt_list e.list) there out) out)))

  -- where groups stay, the listings of the place of the move are all that are set
  pub alone-notes : (q : Place) → grouping_of s t ≡ grouping_of s u → with_listing (notes_of s t) q (list_held h q) ≡ notes_of s u
  alone-notes q alike = same_map listed_total listed_exact _ _ (λ e.
      listing-at (notes_of s t) q e
      ∙ unless (is_receipt_list e.list && eq_by_cmp place_cmp e.place q) (get noted_now e) (get (notes_of s t) e) (λ out.
      (notes-outside s s t u (q ∷ []) same (record { at = λ p away. ap (λ (g : Grouping). get (receipt_standings_of g) p) alike })).at e
      (listings-one e q ∙ out)))

-- ---- a note of the traffic that is put in or taken out

module _ (s : SettingsValue) (t : TrafficValue) (note : Listed) where
  abbrev standing_of : Listed → Option ReceiptStanding
  standing_of e = get (receipt_standings_of (grouping_of s t)) e.place

  abbrev by_standing : Listed → Bool
  by_standing e = is_named e.list (option_and_then list_of_standing (standing_of e))

  pub note-put : notes_of s (moved t (PutNote note)) ≡ insert (notes_of s t) note tt
  note-put = same_map listed_total listed_exact _ _ (λ e.
      note-by s (moved t (PutNote note)) e.list e.place (standing_of e) refl
      ∙ ap (λ (v : Option (Unit {0})). marked (is_some v || by_standing e)) (get-insert listed_total t.notes note tt e)
      ∙ by (eq_by_cmp listed_cmp e note) (get t.notes e) (by_standing e)
      ∙ ap (cond (eq_by_cmp listed_cmp e note) (Some tt)) (sym (note-by s t e.list e.place (standing_of e) refl))
      ∙ sym (get-insert listed_total (notes_of s t) note tt e))
    where
      by : (b : Bool) (v : Option (Unit {0})) (w : Bool) → marked (is_some (cond b (Some tt) v) || w) ≡ cond b (Some tt) (marked (is_some v || w))
      by true v w = refl
      by false v w = refl

  pub note-taken : is_traffic_list note.list ≡ true → notes_of s (moved t (TakeNote note)) ≡ remove (notes_of s t) note
  note-taken of_traffic = same_map listed_total listed_exact _ _ (λ e.
      note-by s (moved t (TakeNote note)) e.list e.place (standing_of e) refl
      ∙ ap (λ (v : Option (Unit {0})). marked (is_some v || by_standing e)) (get-remove listed_total t.notes note e)
      ∙ by (eq_by_cmp listed_cmp e note) (get t.notes e) (by_standing e) (λ here.
      never-in e.list (option_and_then list_of_standing (standing_of e)) (of-standing (standing_of e))
      (ap (λ (x : Listed). is_traffic_list x.list) (maps.same_key listed_total listed_exact e note here) ∙ of_traffic))
      ∙ ap (cond (eq_by_cmp listed_cmp e note) None) (sym (note-by s t e.list e.place (standing_of e) refl))
      ∙ sym (get-remove listed_total (notes_of s t) note e))
    where
      by : (b : Bool) (v : Option (Unit {0})) (w : Bool) → (b ≡ true → w ≡ false)
          → marked (is_some (cond b None v) || w) ≡ cond b None (marked (is_some v || w))
      by true v w none = ap marked (none refl)
      by false v w none = refl
