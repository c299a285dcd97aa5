-- What is told of standings covers the facts and the notes that a move changes, and gives them.
use Rattle.std.proofs.Common.{◌≡◌, Bool, true, false, cond, ◌||◌, List, [], ◌∷◌, Option, Some, None, refl, sym, ap, ◌∙◌}
use Rattle.std.specs.Prelude.{is_some, map, option_map, option_and_then}
use Rattle.std.specs.List.{list_any}
use Rattle.std.specs.Ordering.{eq_by_cmp}
use Rattle.std.specs.FinMap.{contains_key, get}
use Rattle.smq_kit.specs.declared.link_key.LinkKey.{LinkKey}
use Rattle.smq_kit.specs.declared.place.Place.{Place}
use Rattle.smq_kit.specs.Maps.{same_option, patched, SameOutside}
use Rattle.smq_kit.specs.Orders.{place_cmp}
use Rattle.smq_kit.proofs.Comparisons.{or_first, or_second}
use Rattle.smq_kit.proofs.MapLemmas as maps
use Rattle.smq_kit.proofs.PlaceOrders.{places_total, places_exact}
use Rattle.smq_tally.specs.declared.list.List as l
use Rattle.smq_tally.specs.Lists.{listed}
use Rattle.smq_tally.proofs.Listings.{marked}
use Rattle.smq_group.specs.declared.change.Change.{Change}
use Rattle.smq_group.specs.declared.change.Standing as told
use Rattle.smq_group.specs.declared.change.Standing.TheVariants as v
use Rattle.smq_group.specs.Changes.{TellsChanges, changed, receipt_at, same_standing, submit_at, told_at, told_of_receipt, told_of_submit}
use Rattle.smq_group.specs.Matching as matching
use Rattle.smq_group.specs.Matching.{Grouping, GroupedReceipt, receipt_standing, submit_standing}
use Rattle.smq_group.proofs.Turning.{same_at}
use Rattle.smq_present.specs.present.Settings.{SettingsValue}
use Rattle.smq_present.specs.pairing.Traffic.{Message, ReceivedReceipt, TrafficValue}
use Rattle.smq_present.specs.join.Circumstances.{circumstances, decider_in, lapsed_in, route_in, standing_in}
use Rattle.smq_present.specs.join.Facts.{fact_in_circumstances, facts_of}
use Rattle.smq_present.specs.join.Keyed.{accepted_key, grouping_of, keyed_receipt}
use Rattle.smq_present.specs.join.Listings.{is_named, list_of_standing, notes_of, receipt_listings}
use Rattle.smq_present.specs.join.Moves.{IsMove, receipt_standings_of, standings_of}
use Rattle.smq_book.specs.edits.Told.{circumstances_told, is_list_told, list_told, standing_told, told_places}
use Rattle.smq_present.proofs.lemmas.join.MoveLemmas.{fact-at, moves}
use Rattle.smq_book.proofs.lemmas.edits.KeyMoves.{chosen-outside, once}
use Rattle.smq_present.proofs.lemmas.join.ReceiptNotes.{moved-notes, note-by, notes-outside}

-- ---- standings and what is told of them

told-back : (x : matching.Standing) → standing_told (told_of_submit x) ≡ Some x
told-back (matching.Single place) = refl
told-back matching.Shared = refl

-- how a delivery receipt stands, as it is told
abbrev receipt_standing_told : told.Standing → Option matching.ReceiptStanding
receipt_standing_told (v.Single place) = None
receipt_standing_told v.Shared = Some matching.KeyShared
receipt_standing_told v.Stray = Some matching.Stray
receipt_standing_told v.Deciding = Some matching.Deciding
receipt_standing_told v.Extra = Some matching.Extra
receipt_standing_told v.Noted = Some matching.Noted

received-back : (x : matching.ReceiptStanding) → receipt_standing_told (told_of_receipt x) ≡ Some x
received-back matching.Stray = refl
received-back matching.Deciding = refl
received-back matching.Extra = refl
received-back matching.Noted = refl
received-back matching.KeyShared = refl

module _ (g : Grouping) (p : Place) where
  submit-told : get (standings_of g) p ≡ option_and_then standing_told (submit_at g p)
  submit-told = maps.get-chosen places_total places_exact (λ place key. Some (submit_standing g key)) g.submits p ∙ by (get g.submits p)
    where
      by : (x : Option LinkKey) → option_and_then (λ key. Some (submit_standing g key)) x ≡ option_and_then standing_told (option_map (λ key. told_of_submit (submit_standing g key)) x)
      by None = refl
      by (Some key) = sym (told-back (submit_standing g key))

  receipt-told : get (receipt_standings_of g) p ≡ option_and_then receipt_standing_told (receipt_at g p)
  receipt-told = maps.get-chosen places_total places_exact (λ place r. Some (receipt_standing g place r)) g.receipts p ∙ by (get g.receipts p)
    where
      by : (x : Option GroupedReceipt) → option_and_then (λ r. Some (receipt_standing g p r)) x ≡ option_and_then receipt_standing_told (option_map (λ r. told_of_receipt (receipt_standing g p r)) x)
      by None = refl
      by (Some r) = sym (received-back (receipt_standing g p r))

-- ---- what isn't told stays

one_standing : (a b : told.Standing) → same_standing a b ≡ true → a ≡ b
one_standing (v.Single a) (v.Single b) e = ap v.Single (same_at a b e)
one_standing (v.Single a) v.Shared e = absurd cc
one_standing (v.Single a) v.Stray e = absurd cc
one_standing (v.Single a) v.Deciding e = absurd cc
one_standing (v.Single a) v.Extra e = absurd cc
one_standing (v.Single a) v.Noted e = absurd cc
one_standing v.Shared (v.Single b) e = absurd cc
one_standing v.Shared v.Shared e = refl
one_standing v.Shared v.Stray e = absurd cc
one_standing v.Shared v.Deciding e = absurd cc
one_standing v.Shared v.Extra e = absurd cc
one_standing v.Shared v.Noted e = absurd cc
one_standing v.Stray (v.Single b) e = absurd cc
one_standing v.Stray v.Shared e = absurd cc
one_standing v.Stray v.Stray e = refl
one_standing v.Stray v.Deciding e = absurd cc
one_standing v.Stray v.Extra e = absurd cc
one_standing v.Stray v.Noted e = absurd cc
one_standing v.Deciding (v.Single b) e = absurd cc
one_standing v.Deciding v.Shared e = absurd cc
one_standing v.Deciding v.Stray e = absurd cc
one_standing v.Deciding v.Deciding e = refl
one_standing v.Deciding v.Extra e = absurd cc
one_standing v.Deciding v.Noted e = absurd cc
one_standing v.Extra (v.Single b) e = absurd cc
one_standing v.Extra v.Shared e = absurd cc
one_standing v.Extra v.Stray e = absurd cc
one_standing v.Extra v.Deciding e = absurd cc
one_standing v.Extra v.Extra e = refl
one_standing v.Extra v.Noted e = absurd cc
one_standing v.Noted (v.Single b) e = absurd cc
one_standing v.Noted v.Shared e = absurd cc
one_standing v.Noted v.Stray e = absurd cc
one_standing v.Noted v.Deciding e = absurd cc
one_standing v.Noted v.Extra e = absurd cc
one_standing v.Noted v.Noted e = refl

stays : (before after : Option told.Standing) → changed before after ≡ None → (after ≡ None → before ≡ None) → before ≡ after
stays before None e gone = gone refl
stays None (Some now) e gone = absurd cc
stays (Some was) (Some now) e gone = ap Some (one_standing was now (passed (same_standing was now) e))
  where
    passed : (b : Bool) → cond b None (Some now) ≡ None → b ≡ true
    passed true e = refl
    passed false e = absurd cc

untold : (p : Place) (cs : List Change) → list_any (eq_by_cmp place_cmp p) (map (λ (c : Change). c.place) cs) ≡ false → told_at p cs ≡ None
untold p [] out = refl
untold p (c ∷ cs) out =
    ap (λ b. cond b (Some c.standing) (told_at p cs)) (or_first (eq_by_cmp place_cmp p c.place) _ out)
    ∙ untold p cs (or_second (eq_by_cmp place_cmp p c.place) _ out)

none_of : {X Y : Type 0} (f : X → Y) (x : Option X) → option_map f x ≡ None → x ≡ None
none_of f None e = refl
none_of f (Some x) e = absurd cc

or_false : (b : Bool) → b ≡ false → (b || false) ≡ false
or_false true e = e
or_false false e = refl

module _ (q : Place) (g h : Grouping) (cs : List Change) (tells : TellsChanges g h cs) where
  submits-covered : SameOutside (q ∷ []) g.submits h.submits → SameOutside (told_places q tells.submits) (standings_of g) (standings_of h)
  submits-covered same = record {
    at = λ p out.
        let there : get g.submits p ≡ get h.submits p = same.at p (or_false (eq_by_cmp place_cmp p q) (or_first (eq_by_cmp place_cmp p q) _ out)) in
        let none : told_at p tells.submits ≡ None = untold p tells.submits (or_second (eq_by_cmp place_cmp p q) _ out) in
        submit-told g p
        ∙ ap (option_and_then standing_told) (stays (submit_at g p) (submit_at h p) (sym (tells.each_submit p) ∙ none) (λ gone.
        ap (option_map (λ (key : LinkKey). told_of_submit (submit_standing g key))) (there ∙ none_of (λ (key : LinkKey). told_of_submit (submit_standing h key)) (get h.submits p) gone)))
        ∙ sym (submit-told h p);
  }

  receipts-covered : SameOutside (q ∷ []) g.receipts h.receipts → SameOutside (told_places q tells.receipts) (receipt_standings_of g) (receipt_standings_of h)
  receipts-covered same = record {
    at = λ p out.
        let there : get g.receipts p ≡ get h.receipts p = same.at p (or_false (eq_by_cmp place_cmp p q) (or_first (eq_by_cmp place_cmp p q) _ out)) in
        let none : told_at p tells.receipts ≡ None = untold p tells.receipts (or_second (eq_by_cmp place_cmp p q) _ out) in
        receipt-told g p
        ∙ ap (option_and_then receipt_standing_told) (stays (receipt_at g p) (receipt_at h p) (sym (tells.each_receipt p) ∙ none) (λ gone.
        ap (option_map (λ (r : GroupedReceipt). told_of_receipt (receipt_standing g p r))) (there ∙ none_of (λ (r : GroupedReceipt). told_of_receipt (receipt_standing h p r)) (get h.receipts p) gone)))
        ∙ sym (receipt-told h p);
  }

module _ (s : SettingsValue) (q : Place) (t u : TrafficValue) (cs : List Change) (tells : TellsChanges (grouping_of s t) (grouping_of s u) cs) (move : IsMove q t u) where
  abbrev before : Grouping
  before = grouping_of s t

  abbrev after : Grouping
  after = grouping_of s u

  -- facts change at the place of the move and at those of which it tells
  pub facts-covered : SameOutside (told_places q tells.submits) (facts_of s t) (facts_of s u)
  facts-covered = record {
    at = λ p out.
        (moves q t u move s (told_places q tells.submits)
        (submits-covered q before after cs tells (chosen-outside (q ∷ []) (λ place m. accepted_key s m) t.messages u.messages move.messages))).at p
        (once q p (map (λ (c : Change). c.place) tells.submits) out);
  }

  pub facts-patched : patched (facts_of s t) (get (facts_of s u)) (told_places q tells.submits) ≡ facts_of s u
  facts-patched = maps.patched-is places_total places_exact (told_places q tells.submits) (facts_of s t) (facts_of s u) facts-covered

  groups-covered : SameOutside (told_places q tells.receipts) (receipt_standings_of before) (receipt_standings_of after)
  groups-covered = receipts-covered q before after cs tells (chosen-outside (q ∷ []) (λ place r. Some (keyed_receipt s r)) t.receipts u.receipts move.receipts)

  -- and so do notes, in the lists of receipts
  pub notes-covered : t.notes ≡ u.notes → SameOutside (receipt_listings (told_places q tells.receipts)) (notes_of s t) (notes_of s u)
  notes-covered same = notes-outside s s t u (told_places q tells.receipts) same groups-covered

  pub notes-patched : t.notes ≡ u.notes → patched (notes_of s t) (get (notes_of s u)) (receipt_listings (told_places q tells.receipts)) ≡ notes_of s u
  notes-patched same = moved-notes s s t u (told_places q tells.receipts) same groups-covered

-- ---- what is told is how it stands

now-at : (before after : Option told.Standing) (standing : told.Standing) → changed before after ≡ Some standing → after ≡ Some standing
now-at before None standing e = absurd cc
now-at before (Some now) standing e = by (same_option same_standing before (Some now)) e
  where
    by : (b : Bool) → cond b None (Some now) ≡ Some standing → Some now ≡ Some standing
    by true e = absurd cc
    by false e = e

told-list : (standing : told.Standing) → option_and_then list_of_standing (receipt_standing_told standing) ≡ list_told standing
told-list v.Stray = refl
told-list _ = refl

module _ (s : SettingsValue) (g : Grouping) (u : TrafficValue) (cs : List Change) (tells : TellsChanges g (grouping_of s u) cs) (p : Place) (standing : told.Standing) where
  abbrev h : Grouping
  h = grouping_of s u

  standing-by : (key : Option LinkKey) → option_map (λ key. told_of_submit (submit_standing h key)) key ≡ Some standing → option_map (submit_standing h) key ≡ standing_told standing
  standing-by None e = absurd cc
  standing-by (Some key) e =
      let one : told_of_submit (submit_standing h key) ≡ standing = cc in
      sym (told-back (submit_standing h key)) ∙ ap standing_told one

  standing-is : told_at p tells.submits ≡ Some standing → (m : Message) → get u.messages p ≡ Some m → standing_in h s m ≡ standing_told standing
  standing-is is m there = standing-by (accepted_key s m)
      (ap (option_map (λ (key : LinkKey). told_of_submit (submit_standing h key)))
      (sym (maps.get-chosen places_total places_exact (λ place m. accepted_key s m) u.messages p ∙ ap (option_and_then (accepted_key s)) there))
      ∙ now-at (submit_at g p) (submit_at h p) standing (sym (tells.each_submit p) ∙ is))

  -- the fact is that of the circumstances that are told
  pub fact-told : told_at p tells.submits ≡ Some standing → get (facts_of s u) p ≡ option_map (λ m. fact_in_circumstances p m (circumstances_told s u m standing)) (get u.messages p)
  fact-told is = fact-at s u p ∙ by (get u.messages p) refl
    where
      by : (x : Option Message) → get u.messages p ≡ x → option_map (λ m. fact_in_circumstances p m (circumstances s u m)) x ≡ option_map (λ m. fact_in_circumstances p m (circumstances_told s u m standing)) x
      by None there = refl
      by (Some m) there = λ i. Some (fact_in_circumstances p m (record {
        standing = standing-is is m there i;
        decider = decider_in u (standing-is is m there i);
        route = route_in s.versions m;
        lapsed = lapsed_in s m;
      }))

  -- the lists are that which is told, and those that the traffic notes
  pub note-told : (list : l.List) → told_at p tells.receipts ≡ Some standing → get (notes_of s u) (listed list p) ≡ marked (contains_key u.notes (listed list p) || is_list_told standing list)
  note-told list is =
      note-by s u list p (receipt_standing_told standing)
      (receipt-told h p ∙ ap (option_and_then receipt_standing_told) (now-at (receipt_at g p) (receipt_at h p) standing (sym (tells.each_receipt p) ∙ is)))
      ∙ ap (λ x. marked (contains_key u.notes (listed list p) || is_named list x)) (told-list standing)

-- ---- where no delivery receipt stands

or_none : (b : Bool) → (b || false) ≡ b
or_none true = refl
or_none false = refl

marked-back : (x : Option (Unit {0})) → marked (is_some x) ≡ x
marked-back None = refl
marked-back (Some x) = refl

-- notes are the traffic's
pub note-alone : (s : SettingsValue) (u : TrafficValue) (p : Place) (list : l.List) → get u.receipts p ≡ None → get (notes_of s u) (listed list p) ≡ get u.notes (listed list p)
note-alone s u p list none =
    note-by s u list p None (receipt-told (grouping_of s u) p
    ∙ ap (λ (x : Option GroupedReceipt). option_and_then receipt_standing_told (option_map (λ r. told_of_receipt (receipt_standing (grouping_of s u) p r)) x))
    (maps.get-chosen places_total places_exact (λ place r. Some (keyed_receipt s r)) u.receipts p ∙ ap (option_and_then (λ (r : ReceivedReceipt). Some (keyed_receipt s r))) none))
    ∙ ap marked (or_none (contains_key u.notes (listed list p)))
    ∙ marked-back (get u.notes (listed list p))
