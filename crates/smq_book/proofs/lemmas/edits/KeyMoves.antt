-- What is put in or taken out at one place changes the standings of its own key alone.
use Rattle.std.proofs.Common.{◌≡◌, ◌≢◌, ℕ, Bool, true, false, cond, ◌||◌, List, [], ◌∷◌, Option, Some, None, refl, sym, ap, ◌∙◌}
use Rattle.std.specs.Prelude.{◌==◌, ◌&&◌, not, if◌then◌else◌, map, filter, count_by, option_map, option_and_then}
use Rattle.std.specs.List.{list_any, reduce}
use Rattle.std.specs.Ordering.{eq_by_cmp}
use Rattle.std.specs.FinMap.{FinMap, entries, get, insert, remove, keys, get-insert, get-remove, same_map}
use Rattle.std.proofs.lemmas.Bool.{false≢true}
use Rattle.smq_kit.specs.declared.link_key.LinkKey.{LinkKey}
use Rattle.smq_kit.specs.declared.place.Place.{Place}
use Rattle.smq_kit.specs.LinkKeys.{same_key}
use Rattle.smq_kit.specs.Maps.{chosen, same_option, SameOutside}
use Rattle.smq_kit.specs.Orders.{place_cmp}
use Rattle.smq_kit.proofs.Comparisons.{or_first, or_second}
use Rattle.smq_kit.proofs.MapLemmas as maps
use Rattle.smq_kit.proofs.PlaceOrders.{places_total, places_exact}
use Rattle.smq_group.specs.Matching.{Grouping, GroupedReceipt, Candidate, ReceiptStanding, Single, Shared, Stray, KeyShared, Deciding, Extra, Noted, decider, earlier, matches, receipt_standing, submit_standing}
use Rattle.smq_present.specs.join.Moves.{standings_of, receipt_standings_of, IsMove}
use Rattle.smq_present.specs.present.Settings.{SettingsValue}
use Rattle.smq_present.specs.pairing.Traffic.{TrafficValue, Message, ReceivedReceipt}
use Rattle.smq_present.specs.join.Facts.{facts_of}
use Rattle.smq_present.specs.join.Keyed.{accepted_key, receipt_key, keyed_receipt, grouping_of}
use Rattle.smq_present.specs.join.Listings.{receipt_listings, notes_of}
use Rattle.smq_book.specs.edits.Reached.{key_submits, key_receipts, IsMoveOf}
use Rattle.smq_book.proofs.lemmas.edits.FormEdits.{count-passing}
use Rattle.smq_group.proofs.Earliest.{own_key}
use Rattle.smq_group.proofs.MatchingLemmas.{failing}
use Rattle.smq_present.proofs.lemmas.join.MoveLemmas.{moves}
use Rattle.smq_book.proofs.lemmas.edits.Passing.{passing-at}
use Rattle.smq_present.proofs.lemmas.join.ReceiptNotes.{notes-outside}

or_false : (b : Bool) → b ≡ false → (b || false) ≡ false
or_false true e = e
or_false false e = refl

-- ---- outside of places

-- what is chosen of each entry stays where the entries stay
pub chosen-outside : {X Y : Type 0} (ks : List Place) (f : Place → X → Option Y) (m n : FinMap place_cmp X) → SameOutside ks m n → SameOutside ks (chosen f m) (chosen f n)
chosen-outside ks f m n same = record {
  at = λ p out. maps.get-chosen places_total places_exact f m p ∙ ap (option_and_then (f p)) (same.at p out) ∙ sym (maps.get-chosen places_total places_exact f n p);
}

-- a place that isn't among some isn't where the first of them stands twice
pub once : (q p : Place) (ks : List Place) → list_any (eq_by_cmp place_cmp p) (q ∷ ks) ≡ false → list_any (eq_by_cmp place_cmp p) (q ∷ q ∷ ks) ≡ false
once q p ks out = by (eq_by_cmp place_cmp p q) out
  where
    by : (b : Bool) → (b || list_any (eq_by_cmp place_cmp p) ks) ≡ false → (b || (b || list_any (eq_by_cmp place_cmp p) ks)) ≡ false
    by true e = e
    by false e = e

-- ---- what fails a test is put in or taken out

module _ {X : Type 0} (p : Place × X → Bool) (q : Place) where
  removed : (m : FinMap place_cmp X) (x : Option X) → get m q ≡ x → ((v : X) → x ≡ Some v → p (q, v) ≡ false) → filter p (entries m) ≡ filter p (entries (remove m q))
  removed m None is fails = ap (λ n. filter p (entries n)) (same_map places_total places_exact m (remove m q) (λ k. by k (eq_by_cmp place_cmp k q) refl ∙ sym (get-remove places_total m q k)))
    where
      by : (k : Place) (b : Bool) → eq_by_cmp place_cmp k q ≡ b → get m k ≡ cond b None (get m k)
      by k true t = ap (get m) (maps.same_key places_total places_exact k q t) ∙ is
      by k false t = refl
  removed m (Some v) is fails =
      ap (λ n. filter p (entries n)) (same_map places_total places_exact m (insert (remove m q) q v) (λ k.
      by k (eq_by_cmp place_cmp k q) refl
      ∙ ap (cond (eq_by_cmp place_cmp k q) (Some v)) (sym (get-remove places_total m q k))
      ∙ sym (get-insert places_total (remove m q) q v k)))
      ∙ maps.filter-insert places_total places_exact p (remove m q) q v (maps.get-removed places_total places_exact m q) (fails v refl)
    where
      by : (k : Place) (b : Bool) → eq_by_cmp place_cmp k q ≡ b → get m k ≡ cond b (Some v) (cond b None (get m k))
      by k true t = ap (get m) (maps.same_key places_total places_exact k q t) ∙ is
      by k false t = refl

  filter-outside : (m n : FinMap place_cmp X) → SameOutside (q ∷ []) m n → ((v : X) → get m q ≡ Some v → p (q, v) ≡ false) → ((v : X) → get n q ≡ Some v → p (q, v) ≡ false)
      → filter p (entries m) ≡ filter p (entries n)
  filter-outside m n same before after =
      removed m (get m q) refl before
      ∙ ap (λ k. filter p (entries k)) (same_map places_total places_exact (remove m q) (remove n q) (λ k.
      get-remove places_total m q k ∙ by k (eq_by_cmp place_cmp k q) refl ∙ sym (get-remove places_total n q k)))
      ∙ sym (removed n (get n q) refl after)
    where
      by : (k : Place) (b : Bool) → eq_by_cmp place_cmp k q ≡ b → cond b None (get m k) ≡ cond b None (get n k)
      by k true t = refl
      by k false t = same.at k (or_false (eq_by_cmp place_cmp k q) t)

-- ---- other keys

module _ (key : LinkKey) (q : Place) (g h : Grouping) (move : IsMoveOf key q g h) where
  module _ (other : LinkKey) (apart : other ≢ key) where
    not-other : (k : LinkKey) → k ≡ key → same_key other k ≡ false
    not-other k is = failing other k (same_key other k) refl (λ same. apart (same ∙ is))

    pub matches-stay : matches g other ≡ matches h other
    matches-stay =
        count-passing (same_key other) (entries g.submits)
        ∙ ap (λ (es : List (Place × LinkKey)). count_by (same_key other) (map (λ e. e.1) es))
        (filter-outside (λ e. same_key other e.1) q g.submits h.submits move.submits (λ v is. not-other v (move.submit_before v is)) (λ v is. not-other v (move.submit_after v is)))
        ∙ sym (count-passing (same_key other) (entries h.submits))

    pub decider-stays : decider g other ≡ decider h other
    decider-stays =
        ap (λ (es : List (Place × GroupedReceipt)). option_map (λ (c : Candidate). c.1) (reduce earlier (map (λ e. (e.1.moment, e.0)) es)))
        (filter-outside (λ e. same_key other e.1.key && e.1.decides) q g.receipts h.receipts move.receipts
        (λ v is. ap (λ b. b && v.decides) (not-other v.key (move.receipt_before v is))) (λ v is. ap (λ b. b && v.decides) (not-other v.key (move.receipt_after v is))))

    pub submit-stays : submit_standing g other ≡ submit_standing h other
    submit-stays = λ i. cond (matches-stay i == 1) (Single (decider-stays i)) Shared

  receipt-stays : (place : Place) (r : GroupedReceipt) → r.key ≢ key → receipt_standing g place r ≡ receipt_standing h place r
  receipt-stays place r apart = λ i. standing (matches-stay r.key apart i) (decider-stays r.key apart i)
    where
      standing : ℕ → Option Place → ReceiptStanding
      standing n d = if n == 0 then Stray else if not (n == 1) then KeyShared else if same_option (eq_by_cmp place_cmp) d (Some place) then Deciding else if r.decides then Extra else Noted

  another : (k : LinkKey) → same_key key k ≡ false → k ≢ key
  another k e same = false≢true (sym e ∙ ap (same_key key) same ∙ own_key key)

  submit-by : (p : Place) (x : Option LinkKey) → get g.submits p ≡ x → list_any (eq_by_cmp place_cmp p) (keys (key_submits g key)) ≡ false
      → option_and_then (λ k. Some (submit_standing g k)) x ≡ option_and_then (λ k. Some (submit_standing h k)) x
  submit-by p None is out = refl
  submit-by p (Some k) is out = ap Some (submit-stays k (another k (sym (passing-at (λ place k. same_key key k) g.submits p k is) ∙ out)))

  receipt-by : (p : Place) (x : Option GroupedReceipt) → get g.receipts p ≡ x → list_any (eq_by_cmp place_cmp p) (keys (key_receipts g key)) ≡ false
      → option_and_then (λ r. Some (receipt_standing g p r)) x ≡ option_and_then (λ r. Some (receipt_standing h p r)) x
  receipt-by p None is out = refl
  receipt-by p (Some r) is out = ap Some (receipt-stays p r (another r.key (sym (passing-at (λ place (r : GroupedReceipt). same_key key r.key) g.receipts p r is) ∙ out)))

  pub groups-outside : SameOutside (q ∷ keys (key_submits g key)) (standings_of g) (standings_of h)
  groups-outside = record {
    at = λ p out.
        maps.get-chosen places_total places_exact (λ place k. Some (submit_standing g k)) g.submits p
        ∙ submit-by p (get g.submits p) refl (or_second (eq_by_cmp place_cmp p q) _ out)
        ∙ ap (option_and_then (λ k. Some (submit_standing h k))) (move.submits.at p (or_false (eq_by_cmp place_cmp p q) (or_first (eq_by_cmp place_cmp p q) _ out)))
        ∙ sym (maps.get-chosen places_total places_exact (λ place k. Some (submit_standing h k)) h.submits p);
  }

  pub receipt-groups-outside : SameOutside (q ∷ keys (key_receipts g key)) (receipt_standings_of g) (receipt_standings_of h)
  receipt-groups-outside = record {
    at = λ p out.
        maps.get-chosen places_total places_exact (λ place r. Some (receipt_standing g place r)) g.receipts p
        ∙ receipt-by p (get g.receipts p) refl (or_second (eq_by_cmp place_cmp p q) _ out)
        ∙ ap (option_and_then (λ r. Some (receipt_standing h p r))) (move.receipts.at p (or_false (eq_by_cmp place_cmp p q) (or_first (eq_by_cmp place_cmp p q) _ out)))
        ∙ sym (maps.get-chosen places_total places_exact (λ place r. Some (receipt_standing h place r)) h.receipts p);
  }

-- ---- a message or a receipt that is put in or taken out

module _ (s : SettingsValue) (q : Place) (t u : TrafficValue) (key : LinkKey) (move : IsMove q t u) where
  -- what is of the key, if it is there
  abbrev MessageOf : Option Message → Type 0
  MessageOf found = (m : Message) (k : LinkKey) → found ≡ Some m → accepted_key s m ≡ Some k → k ≡ key

  abbrev ReceiptOf : Option ReceivedReceipt → Type 0
  ReceiptOf found = (r : ReceivedReceipt) → found ≡ Some r → receipt_key s r ≡ key

  message-of : (found : Option Message) (k : LinkKey) → MessageOf found → option_and_then (accepted_key s) found ≡ Some k → k ≡ key
  message-of None k h e = absurd cc
  message-of (Some m) k h e = h m k refl e

  receipt-of : (found : Option ReceivedReceipt) (g : GroupedReceipt) → ReceiptOf found → option_and_then (λ r. Some (keyed_receipt s r)) found ≡ Some g → g.key ≡ key
  receipt-of None g h e = absurd cc
  receipt-of (Some r) g h e = let one : keyed_receipt s r ≡ g = cc in ap (λ (g : GroupedReceipt). g.key) (sym one) ∙ h r refl

  submit-at : (w : TrafficValue) → get (grouping_of s w).submits q ≡ option_and_then (accepted_key s) (get w.messages q)
  submit-at w = maps.get-chosen places_total places_exact (λ place m. accepted_key s m) w.messages q

  received-at : (w : TrafficValue) → get (grouping_of s w).receipts q ≡ option_and_then (λ r. Some (keyed_receipt s r)) (get w.receipts q)
  received-at w = maps.get-chosen places_total places_exact (λ place r. Some (keyed_receipt s r)) w.receipts q

  module _ (message_before : MessageOf (get t.messages q)) (message_after : MessageOf (get u.messages q)) (receipt_before : ReceiptOf (get t.receipts q)) (receipt_after : ReceiptOf (get u.receipts q)) where
    pub move-of : IsMoveOf key q (grouping_of s t) (grouping_of s u)
    move-of = record {
      submits = chosen-outside (q ∷ []) (λ place m. accepted_key s m) t.messages u.messages move.messages;
      receipts = chosen-outside (q ∷ []) (λ place r. Some (keyed_receipt s r)) t.receipts u.receipts move.receipts;
      submit_before = λ k e. message-of (get t.messages q) k message_before (sym (submit-at t) ∙ e);
      submit_after = λ k e. message-of (get u.messages q) k message_after (sym (submit-at u) ∙ e);
      receipt_before = λ r e. receipt-of (get t.receipts q) r receipt_before (sym (received-at t) ∙ e);
      receipt_after = λ r e. receipt-of (get u.receipts q) r receipt_after (sym (received-at u) ∙ e);
    }

    abbrev g : Grouping
    g = grouping_of s t

    -- facts change at the place and at those of the messages that are accepted with the key
    pub key-facts : SameOutside (q ∷ keys (key_submits g key)) (facts_of s t) (facts_of s u)
    key-facts = record {
      at = λ p out. (moves q t u move s (q ∷ keys (key_submits g key)) (groups-outside key q g (grouping_of s u) move-of)).at p (once q p (keys (key_submits g key)) out);
    }

    -- notes change at the place and at those of the key's receipts
    pub key-notes : t.notes ≡ u.notes → SameOutside (receipt_listings (q ∷ keys (key_receipts g key))) (notes_of s t) (notes_of s u)
    key-notes same = notes-outside s s t u (q ∷ keys (key_receipts g key)) same (receipt-groups-outside key q g (grouping_of s u) move-of)
