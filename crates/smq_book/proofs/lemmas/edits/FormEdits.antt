-- The forms of a link leave the facts of other links' messages, and the notes of other links' receipts.
use Rattle.std.proofs.Common.{◌≡◌, ◌≢◌, ℕ, Bool, true, false, cond, List, [], ◌∷◌, ◌++◌, Option, Some, None, refl, sym, ap, ◌∙◌, zero-add}
use Rattle.std.specs.Prelude.{◌+◌, ◌==◌, ◌&&◌, not, if◌then◌else◌, map, filter, count_by, option_map, option_and_then, option_to_list}
use Rattle.std.specs.List.{flat_map, list_any, reduce}
use Rattle.std.specs.Ordering.{eq_by_cmp}
use Rattle.std.specs.FinMap.{entries, get, keys}
use Rattle.std.proofs.lemmas.Bool.{eqb-true, eqb-false}
use Rattle.std.proofs.lemmas.List.Elements.{filter-append}
use Rattle.std.proofs.lemmas.List.Sums.{sum_by-cons}
use Rattle.smq_kit.specs.declared.message_id.Form.{Form}
use Rattle.smq_kit.specs.declared.link_key.LinkKey.{LinkKey}
use Rattle.smq_kit.specs.declared.names.LinkId.{LinkId}
use Rattle.smq_kit.specs.declared.place.Place.{Place}
use Rattle.smq_kit.specs.LinkKeys.{link_key, same_key}
use Rattle.smq_kit.specs.Maps.{kept_of, same_option, SameOutside}
use Rattle.smq_kit.specs.Orders.{place_cmp}
use Rattle.smq_kit.proofs.MapLemmas as maps
use Rattle.smq_kit.proofs.PlaceOrders.{places_total, places_exact}
use Rattle.smq_present.specs.declared.present.forms.Forms.{Forms}
use Rattle.smq_present.specs.present.Settings.{SettingsValue, forms_of}
use Rattle.smq_present.specs.pairing.Traffic.{TrafficValue, Message, ReceivedReceipt}
use Rattle.smq_present.specs.join.Circumstances.{circumstances, standing_in, decider_in, route_in, lapsed_in}
use Rattle.smq_present.specs.join.Facts.{facts_of}
use Rattle.smq_present.specs.join.Keyed.{accepted_id, accepted_key, keyed_receipt, receipt_key, can_decide, grouping_of}
use Rattle.smq_present.specs.join.Listings.{receipt_listings, notes_of}
use Rattle.smq_group.specs.Matching.{GroupedReceipt, Candidate, Single, Shared, ReceiptStanding, decider, earlier, matches, receipt_standing, submit_standing, Stray, KeyShared, Deciding, Extra, Noted}
use Rattle.smq_present.specs.join.Moves.{receipt_standings_of}
use Rattle.smq_book.specs.edits.Reached.{link_messages, link_receipts}
use Rattle.smq_group.proofs.MatchingLemmas.{failing}
use Rattle.smq_present.proofs.lemmas.join.MoveLemmas.{frame}
use Rattle.smq_book.proofs.lemmas.edits.Passing.{passing-at}
use Rattle.smq_present.proofs.lemmas.join.ReceiptNotes.{notes-outside}

-- a number of values is that of those that pass
pub count-passing : {X : Type 0} (test : X → Bool) (es : List (Place × X)) → count_by test (map (λ e. e.1) es) ≡ count_by test (map (λ e. e.1) (filter (λ e. test e.1) es))
count-passing test [] = refl
count-passing test (e ∷ es) =
    sum_by-cons (λ x. cond (test x) 1 0) e.1 (map (λ e. e.1) es)
    ∙ elim (test e.1) as (λ b. test e.1 ≡ b → cond (test e.1) 1 0 + count_by test (map (λ e. e.1) es) ≡ count_by test (map (λ e. e.1) (cond b (e ∷ filter (λ e. test e.1) es) (filter (λ e. test e.1) es)))) [
      | true ↦ λ t. ap (λ n. cond (test e.1) 1 0 + n) (count-passing test es) ∙ sym (sum_by-cons (λ x. cond (test x) 1 0) e.1 (map (λ e. e.1) (filter (λ e. test e.1) es)))
      | false ↦ λ t. ap (λ b. cond b 1 0 + count_by test (map (λ e. e.1) es)) t ∙ zero-add (count_by test (map (λ e. e.1) es)) ∙ count-passing test es
    ] refl

-- where two functions give each entry the same of what passes, so do they all entries
filter-alike : {X Y : Type 0} (p : Place × Y → Bool) (f g : Place → X → Option Y) (es : List (Place × X)) → ((e : Place × X) → filter p (kept_of f e) ≡ filter p (kept_of g e))
    → filter p (flat_map (kept_of f) es) ≡ filter p (flat_map (kept_of g) es)
filter-alike p f g [] h = refl
filter-alike p f g (e ∷ es) h =
    filter-append p (kept_of f e) (flat_map (kept_of f) es)
    ∙ (λ i. h e i ++ filter-alike p f g es h i)
    ∙ sym (filter-append p (kept_of g e) (flat_map (kept_of g) es))

same_link : (a b : LinkId) → (a.0 == b.0) ≡ true → a ≡ b
same_link a b e = λ i. record { 0 = eqb-true a.0 b.0 e i }

pub other_link : (a b : LinkId) → (a.0 == b.0) ≡ false → a ≢ b
other_link a b e same = eqb-false a.0 b.0 e (ap (λ (l : LinkId). l.0) same)

module _ (s z : SettingsValue) (link : LinkId) (others : (l : LinkId) → l ≢ link → forms_of s l ≡ forms_of z l) where
  message-key : (m : Message) → m.link ≢ link → accepted_key s m ≡ accepted_key z m
  message-key m h = ap (λ (forms : Forms). option_map (link_key m.link forms.response) (accepted_id m.response)) (others m.link h)

  receipt-keyed : (r : ReceivedReceipt) → r.link ≢ link → keyed_receipt s r ≡ keyed_receipt z r
  receipt-keyed r h = λ i. record { key = link_key r.link ((others r.link h) i).receipt r.receipt.id; moment = r.moment; decides = can_decide r.receipt }

  -- ---- keys of another link

  module _ (key : LinkKey) (apart : key.link ≢ link) where
    -- a key of the link isn't this one
    not-this : (of : LinkId) (form : Form) (id : List ℕ) → of ≡ link → same_key key (link_key of form id) ≡ false
    not-this of form id e = failing key (link_key of form id) (same_key key (link_key of form id)) refl (λ is. apart (ap (λ (k : LinkKey). k.link) is ∙ e))

    abbrev accepted : Place × LinkKey → Bool
    accepted e = same_key key e.1

    abbrev can : Place × GroupedReceipt → Bool
    can e = same_key key e.1.key && e.1.decides

    none-accepted : (place : Place) (m : Message) (of : Option (List ℕ)) (form : Form) → m.link ≡ link → filter accepted (map (λ k. (place, k)) (option_to_list (option_map (link_key m.link form) of))) ≡ []
    none-accepted place m None form e = refl
    none-accepted place m (Some id) form e = ap (λ b. cond b ((place, link_key m.link form id) ∷ []) []) (not-this m.link form id e)

    accepted-alike : (e : Place × Message) → filter accepted (kept_of (λ place m. accepted_key s m) e) ≡ filter accepted (kept_of (λ place m. accepted_key z m) e)
    accepted-alike e = by (e.1.link.0 == link.0) refl
      where
        by : (b : Bool) → (e.1.link.0 == link.0) ≡ b → filter accepted (kept_of (λ place m. accepted_key s m) e) ≡ filter accepted (kept_of (λ place m. accepted_key z m) e)
        by true t =
            none-accepted e.0 e.1 (accepted_id e.1.response) (forms_of s e.1.link).response (same_link e.1.link link t)
            ∙ sym (none-accepted e.0 e.1 (accepted_id e.1.response) (forms_of z e.1.link).response (same_link e.1.link link t))
        by false t = ap (λ k. filter accepted (map (λ k. (e.0, k)) (option_to_list k))) (message-key e.1 (other_link e.1.link link t))

    none-can : (w : SettingsValue) (e : Place × ReceivedReceipt) → e.1.link ≡ link → filter can (kept_of (λ place r. Some (keyed_receipt w r)) e) ≡ []
    none-can w e is = ap (λ b. cond (b && can_decide e.1.receipt) ((e.0, keyed_receipt w e.1) ∷ []) []) (not-this e.1.link (forms_of w e.1.link).receipt e.1.receipt.id is)

    can-alike : (e : Place × ReceivedReceipt) → filter can (kept_of (λ place r. Some (keyed_receipt s r)) e) ≡ filter can (kept_of (λ place r. Some (keyed_receipt z r)) e)
    can-alike e = by (e.1.link.0 == link.0) refl
      where
        by : (b : Bool) → (e.1.link.0 == link.0) ≡ b → filter can (kept_of (λ place r. Some (keyed_receipt s r)) e) ≡ filter can (kept_of (λ place r. Some (keyed_receipt z r)) e)
        by true t = none-can s e (same_link e.1.link link t) ∙ sym (none-can z e (same_link e.1.link link t))
        by false t = ap (λ (k : GroupedReceipt). filter can ((e.0, k) ∷ [])) (receipt-keyed e.1 (other_link e.1.link link t))

    module _ (t : TrafficValue) where
      pub matches-stay : matches (grouping_of s t) key ≡ matches (grouping_of z t) key
      matches-stay =
          count-passing (same_key key) (entries (grouping_of s t).submits)
          ∙ ap (λ (es : List (Place × LinkKey)). count_by (same_key key) (map (λ e. e.1) es))
          (ap (filter accepted) (maps.entries-chosen places_total places_exact (λ place m. accepted_key s m) t.messages)
          ∙ filter-alike accepted (λ place m. accepted_key s m) (λ place m. accepted_key z m) (entries t.messages) accepted-alike
          ∙ sym (ap (filter accepted) (maps.entries-chosen places_total places_exact (λ place m. accepted_key z m) t.messages)))
          ∙ sym (count-passing (same_key key) (entries (grouping_of z t).submits))

      pub decider-stays : decider (grouping_of s t) key ≡ decider (grouping_of z t) key
      decider-stays =
          ap (λ (es : List (Place × GroupedReceipt)). option_map (λ (c : Candidate). c.1) (reduce earlier (map (λ e. (e.1.moment, e.0)) es)))
          (ap (filter can) (maps.entries-chosen places_total places_exact (λ place r. Some (keyed_receipt s r)) t.receipts)
          ∙ filter-alike can (λ place r. Some (keyed_receipt s r)) (λ place r. Some (keyed_receipt z r)) (entries t.receipts) can-alike
          ∙ sym (ap (filter can) (maps.entries-chosen places_total places_exact (λ place r. Some (keyed_receipt z r)) t.receipts)))

      pub submit-standing-stays : submit_standing (grouping_of s t) key ≡ submit_standing (grouping_of z t) key
      submit-standing-stays = λ i. cond (matches-stay i == 1) (Single (decider-stays i)) Shared

      pub receipt-standing-stays : (place : Place) (r : GroupedReceipt) → r.key ≡ key → receipt_standing (grouping_of s t) place r ≡ receipt_standing (grouping_of z t) place r
      receipt-standing-stays place r is =
          ap (λ k. standing (matches (grouping_of s t) k) (decider (grouping_of s t) k)) is
          ∙ (λ i. standing (matches-stay i) (decider-stays i))
          ∙ sym (ap (λ k. standing (matches (grouping_of z t) k) (decider (grouping_of z t) k)) is)
        where
          standing : ℕ → Option Place → ReceiptStanding
          standing n d = if n == 0 then Stray else if not (n == 1) then KeyShared else if same_option (eq_by_cmp place_cmp) d (Some place) then Deciding else if r.decides then Extra else Noted

  -- ---- messages and receipts of other links

  module _ (t : TrafficValue) (windows : s.windows ≡ z.windows) (versions : s.versions ≡ z.versions) (clock : s.clock ≡ z.clock) where
    standing-by : (m : Message) (id : Option (List ℕ)) → m.link ≢ link
        → option_map (submit_standing (grouping_of s t)) (option_map (link_key m.link (forms_of s m.link).response) id)
        ≡ option_map (submit_standing (grouping_of z t)) (option_map (link_key m.link (forms_of z m.link).response) id)
    standing-by m None h = refl
    standing-by m (Some id) h =
        ap Some (submit-standing-stays (link_key m.link (forms_of s m.link).response id) h t)
        ∙ ap (λ (forms : Forms). Some (submit_standing (grouping_of z t) (link_key m.link forms.response id))) (others m.link h)

    circumstances-stay : (m : Message) → m.link ≢ link → circumstances s t m ≡ circumstances z t m
    circumstances-stay m h =
        let standing : standing_in (grouping_of s t) s m ≡ standing_in (grouping_of z t) z m = standing-by m (accepted_id m.response) h in
        λ i. record {
          standing = standing i;
          decider = decider_in t (standing i);
          route = route_in (versions i) m;
          lapsed = lapsed_in (record s { windows = windows i; clock = clock i }) m;
        }

    -- facts stay outside of the link's messages
    pub facts-outside : SameOutside (keys (link_messages link t)) (facts_of s t) (facts_of z t)
    facts-outside = record {
      at = λ q out. frame s z t t q refl (λ m is.
          circumstances-stay m (other_link m.link link (sym (passing-at (λ place (m : Message). m.link.0 == link.0) t.messages q m is) ∙ out)));
    }

    receipt-stays : (q : Place) (r : Option ReceivedReceipt) → get t.receipts q ≡ r → list_any (eq_by_cmp place_cmp q) (keys (link_receipts link t)) ≡ false
        → option_and_then (λ r. Some (receipt_standing (grouping_of s t) q r)) (option_and_then (λ r. Some (keyed_receipt s r)) r)
        ≡ option_and_then (λ r. Some (receipt_standing (grouping_of z t) q r)) (option_and_then (λ r. Some (keyed_receipt z r)) r)
    receipt-stays q None is out = refl
    receipt-stays q (Some r) is out =
        let h : r.link ≢ link = other_link r.link link (sym (passing-at (λ place (r : ReceivedReceipt). r.link.0 == link.0) t.receipts q r is) ∙ out) in
        ap Some (receipt-standing-stays (receipt_key s r) h t q (keyed_receipt s r) refl
        ∙ ap (receipt_standing (grouping_of z t) q) (receipt-keyed r h))

    receipt-at : (w : SettingsValue) (q : Place) → get (receipt_standings_of (grouping_of w t)) q
        ≡ option_and_then (λ r. Some (receipt_standing (grouping_of w t) q r)) (option_and_then (λ r. Some (keyed_receipt w r)) (get t.receipts q))
    receipt-at w q =
        maps.get-chosen places_total places_exact (λ place r. Some (receipt_standing (grouping_of w t) place r)) (grouping_of w t).receipts q
        ∙ ap (option_and_then (λ r. Some (receipt_standing (grouping_of w t) q r))) (maps.get-chosen places_total places_exact (λ place r. Some (keyed_receipt w r)) t.receipts q)

    pub receipts-outside : SameOutside (keys (link_receipts link t)) (receipt_standings_of (grouping_of s t)) (receipt_standings_of (grouping_of z t))
    receipts-outside = record { at = λ q out. receipt-at s q ∙ receipt-stays q (get t.receipts q) refl out ∙ sym (receipt-at z q) }

    -- notes stay outside of the link's receipts
    pub link-notes-outside : SameOutside (receipt_listings (keys (link_receipts link t))) (notes_of s t) (notes_of z t)
    link-notes-outside = notes-outside s z t t (keys (link_receipts link t)) refl receipts-outside
