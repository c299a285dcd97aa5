-- The receipts that are listed by place are those of the list.
use Rattle.std.proofs.Common.{◌≡◌, ℕ, zero, suc, Bool, true, false, List, [], ◌∷◌, ◌++◌, refl, ap, ◌∙◌, arith}
use Rattle.std.specs.Prelude.{T, ◌&&◌, ◌==◌, not, if◌then◌else◌, map, Some, option_map, option_to_list}
use Rattle.std.specs.List.{flat_map}
use Rattle.std.specs.Ordering.{eq_by_cmp}
use Rattle.std.specs.FinMap.{is_sorted}
use Rattle.std.proofs.lemmas.Bool.{eqb-true}
use Rattle.smq_kit.specs.declared.link_key.LinkKey.{LinkKey}
use Rattle.smq_kit.specs.declared.place.Place.{Place}
use Rattle.smq_kit.specs.Maps.{kept_of, same_option}
use Rattle.smq_kit.specs.Orders.{place_cmp}
use Rattle.smq_kit.proofs.PlaceOrders.{places_total, places_exact}
use Rattle.smq_kit.proofs.MapLemmas as maps
use Rattle.smq_tally.specs.declared.list.Listed.{Listed}
use Rattle.smq_tally.specs.Lists.{listed}
use Rattle.smq_present.specs.present.Settings.{SettingsValue}
use Rattle.smq_present.specs.pairing.Traffic.{TrafficValue, traffic_among}
use Rattle.smq_group.specs.Matching.{Grouping, ReceiptStanding, Stray, Deciding, Extra, Noted, KeyShared, is_decider, matches}
use Rattle.smq_present.specs.join.Keyed.{grouping_of, keyed_receipt, receipt_key, can_decide}
use Rattle.smq_present.specs.join.Listings.{list_of_standing, receipt_listing, receipt_notes}
use Rattle.smq_present.specs.within.Accepted.{number_accepted}
use Rattle.smq_present.specs.within.Listings.{list_by, note_of, stands_at}
use Rattle.smq_present.specs.within.Messages.{SubmittedMessage}
use Rattle.smq_present.specs.within.Receipts.{KeyedReceipt, candidates, least_receipt}
use Rattle.smq_present.specs.within.Outcomes.{received}
use Rattle.smq_present.proofs.lemmas.join.AgreeLists.{message_entry, receipt_entry, Keyed, KeyedReceipts}
use Rattle.smq_present.proofs.lemmas.join.AgreeFacts.{matches-agree, decider-of}

-- the standing of a receipt, by how many messages are accepted with its key, whether it decides and whether it can
abbrev pub standing_by : ℕ → Bool → Bool → ReceiptStanding
standing_by n decides can =
    if n == 0 then Stray else if not (n == 1) then KeyShared else if decides then Deciding else if can then Extra else Noted

differ : (a b : ℕ) → (a ≡ b → ⊥) → (a == b) ≡ false
differ a b ne = by_test (a == b) refl
  where
    by_test : (t : Bool) → (a == b) ≡ t → t ≡ false
    by_test true e = absurd (ne (eqb-true a b e))
    by_test false e = refl

pub lists-alike : (n : ℕ) (decides can : Bool) → list_of_standing (standing_by n decides can) ≡ list_by n (can && not decides)
lists-alike zero decides can = refl
lists-alike (suc zero) true true = refl
lists-alike (suc zero) true false = refl
lists-alike (suc zero) false true = refl
lists-alike (suc zero) false false = refl
lists-alike (suc (suc n)) decides can =
    λ i. list_of_standing (if differ (suc (suc n)) 0 (λ e. absurd (omega (arith, e))) i then Stray else if not
    (differ (suc (suc n)) 1 (λ e. absurd (omega (arith, e))) i) then KeyShared else if decides then Deciding else if can then
    Extra else Noted)

module _ (s : SettingsValue) (xs : List SubmittedMessage) (rs : List KeyedReceipt) (notes : List Listed) (keyed : Keyed s xs)
    (receipts_keyed : KeyedReceipts s rs)
    (messages_sorted : T (is_sorted place_cmp (map message_entry xs))) (receipts_sorted : T (is_sorted place_cmp (map receipt_entry rs))) where
  abbrev traffic : TrafficValue
  traffic = traffic_among (map message_entry xs) (map receipt_entry rs) notes

  abbrev groups : Grouping
  groups = grouping_of s traffic

  abbrev listing_at : Place → LinkKey → Bool → List Listed
  listing_at place key can =
      option_to_list (option_map (λ list. listed list place) (list_of_standing (standing_by (matches groups key) (is_decider groups place key) can)))

  decides-agree : (place : Place) (key : LinkKey) → is_decider groups place key ≡ stands_at (least_receipt (candidates key rs)) place
  decides-agree place key = ap (λ d. same_option (eq_by_cmp place_cmp) d (Some place))
      (decider-of s xs rs notes keyed receipts_keyed messages_sorted receipts_sorted key)

  listing-agrees : (e : KeyedReceipt) → receipt_key s (received e.1) ≡ e.0
      → option_to_list (receipt_listing groups (e.1.place, keyed_receipt s (received e.1))) ≡ note_of xs rs e
  listing-agrees e h =
      ap (λ key. listing_at e.1.place key (can_decide e.1.receipt)) h
      ∙ (λ i. option_to_list (option_map (λ list. listed list e.1.place)
      (list_of_standing (standing_by (matches-agree s xs rs notes keyed receipts_keyed messages_sorted receipts_sorted e.0 i)
      (decides-agree e.1.place e.0 i) (can_decide e.1.receipt)))))
      ∙ ap (λ list. option_to_list (option_map (λ list. listed list e.1.place) list))
      (lists-alike (number_accepted e.0 xs) (stands_at (least_receipt (candidates e.0 rs)) e.1.place) (can_decide e.1.receipt))

  listings-map : (ys : List KeyedReceipt) → KeyedReceipts s ys
      → flat_map (λ e. option_to_list (receipt_listing groups e))
      (flat_map (kept_of (λ place r. Some (keyed_receipt s r))) (map receipt_entry ys)) ≡ flat_map (note_of xs rs) ys
  listings-map [] h = refl
  listings-map (y ∷ ys) h = λ i. listing-agrees y h.0 i ++ listings-map ys h.1 i

  -- the receipts that are listed by place, in order, are those of the list
  pub receipts-agree : receipt_notes groups ≡ flat_map (note_of xs rs) rs
  receipts-agree =
      ap (flat_map (λ e. option_to_list (receipt_listing groups e)))
      (maps.entries-chosen places_total places_exact (λ place r. Some (keyed_receipt s r)) traffic.receipts
      ∙ ap (flat_map (kept_of (λ place r. Some (keyed_receipt s r))))
      (maps.entries-from_entries places_total places_exact (map receipt_entry rs) receipts_sorted))
      ∙ listings-map rs receipts_keyed
