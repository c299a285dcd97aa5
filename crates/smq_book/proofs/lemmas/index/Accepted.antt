-- The accepted messages of a link are those that have keys on it, and its delivery receipts all have.
use Rattle.std.proofs.Common.{◌≡◌, ℕ, ◌≤◌, Bool, true, false, cond, List, [], ◌∷◌, ◌++◌, length, Option, Some, None, refl, sym, ap, ◌∙◌, arith}
use Rattle.std.specs.Prelude.{◌==◌, ◌&&◌, map, is_some, option_map, option_to_list}
use Rattle.std.specs.List.{flat_map}
use Rattle.std.specs.FinMap.{entries, keys}
use Rattle.smq_kit.specs.declared.link_key.LinkKey.{LinkKey}
use Rattle.smq_kit.specs.declared.names.LinkId.{LinkId}
use Rattle.smq_kit.specs.declared.place.Place.{Place}
use Rattle.smq_kit.specs.LinkKeys.{link_key}
use Rattle.smq_kit.specs.Maps.{chosen, kept_of}
use Rattle.smq_kit.proofs.MapLemmas as maps
use Rattle.smq_kit.proofs.PlaceOrders.{places_total, places_exact}
use Rattle.smq_group.specs.Links.{receipts_on, submits_on}
use Rattle.smq_group.specs.Matching.{GroupedReceipt}
use Rattle.smq_present.specs.present.Settings.{SettingsValue, forms_of}
use Rattle.smq_present.specs.pairing.Traffic.{Message, ReceivedReceipt, TrafficValue}
use Rattle.smq_present.specs.join.Keyed.{accepted_id, accepted_key, grouping_of, keyed_receipt}
use Rattle.smq_book.specs.edits.Reached.{link_messages, link_receipts}
use Rattle.smq_book.specs.index.LinkOut.{accepted_on, is_accepted}

module _ (s : SettingsValue) (link : LinkId) where
  abbrev keyed : Place → Message → Option LinkKey
  keyed place m = accepted_key s m

  abbrev keyed_on : Place → LinkKey → Option LinkKey
  keyed_on place key = cond (key.link.0 == link.0) (Some key) None

  abbrev accepted_here : Place → Message → Option Message
  accepted_here place m = cond (m.link.0 == link.0 && is_accepted m) (Some m) None

  abbrev grouped : Place → ReceivedReceipt → Option GroupedReceipt
  grouped place r = Some (keyed_receipt s r)

  abbrev grouped_on : Place → GroupedReceipt → Option GroupedReceipt
  grouped_on place r = cond (r.key.link.0 == link.0) (Some r) None

  abbrev received_here : Place → ReceivedReceipt → Option ReceivedReceipt
  received_here place r = cond (r.link.0 == link.0) (Some r) None

  accepted-places : (es : List (Place × Message))
      → map (λ (e : Place × LinkKey). e.0) (flat_map (kept_of keyed_on) (flat_map (kept_of keyed) es))
      ≡ map (λ (e : Place × Message). e.0) (flat_map (kept_of accepted_here) es)
  accepted-places [] = refl
  accepted-places (e ∷ es) = by (accepted_id e.1.response) (accepted-places es)
    where
      keys_left : List (Place × LinkKey)
      keys_left = flat_map (kept_of keyed) es

      left : List (Place × Message)
      left = flat_map (kept_of accepted_here) es

      key_of : List ℕ → LinkKey
      key_of id = link_key e.1.link (forms_of s e.1.link).response id

      none : (b : Bool) → map (λ (e : Place × LinkKey). e.0) (flat_map (kept_of keyed_on) keys_left) ≡ map (λ (e : Place × Message). e.0) left
          → map (λ (e : Place × LinkKey). e.0) (flat_map (kept_of keyed_on) keys_left)
          ≡ map (λ (e : Place × Message). e.0) (map (λ m. (e.0, m)) (option_to_list (cond (b && false) (Some e.1) None)) ++ left)
      none true later = later
      none false later = later

      some : (b : Bool) (id : List ℕ) → map (λ (e : Place × LinkKey). e.0) (flat_map (kept_of keyed_on) keys_left) ≡ map (λ (e : Place × Message). e.0) left
          → map (λ (e : Place × LinkKey). e.0) (map (λ k. (e.0, k)) (option_to_list (cond b (Some (key_of id)) None)) ++ flat_map (kept_of keyed_on) keys_left)
          ≡ map (λ (e : Place × Message). e.0) (map (λ m. (e.0, m)) (option_to_list (cond (b && true) (Some e.1) None)) ++ left)
      some true id later = ap (λ (qs : List Place). e.0 ∷ qs) later
      some false id later = later

      by : (id : Option (List ℕ)) → map (λ (e : Place × LinkKey). e.0) (flat_map (kept_of keyed_on) keys_left) ≡ map (λ (e : Place × Message). e.0) left
          → map (λ (e : Place × LinkKey). e.0)
          (flat_map (kept_of keyed_on) (map (λ k. (e.0, k)) (option_to_list (option_map (link_key e.1.link (forms_of s e.1.link).response) id)) ++ keys_left))
          ≡ map (λ (e : Place × Message). e.0) (map (λ m. (e.0, m)) (option_to_list (cond (e.1.link.0 == link.0 && is_some id) (Some e.1) None)) ++ left)
      by None later = none (e.1.link.0 == link.0) later
      by (Some id) later = some (e.1.link.0 == link.0) id later

  received-places : (es : List (Place × ReceivedReceipt))
      → map (λ (e : Place × GroupedReceipt). e.0) (flat_map (kept_of grouped_on) (flat_map (kept_of grouped) es))
      ≡ map (λ (e : Place × ReceivedReceipt). e.0) (flat_map (kept_of received_here) es)
  received-places [] = refl
  received-places (e ∷ es) = by (e.1.link.0 == link.0) (received-places es)
    where
      grouped_left : List (Place × GroupedReceipt)
      grouped_left = flat_map (kept_of grouped_on) (flat_map (kept_of grouped) es)

      left : List (Place × ReceivedReceipt)
      left = flat_map (kept_of received_here) es

      by : (b : Bool) → map (λ (e : Place × GroupedReceipt). e.0) grouped_left ≡ map (λ (e : Place × ReceivedReceipt). e.0) left
          → map (λ (e : Place × GroupedReceipt). e.0) (map (λ r. (e.0, r)) (option_to_list (cond b (Some (keyed_receipt s e.1)) None)) ++ grouped_left)
          ≡ map (λ (e : Place × ReceivedReceipt). e.0) (map (λ r. (e.0, r)) (option_to_list (cond b (Some e.1) None)) ++ left)
      by true later = ap (λ (qs : List Place). e.0 ∷ qs) later
      by false later = later

  module _ (t : TrafficValue) where
    pub accepted-keys : keys (submits_on link (grouping_of s t)) ≡ keys (accepted_on link t)
    accepted-keys =
        ap (map (λ (e : Place × LinkKey). e.0)) (maps.entries-chosen places_total places_exact keyed_on (chosen keyed t.messages)
        ∙ ap (flat_map (kept_of keyed_on)) (maps.entries-chosen places_total places_exact keyed t.messages))
        ∙ accepted-places (entries t.messages)
        ∙ sym (ap (map (λ (e : Place × Message). e.0)) (maps.entries-chosen places_total places_exact accepted_here t.messages))

    pub received-keys : keys (receipts_on link (grouping_of s t)) ≡ keys (link_receipts link t)
    received-keys =
        ap (map (λ (e : Place × GroupedReceipt). e.0)) (maps.entries-chosen places_total places_exact grouped_on (chosen grouped t.receipts)
        ∙ ap (flat_map (kept_of grouped_on)) (maps.entries-chosen places_total places_exact grouped t.receipts))
        ∙ received-places (entries t.receipts)
        ∙ sym (ap (map (λ (e : Place × ReceivedReceipt). e.0)) (maps.entries-chosen places_total places_exact received_here t.receipts))

  -- ---- those that aren't accepted have no key

  abbrev message_here : Place → Message → Option Message
  message_here place m = cond (m.link.0 == link.0) (Some m) None

  abbrev keys_of_message : Place × Message → List LinkKey
  keys_of_message e = option_to_list (accepted_key s e.1)

  keys-left : (es : List (Place × Message))
      → flat_map keys_of_message (flat_map (kept_of accepted_here) es) ≡ flat_map keys_of_message (flat_map (kept_of message_here) es)
  keys-left [] = refl
  keys-left (e ∷ es) = by (e.1.link.0 == link.0) (accepted_id e.1.response) refl (keys-left es)
    where
      accepted_left : List (Place × Message)
      accepted_left = flat_map (kept_of accepted_here) es

      left : List (Place × Message)
      left = flat_map (kept_of message_here) es

      by : (b : Bool) (id : Option (List ℕ)) → accepted_id e.1.response ≡ id → flat_map keys_of_message accepted_left ≡ flat_map keys_of_message left
          → flat_map keys_of_message (map (λ m. (e.0, m)) (option_to_list (cond (b && is_some id) (Some e.1) None)) ++ accepted_left)
          ≡ flat_map keys_of_message (map (λ m. (e.0, m)) (option_to_list (cond b (Some e.1) None)) ++ left)
      by false id is later = later
      by true None is later =
          later ∙ ap (λ (id : Option (List ℕ)). option_to_list (option_map (link_key e.1.link (forms_of s e.1.link).response) id)
          ++ flat_map keys_of_message left) (sym is)
      by true (Some id) is later = ap (λ (ks : List LinkKey). option_to_list (accepted_key s e.1) ++ ks) later

  fewer-left : (es : List (Place × Message)) → length (flat_map (kept_of accepted_here) es) ≤ length (flat_map (kept_of message_here) es)
  fewer-left [] = omega arith
  fewer-left (e ∷ es) = by (e.1.link.0 == link.0) (is_accepted e.1) (fewer-left es)
    where
      accepted_left : List (Place × Message)
      accepted_left = flat_map (kept_of accepted_here) es

      left : List (Place × Message)
      left = flat_map (kept_of message_here) es

      by : (b c : Bool) → length accepted_left ≤ length left
          → length (map (λ m. (e.0, m)) (option_to_list (cond (b && c) (Some e.1) None)) ++ accepted_left)
          ≤ length (map (λ m. (e.0, m)) (option_to_list (cond b (Some e.1) None)) ++ left)
      by false c later = later
      by true false later = omega (arith, later)
      by true true later = omega (arith, later)

  module _ (t : TrafficValue) where
    accepted-entries : entries (accepted_on link t) ≡ flat_map (kept_of accepted_here) (entries t.messages)
    accepted-entries = maps.entries-chosen places_total places_exact accepted_here t.messages

    message-entries : entries (link_messages link t) ≡ flat_map (kept_of message_here) (entries t.messages)
    message-entries = maps.entries-chosen places_total places_exact message_here t.messages

    pub same-keys : flat_map keys_of_message (entries (accepted_on link t)) ≡ flat_map keys_of_message (entries (link_messages link t))
    same-keys = ap (flat_map keys_of_message) accepted-entries ∙ keys-left (entries t.messages) ∙ sym (ap (flat_map keys_of_message) message-entries)

    pub fewer : length (entries (accepted_on link t)) ≤ length (entries (link_messages link t))
    fewer =
        let few = fewer-left (entries t.messages) in
        let a = ap (λ (es : List (Place × Message)). length es) accepted-entries in
        let b = ap (λ (es : List (Place × Message)). length es) message-entries in
        omega (arith, few, a, b)
