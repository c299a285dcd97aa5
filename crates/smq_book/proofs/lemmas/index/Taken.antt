-- What a withdrawal takes out is what each PDU of its session says in turn, and the session's notes, none in a list of receipts.
use Rattle.std.proofs.Common.{◌≡◌, ℕ, ◌+◌, ◌<◌, ◌≤◌, true, List, [], ◌∷◌, ◌++◌, length, get_or, take, Option, Some, None, suc, zero, refl, sym, ap, ◌∙◌}
use Rattle.std.specs.Prelude.{map, option_map, option_to_list, slice_get}
use Rattle.std.specs.List.{flat_map}
use Rattle.std.specs.Ordering.{nat_cmp}
use Rattle.std.specs.FinMap.{FinMap, get, remove}
use Rattle.std.proofs.lemmas.List.{flat_map_more, map-append, map_more, take_all, take_more}
use Rattle.std.proofs.lemmas.Option.{slice_get-get_or}
use Rattle.smq_kit.specs.declared.place.Dir.TheVariants.{FromClient, FromCentre}
use Rattle.smq_kit.specs.declared.place.Place.{Place}
use Rattle.smq_pdu.specs.declared.body.Submit.{Submit}
use Rattle.smq_receipt.specs.declared.reading.Receipt.{Receipt}
use Rattle.smq_tally.specs.declared.list.Listed.{Listed}
use Rattle.smq_present.specs.join.Listings.{is_traffic_list, AllTraffic}
use Rattle.smq_present.specs.declared.present.kept.StoredPdu.{StoredPdu}
use Rattle.smq_present.specs.declared.present.session.Session.{Session}
use Rattle.smq_present.specs.present.Kept.{kept_pdus, receipt_in, submit_in}
use Rattle.smq_present.specs.pairing.Traffic.{Message, Origin, ReceivedReceipt, origin_of, message_at, message_of, messages_among, place_of, received, receipt_at, receipts_among, response_to, session_notes, traffic_of, with_earlier}
use Rattle.smq_present.specs.present.Settings.{SettingsValue}
use Rattle.smq_present.specs.join.Moves.{Move, TakeMessage, TakeNote, TakeReceipt, moved_by}
use Rattle.smq_book.specs.edits.Withdrawn.{withdrawal_moves}
use Rattle.smq_book.specs.index.Held.{Holding, traffic_held}
use Rattle.smq_book.specs.index.Pushed.{IsHeldAfter}
use Rattle.smq_book.specs.index.Taken.{note_takes, receipt_take, receipt_takes, submit_take, submit_takes}
use Rattle.smq_book.proofs.lemmas.edits.Withdrawals.{withdrawn}
use Rattle.smq_book.proofs.lemmas.index.Pushed.{after-both, after-same}

module _ (origin : Origin) where
  -- the place of a message is that of its submit_sm or data_sm, whatever answers it
  one-submit : (centre earlier : List StoredPdu) (p : StoredPdu) (submit : Option Submit) (rest later : List Move) → rest ≡ later
      → map (λ (m : Place × Message). TakeMessage m.0) (option_to_list
      (option_map (λ s. (place_of origin FromClient p, message_of origin p s (response_to centre earlier p))) submit)) ++ rest
      ≡ option_to_list (option_map (λ s. TakeMessage (place_of origin FromClient p)) submit) ++ later
  one-submit centre earlier p None rest later is = is
  one-submit centre earlier p (Some s) rest later is = ap (λ ms. TakeMessage (place_of origin FromClient p) ∷ ms) is

  -- and that of a receipt is its PDU's
  one-receipt : (p : StoredPdu) (receipt : Option Receipt) (rest later : List Move) → rest ≡ later
      → map (λ (r : Place × ReceivedReceipt). TakeReceipt r.0)
      (option_to_list (option_map (λ r. (place_of origin FromCentre p, received origin p r)) receipt)) ++ rest
      ≡ option_to_list (option_map (λ r. TakeReceipt (place_of origin FromCentre p)) receipt) ++ later
  one-receipt p None rest later is = is
  one-receipt p (Some r) rest later is = ap (λ ms. TakeReceipt (place_of origin FromCentre p) ∷ ms) is

  submits-from : (centre earlier client : List StoredPdu)
      → map (λ m. TakeMessage m.0) (flat_map (λ e. option_to_list (message_at origin centre e.0 e.1)) (with_earlier earlier client))
      ≡ submit_takes origin client
  submits-from centre earlier [] = refl
  submits-from centre earlier (p ∷ later) =
      map-append (λ m. TakeMessage m.0) (option_to_list (message_at origin centre earlier p))
      (flat_map (λ e. option_to_list (message_at origin centre e.0 e.1)) (with_earlier (earlier ++ p ∷ []) later))
      ∙ one-submit centre earlier p (submit_in p.content)
      (map (λ m. TakeMessage m.0)
      (flat_map (λ e. option_to_list (message_at origin centre e.0 e.1)) (with_earlier (earlier ++ p ∷ []) later)))
      (submit_takes origin later) (submits-from centre (earlier ++ p ∷ []) later)

  pub receipts-taken : (centre : List StoredPdu) → map (λ r. TakeReceipt r.0) (receipts_among origin centre) ≡ receipt_takes origin centre
  receipts-taken [] = refl
  receipts-taken (p ∷ later) =
      map-append (λ r. TakeReceipt r.0) (option_to_list (receipt_at origin p)) (receipts_among origin later)
      ∙ one-receipt p (receipt_in p.content) (map (λ r. TakeReceipt r.0) (receipts_among origin later)) (receipt_takes origin later)
      (receipts-taken later)

  pub submits-taken : (client centre : List StoredPdu)
      → map (λ m. TakeMessage m.0) (messages_among origin client centre) ≡ submit_takes origin client
  submits-taken client centre = submits-from centre [] client

-- so a withdrawal's moves are those of its PDUs, then those of its notes
pub withdrawal-is : (e : ℕ × Session) → withdrawal_moves e
    ≡ submit_takes (origin_of e) (kept_pdus e.1.client) ++ (receipt_takes (origin_of e) (kept_pdus e.1.centre) ++ note_takes (session_notes e))
withdrawal-is e = λ i.
    submits-taken (origin_of e) (kept_pdus e.1.client) (kept_pdus e.1.centre) i
    ++ (receipts-taken (origin_of e) (kept_pdus e.1.centre) i ++ note_takes (session_notes e))

-- after them the traffic is that without the session
module _ (sessions : FinMap nat_cmp Session) (n : ℕ) (s : Session) (there : get sessions n ≡ Some s) where
  pub withdrawn-after : (z : SettingsValue) (g h : Holding) (client centre : List StoredPdu) (notes : List Listed) → client ≡ kept_pdus s.client
      → centre ≡ kept_pdus s.centre → notes ≡ session_notes (n, s) → traffic_held g ≡ traffic_of sessions
      → IsHeldAfter z g (submit_takes (origin_of (n, s)) client ++ (receipt_takes (origin_of (n, s)) centre ++ note_takes notes)) h
      → traffic_held h ≡ traffic_of (remove sessions n)
  withdrawn-after z g h client centre notes of_client of_centre noted traffic after =
      after.traffic
      ∙ (λ i. moved_by (traffic i) (submit_takes (origin_of (n, s)) (of_client i)
      ++ (receipt_takes (origin_of (n, s)) (of_centre i) ++ note_takes (noted i))))
      ∙ ap (moved_by (traffic_of sessions)) (sym (withdrawal-is (n, s)))
      ∙ withdrawn sessions n s there

-- ---- no note of a session is in a list of receipts

pub traffic-at : (notes : List Listed) (i : ℕ) (d : Listed) → AllTraffic notes → i < length notes → is_traffic_list (get_or notes i d).list ≡ true
traffic-at notes i d all within = by notes i all (slice_get-get_or notes i d within)
  where
    by : (others : List Listed) (j : ℕ) → AllTraffic others → slice_get others j ≡ Some (get_or notes i d)
        → is_traffic_list (get_or notes i d).list ≡ true
    by [] j all at = absurd cc
    by (x ∷ xs) zero all at = let one : x ≡ get_or notes i d = cc in ap (λ (e : Listed). is_traffic_list e.list) (sym one) ∙ all.0
    by (x ∷ xs) (suc j) all at = by xs j all.1 at

-- ---- PDU by PDU, and note by note

module _ (origin : Origin) (p : StoredPdu) where
  pub submit-absent : None ≡ submit_in p.content → [] ≡ submit_take origin p
  submit-absent none = ap (λ x. option_to_list (option_map (λ (s : Submit). TakeMessage (place_of origin FromClient p)) x)) none

  pub submit-taken : (q : Place) (submit : Submit) → q ≡ place_of origin FromClient p → Some submit ≡ submit_in p.content
      → TakeMessage q ∷ [] ≡ submit_take origin p
  submit-taken q submit at said =
      ap (λ (q : Place). TakeMessage q ∷ []) at
      ∙ ap (λ x. option_to_list (option_map (λ (s : Submit). TakeMessage (place_of origin FromClient p)) x)) said

  pub receipt-absent : None ≡ receipt_in p.content → [] ≡ receipt_take origin p
  receipt-absent none = ap (λ x. option_to_list (option_map (λ (r : Receipt). TakeReceipt (place_of origin FromCentre p)) x)) none

  pub receipt-taken : (q : Place) (receipt : Receipt) → q ≡ place_of origin FromCentre p → Some receipt ≡ receipt_in p.content
      → TakeReceipt q ∷ [] ≡ receipt_take origin p
  receipt-taken q receipt at said =
      ap (λ (q : Place). TakeReceipt q ∷ []) at
      ∙ ap (λ x. option_to_list (option_map (λ (r : Receipt). TakeReceipt (place_of origin FromCentre p)) x)) said

module _ {X : Type 0} (s : SettingsValue) (g : Holding) (f : X → List Move) (xs : List X) (i : ℕ) where
  -- moves of the next one after those of the ones so far
  pub next-taken : (x : X) (h k : Holding) → i < length xs → x ≡ get_or xs i x → IsHeldAfter s g (flat_map f (take i xs)) h
      → IsHeldAfter s h (f x) k → IsHeldAfter s g (flat_map f (take (i + 1) xs)) k
  next-taken x h k within is before this =
      after-same s g k (flat_map f (take i xs) ++ f x) (flat_map f (take (i + 1) xs))
      (flat_map_more f [] (take i xs) x
      ∙ ap (flat_map f) (ap (λ (y : X). take i xs ++ y ∷ []) is ∙ sym (take_more xs i x within)))
      (after-both s g h k before this)

  -- those of all
  pub all-taken : (h : Holding) → length xs ≤ i → IsHeldAfter s g (flat_map f (take i xs)) h → IsHeldAfter s g (flat_map f xs) h
  all-taken h all after = after-same s g h (flat_map f (take i xs)) (flat_map f xs) (ap (flat_map f) (take_all i xs all)) after

module _ (s : SettingsValue) (g : Holding) (notes : List Listed) (i : ℕ) where
  pub next-note : (d : Listed) (h k : Holding) → i < length notes → IsHeldAfter s g (note_takes (take i notes)) h
      → IsHeldAfter s h (TakeNote (get_or notes i d) ∷ []) k → IsHeldAfter s g (note_takes (take (i + 1) notes)) k
  next-note d h k within before this =
      after-same s g k (note_takes (take i notes) ++ TakeNote (get_or notes i d) ∷ []) (note_takes (take (i + 1) notes))
      (sym (map_more TakeNote notes i d within))
      (after-both s g h k before this)

  pub all-notes : (h : Holding) → length notes ≤ i → IsHeldAfter s g (note_takes (take i notes)) h → IsHeldAfter s g (note_takes notes) h
  all-notes h all after = after-same s g h (note_takes (take i notes)) (note_takes notes) (ap note_takes (take_all i notes all)) after
