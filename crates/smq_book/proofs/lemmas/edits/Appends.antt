-- The traffic with PDUs more of a session is the traffic after their moves.
use Rattle.std.proofs.Common.{◌≡◌, ◌≢◌, ℕ, ◌+◌, Bool, true, false, cond, ◌||◌, List, [], ◌∷◌, ◌++◌, Option, Some, None, refl, sym, ap, ◌∙◌, subst}
use Rattle.std.specs.Prelude.{T, map, option_map, option_and_then, option_to_list}
use Rattle.std.specs.List.{AllByRecursion, flat_map, list_any}
use Rattle.std.specs.Option.{option_or}
use Rattle.std.specs.Cmp.{nat_cmp_total, tied_itself}
use Rattle.std.specs.Ordering.{eq_by_cmp, is_eq, nat_cmp}
use Rattle.std.specs.FinMap.{FinMap, entries, find, from_entries, get, insert, is_sorted, get-from_entries, get-insert, same_map, nat_cmp-IsAntisymmetric}
use Rattle.std.proofs.lemmas.Bool.{false≢true}
use Rattle.std.proofs.lemmas.List.{append-nil, append_assoc, map-append}
use Rattle.std.proofs.lemmas.List.Concat.{flat_map-append}
use Rattle.std.proofs.lemmas.List.Folds.{list_any-append}
use Rattle.smq_kit.specs.declared.names.LinkId.{LinkId}
use Rattle.smq_kit.specs.declared.place.Dir.{Dir}
use Rattle.smq_kit.specs.declared.place.Dir.TheVariants.{FromClient, FromCentre}
use Rattle.smq_kit.specs.declared.place.Place.{Place}
use Rattle.smq_kit.specs.Maps.{patched}
use Rattle.smq_kit.specs.Orders.{place_cmp}
use Rattle.smq_kit.proofs.Comparisons.{or_first, or_second}
use Rattle.smq_kit.proofs.MapLemmas as maps
use Rattle.smq_kit.proofs.PlaceOrders.{places_total, places_exact}
use Rattle.smq_frame.specs.Stream.{values, handed_in, frames_after}
use Rattle.smq_frame.specs.Tail.{tail_of}
use Rattle.smq_pdu.specs.declared.body.Submit.{Submit}
use Rattle.smq_receipt.specs.declared.reading.Receipt.{Receipt}
use Rattle.smq_present.specs.declared.present.kept.StoredPdu.{StoredPdu}
use Rattle.smq_present.specs.declared.present.session.Session.{Session}
use Rattle.smq_present.specs.present.Batch.{BatchValue, batch_pdus}
use Rattle.smq_present.specs.present.Kept.{kept_pdus, submit_in, receipt_in}
use Rattle.smq_present.specs.present.Present.{direction, octets_in}
use Rattle.smq_present.specs.present.Steps.{session_after, session_with}
use Rattle.smq_present.specs.pairing.Traffic.{TrafficValue, Message, ReceivedReceipt, Origin, place_of, message_of, message_at, receipt_at, received, messages_among, receipts_among, response_to, origin_of, with_earlier, session_messages, session_receipts, traffic_of}
use Rattle.smq_present.specs.pairing.Pushes.{is_next_response}
use Rattle.smq_present.specs.within.Pairs.{Rises}
use Rattle.smq_present.specs.join.Moves.{moved_by, PutReceipt}
use Rattle.smq_book.specs.edits.Appended.{answered, anew, client_moves, centre_moves, push_moves, session_before, batch_origin, append_moves}
use Rattle.smq_present.proofs.lemmas.present.Growth.{kept_frames, pdus-grown, kept_pdus-nil}
use Rattle.smq_book.proofs.lemmas.edits.Moved.{moved-both, puts-anew, puts-message, puts-receipt, put_in}
use Rattle.smq_present.proofs.lemmas.pairing.PlacesRise.{kept-rise, Rising, block-sorted, messages-rise, receipts-rise}
use Rattle.smq_present.proofs.lemmas.pairing.PushLemmas.{client-push, response-stays, front}
use Rattle.smq_present.proofs.lemmas.pairing.SessionTraffic.{find-both, or_none, rising-own, session_number, messages-own, receipts-own, said-at, said-put}

-- ---- entries in order, of which one more comes last

own_number : (n : ℕ) (q k : Place) → k.session.0 ≡ n → eq_by_cmp nat_cmp q.session.0 n ≡ false → eq_by_cmp place_cmp q k ≡ false
own_number n q k is e = by (eq_by_cmp place_cmp q k) refl
  where
    by : (b : Bool) → eq_by_cmp place_cmp q k ≡ b → b ≡ false
    by true t = absurd (false≢true (sym e ∙ ap (λ m. eq_by_cmp nat_cmp m n) (ap (λ (p : Place). p.session.0) (maps.same_key places_total places_exact q k t) ∙ is) ∙ ap is_eq (tied_itself nat_cmp_total n)))
    by false t = refl

module _ {X : Type 0} where
  found-last : (xs : List (Place × X)) (k : Place) (v : X) → T (is_sorted place_cmp (xs ++ (k, v) ∷ [])) → find place_cmp k (xs ++ (k, v) ∷ []) ≡ Some v
  found-last [] k v h = maps.find-first places_total places_exact (k, v) []
  found-last (x ∷ xs) k v h = maps.find-later places_total places_exact k v x (xs ++ (k, v) ∷ []) h (found-last xs k v (maps.sorted-behind places_total places_exact x (xs ++ (k, v) ∷ []) h))

  find-last : (xs : List (Place × X)) (k : Place) (v : X) → T (is_sorted place_cmp (xs ++ (k, v) ∷ [])) → (q : Place) → find place_cmp q (xs ++ (k, v) ∷ []) ≡ cond (eq_by_cmp place_cmp q k) (Some v) (find place_cmp q xs)
  find-last xs k v h q = elim (eq_by_cmp place_cmp q k) as (λ b. eq_by_cmp place_cmp q k ≡ b → find place_cmp q (xs ++ (k, v) ∷ []) ≡ cond b (Some v) (find place_cmp q xs)) [
    | true ↦ λ t. ap (λ p. find place_cmp p (xs ++ (k, v) ∷ [])) (maps.same_key places_total places_exact q k t) ∙ found-last xs k v h
    | false ↦ λ t. find-both place_cmp q xs ((k, v) ∷ []) ∙ ap (λ b. option_or (find place_cmp q xs) (cond b (Some v) None)) t ∙ or_none (find place_cmp q xs)
  ] refl

  pub rising-sorted : (n : ℕ) (dir : Dir) (es : List (Place × X)) → Rising n dir 0 es → T (is_sorted place_cmp es)
  rising-sorted n dir es h = subst (λ (xs : List (Place × X)). T (is_sorted place_cmp xs)) (append-nil es) (block-sorted n dir 0 es [] h tt tt)

  -- a map that has these entries at the places of a session, and others elsewhere
  abbrev pub HasAt : ℕ → FinMap place_cmp X → List (Place × X) → FinMap place_cmp X → Type 0
  HasAt n rest es m = (q : Place) → get m q ≡ cond (eq_by_cmp nat_cmp q.session.0 n) (find place_cmp q es) (get rest q)

  swap : (a b : Bool) (x y z : Option X) → (b ≡ false → a ≡ false) → cond a x (cond b y z) ≡ cond b (cond a x y) z
  swap a true x y z h = refl
  swap a false x y z h = ap (λ c. cond c x z) (h refl)

  -- one entry more comes last
  put-last : (n : ℕ) (rest : FinMap place_cmp X) (xs : List (Place × X)) (e : Option (Place × X)) (m : FinMap place_cmp X)
      → ((x : Place × X) → e ≡ Some x → x.0.session.0 ≡ n) → T (is_sorted place_cmp (xs ++ option_to_list e)) → HasAt n rest xs m → HasAt n rest (xs ++ option_to_list e) (put_in m e)
  put-last n rest xs None m own h has = λ q. has q ∙ ap (λ es. cond (eq_by_cmp nat_cmp q.session.0 n) (find place_cmp q es) (get rest q)) (sym (append-nil xs))
  put-last n rest xs (Some e) m own h has = λ q.
      get-insert places_total m e.0 e.1 q
      ∙ ap (cond (eq_by_cmp place_cmp q e.0) (Some e.1)) (has q)
      ∙ swap (eq_by_cmp place_cmp q e.0) (eq_by_cmp nat_cmp q.session.0 n) (Some e.1) (find place_cmp q xs) (get rest q) (λ apart. own_number n q e.0 (own e refl) apart)
      ∙ ap (λ x. cond (eq_by_cmp nat_cmp q.session.0 n) x (get rest q)) (sym (find-last xs e.0 e.1 h q))

-- ---- offsets of PDUs, one direction

pub rises-front : (low : ℕ) (xs ys : List StoredPdu) → Rises low (xs ++ ys) → Rises low xs
rises-front low [] ys h = tt
rises-front low (x ∷ xs) ys h = (h.0, rises-front (x.offset + 1) xs ys h.1)

-- ---- a PDU of the centre more, message by message

module _ (origin : Origin) (client centre : List StoredPdu) (next : StoredPdu) where
  abbrev later : List StoredPdu
  later = centre ++ next ∷ []

  abbrev says : List StoredPdu → List StoredPdu × StoredPdu → List (Place × Message)
  says other e = option_to_list (message_at origin other e.0 e.1)

  abbrev answers : List StoredPdu × StoredPdu → List (Place × Message)
  answers e = cond (is_next_response centre next e.0 e.1) (says later e) []

  passes : (submit : Option Submit) (p : StoredPdu) (response other : Option StoredPdu) (rest : List (Place × Message)) (q : Place)
      → list_any (eq_by_cmp place_cmp q) (map (λ (e : Place × Message). e.0) (option_to_list (option_map (λ (submit : Submit). (place_of origin FromClient p, message_of origin p submit response)) submit))) ≡ false
      → find place_cmp q (option_to_list (option_map (λ (submit : Submit). (place_of origin FromClient p, message_of origin p submit other)) submit) ++ rest) ≡ find place_cmp q rest
  passes None p response other rest q h = refl
  passes (Some submit) p response other rest q h = ap (λ b. cond b (Some (message_of origin p submit other)) (find place_cmp q rest)) (or_first _ _ h)

  any-both : (q : Place) (xs ys : List (Place × Message)) → list_any (eq_by_cmp place_cmp q) (map (λ e. e.0) (xs ++ ys)) ≡ (list_any (eq_by_cmp place_cmp q) (map (λ e. e.0) xs) || list_any (eq_by_cmp place_cmp q) (map (λ e. e.0) ys))
  any-both q xs ys = ap (list_any (eq_by_cmp place_cmp q)) (map-append (λ (e : Place × Message). e.0) xs ys) ∙ list_any-append (eq_by_cmp place_cmp q) (map (λ e. e.0) xs) (map (λ e. e.0) ys)

  -- outside of the messages that it answers, messages stay
  few-answered : (q : Place) (es : List (List StoredPdu × StoredPdu)) → list_any (eq_by_cmp place_cmp q) (map (λ e. e.0) (flat_map answers es)) ≡ false
      → find place_cmp q (flat_map (says centre) es) ≡ find place_cmp q (flat_map (says later) es)
  few-answered q [] h = refl
  few-answered q (e ∷ es) h =
      elim (is_next_response centre next e.0 e.1) as (λ b. is_next_response centre next e.0 e.1 ≡ b
      → (list_any (eq_by_cmp place_cmp q) (map (λ e. e.0) (cond b (says later e) [])) || list_any (eq_by_cmp place_cmp q) (map (λ e. e.0) (flat_map answers es))) ≡ false
      → find place_cmp q (says centre e ++ flat_map (says centre) es) ≡ find place_cmp q (says later e ++ flat_map (says later) es)) [
        | true ↦ λ t out.
            let apart = or_first (list_any (eq_by_cmp place_cmp q) (map (λ e. e.0) (says later e))) _ out in
            let rest = or_second (list_any (eq_by_cmp place_cmp q) (map (λ e. e.0) (says later e))) _ out in
            passes (submit_in e.1.content) e.1 (response_to later e.0 e.1) (response_to centre e.0 e.1) (flat_map (says centre) es) q apart
            ∙ few-answered q es rest
            ∙ sym (passes (submit_in e.1.content) e.1 (response_to later e.0 e.1) (response_to later e.0 e.1) (flat_map (says later) es) q apart)
        | false ↦ λ t out.
            front origin client centre next q (says centre e) (flat_map (says centre) es) (flat_map (says later) es) (few-answered q es out)
            ∙ ap (λ (response : Option StoredPdu). find place_cmp q (option_to_list (option_map (λ (submit : Submit). (place_of origin FromClient e.1, message_of origin e.1 submit response)) (submit_in e.1.content)) ++ flat_map (says later) es))
            (sym (response-stays origin client centre next e.0 e.1 t))
      ] refl (sym (any-both q (answers e) (flat_map answers es)) ∙ h)

  module _ (P : Place × Message → Type 0) where
    all-first : (xs ys : List (Place × Message)) → AllByRecursion P (xs ++ ys) → AllByRecursion P xs
    all-first [] ys h = tt
    all-first (x ∷ xs) ys h = (h.0, all-first xs ys h.1)

    all-second : (xs ys : List (Place × Message)) → AllByRecursion P (xs ++ ys) → AllByRecursion P ys
    all-second [] ys h = h
    all-second (x ∷ xs) ys h = all-second xs ys h.1

    all-both : (xs ys : List (Place × Message)) → AllByRecursion P xs → AllByRecursion P ys → AllByRecursion P (xs ++ ys)
    all-both [] ys h k = k
    all-both (x ∷ xs) ys h k = (h.0, all-both xs ys h.1 k)

    answered-all : (es : List (List StoredPdu × StoredPdu)) → AllByRecursion P (flat_map (says later) es) → AllByRecursion P (flat_map answers es)
    answered-all [] h = tt
    answered-all (e ∷ es) h =
        all-both (answers e) (flat_map answers es)
        (elim (is_next_response centre next e.0 e.1) as (λ b. AllByRecursion P (cond b (says later e) [])) [ true ↦ all-first (says later e) (flat_map (says later) es) h | false ↦ tt ])
        (answered-all es (all-second (says later e) (flat_map (says later) es) h))

  none-among : (m : FinMap place_cmp Message) (q : Place) (es : List (Place × Message)) → AllByRecursion (λ e. get m e.0 ≡ Some e.1) es → get m q ≡ None → list_any (eq_by_cmp place_cmp q) (map (λ e. e.0) es) ≡ false
  none-among m q [] a none = refl
  none-among m q (e ∷ es) a none =
      elim (eq_by_cmp place_cmp q e.0) as (λ b. eq_by_cmp place_cmp q e.0 ≡ b → (b || list_any (eq_by_cmp place_cmp q) (map (λ e. e.0) es)) ≡ false) [
        | true ↦ λ t. absurd (not_some e.1 (sym none ∙ ap (get m) (maps.same_key places_total places_exact q e.0 t) ∙ a.0))
        | false ↦ λ t. none-among m q es a.1 none
      ] refl
    where
      not_some : (v : Message) → None ≡ Some v → ⊥
      not_some v e = absurd cc

  module _ (rises : Rises 0 client) (rest : FinMap place_cmp Message) where
    abbrev new : List (Place × Message)
    new = messages_among origin client later

    abbrev new_map : FinMap place_cmp Message
    new_map = from_entries new

    new-sorted : T (is_sorted place_cmp new)
    new-sorted = rising-sorted origin.session.0 FromClient new (messages-rise origin later [] 0 client rises)

    new-found : AllByRecursion (λ e. get new_map e.0 ≡ Some e.1) new
    new-found = subst (λ (es : List (Place × Message)). AllByRecursion (λ e. get new_map e.0 ≡ Some e.1) es) (maps.entries-from_entries places_total places_exact new new-sorted) (maps.get-entry places_total places_exact new_map)

    pub answered-found : AllByRecursion (λ e. get new_map e.0 ≡ Some e.1) (answered origin client centre next)
    answered-found = answered-all (λ e. get new_map e.0 ≡ Some e.1) (with_earlier [] client) new-found

    chosen-by : (a b : Bool) (x y z : Option Message) → (a ≡ false → y ≡ x) → (b ≡ false → a ≡ false) → cond a x (cond b y z) ≡ cond b x z
    chosen-by true true x y z h k = refl
    chosen-by true false x y z h k = absurd (false≢true (sym (k refl)))
    chosen-by false true x y z h k = h refl
    chosen-by false false x y z h k = refl

    other-number : (q : Place) → eq_by_cmp nat_cmp q.session.0 origin.session.0 ≡ false → q.session.0 ≢ origin.session.0
    other-number q e same = false≢true (sym e ∙ ap (λ n. eq_by_cmp nat_cmp n origin.session.0) same ∙ ap is_eq (tied_itself nat_cmp_total origin.session.0))

    pub answers-put : (m : FinMap place_cmp Message) → HasAt origin.session.0 rest (messages_among origin client centre) m
        → HasAt origin.session.0 rest new (patched m (get new_map) (map (λ e. e.0) (answered origin client centre next)))
    answers-put m has = λ q.
        maps.get-patched places_total places_exact m (get new_map) (map (λ e. e.0) (answered origin client centre next)) q
        ∙ (λ i. cond {A = Option Message} (list_any (eq_by_cmp place_cmp q) (map (λ e. e.0) (answered origin client centre next))) (get-from_entries places_total new q i) (has q i))
        ∙ chosen-by (list_any (eq_by_cmp place_cmp q) (map (λ e. e.0) (answered origin client centre next))) (eq_by_cmp nat_cmp q.session.0 origin.session.0) (find place_cmp q new) (find place_cmp q (messages_among origin client centre)) (get rest q)
        (λ out. few-answered q (with_earlier [] client) out)
        (λ apart. none-among new_map q (answered origin client centre next) answered-found
        (get-from_entries places_total new q ∙ rising-own origin.session.0 FromClient 0 q new (other-number q apart) (messages-rise origin later [] 0 client rises)))

-- ---- traffic with these PDUs of a session

-- Messages and receipts are those of these PDUs at the places of their session, and elsewhere as they were; the notes are
-- as they were.
pub record HasPdus (was : TrafficValue) (origin : Origin) (client centre : List StoredPdu) (t : TrafficValue) : Type 0 where
  pub messages : HasAt origin.session.0 was.messages (messages_among origin client centre) t.messages
  pub receipts : HasAt origin.session.0 was.receipts (receipts_among origin centre) t.receipts
  pub notes : t.notes ≡ was.notes

message-own : (origin : Origin) (submit : Option Submit) (p : StoredPdu) (response : Option StoredPdu) (x : Place × Message)
    → option_map (λ (submit : Submit). (place_of origin FromClient p, message_of origin p submit response)) submit ≡ Some x → x.0.session.0 ≡ origin.session.0
message-own origin None p response x e = absurd cc
message-own origin (Some submit) p response x e = let one : (place_of origin FromClient p, message_of origin p submit response) ≡ x = cc in ap (λ (x : Place × Message). x.0.session.0) (sym one)

module _ (was : TrafficValue) (origin : Origin) where
  pub client-step : (client centre : List StoredPdu) (next : StoredPdu) (t : TrafficValue) → Rises 0 (client ++ next ∷ []) → HasPdus was origin client centre t
      → HasPdus was origin (client ++ next ∷ []) centre (moved_by t (client_moves origin client centre next))
  client-step client centre next t rises has =
      let grown = client-push origin client centre next in
      let sorted = rising-sorted origin.session.0 FromClient (messages_among origin (client ++ next ∷ []) centre) (messages-rise origin centre [] 0 (client ++ next ∷ []) rises) in
      subst (HasPdus was origin (client ++ next ∷ []) centre) (sym (puts-message t (message_at origin centre client next))) (record {
        messages = subst (λ es. HasAt origin.session.0 was.messages es (put_in t.messages (message_at origin centre client next))) (sym grown)
            (put-last origin.session.0 was.messages (messages_among origin client centre) (message_at origin centre client next) t.messages
            (λ x e. message-own origin (submit_in next.content) next (response_to centre client next) x e)
            (subst (λ (es : List (Place × Message)). T (is_sorted place_cmp es)) grown sorted) has.messages);
        receipts = has.receipts;
        notes = has.notes;
      })

  pub receipts-push : (centre : List StoredPdu) (next : StoredPdu) → receipts_among origin (centre ++ next ∷ []) ≡ receipts_among origin centre ++ option_to_list (receipt_at origin next)
  receipts-push centre next =
      flat_map-append (λ p. option_to_list (receipt_at origin p)) centre (next ∷ [])
      ∙ ap (λ (es : List (Place × ReceivedReceipt)). receipts_among origin centre ++ es) (append-nil (option_to_list (receipt_at origin next)))

  receipt-own : (next : StoredPdu) (x : Place × ReceivedReceipt) → receipt_at origin next ≡ Some x → x.0.session.0 ≡ origin.session.0
  receipt-own next x e = by (receipt_in next.content) e
    where
      by : (r : Option Receipt) → option_map (λ (r : Receipt). (place_of origin FromCentre next, received origin next r)) r ≡ Some x → x.0.session.0 ≡ origin.session.0
      by None e = absurd cc
      by (Some r) e = let one : (place_of origin FromCentre next, received origin next r) ≡ x = cc in ap (λ (x : Place × ReceivedReceipt). x.0.session.0) (sym one)

  pub centre-step : (client centre : List StoredPdu) (next : StoredPdu) (t : TrafficValue) → Rises 0 client → Rises 0 (centre ++ next ∷ []) → HasPdus was origin client centre t
      → HasPdus was origin client (centre ++ next ∷ []) (moved_by t (centre_moves origin client centre next))
  centre-step client centre next t rises centre_rises has =
      let grown = receipts-push centre next in
      let sorted = rising-sorted origin.session.0 FromCentre (receipts_among origin (centre ++ next ∷ [])) (receipts-rise origin 0 (centre ++ next ∷ []) centre_rises) in
      let new : FinMap place_cmp Message = from_entries (messages_among origin client (centre ++ next ∷ [])) in
      let changed : TrafficValue = record t { messages = patched t.messages (get new) (map (λ e. e.0) (answered origin client centre next)) } in
      subst (HasPdus was origin client (centre ++ next ∷ []))
      (sym (moved-both t (flat_map anew (answered origin client centre next)) (map PutReceipt (option_to_list (receipt_at origin next)))
      ∙ ap (λ (u : TrafficValue). moved_by u (map PutReceipt (option_to_list (receipt_at origin next)))) (puts-anew (get new) t (answered origin client centre next) (answered-found origin client centre next rises was.messages))
      ∙ puts-receipt changed (receipt_at origin next)))
      (record {
        messages = answers-put origin client centre next rises was.messages t.messages has.messages;
        receipts = subst (λ es. HasAt origin.session.0 was.receipts es (put_in t.receipts (receipt_at origin next))) (sym grown)
            (put-last origin.session.0 was.receipts (receipts_among origin centre) (receipt_at origin next) t.receipts
            (λ x e. receipt-own next x e)
            (subst (λ (es : List (Place × ReceivedReceipt)). T (is_sorted place_cmp es)) grown sorted) has.receipts);
        notes = has.notes;
      })

  client-steps : (client centre later : List StoredPdu) (t : TrafficValue) → Rises 0 (client ++ later) → HasPdus was origin client centre t
      → HasPdus was origin (client ++ later) centre (moved_by t (push_moves origin FromClient client centre later))
  client-steps client centre [] t rises has = subst (λ ps. HasPdus was origin ps centre t) (sym (append-nil client)) has
  client-steps client centre (next ∷ later) t rises has =
      let longer : (client ++ next ∷ []) ++ later ≡ client ++ next ∷ later = append_assoc client (next ∷ []) later in
      let all : Rises 0 ((client ++ next ∷ []) ++ later) = subst (λ ps. Rises 0 ps) (sym longer) rises in
      let step = client-step client centre next t (rises-front 0 (client ++ next ∷ []) later all) has in
      subst (λ u. HasPdus was origin (client ++ next ∷ later) centre u) (sym (moved-both t (client_moves origin client centre next) (push_moves origin FromClient (client ++ next ∷ []) centre later)))
      (subst (λ ps. HasPdus was origin ps centre (moved_by (moved_by t (client_moves origin client centre next)) (push_moves origin FromClient (client ++ next ∷ []) centre later))) longer
      (client-steps (client ++ next ∷ []) centre later (moved_by t (client_moves origin client centre next)) all step))

  centre-steps : (client centre later : List StoredPdu) (t : TrafficValue) → Rises 0 client → Rises 0 (centre ++ later) → HasPdus was origin client centre t
      → HasPdus was origin client (centre ++ later) (moved_by t (push_moves origin FromCentre client centre later))
  centre-steps client centre [] t client_rises rises has = subst (λ ps. HasPdus was origin client ps t) (sym (append-nil centre)) has
  centre-steps client centre (next ∷ later) t client_rises rises has =
      let longer : (centre ++ next ∷ []) ++ later ≡ centre ++ next ∷ later = append_assoc centre (next ∷ []) later in
      let all : Rises 0 ((centre ++ next ∷ []) ++ later) = subst (λ ps. Rises 0 ps) (sym longer) rises in
      let step = centre-step client centre next t client_rises (rises-front 0 (centre ++ next ∷ []) later all) has in
      subst (λ u. HasPdus was origin client (centre ++ next ∷ later) u) (sym (moved-both t (centre_moves origin client centre next) (push_moves origin FromCentre client (centre ++ next ∷ []) later)))
      (subst (λ ps. HasPdus was origin client ps (moved_by (moved_by t (centre_moves origin client centre next)) (push_moves origin FromCentre client (centre ++ next ∷ []) later))) longer
      (centre-steps client (centre ++ next ∷ []) later (moved_by t (centre_moves origin client centre next)) client_rises all step))

-- ---- a batch of a session

module _ (sessions : FinMap nat_cmp Session) (batch : BatchValue) where
  abbrev found : Option Session
  found = get sessions batch.session.0

  abbrev before : Session
  before = session_before found batch.link

  abbrev after : Session
  after = session_after found batch

  abbrev place : Origin
  place = batch_origin found batch

  abbrev number : ℕ
  number = batch.session.0

  abbrev all_at : {Y : Type 0} → (ℕ × Session → List (Place × Y)) → FinMap place_cmp Y
  all_at block = from_entries (flat_map block (entries sessions))

  said-before : {Y : Type 0} (block : ℕ × Session → List (Place × Y)) (own : (e : ℕ × Session) (q : Place) → session_number q ≢ e.0 → find place_cmp q (block e) ≡ None)
      → ((n : ℕ) (link : LinkId) (q : Place) → find place_cmp q (block (n, record { link = link; client = []; centre = [] })) ≡ None)
      → HasAt number (all_at block) (block (number, before)) (all_at block)
  said-before block own empty = λ q. elim (eq_by_cmp nat_cmp q.session.0 number) as (λ b. eq_by_cmp nat_cmp q.session.0 number ≡ b → get (all_at block) q ≡ cond b (find place_cmp q (block (number, before))) (get (all_at block) q)) [
    | true ↦ λ t.
        said-at places_total places_exact session_number block own sessions q
        ∙ ap (λ n. option_and_then (λ s. find place_cmp q (block (n, s))) (get sessions n)) (maps.same_key nat_cmp_total nat_cmp-IsAntisymmetric q.session.0 number t)
        ∙ by q found
    | false ↦ λ t. refl
  ] refl
    where
      by : (q : Place) (s : Option Session) → option_and_then (λ s. find place_cmp q (block (number, s))) s ≡ find place_cmp q (block (number, session_before s batch.link))
      by q None = sym (empty number batch.link q)
      by q (Some s) = refl

  none-said : (n : ℕ) (link : LinkId) (q : Place) → find place_cmp q (session_messages (n, record { link = link; client = []; centre = [] })) ≡ None
  none-said n link q = ap (λ ps. find place_cmp q (messages_among (record { session = record { 0 = n }; link = link }) ps (kept_pdus []))) kept_pdus-nil

  none-received : (n : ℕ) (link : LinkId) (q : Place) → find place_cmp q (session_receipts (n, record { link = link; client = []; centre = [] })) ≡ None
  none-received n link q = ap (λ ps. find place_cmp q (receipts_among (record { session = record { 0 = n }; link = link }) ps)) kept_pdus-nil

  pub at-first : HasPdus (traffic_of sessions) place (kept_pdus before.client) (kept_pdus before.centre) (traffic_of sessions)
  at-first = record {
    messages = said-before session_messages messages-own none-said;
    receipts = said-before session_receipts receipts-own none-received;
    notes = refl;
  }

  -- traffic with the PDUs of the session after the batch, but its notes, is the traffic then
  at-last : (t : TrafficValue) → HasPdus (traffic_of sessions) place (kept_pdus after.client) (kept_pdus after.centre) t → after.link ≡ before.link
      → record (traffic_of (insert sessions number after)) { notes = (traffic_of sessions).notes } ≡ t
  at-last t has link =
      let same : origin_of (number, after) ≡ place = λ i. record { session = record { 0 = number }; link = link i } in
      let messages : (traffic_of (insert sessions number after)).messages ≡ t.messages = same_map places_total places_exact _ _ (λ q.
      said-put places_total places_exact session_number session_messages messages-own sessions number after q
      ∙ ap (λ o. cond (eq_by_cmp nat_cmp q.session.0 number) (find place_cmp q (messages_among o (kept_pdus after.client) (kept_pdus after.centre))) (get (traffic_of sessions).messages q)) same
      ∙ sym (has.messages q)) in
      let receipts : (traffic_of (insert sessions number after)).receipts ≡ t.receipts = same_map places_total places_exact _ _ (λ q.
      said-put places_total places_exact session_number session_receipts receipts-own sessions number after q
      ∙ ap (λ o. cond (eq_by_cmp nat_cmp q.session.0 number) (find place_cmp q (receipts_among o (kept_pdus after.centre))) (get (traffic_of sessions).receipts q)) same
      ∙ sym (has.receipts q)) in
      λ i. record { messages = messages i; receipts = receipts i; notes = sym has.notes i }

-- ---- by direction

pub grown-client : (session : Option Session) (batch : BatchValue) → batch.dir ≡ FromClient → session_after session batch ≡ record (session_before session batch.link) { client = (session_before session batch.link).client ++ handed_in batch.moment batch.octets }
grown-client None batch e = ap (λ d. session_with d (handed_in batch.moment batch.octets) (session_before None batch.link)) e
grown-client (Some s) batch e = ap (λ d. session_with d (handed_in batch.moment batch.octets) s) e

pub grown-centre : (session : Option Session) (batch : BatchValue) → batch.dir ≡ FromCentre → session_after session batch ≡ record (session_before session batch.link) { centre = (session_before session batch.link).centre ++ handed_in batch.moment batch.octets }
grown-centre None batch e = ap (λ d. session_with d (handed_in batch.moment batch.octets) (session_before None batch.link)) e
grown-centre (Some s) batch e = ap (λ d. session_with d (handed_in batch.moment batch.octets) s) e

pub octets-before : (session : Option Session) (link : LinkId) (dir : Dir) → octets_in dir session ≡ direction dir (session_before session link)
octets-before None link FromClient = refl
octets-before None link FromCentre = refl
octets-before (Some s) link dir = refl

pub appended : (sessions : FinMap nat_cmp Session) (batch : BatchValue) → batch.tail ≡ tail_of (values (octets_in batch.dir (get sessions batch.session.0)))
    → record (traffic_of (insert sessions batch.session.0 (session_after (get sessions batch.session.0) batch))) { notes = (traffic_of sessions).notes }
    ≡ moved_by (traffic_of sessions) (append_moves (get sessions batch.session.0) batch)
appended sessions batch in_step = by batch.dir refl
  where
    by : (d : Dir) → batch.dir ≡ d → record (traffic_of (insert sessions batch.session.0 (session_after (get sessions batch.session.0) batch))) { notes = (traffic_of sessions).notes }
        ≡ moved_by (traffic_of sessions) (append_moves (get sessions batch.session.0) batch)
    by FromClient e =
        let old = get sessions batch.session.0 in
        let first = session_before old batch.link in
        let grown = grown-client old batch e in
        let tail : batch.tail ≡ tail_of (values first.client) = in_step ∙ ap (λ d. tail_of (values (octets_in d old))) e ∙ ap (λ o. tail_of (values o)) (octets-before old batch.link FromClient) in
        let pdus : kept_pdus (first.client ++ handed_in batch.moment batch.octets) ≡ kept_pdus first.client ++ batch_pdus batch = pdus-grown first.client batch.moment batch.octets ∙ ap (λ tail. kept_pdus first.client ++ kept_frames (frames_after tail batch.moment batch.octets)) (sym tail) in
        let rises : Rises 0 (kept_pdus first.client ++ batch_pdus batch) = subst (λ ps. Rises 0 ps) pdus (kept-rise (first.client ++ handed_in batch.moment batch.octets)) in
        let steps = client-steps (traffic_of sessions) (batch_origin old batch) (kept_pdus first.client) (kept_pdus first.centre) (batch_pdus batch) (traffic_of sessions) rises (at-first sessions batch) in
        let moves : push_moves (batch_origin old batch) FromClient (kept_pdus first.client) (kept_pdus first.centre) (batch_pdus batch) ≡ append_moves old batch = ap (λ d. push_moves (batch_origin old batch) d (kept_pdus first.client) (kept_pdus first.centre) (batch_pdus batch)) (sym e) in
        at-last sessions batch (moved_by (traffic_of sessions) (append_moves old batch))
        (subst (λ ms. HasPdus (traffic_of sessions) (batch_origin old batch) (kept_pdus (session_after old batch).client) (kept_pdus (session_after old batch).centre) (moved_by (traffic_of sessions) ms)) moves
        (subst (λ (s : Session). HasPdus (traffic_of sessions) (batch_origin old batch) (kept_pdus s.client) (kept_pdus s.centre) (moved_by (traffic_of sessions) (push_moves (batch_origin old batch) FromClient (kept_pdus first.client) (kept_pdus first.centre) (batch_pdus batch)))) (sym grown)
        (subst (λ ps. HasPdus (traffic_of sessions) (batch_origin old batch) ps (kept_pdus first.centre) (moved_by (traffic_of sessions) (push_moves (batch_origin old batch) FromClient (kept_pdus first.client) (kept_pdus first.centre) (batch_pdus batch)))) (sym pdus) steps)))
        (ap (λ (s : Session). s.link) grown)
    by FromCentre e =
        let old = get sessions batch.session.0 in
        let first = session_before old batch.link in
        let grown = grown-centre old batch e in
        let tail : batch.tail ≡ tail_of (values first.centre) = in_step ∙ ap (λ d. tail_of (values (octets_in d old))) e ∙ ap (λ o. tail_of (values o)) (octets-before old batch.link FromCentre) in
        let pdus : kept_pdus (first.centre ++ handed_in batch.moment batch.octets) ≡ kept_pdus first.centre ++ batch_pdus batch = pdus-grown first.centre batch.moment batch.octets ∙ ap (λ tail. kept_pdus first.centre ++ kept_frames (frames_after tail batch.moment batch.octets)) (sym tail) in
        let rises : Rises 0 (kept_pdus first.centre ++ batch_pdus batch) = subst (λ ps. Rises 0 ps) pdus (kept-rise (first.centre ++ handed_in batch.moment batch.octets)) in
        let steps = centre-steps (traffic_of sessions) (batch_origin old batch) (kept_pdus first.client) (kept_pdus first.centre) (batch_pdus batch) (traffic_of sessions) (kept-rise first.client) rises (at-first sessions batch) in
        let moves : push_moves (batch_origin old batch) FromCentre (kept_pdus first.client) (kept_pdus first.centre) (batch_pdus batch) ≡ append_moves old batch = ap (λ d. push_moves (batch_origin old batch) d (kept_pdus first.client) (kept_pdus first.centre) (batch_pdus batch)) (sym e) in
        at-last sessions batch (moved_by (traffic_of sessions) (append_moves old batch))
        (subst (λ ms. HasPdus (traffic_of sessions) (batch_origin old batch) (kept_pdus (session_after old batch).client) (kept_pdus (session_after old batch).centre) (moved_by (traffic_of sessions) ms)) moves
        (subst (λ (s : Session). HasPdus (traffic_of sessions) (batch_origin old batch) (kept_pdus s.client) (kept_pdus s.centre) (moved_by (traffic_of sessions) (push_moves (batch_origin old batch) FromCentre (kept_pdus first.client) (kept_pdus first.centre) (batch_pdus batch)))) (sym grown)
        (subst (λ ps. HasPdus (traffic_of sessions) (batch_origin old batch) (kept_pdus first.client) ps (moved_by (traffic_of sessions) (push_moves (batch_origin old batch) FromCentre (kept_pdus first.client) (kept_pdus first.centre) (batch_pdus batch)))) (sym pdus) steps)))
        (ap (λ (s : Session). s.link) grown)
