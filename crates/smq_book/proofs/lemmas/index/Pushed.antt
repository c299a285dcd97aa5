-- What is held after moves, one list after the other; moves of notes leave messages; what a pair says of a message's response.
use Rattle.std.proofs.Common.{◌≡◌, ℕ, Bool, true, false, cond, List, [], ◌∷◌, ◌++◌, length, Option, Some, None, refl, sym, ap, ◌∙◌, subst}
use Rattle.std.proofs.lemmas.List.{append-nil, map-append}
use Rattle.smq_kit.specs.declared.place.Place.{Place}
use Rattle.std.specs.Prelude.{⊤, map, slice_get, option_and_then, option_map, option_to_list}
use Rattle.std.specs.List.{AllByRecursion, flat_map}
use Rattle.std.specs.FinMap.{FinMap, get, insert, remove, get-insert, get-remove, same_map}
use Rattle.std.specs.Cmp.{tied_itself}
use Rattle.std.specs.Ordering.{eq_by_cmp, is_eq}
use Rattle.smq_kit.specs.Orders.{place_cmp}
use Rattle.smq_kit.proofs.PlaceOrders.{places_total, places_exact}
use Rattle.smq_receipt.specs.declared.reading.Receipt.{Receipt}
use Rattle.smq_kit.specs.declared.place.Dir.{Dir}
use Rattle.smq_kit.specs.declared.place.Dir.TheVariants.{FromClient, FromCentre}
use Rattle.smq_pair.specs.declared.pairing.Pair.{Pair}
use Rattle.smq_pair.specs.Pairing.{PlacedHeader, pair_at, placed_header}
use Rattle.smq_pair.specs.Growth.{made_by, pushed}
use Rattle.smq_pdu.specs.declared.body.Submit.{Submit}
use Rattle.smq_pdu.specs.Pairing.{is_request, is_response, request_rank, response_index}
use Rattle.smq_present.specs.declared.present.kept.StoredPdu.{StoredPdu}
use Rattle.smq_present.specs.present.Kept.{header_of, headers_of, is_undecodable, is_unreadable, receipt_in, submit_in}
use Rattle.smq_present.specs.pairing.Traffic.{Message, Origin, ReceivedReceipt, Response, TrafficValue, received, message_of, pairing_among, place_of, placed, response_in, response_to}
use Rattle.smq_present.specs.within.Pairs.{Rises, SubmitsAreRequests}
use Rattle.smq_book.specs.edits.Appended.{anew, client_moves}
use Rattle.smq_book.specs.edits.AppendedNotes.{met_moves, undecodable_moves, unreadable_moves}
use Rattle.smq_present.proofs.lemmas.join.AgreeLists.{response-same}
use Rattle.smq_present.proofs.lemmas.pairing.Paired.{pair_with, request-pair}
use Rattle.smq_present.proofs.lemmas.pairing.Searched.{at-offset}
use Rattle.smq_present.specs.present.Settings.{SettingsValue}
use Rattle.smq_present.specs.join.Moves.{Move, PutMessage, TakeMessage, PutReceipt, TakeReceipt, PutNote, TakeNote, moved, moved_by}
use Rattle.smq_book.specs.index.Held.{Holding, IsHeld, IsTraffic, KeepsTraffic, held_of, traffic_held}
use Rattle.smq_book.specs.index.Pushed.{IsHeldAfter, answer_moves, message_with, noted_moves, receipt_moves, said_by, paired_response, submit_moves, with_response}
use Rattle.smq_book.proofs.lemmas.edits.Moved.{moved-both}
use Rattle.smq_book.proofs.lemmas.index.Kept.{moved-held, moved-is}

module _ (s : SettingsValue) (g : Holding) where
  pub after-none : IsHeld s g → IsHeldAfter s g [] g
  after-none is = record { held = is; traffic = refl }

  pub after-one : (h : Holding) (move : Move) → IsHeld s g → KeepsTraffic move → h ≡ held_of s (moved (traffic_held g) move)
      → IsHeldAfter s g (move ∷ []) h
  after-one h move is keeps held = record { held = moved-held s g h is move keeps held; traffic = moved-is s g h is move keeps held }

  pub after-both : {xs ys : List Move} (h k : Holding) → IsHeldAfter s g xs h → IsHeldAfter s h ys k → IsHeldAfter s g (xs ++ ys) k
  after-both {xs} {ys} h k a b = record {
    held = b.held;
    traffic = b.traffic ∙ ap (λ t. moved_by t ys) a.traffic ∙ sym (moved-both (traffic_held g) xs ys);
  }

  -- moves that are told otherwise
  pub after-same : (h : Holding) (xs ys : List Move) → xs ≡ ys → IsHeldAfter s g xs h → IsHeldAfter s g ys h
  after-same h xs ys same a = subst (λ ms. IsHeldAfter s g ms h) same a

-- ---- moves of notes

abbrev pub IsOfNotes : Move → Type 0
IsOfNotes (PutMessage e) = ⊥
IsOfNotes (TakeMessage q) = ⊥
IsOfNotes (PutReceipt e) = ⊥
IsOfNotes (TakeReceipt q) = ⊥
IsOfNotes (PutNote note) = ⊤
IsOfNotes (TakeNote note) = ⊤

abbrev pub AreOfNotes : List Move → Type 0
AreOfNotes moves = AllByRecursion IsOfNotes moves

-- they leave messages and receipts
messages-moved : (t : TrafficValue) (move : Move) → IsOfNotes move → (moved t move).messages ≡ t.messages
messages-moved t (PutMessage e) of = absurd of
messages-moved t (TakeMessage q) of = absurd of
messages-moved t (PutReceipt e) of = absurd of
messages-moved t (TakeReceipt q) of = absurd of
messages-moved t (PutNote note) of = refl
messages-moved t (TakeNote note) of = refl

receipts-moved : (t : TrafficValue) (move : Move) → IsOfNotes move → (moved t move).receipts ≡ t.receipts
receipts-moved t (PutMessage e) of = absurd of
receipts-moved t (TakeMessage q) of = absurd of
receipts-moved t (PutReceipt e) of = absurd of
receipts-moved t (TakeReceipt q) of = absurd of
receipts-moved t (PutNote note) of = refl
receipts-moved t (TakeNote note) of = refl

pub messages-stay : (t : TrafficValue) (moves : List Move) → AreOfNotes moves → (moved_by t moves).messages ≡ t.messages
messages-stay t [] of = refl
messages-stay t (move ∷ moves) of = messages-stay (moved t move) moves of.1 ∙ messages-moved t move of.0

pub receipts-stay : (t : TrafficValue) (moves : List Move) → AreOfNotes moves → (moved_by t moves).receipts ≡ t.receipts
receipts-stay t [] of = refl
receipts-stay t (move ∷ moves) of = receipts-stay (moved t move) moves of.1 ∙ receipts-moved t move of.0

both-of-notes : (xs ys : List Move) → AreOfNotes xs → AreOfNotes ys → AreOfNotes (xs ++ ys)
both-of-notes [] ys a b = b
both-of-notes (x ∷ xs) ys a b = (a.0, both-of-notes xs ys a.1 b)

one-of-notes : (b : Bool) (xs ys : List Move) → AreOfNotes xs → AreOfNotes ys → AreOfNotes (cond b xs ys)
one-of-notes true xs ys a b = a
one-of-notes false xs ys a b = b

either-of-notes : (b : Bool) (x y : Move) → IsOfNotes x → IsOfNotes y → IsOfNotes (cond b x y)
either-of-notes true x y a b = a
either-of-notes false x y a b = b

module _ (origin : Origin) where
  met-of-notes : (p : PlacedHeader) (made : Option Pair) → AreOfNotes (met_moves p made)
  met-of-notes p None = one-of-notes (is_request p.header) _ _ (tt, tt) (one-of-notes (is_response p.header) _ _ (tt, tt) tt)
  met-of-notes p (Some pair) = (either-of-notes (is_request p.header) _ _ tt tt, one-of-notes pair.agrees _ _ tt (tt, tt))

  unreadable-of-notes : (dir : Dir) (next : StoredPdu) → AreOfNotes (unreadable_moves origin dir next)
  unreadable-of-notes FromClient next = tt
  unreadable-of-notes FromCentre next = one-of-notes (is_unreadable next.content) _ _ (tt, tt) tt

  pub noted-of-notes : (dir : Dir) (next : StoredPdu) (made : Option Pair) → AreOfNotes (noted_moves origin dir next made)
  noted-of-notes dir next made =
      both-of-notes (met_moves (placed origin dir next) made ++ undecodable_moves origin dir next) (unreadable_moves origin dir next)
      (both-of-notes (met_moves (placed origin dir next) made) (undecodable_moves origin dir next)
      (met-of-notes (placed origin dir next) made) (one-of-notes (is_undecodable next.content) _ _ (tt, tt) tt))
      (unreadable-of-notes dir next)

  -- what is held after them has the messages and the receipts that there were
  module _ (s : SettingsValue) (g h : Holding) (dir : Dir) (next : StoredPdu) (made : Option Pair)
      (after : IsHeldAfter s g (noted_moves origin dir next made) h) where
    pub messages-noted : h.messages ≡ g.messages
    messages-noted = ap (λ (t : TrafficValue). t.messages) after.traffic
        ∙ messages-stay (traffic_held g) (noted_moves origin dir next made) (noted-of-notes dir next made)

    pub receipts-noted : h.receipts ≡ g.receipts
    receipts-noted = ap (λ (t : TrafficValue). t.receipts) after.traffic
        ∙ receipts-stay (traffic_held g) (noted_moves origin dir next made) (noted-of-notes dir next made)

-- what a pair changes of notes goes by the command alone
met-header : (q : Place) (command status seq : ℕ) (made : Option Pair)
    → met_moves (placed_header q command 0 0) made ≡ met_moves (placed_header q command status seq) made
met-header q command status seq None = refl
met-header q command status seq (Some pair) = refl

module _ (origin : Origin) (next : StoredPdu) (made : Option Pair) (q : Place) where
  met-placed : (dir : Dir) → q ≡ place_of origin dir next
      → met_moves (placed_header q next.command 0 0) made ≡ met_moves (placed origin dir next) made
  met-placed dir is =
      ap (λ (q : Place). met_moves (placed_header q next.command 0 0) made) is
      ∙ met-header (place_of origin dir next) next.command next.status next.seq made

  pub noted-client : q ≡ place_of origin FromClient next
      → met_moves (placed_header q next.command 0 0) made ++ undecodable_moves origin FromClient next ≡ noted_moves origin FromClient next made
  noted-client is =
      ap (λ ms. ms ++ undecodable_moves origin FromClient next) (met-placed FromClient is)
      ∙ sym (append-nil (met_moves (placed origin FromClient next) made ++ undecodable_moves origin FromClient next))

  pub noted-centre : q ≡ place_of origin FromCentre next
      → (met_moves (placed_header q next.command 0 0) made ++ undecodable_moves origin FromCentre next) ++ unreadable_moves origin FromCentre next
      ≡ noted_moves origin FromCentre next made
  noted-centre is =
      ap (λ ms. (ms ++ undecodable_moves origin FromCentre next) ++ unreadable_moves origin FromCentre next) (met-placed FromCentre is)

-- ---- the response of the next PDU of the client

module _ (o : Origin) where
  -- what the pair says is what the response says to the request
  said-again : (centre : List StoredPdu) (p : StoredPdu) (at : Option ℕ) → Rises 0 centre
      → paired_response centre (option_map (pair_with o p) (option_and_then (λ j. slice_get centre j) at))
      ≡ option_map (response_in (header_of p)) (option_and_then (λ j. slice_get centre j) at)
  said-again centre p None rises = refl
  said-again centre p (Some j) rises = again (slice_get centre j) refl
    where
      again : (r : Option StoredPdu) → slice_get centre j ≡ r
          → paired_response centre (option_map (pair_with o p) r) ≡ option_map (response_in (header_of p)) r
      again None e = refl
      again (Some r) e = ap (option_map (said_by (pair_with o p r))) ((at-offset 0 centre j r rises e).1)

  pushed-client : (client centre : List StoredPdu) (p : StoredPdu)
      → pushed (pairing_among o client centre) (placed o FromClient p) ≡ pairing_among o (client ++ p ∷ []) centre
  pushed-client client centre p = λ i. record {
    client = sym (map-append (placed o FromClient) client (p ∷ [])) i;
    centre = (pairing_among o client centre).centre;
  }

  pub said-to : (client centre : List StoredPdu) (p : StoredPdu) → Rises 0 (client ++ p ∷ []) → Rises 0 centre → is_request (header_of p) ≡ true
      → paired_response centre (pair_at (pushed (pairing_among o client centre) (placed o FromClient p)) (place_of o FromClient p))
      ≡ option_map (response_in (header_of p)) (response_to centre client p)
  said-to client centre p rises centre_rises request =
      let same = response-same (client ++ p ∷ []) centre client (p ∷ []) (length client) p refl refl in
      ap (λ v. paired_response centre (pair_at v (place_of o FromClient p))) (pushed-client client centre p)
      ∙ ap (paired_response centre) (request-pair o client [] centre p rises request ∙ ap (option_map (pair_with o p)) same)
      ∙ said-again centre p
      (response_index (headers_of centre) p.seq (request_rank (headers_of (client ++ p ∷ [])) (length client) p.seq)) centre_rises
      ∙ ap (option_map (response_in (header_of p))) (sym same)

-- ---- the next PDU of the client

last-at : (xs : List StoredPdu) (y : StoredPdu) → slice_get (xs ++ y ∷ []) (length xs) ≡ Some y
last-at [] y = refl
last-at (x ∷ xs) y = last-at xs y

module _ (origin : Origin) (next : StoredPdu) where
  -- where it is a submit_sm or data_sm, it puts in one message
  pub submit-one : (response : Option Response) (submit : Submit) (q : Place) (m : Message) → q ≡ place_of origin FromClient next
      → m ≡ message_with origin next submit response → Some submit ≡ submit_in next.content
      → PutMessage (q, m) ∷ [] ≡ submit_moves origin next response
  submit-one response submit q m place message said =
      ap (λ (q : Place). PutMessage (q, m) ∷ []) place
      ∙ ap (λ (m : Message). PutMessage (place_of origin FromClient next, m) ∷ []) message
      ∙ ap (λ (o : Option Submit). map PutMessage (option_to_list
      (option_map (λ (submit : Submit). (place_of origin FromClient next, message_with origin next submit response)) o))) said

  -- its message by what the pair that it makes says is what it puts in
  module _ (client centre : List StoredPdu)
      (rises : Rises 0 (client ++ next ∷ [])) (centre_rises : Rises 0 centre) (asks : SubmitsAreRequests (client ++ next ∷ [])) where
    abbrev made : Option Pair
    made = made_by (pairing_among origin client centre) (placed origin FromClient next)

    message-by : (o : Option Submit) → submit_in next.content ≡ o
        → map PutMessage (option_to_list (option_map
        (λ (submit : Submit). (place_of origin FromClient next, message_with origin next submit (paired_response centre made))) o))
        ≡ map PutMessage (option_to_list (option_map
        (λ (submit : Submit). (place_of origin FromClient next, message_of origin next submit (response_to centre client next))) o))
    message-by None e = refl
    message-by (Some submit) e =
        ap (λ (r : Option Response). PutMessage (place_of origin FromClient next, message_with origin next submit r) ∷ [])
        (said-to origin client centre next rises centre_rises (asks.each (length client) next submit (last-at client next) e))

    pub client-pushed : submit_moves origin next (paired_response centre made) ≡ client_moves origin client centre next
    client-pushed = message-by (submit_in next.content) refl

-- ---- the next PDU of the centre

-- where a message stands, no receipt does
pub no-receipt : (t : TrafficValue) → IsTraffic t → (q : Place) (m : Message) → get t.messages q ≡ Some m → get t.receipts q ≡ None
no-receipt t is q m there = by (get t.receipts q) refl
  where
    by : (r : Option ReceivedReceipt) → get t.receipts q ≡ r → r ≡ None
    by None e = refl
    by (Some r) e = let clash : FromClient ≡ FromCentre = sym (is.messages q m there) ∙ is.receipts q r e in absurd cc

-- a place is empty once what stood there is taken out
pub taken-out : {X : Type 0} (m : FinMap place_cmp X) (q : Place) → get (remove m q) q ≡ None
taken-out m q = get-remove places_total m q q ∙ ap (λ b. cond b None (get m q)) (ap is_eq (tied_itself places_total q))

-- a message that is put in takes the place of the one that stood there, taken out before or not
put-over : (m : FinMap place_cmp Message) (q : Place) (n : Message) → insert (remove m q) q n ≡ insert m q n
put-over m q n = same_map places_total places_exact _ _ (λ p.
    get-insert places_total (remove m q) q n p
    ∙ ap (cond (eq_by_cmp place_cmp p q) (Some n)) (get-remove places_total m q p)
    ∙ hidden (eq_by_cmp place_cmp p q) (get m p)
    ∙ sym (get-insert places_total m q n p))
  where
    hidden : (b : Bool) (x : Option Message) → cond b (Some n) (cond b None x) ≡ cond b (Some n) x
    hidden true x = refl
    hidden false x = refl

-- so what is held after it is put in is what is held after both
pub after-over : (s : SettingsValue) (g h : Holding) (q : Place) (n : Message) → IsHeldAfter s g (PutMessage (q, n) ∷ []) h
    → IsHeldAfter s g (TakeMessage q ∷ PutMessage (q, n) ∷ []) h
after-over s g h q n a = record {
  held = a.held;
  traffic = a.traffic ∙ sym (λ i. record {
    messages = put-over (traffic_held g).messages q n i;
    receipts = (traffic_held g).receipts;
    notes = (traffic_held g).notes;
  });
}

module _ (messages : FinMap place_cmp Message) (next : StoredPdu) where
  abbrev answered_in : Pair → Option Message → List Move
  answered_in pair found = flat_map anew (option_to_list (option_map (λ m. (pair.request, with_response m (said_by pair next))) found))

  pub answer-one : (pair : Pair) (m n : Message) → get messages pair.request ≡ Some m → n ≡ with_response m (said_by pair next)
      → TakeMessage pair.request ∷ PutMessage (pair.request, n) ∷ [] ≡ answer_moves messages (Some pair) next
  answer-one pair m n there is =
      ap (λ (n : Message). TakeMessage pair.request ∷ PutMessage (pair.request, n) ∷ []) is ∙ ap (answered_in pair) (sym there)

  pub answer-none : (pair : Pair) → get messages pair.request ≡ None → [] ≡ answer_moves messages (Some pair) next
  answer-none pair gone = ap (answered_in pair) (sym gone)

  -- receipts stay
  pub receipts-answered : (t : TrafficValue) (made : Option Pair) → (moved_by t (answer_moves messages made next)).receipts ≡ t.receipts
  receipts-answered t None = refl
  receipts-answered t (Some pair) = by (get messages pair.request)
    where
      by : (found : Option Message) → (moved_by t (answered_in pair found)).receipts ≡ t.receipts
      by None = refl
      by (Some m) = refl

module _ (origin : Origin) (next : StoredPdu) where
  pub receipt-one : (receipt : Receipt) (q : Place) (r : ReceivedReceipt) → q ≡ place_of origin FromCentre next
      → r ≡ received origin next receipt → Some receipt ≡ receipt_in next.content → PutReceipt (q, r) ∷ [] ≡ receipt_moves origin next
  receipt-one receipt q r place is said =
      ap (λ (q : Place). PutReceipt (q, r) ∷ []) place
      ∙ ap (λ (r : ReceivedReceipt). PutReceipt (place_of origin FromCentre next, r) ∷ []) is
      ∙ ap (λ (o : Option Receipt). map PutReceipt (option_to_list
      (option_map (λ (receipt : Receipt). (place_of origin FromCentre next, received origin next receipt)) o))) said
