-- Traffic that says what the PDUs of a session say goes on to say it as PDUs more come, each with its notes.
use Rattle.std.proofs.Common.{◌≡◌, ℕ, zero, suc, ◌+◌, ◌<◌, Bool, true, false, cond, List, [], ◌∷◌, ◌++◌, length, take, drop, get_or, Option, Some, None, refl, sym, ap, ◌∙◌, subst, arith, append_assoc, append-nil, take-append-drop}
use Rattle.std.specs.Prelude.{map, slice_get, option_map, option_to_list}
use Rattle.std.specs.FinMap.{FinMap, find, get, nat_cmp-IsAntisymmetric}
use Rattle.std.specs.Cmp.{nat_cmp_total, tied_itself}
use Rattle.std.specs.Ordering.{eq_by_cmp, is_eq, nat_cmp}
use Rattle.std.proofs.lemmas.List.{drop_more, map-append, take_more}
use Rattle.smq_kit.specs.declared.place.Dir.{Dir}
use Rattle.smq_kit.specs.declared.place.Dir.TheVariants.{FromClient, FromCentre}
use Rattle.smq_kit.specs.declared.place.Place.{Place}
use Rattle.smq_kit.specs.Orders.{place_cmp}
use Rattle.smq_kit.proofs.MapLemmas.{same_key}
use Rattle.smq_receipt.specs.declared.reading.Receipt.{Receipt}
use Rattle.smq_pair.specs.declared.pairing.Pair.{Pair}
use Rattle.smq_pair.specs.Growth.{IsNext, made_by, pushed}
use Rattle.smq_present.specs.declared.present.kept.StoredPdu.{StoredPdu}
use Rattle.smq_present.specs.declared.present.session.Session.{Session}
use Rattle.smq_present.specs.present.Kept.{kept_pdus, receipt_in}
use Rattle.smq_present.specs.present.Present.{direction}
use Rattle.smq_present.specs.present.Settings.{SettingsValue}
use Rattle.smq_present.specs.pairing.Traffic.{Message, Origin, ReceivedReceipt, TrafficValue, messages_among, place_of, placed, received, receipts_among}
use Rattle.smq_present.specs.within.Pairs.{Rises, SubmitsAreRequests}
use Rattle.smq_present.specs.join.Moves.{Move, moved_by}
use Rattle.smq_book.specs.edits.Appended.{centre_moves, client_moves}
use Rattle.smq_book.specs.edits.AppendedNotes.{next_moves}
use Rattle.smq_book.specs.index.Held.{Holding, IsTraffic}
use Rattle.smq_book.specs.index.Pushed.{IsHeldAfter, IsSaidBy, IsUnsaid, centre_with, client_with, moves_by, pairing_with, pdu_moves, pushed_moves, receipt_moves}
use Rattle.smq_book.proofs.lemmas.edits.Appends.{HasPdus, centre-step, client-step, rises-front}
use Rattle.smq_book.proofs.lemmas.edits.Moved.{moved-both}
use Rattle.smq_book.proofs.lemmas.edits.PushNotes as places
use Rattle.smq_present.proofs.lemmas.pairing.Paired.{above}
use Rattle.smq_present.proofs.lemmas.pairing.PlacesRise.{kept-rise}
use Rattle.smq_present.proofs.lemmas.pairing.Requests.{kept-ask}
use Rattle.smq_book.proofs.lemmas.index.Answering.{answers-are, elsewhere, none-above, waits-for}
use Rattle.smq_book.proofs.lemmas.index.Pushed.{AreOfNotes, after-both, after-same, client-pushed, messages-stay, receipts-stay}
use Rattle.smq_book.proofs.lemmas.index.PushedAll.{messages-by, next-of-notes, receipts-by}

-- ---- told by the places of the session, or of all places

module _ (origin : Origin) (client centre : List StoredPdu) where
  module _ {X : Type 0} (m : FinMap place_cmp X) (es : List (Place × X)) where
    everywhere : ((q : Place) → q.session.0 ≡ origin.session.0 → get m q ≡ find place_cmp q es)
        → (q : Place) → get m q ≡ cond (eq_by_cmp nat_cmp q.session.0 origin.session.0) (find place_cmp q es) (get m q)
    everywhere said q = by (eq_by_cmp nat_cmp q.session.0 origin.session.0) refl
      where
        by : (b : Bool) → eq_by_cmp nat_cmp q.session.0 origin.session.0 ≡ b → get m q ≡ cond b (find place_cmp q es) (get m q)
        by true t = said q (same_key nat_cmp_total nat_cmp-IsAntisymmetric q.session.0 origin.session.0 t)
        by false t = refl

    inside : (rest : FinMap place_cmp X)
        → ((q : Place) → get m q ≡ cond (eq_by_cmp nat_cmp q.session.0 origin.session.0) (find place_cmp q es) (get rest q))
        → (q : Place) → q.session.0 ≡ origin.session.0 → get m q ≡ find place_cmp q es
    inside rest has q at =
        has q
        ∙ ap (λ b. cond b (find place_cmp q es) (get rest q))
        (ap (eq_by_cmp nat_cmp q.session.0) (sym at) ∙ ap is_eq (tied_itself nat_cmp_total q.session.0))

  said-has : (t : TrafficValue) → IsSaidBy origin client centre t → HasPdus t origin client centre t
  said-has t said = record {
    messages = everywhere t.messages (messages_among origin client centre) said.messages;
    receipts = everywhere t.receipts (receipts_among origin centre) said.receipts;
    notes = refl;
  }

  pub has-said : (was t : TrafficValue) → HasPdus was origin client centre t → IsSaidBy origin client centre t
  has-said was t has = record {
    messages = inside t.messages (messages_among origin client centre) was.messages has.messages;
    receipts = inside t.receipts (receipts_among origin centre) was.receipts has.receipts;
  }

  -- notes don't matter
  said-again : (t u : TrafficValue) → u.messages ≡ t.messages → u.receipts ≡ t.receipts → IsSaidBy origin client centre t
      → IsSaidBy origin client centre u
  said-again t u messages receipts said = record {
    messages = λ q at. ap (λ (m : FinMap place_cmp Message). get m q) messages ∙ said.messages q at;
    receipts = λ q at. ap (λ (m : FinMap place_cmp ReceivedReceipt). get m q) receipts ∙ said.receipts q at;
  }

-- moves of notes that come first leave what others leave of messages and receipts
module _ (t : TrafficValue) (notes pdus : List Move) (of : AreOfNotes notes) where
  messages-after : (moved_by t (notes ++ pdus)).messages ≡ (moved_by t pdus).messages
  messages-after =
      ap (λ (v : TrafficValue). v.messages) (moved-both t notes pdus)
      ∙ messages-by (moved_by t notes) t pdus (messages-stay t notes of)

  receipts-after : (moved_by t (notes ++ pdus)).receipts ≡ (moved_by t pdus).receipts
  receipts-after =
      ap (λ (v : TrafficValue). v.receipts) (moved-both t notes pdus)
      ∙ receipts-by (moved_by t notes) t pdus (receipts-stay t notes of)

-- ---- one PDU more

asks-front : (ps qs : List StoredPdu) → SubmitsAreRequests (ps ++ qs) → SubmitsAreRequests ps
asks-front ps qs asks = record { each = λ i p submit at said. asks.each i p submit (at-front ps i p at) said }
  where
    at-front : (ps : List StoredPdu) (i : ℕ) (p : StoredPdu) → slice_get ps i ≡ Some p → slice_get (ps ++ qs) i ≡ Some p
    at-front [] i p at = absurd cc
    at-front (x ∷ ps) zero p at = at
    at-front (x ∷ ps) (suc i) p at = at-front ps i p at

module _ (origin : Origin) where
  said-client : (client centre : List StoredPdu) (next : StoredPdu) (t : TrafficValue) → Rises 0 (client ++ next ∷ [])
      → IsSaidBy origin client centre t
      → IsSaidBy origin (client ++ next ∷ []) centre (moved_by t (pdu_moves origin FromClient client centre next))
  said-client client centre next t rises said =
      let notes = next_moves origin FromClient client centre next in
      let pdus = client_moves origin client centre next in
      let of = next-of-notes origin FromClient client centre next in
      said-again origin (client ++ next ∷ []) centre (moved_by t pdus) (moved_by t (notes ++ pdus))
      (messages-after t notes pdus of) (receipts-after t notes pdus of)
      (has-said origin (client ++ next ∷ []) centre t (moved_by t pdus)
      (client-step t origin client centre next t rises (said-has origin client centre t said)))

  said-centre : (client centre : List StoredPdu) (next : StoredPdu) (t : TrafficValue) → Rises 0 client → Rises 0 (centre ++ next ∷ [])
      → IsSaidBy origin client centre t
      → IsSaidBy origin client (centre ++ next ∷ []) (moved_by t (pdu_moves origin FromCentre client centre next))
  said-centre client centre next t client_rises rises said =
      let notes = next_moves origin FromCentre client centre next in
      let pdus = centre_moves origin client centre next in
      let of = next-of-notes origin FromCentre client centre next in
      said-again origin client (centre ++ next ∷ []) (moved_by t pdus) (moved_by t (notes ++ pdus))
      (messages-after t notes pdus of) (receipts-after t notes pdus of)
      (has-said origin client (centre ++ next ∷ []) t (moved_by t pdus)
      (centre-step t origin client centre next t client_rises rises (said-has origin client centre t said)))

  -- nothing stands at its place yet
  said_as : StoredPdu → Option Receipt → Option (Place × ReceivedReceipt)
  said_as p receipt = option_map (λ (receipt : Receipt). (place_of origin FromCentre p, received origin p receipt)) receipt

  passes : (q : Place) (p : StoredPdu) (receipt : Option Receipt) (rest : List (Place × ReceivedReceipt))
      → eq_by_cmp place_cmp q (place_of origin FromCentre p) ≡ false
      → find place_cmp q (option_to_list (said_as p receipt) ++ rest) ≡ find place_cmp q rest
  unfolding said_as
  passes q p None rest apart = refl
  passes q p (Some receipt) rest apart = ap (λ b. cond b (Some (received origin p receipt)) (find place_cmp q rest)) apart

  no-receipt-above : (ps : List StoredPdu) (low : ℕ) (p : StoredPdu) → Rises low (ps ++ p ∷ [])
      → find place_cmp (place_of origin FromCentre p) (receipts_among origin ps) ≡ None
  unfolding said_as
  no-receipt-above [] low p rises = refl
  no-receipt-above (x ∷ ps) low p rises =
      let more = above (x.offset + 1) ps [] p rises.1 in
      passes (place_of origin FromCentre p) x (receipt_in x.content) (receipts_among origin ps)
      (elsewhere origin FromCentre p x (λ same. omega (arith, more, same)))
      ∙ no-receipt-above ps (x.offset + 1) p rises.1

  client-absent : (client centre : List StoredPdu) (next : StoredPdu) (t : TrafficValue) → Rises 0 (client ++ next ∷ [])
      → IsSaidBy origin client centre t → get t.messages (place_of origin FromClient next) ≡ None
  client-absent client centre next t rises said =
      said.messages (place_of origin FromClient next) refl ∙ none-above origin centre [] client 0 next rises

  centre-absent : (client centre : List StoredPdu) (next : StoredPdu) (t : TrafficValue) → Rises 0 (centre ++ next ∷ [])
      → IsSaidBy origin client centre t → get t.receipts (place_of origin FromCentre next) ≡ None
  centre-absent client centre next t rises said =
      said.receipts (place_of origin FromCentre next) refl ∙ no-receipt-above centre 0 next rises

-- ---- PDUs so far, and one more

pub client-nil : (dir : Dir) (client : List StoredPdu) → client_with dir client [] ≡ client
client-nil FromClient client = append-nil client
client-nil FromCentre client = refl

pub centre-nil : (dir : Dir) (centre : List StoredPdu) → centre_with dir centre [] ≡ centre
centre-nil FromClient centre = refl
centre-nil FromCentre centre = append-nil centre

client-both : (dir : Dir) (client xs ys : List StoredPdu) → client_with dir (client_with dir client xs) ys ≡ client_with dir client (xs ++ ys)
client-both FromClient client xs ys = append_assoc client xs ys
client-both FromCentre client xs ys = refl

centre-both : (dir : Dir) (centre xs ys : List StoredPdu) → centre_with dir (centre_with dir centre xs) ys ≡ centre_with dir centre (xs ++ ys)
centre-both FromClient centre xs ys = refl
centre-both FromCentre centre xs ys = append_assoc centre xs ys

pushed-more : (origin : Origin) (dir : Dir) (client centre done : List StoredPdu) (next : StoredPdu)
    → pushed_moves origin dir client centre (done ++ next ∷ [])
    ≡ pushed_moves origin dir client centre done ++ pdu_moves origin dir (client_with dir client done) (centre_with dir centre done) next
pushed-more origin dir client centre [] next =
    append-nil (pdu_moves origin dir client centre next)
    ∙ (λ i. pdu_moves origin dir (sym (client-nil dir client) i) (sym (centre-nil dir centre) i) next)
pushed-more origin dir client centre (x ∷ done) next =
    let first = pdu_moves origin dir client centre x in
    let rest = pushed_moves origin dir (client_with dir client (x ∷ [])) (centre_with dir centre (x ∷ [])) done in
    ap (λ ms. first ++ ms)
    (pushed-more origin dir (client_with dir client (x ∷ [])) (centre_with dir centre (x ∷ [])) done next
    ∙ (λ i. rest ++ pdu_moves origin dir (client-both dir client (x ∷ []) done i) (centre-both dir centre (x ∷ []) done i) next))
    ∙ sym (append_assoc first rest (pdu_moves origin dir (client_with dir client (x ∷ done)) (centre_with dir centre (x ∷ done)) next))

-- ---- PDUs of a direction by their number among those that come

module _ (origin : Origin) (s : Session) (pdus : List StoredPdu) (i : ℕ) (x : StoredPdu) (within : i < length pdus) (is : x ≡ get_or pdus i x) where
  abbrev client : List StoredPdu
  client = kept_pdus s.client

  abbrev centre : List StoredPdu
  centre = kept_pdus s.centre

  abbrev clients : Dir → List StoredPdu
  clients dir = client_with dir client (take i pdus)

  abbrev centres : Dir → List StoredPdu
  centres dir = centre_with dir centre (take i pdus)

  more : take (i + 1) pdus ≡ take i pdus ++ x ∷ []
  more = take_more pdus i x within ∙ ap (λ (y : StoredPdu). take i pdus ++ y ∷ []) (sym is)

  module _ (old : List StoredPdu) where
    all : old ++ pdus ≡ (old ++ take i pdus) ++ x ∷ drop (i + 1) pdus
    all =
        ap (λ ps. old ++ ps) (sym (take-append-drop i pdus)
        ∙ ap (λ ps. take i pdus ++ ps) (drop_more pdus i x within ∙ ap (λ (y : StoredPdu). y ∷ drop (i + 1) pdus) (sym is)))
        ∙ sym (append_assoc old (take i pdus) (x ∷ drop (i + 1) pdus))

    in-parts : old ++ pdus ≡ ((old ++ take i pdus) ++ x ∷ []) ++ drop (i + 1) pdus
    in-parts = all ∙ sym (append_assoc (old ++ take i pdus) (x ∷ []) (drop (i + 1) pdus))

    grown : (old ++ take i pdus) ++ x ∷ [] ≡ old ++ take (i + 1) pdus
    grown = append_assoc old (take i pdus) (x ∷ []) ∙ ap (λ ps. old ++ ps) (sym more)

    rises-to : Rises 0 (old ++ pdus) → Rises 0 ((old ++ take i pdus) ++ x ∷ [])
    rises-to rises = rises-front 0 ((old ++ take i pdus) ++ x ∷ []) (drop (i + 1) pdus) (subst (λ ps. Rises 0 ps) in-parts rises)

    asks-to : SubmitsAreRequests (old ++ pdus) → SubmitsAreRequests ((old ++ take i pdus) ++ x ∷ [])
    asks-to asks = asks-front ((old ++ take i pdus) ++ x ∷ []) (drop (i + 1) pdus) (subst SubmitsAreRequests in-parts asks)

  pub pairs-more : (dir : Dir) → pushed (pairing_with origin dir client centre (take i pdus)) (placed origin dir x)
      ≡ pairing_with origin dir client centre (take (i + 1) pdus)
  pairs-more FromClient =
      let same = sym (map-append (placed origin FromClient) (client ++ take i pdus) (x ∷ [])) ∙ ap (map (placed origin FromClient)) (grown client) in
      λ k. record { client = same k; centre = map (placed origin FromCentre) centre }
  pairs-more FromCentre =
      let same = sym (map-append (placed origin FromCentre) (centre ++ take i pdus) (x ∷ [])) ∙ ap (map (placed origin FromCentre)) (grown centre) in
      λ k. record { client = map (placed origin FromClient) client; centre = same k }

  pub held-more : (dir : Dir) (z : SettingsValue) (g h k : Holding) → IsHeldAfter z g (pushed_moves origin dir client centre (take i pdus)) h
      → IsHeldAfter z h (pdu_moves origin dir (clients dir) (centres dir) x) k
      → IsHeldAfter z g (pushed_moves origin dir client centre (take (i + 1) pdus)) k
  held-more dir z g h k done next =
      after-same z g k (pushed_moves origin dir client centre (take i pdus) ++ pdu_moves origin dir (clients dir) (centres dir) x)
      (pushed_moves origin dir client centre (take (i + 1) pdus))
      (sym (pushed-more origin dir client centre (take i pdus) x) ∙ ap (pushed_moves origin dir client centre) (sym more))
      (after-both z g h k done next)

  abbrev made : Dir → Option Pair
  made dir = made_by (pairing_with origin dir client centre (take i pdus)) (placed origin dir x)

  pub comes-next : (dir : Dir) → Rises 0 (kept_pdus (direction dir s) ++ pdus)
      → IsNext (pairing_with origin dir client centre (take i pdus)) (place_of origin dir x)
  comes-next FromClient rises =
      places.next-client origin (client ++ take i pdus) centre (drop (i + 1) pdus) x (subst (λ ps. Rises 0 ps) (all client) rises)
  comes-next FromCentre rises =
      places.next-centre origin client (centre ++ take i pdus) (drop (i + 1) pdus) x (subst (λ ps. Rises 0 ps) (all centre) rises)

  module _ (t : TrafficValue) where
    -- nothing stands at its place yet, and the message at the request of the pair that it makes had no response
    pub unsaid : (dir : Dir) → Rises 0 (kept_pdus (direction dir s) ++ pdus) → IsTraffic t → IsSaidBy origin (clients dir) (centres dir) t
        → IsUnsaid t origin dir x (made dir)
    unsaid FromClient rises is said = client-absent origin (client ++ take i pdus) centre x t (rises-to client rises) said
    unsaid FromCentre rises is said = (
      centre-absent origin client (centre ++ take i pdus) x t (rises-to centre rises) said,
      λ pair m made there.
          waits-for origin client (centre ++ take i pdus) x t is said (kept-rise s.client) (rises-to centre rises) pair m made there,
    )

    -- the pair that it makes tells the response that it has, or the message that it answers
    pub moves-more : (dir : Dir) → Rises 0 (kept_pdus (direction dir s) ++ pdus) → SubmitsAreRequests (kept_pdus (direction dir s) ++ pdus)
        → IsTraffic t → IsSaidBy origin (clients dir) (centres dir) t
        → moves_by origin dir t.messages centre x (made dir) ≡ pdu_moves origin dir (clients dir) (centres dir) x
    moves-more FromClient rises asks is said =
        ap (λ ms. next_moves origin FromClient (client ++ take i pdus) centre x ++ ms)
        (client-pushed origin x (client ++ take i pdus) centre (rises-to client rises) (kept-rise s.centre) (asks-to client asks))
    moves-more FromCentre rises asks is said =
        ap (λ ms. next_moves origin FromCentre client (centre ++ take i pdus) x ++ (ms ++ receipt_moves origin x))
        (answers-are origin client (centre ++ take i pdus) x t is said (kept-rise s.client) (rises-to centre rises) (kept-ask s.client))

    pub said-more : (dir : Dir) → Rises 0 (kept_pdus (direction dir s) ++ pdus) → IsSaidBy origin (clients dir) (centres dir) t
        → (u : TrafficValue) → u ≡ moved_by t (pdu_moves origin dir (clients dir) (centres dir) x)
        → IsSaidBy origin (client_with dir client (take (i + 1) pdus)) (centre_with dir centre (take (i + 1) pdus)) u
    said-more FromClient rises said u after =
        subst (IsSaidBy origin (client ++ take (i + 1) pdus) centre) (sym after)
        (subst (λ ps. IsSaidBy origin ps centre (moved_by t (pdu_moves origin FromClient (client ++ take i pdus) centre x))) (grown client)
        (said-client origin (client ++ take i pdus) centre x t (rises-to client rises) said))
    said-more FromCentre rises said u after =
        subst (IsSaidBy origin client (centre ++ take (i + 1) pdus)) (sym after)
        (subst (λ ps. IsSaidBy origin client ps (moved_by t (pdu_moves origin FromCentre client (centre ++ take i pdus) x))) (grown centre)
        (said-centre origin client (centre ++ take i pdus) x t (kept-rise s.client) (rises-to centre rises) said))
