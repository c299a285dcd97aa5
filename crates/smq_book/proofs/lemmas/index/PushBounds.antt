-- What PDUs more cost is within 64 for each weight that they have then.
use Rattle.std.proofs.Common.{◌≡◌, ℕ, ◌+◌, ◌*◌, ◌≤◌, ◌<◌, true, false, cond, List, [], ◌∷◌, ◌++◌, length, Option, Some, None, ◌⊎◌, inl, inr, refl, sym, ap, subst, ◌∙◌, arith, append_assoc}
use Rattle.std.specs.Prelude.{map, slice_get, option_and_then, option_map, option_to_list, unwrap_or}
use Rattle.std.specs.List.{sum_by}
use Rattle.std.specs.Option.{option_or}
use Rattle.std.specs.Ordering.{eq_by_cmp, is_eq}
use Rattle.std.specs.Cmp.{tied_itself}
use Rattle.std.specs.FinMap.{find, get}
use Rattle.std.proofs.lemmas.List.Sums.{sum_by-cons}
use Rattle.smq_kit.specs.declared.link_key.LinkKey.{LinkKey}
use Rattle.smq_kit.specs.declared.place.Dir.{Dir}
use Rattle.smq_kit.specs.declared.place.Dir.TheVariants.{FromClient, FromCentre}
use Rattle.smq_kit.specs.declared.place.Place.{Place}
use Rattle.smq_kit.specs.Orders.{place_cmp}
use Rattle.smq_kit.proofs.PlaceOrders.{places_total, places_exact}
use Rattle.smq_group.specs.Matching.{Grouping, GroupedReceipt}
use Rattle.smq_pair.specs.Pairing as pairs
use Rattle.smq_pair.specs.Pairing.{PairingValue, pair_at}
use Rattle.smq_pair.specs.declared.pairing.Pair.{Pair}
use Rattle.smq_receipt.specs.declared.reading.Receipt.{Receipt}
use Rattle.smq_pdu.specs.Pairing.{is_request}
use Rattle.smq_present.specs.declared.present.kept.StoredPdu.{StoredPdu}
use Rattle.smq_present.specs.declared.present.session.Session.{Session}
use Rattle.smq_present.specs.present.Kept.{header_of, kept_pdus, receipt_in}
use Rattle.smq_present.specs.present.Present.{PresentValue, direction, session_of}
use Rattle.smq_present.specs.pairing.Traffic.{Origin, ReceivedReceipt, origin_of, place_of, placed, received, receipts_among, session_pairing, session_receipts, traffic_of}
use Rattle.smq_present.specs.within.Pairs.{Rises}
use Rattle.smq_book.specs.edits.Reach.{groups, members, pair_in, weight, weights}
use Rattle.smq_book.specs.index.Touches.{answered_key, members_at, pdu_load, receipt_key_at}
use Rattle.smq_present.proofs.lemmas.pairing.SessionTraffic.{no-message, no-receipt, receipts-own, said-at, session_number}
use Rattle.smq_present.proofs.lemmas.pairing.Paired.{above, standing}
use Rattle.smq_present.proofs.lemmas.pairing.PairsStay.{AllOf, own-request, request-side}
use Rattle.smq_present.proofs.lemmas.pairing.PlacesRise.{kept-rise}
use Rattle.smq_present.proofs.lemmas.pairing.Requests.{kept-delivers}
use Rattle.smq_book.proofs.lemmas.index.Answering.{elsewhere}
use Rattle.smq_book.proofs.lemmas.index.Members.{receipt-absent, submit-absent}
use Rattle.smq_book.proofs.lemmas.index.Weights.{not-there}

-- ---- the delivery receipt that a PDU is stands at its place

module _ (origin : Origin) where
  abbrev said_as : StoredPdu → Option Receipt → Option (Place × ReceivedReceipt)
  said_as p receipt = option_map (λ (receipt : Receipt). (place_of origin FromCentre p, received origin p receipt)) receipt

  passes : (q : Place) (p : StoredPdu) (receipt : Option Receipt) (rest : List (Place × ReceivedReceipt))
      → eq_by_cmp place_cmp q (place_of origin FromCentre p) ≡ false
      → find place_cmp q (option_to_list (said_as p receipt) ++ rest) ≡ find place_cmp q rest
  passes q p None rest apart = refl
  passes q p (Some receipt) rest apart = ap (λ b. cond b (Some (received origin p receipt)) (find place_cmp q rest)) apart

  stands : (p : StoredPdu) (receipt : Option Receipt) (rest : List (Place × ReceivedReceipt))
      → find place_cmp (place_of origin FromCentre p) rest ≡ None
      → find place_cmp (place_of origin FromCentre p) (option_to_list (said_as p receipt) ++ rest) ≡ option_map (received origin p) receipt
  stands p None rest none = none
  stands p (Some receipt) rest none =
      ap (λ b. cond b (Some (received origin p receipt)) (find place_cmp (place_of origin FromCentre p) rest))
      (ap is_eq (tied_itself places_total (place_of origin FromCentre p)))

  none-below : (ps : List StoredPdu) (low : ℕ) (p : StoredPdu) → p.offset < low → Rises low ps
      → find place_cmp (place_of origin FromCentre p) (receipts_among origin ps) ≡ None
  none-below [] low p h rises = refl
  none-below (x ∷ ps) low p h rises =
      passes (place_of origin FromCentre p) x (receipt_in x.content) (receipts_among origin ps)
      (elsewhere origin FromCentre p x (λ same. omega (arith, h, rises.0, same)))
      ∙ none-below ps (x.offset + 1) p (omega (arith, h, rises.0)) rises.1

  own-receipt : (before later : List StoredPdu) (low : ℕ) (p : StoredPdu) → Rises low (before ++ p ∷ later)
      → find place_cmp (place_of origin FromCentre p) (receipts_among origin (before ++ p ∷ later)) ≡ option_map (received origin p) (receipt_in p.content)
  own-receipt [] later low p rises =
      stands p (receipt_in p.content) (receipts_among origin later) (none-below later (p.offset + 1) p (omega arith) rises.1)
  own-receipt (x ∷ before) later low p rises =
      let more = above (x.offset + 1) before later p rises.1 in
      passes (place_of origin FromCentre p) x (receipt_in x.content) (receipts_among origin (before ++ p ∷ later))
      (elsewhere origin FromCentre p x (λ same. omega (arith, more, same)))
      ∙ own-receipt before later (x.offset + 1) p rises.1

at-split : {X : Type 0} (xs ys : List X) (y : X) → slice_get (xs ++ y ∷ ys) (length xs) ≡ Some y
at-split [] ys y = refl
at-split (x ∷ xs) ys y = at-split xs ys y

all-placed : (origin : Origin) (dir : Dir) (ps : List StoredPdu) → AllOf dir (map (placed origin dir) ps)
all-placed origin dir [] = tt
all-placed origin dir (p ∷ ps) = (refl, all-placed origin dir ps)

weight-of : (g : Grouping) (key : Option LinkKey) → unwrap_or (option_map (members g) key) 0 ≡ members_at g key
weight-of g None = refl
weight-of g (Some key) = refl

-- ---- a PDU of a session that is present

module _ (p : PresentValue) (n : ℕ) (s : Session) (there : session_of p n ≡ Some s) where
  abbrev at_origin : Origin
  at_origin = origin_of (n, s)

  abbrev g : Grouping
  g = groups p

  abbrev v : PairingValue
  v = session_pairing (n, s)

  own-pair : (dir : Dir) (x : StoredPdu) → pair_in p (place_of at_origin dir x) ≡ pair_at v (place_of at_origin dir x)
  own-pair dir x = ap (option_and_then (λ (session : Session). pair_at (session_pairing (n, session)) (place_of at_origin dir x))) there

  no-submit : (q : Place) → q.dir ≡ FromCentre → get g.submits q ≡ None
  no-submit q centre = submit-absent p.settings q (traffic_of p.sessions) (no-message p.sessions q centre)

  nothing-answered : (q : Place) → get g.submits q ≡ None → (pair : Option Pair) → ((x : Pair) → pair ≡ Some x → x.request ≡ q)
      → members_at g (answered_key g pair) ≡ 0
  nothing-answered q none None own = refl
  nothing-answered q none (Some x) own = ap (members_at g) (ap (get g.submits) (own x refl) ∙ none)

  -- ---- of the client

  module _ (x : StoredPdu) where
    abbrev q : Place
    q = place_of at_origin FromClient x

    answered-few : (pair : Option Pair) → pair_at v q ≡ pair → members_at g (answered_key g pair) ≤ members_at g (get g.submits q)
    answered-few None is = omega arith
    answered-few (Some pair) is = by (request-side v q pair (all-placed at_origin FromCentre (kept_pdus s.centre)) is)
      where
        by : (pair.request ≡ q) ⊎ (pair.request.dir ≡ FromCentre) → members_at g (get g.submits pair.request) ≤ members_at g (get g.submits q)
        by (inl same) = let one = ap (λ (r : Place). members_at g (get g.submits r)) same in omega (arith, one)
        by (inr centre) = let one = ap (members_at g) (no-submit pair.request centre) in omega (arith, one)

    client-bound : pdu_load g v at_origin FromClient x ≤ 64 * weight p q
    client-bound =
        let none = ap (λ (r : Option GroupedReceipt). members_at g (option_map (λ r. r.key) r)) (receipt-absent p.settings q (traffic_of p.sessions) (no-receipt p.sessions q refl)) in
        let few = answered-few (pair_at v q) refl in
        by (get g.submits q) refl none few
      where
        by : (o : Option LinkKey) → get g.submits q ≡ o → members_at g (receipt_key_at g q) ≡ 0
            → members_at g (answered_key g (pair_at v q)) ≤ members_at g (get g.submits q)
            → pdu_load g v at_origin FromClient x ≤ 64 * weight p q
        by None is none few = let own = ap (members_at g) is in omega (arith, none, few, own)
        by (Some key) is none few =
            let own = ap (members_at g) is in
            let weighs : ◌≡◌ {A = ℕ} (weight p q) (1 + members g key) =
            ap (λ (o : Option LinkKey). 1 + unwrap_or (option_map (members g) (option_or o
            (option_or (option_map (λ r. r.key) (get g.receipts q))
            (option_and_then (λ pair. get g.submits pair.request) (pair_in p q))))) 0) is in
            omega (arith, none, few, own, weighs)

  -- ---- of the centre

  module _ (before later : List StoredPdu) (x : StoredPdu) (all : kept_pdus s.centre ≡ before ++ x ∷ later) where
    abbrev r : Place
    r = place_of at_origin FromCentre x

    rises : Rises 0 (before ++ x ∷ later)
    rises = subst (λ ps. Rises 0 ps) all (kept-rise s.centre)

    unaccepted : get g.submits r ≡ None
    unaccepted = no-submit r refl

    received-here : get (traffic_of p.sessions).receipts r ≡ option_map (received at_origin x) (receipt_in x.content)
    received-here =
        said-at places_total places_exact session_number session_receipts receipts-own p.sessions r
        ∙ ap (option_and_then (λ (s : Session). find place_cmp r (session_receipts (n, s)))) there
        ∙ ap (λ ps. find place_cmp r (receipts_among at_origin ps)) all
        ∙ own-receipt at_origin before later 0 x rises

    -- where a delivery receipt stands, the PDU is a request
    asks-there : (o : GroupedReceipt) → get g.receipts r ≡ Some o → is_request (header_of x) ≡ true
    asks-there o is = by (receipt_in x.content) refl
      where
        by : (receipt : Option Receipt) → receipt_in x.content ≡ receipt → is_request (header_of x) ≡ true
        by None none =
            not-there (get g.receipts r) o
            (receipt-absent p.settings r (traffic_of p.sessions) (received-here ∙ ap (option_map (received at_origin x)) none)) is
        by (Some receipt) some =
            kept-delivers s.centre (length before) x receipt (ap (λ ps. slice_get ps (length before)) all ∙ at-split before later x) some

    stands-there : is_request (header_of x) ≡ true → (pair : Pair) → pair_at v r ≡ Some pair → pair.request ≡ r
    stands-there asks pair is =
        own-request v r pair (map (placed at_origin FromCentre) before, placed at_origin FromCentre x)
        (ap (λ (ps : List StoredPdu). pairs.standing_at r (map (placed at_origin FromCentre) ps)) all
        ∙ standing at_origin FromCentre [] 0 before later x rises) asks refl is

    centre-bound : pdu_load g v at_origin FromCentre x ≤ 64 * weight p r
    centre-bound = by (get g.receipts r) refl
      where
        by : (o : Option GroupedReceipt) → get g.receipts r ≡ o → pdu_load g v at_origin FromCentre x ≤ 64 * weight p r
        by None is =
            let own = ap (members_at g) unaccepted in
            let none = ap (λ (o : Option GroupedReceipt). members_at g (option_map (λ r. r.key) o)) is in
            let weighs : ◌≡◌ {A = ℕ} (weight p r) (1 + members_at g (answered_key g (pair_at v r))) =
            (λ i. 1 + unwrap_or (option_map (members g) (option_or (unaccepted i)
            (option_or (option_map (λ r. r.key) (is i))
            (option_and_then (λ pair. get g.submits pair.request) (own-pair FromCentre x i))))) 0)
            ∙ ap (λ (m : ℕ). 1 + m) (weight-of g (answered_key g (pair_at v r))) in
            omega (arith, own, none, weighs)
        by (Some o) is =
            let own = ap (members_at g) unaccepted in
            let some = ap (λ (o : Option GroupedReceipt). members_at g (option_map (λ r. r.key) o)) is in
            let alone = nothing-answered r unaccepted (pair_at v r) (stands-there (asks-there o is)) in
            let weighs : ◌≡◌ {A = ℕ} (weight p r) (1 + members g o.key) =
            (λ i. 1 + unwrap_or (option_map (members g) (option_or (unaccepted i)
            (option_or (option_map (λ r. r.key) (is i))
            (option_and_then (λ pair. get g.submits pair.request) (pair_in p r))))) 0) in
            omega (arith, own, some, alone, weighs)

  -- ---- of either direction, the last of those that came

  clients-bound : (ps : List StoredPdu) → sum_by (pdu_load g v at_origin FromClient) ps ≤ 64 * weights p (map (place_of at_origin FromClient) ps)
  clients-bound [] = omega arith
  clients-bound (x ∷ ps) =
      let one = client-bound x in
      let rest = clients-bound ps in
      let a = sum_by-cons (pdu_load g v at_origin FromClient) x ps in
      let b = sum_by-cons (weight p) (place_of at_origin FromClient x) (map (place_of at_origin FromClient) ps) in
      omega (arith, one, rest, a, b)

  centres-bound : (before ps : List StoredPdu) → kept_pdus s.centre ≡ before ++ ps
      → sum_by (pdu_load g v at_origin FromCentre) ps ≤ 64 * weights p (map (place_of at_origin FromCentre) ps)
  centres-bound before [] all = omega arith
  centres-bound before (x ∷ ps) all =
      let one = centre-bound before ps x all in
      let rest = centres-bound (before ++ x ∷ []) ps (all ∙ sym (append_assoc before (x ∷ []) ps)) in
      let a = sum_by-cons (pdu_load g v at_origin FromCentre) x ps in
      let b = sum_by-cons (weight p) (place_of at_origin FromCentre x) (map (place_of at_origin FromCentre) ps) in
      omega (arith, one, rest, a, b)

  pub pdus-bound : (dir : Dir) (before ps : List StoredPdu) → kept_pdus (direction dir s) ≡ before ++ ps
      → sum_by (pdu_load g v at_origin dir) ps ≤ 64 * weights p (map (place_of at_origin dir) ps)
  pdus-bound FromClient before ps all = clients-bound ps
  pdus-bound FromCentre before ps all = centres-bound before ps all
