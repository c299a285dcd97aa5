-- The places of what is read off sessions rise: sessions by number, then PDUs by offset.
use Rattle.std.proofs.Common.{◌≡◌, ℕ, ◌+◌, ◌<◌, ◌≤◌, List, [], ◌∷◌, ◌++◌, refl, sym, ◌∙◌, subst, arith}
use Rattle.std.specs.Prelude.{T, Option, Some, None, option_map, option_to_list}
use Rattle.std.specs.List.{flat_map}
use Rattle.std.specs.declared.cmp.Ordering.{Ordering}
use Rattle.std.specs.declared.cmp.Ordering.TheVariants.{Less, Equal}
use Rattle.std.specs.Ordering.{is_lt, nat_cmp, ordering_then}
use Rattle.std.specs.Cmp.{nat_cmp_is, ranked}
use Rattle.std.specs.FinMap.{is_sorted}
use Rattle.std.specs.FinMap.Entries.{below_all}
use Rattle.smq_kit.specs.declared.place.Dir.{Dir}
use Rattle.smq_kit.specs.declared.place.Dir.TheVariants.{FromClient, FromCentre}
use Rattle.smq_kit.specs.declared.place.Place.{Place}
use Rattle.smq_kit.specs.Orders.{dir_cmp, place_cmp}
use Rattle.smq_kit.proofs.Comparisons.{both_tests, first_test, second_test, is_less}
use Rattle.smq_frame.specs.Stream.{Octet, stream_frames}
use Rattle.smq_frame.proofs.Offsets.{Ascends, ascends-map, stream_frames-ascend}
use Rattle.smq_pdu.specs.Placed.{placed_pdu, stream_pdus}
use Rattle.smq_pdu.specs.declared.body.Submit.{Submit}
use Rattle.smq_receipt.specs.declared.reading.Receipt.{Receipt}
use Rattle.smq_present.specs.declared.present.kept.StoredPdu.{StoredPdu}
use Rattle.smq_present.specs.declared.present.session.Session.{Session}
use Rattle.smq_present.specs.present.Kept.{kept_pdu, kept_pdus, submit_in, receipt_in}
use Rattle.smq_present.specs.pairing.Traffic.{Message, ReceivedReceipt, Origin, origin_of, place_of, message_of, received, response_to, with_earlier, message_at, receipts_among, session_messages, session_receipts}
use Rattle.smq_present.specs.within.Pairs.{Rises}

-- ---- the offsets of a stream's PDUs ascend

rises-of : (low : ℕ) (ps : List StoredPdu) → Ascends (λ p. p.offset) low ps → Rises low ps
rises-of low [] h = tt
rises-of low (p ∷ ps) h = (h.0, rises-of (p.offset + 1) ps h.1)

pub kept-rise : (stream : List Octet) → Rises 0 (kept_pdus stream)
kept-rise stream =
    rises-of 0 (kept_pdus stream)
    (ascends-map (λ p. p.offset) (λ p. p.offset) kept_pdu (λ p. refl) 0 (stream_pdus stream)
    (ascends-map (λ f. f.offset) (λ p. p.offset) placed_pdu (λ f. refl) 0 (stream_frames stream) (stream_frames-ascend stream)))

-- ---- comparisons

less-test : (r : Ordering) → r ≡ Less → T (is_lt r)
less-test r e = subst (λ r. T (is_lt r)) (sym e) tt

dir_itself : (d : Dir) → dir_cmp d d ≡ Equal
dir_itself FromClient = refl
dir_itself FromCentre = refl

less_offset : (a b : Place) → a.session.0 ≡ b.session.0 → a.dir ≡ b.dir → a.offset < b.offset → place_cmp a b ≡ Less
less_offset a b s d o =
    (λ i. ordering_then (nat_cmp (s i) b.session.0) (ordering_then (dir_cmp (d i) b.dir) (nat_cmp a.offset b.offset)))
    ∙ (λ i. ordering_then (sym (nat_cmp_is b.session.0 b.session.0 Equal refl) i) (ordering_then (dir_itself b.dir i) (nat_cmp a.offset b.offset)))
    ∙ sym (nat_cmp_is a.offset b.offset Less o)

less_session : (a b : Place) → a.session.0 < b.session.0 → place_cmp a b ≡ Less
less_session a b s = λ i. ordering_then (sym (nat_cmp_is a.session.0 b.session.0 Less s) i)
    (ordering_then (dir_cmp a.dir b.dir) (nat_cmp a.offset b.offset))

-- ---- entries of a session

module _ {X : Type 0} where
  -- entries of one direction of a session, whose offsets rise from a bound on
  abbrev pub Rising : ℕ → Dir → ℕ → List (Place × X) → Type 0
  Rising n dir low [] = Unit {0}
  Rising n dir low (e ∷ es) = (e.0.session.0 ≡ n) × (e.0.dir ≡ dir) × (low ≤ e.0.offset) × Rising n dir (e.0.offset + 1) es

  pub rising-below : (n : ℕ) (dir : Dir) (low more : ℕ) (es : List (Place × X)) → low ≤ more → Rising n dir more es → Rising n dir low es
  rising-below n dir low more [] h r = tt
  rising-below n dir low more (e ∷ es) h r = (r.0, r.1, omega (arith, h, r.2), r.3)

  -- entries of later sessions
  abbrev Later : ℕ → List (Place × X) → Type 0
  Later n [] = Unit {0}
  Later n (e ∷ es) = (n < e.0.session.0) × Later n es

  later-append : (n : ℕ) (es fs : List (Place × X)) → Later n es → Later n fs → Later n (es ++ fs)
  later-append n [] fs h k = k
  later-append n (e ∷ es) fs h k = (h.0, later-append n es fs h.1 k)

  rising-later : (n m : ℕ) (dir : Dir) (low : ℕ) (es : List (Place × X)) → n < m → Rising m dir low es → Later n es
  rising-later n m dir low [] h r = tt
  rising-later n m dir low (e ∷ es) h r = (subst (λ k. n < k) (sym r.0) h, rising-later n m dir (e.0.offset + 1) es h r.3)

  below-later : (n : ℕ) (x : Place) (fs : List (Place × X)) → x.session.0 ≡ n → Later n fs → T (below_all place_cmp x fs)
  below-later n x [] h k = tt
  below-later n x (f ∷ fs) h k = both_tests _ _ (less-test _ (less_session x f.0 (subst (λ m. m < f.0.session.0) (sym h) k.0)))
      (below-later n x fs h k.1)

  below-rising : (n : ℕ) (dir : Dir) (low : ℕ) (x : Place) (es fs : List (Place × X)) → x.session.0 ≡ n → x.dir ≡ dir
      → x.offset < low → Rising n dir low es → Later n fs → T (below_all place_cmp x (es ++ fs))
  below-rising n dir low x [] fs s d o r k = below-later n x fs s k
  below-rising n dir low x (e ∷ es) fs s d o r k =
      both_tests _ _ (less-test _ (less_offset x e.0 (s ∙ sym r.0) (d ∙ sym r.1) (omega (arith, o, r.2))))
      (below-rising n dir (e.0.offset + 1) x es fs s d (omega (arith, o, r.2)) r.3 k)

  pub block-sorted : (n : ℕ) (dir : Dir) (low : ℕ) (es fs : List (Place × X)) → Rising n dir low es → Later n fs
      → T (is_sorted place_cmp fs) → T (is_sorted place_cmp (es ++ fs))
  block-sorted n dir low [] fs r k h = h
  block-sorted n dir low (e ∷ es) fs r k h =
      both_tests _ _ (below-rising n dir (e.0.offset + 1) e.0 es fs r.0 r.1 (omega arith) r.3 k) (block-sorted n dir (e.0.offset + 1) es fs r.3 k h)

  -- ---- all sessions

  module _ (dir : Dir) (block : ℕ × Session → List (Place × X)) (rising : (e : ℕ × Session) → Rising e.0 dir 0 (block e)) where
    sessions-later : (n : ℕ) (es : List (ℕ × Session)) → T (below_all nat_cmp n es) → Later n (flat_map block es)
    sessions-later n [] h = tt
    sessions-later n (e ∷ es) h =
        let more : n < e.0 = ranked n e.0 Less (sym (is_less (nat_cmp n e.0) (first_test _ _ h))) in
        later-append n (block e) (flat_map block es) (rising-later n e.0 dir 0 (block e) more (rising e)) (sessions-later n es (second_test _ _ h))

    pub sessions-sorted : (es : List (ℕ × Session)) → T (is_sorted nat_cmp es) → T (is_sorted place_cmp (flat_map block es))
    sessions-sorted [] h = tt
    sessions-sorted (e ∷ es) h =
        block-sorted e.0 dir 0 (block e) (flat_map block es) (rising e) (sessions-later e.0 es (first_test _ _ h))
        (sessions-sorted es (second_test _ _ h))

-- ---- messages and receipts

message-rises : (submit : Option Submit) (origin : Origin) (centre before : List StoredPdu) (low : ℕ) (p : StoredPdu)
    (rest : List (Place × Message)) → low ≤ p.offset
    → Rising origin.session.0 FromClient (p.offset + 1) rest
    → Rising origin.session.0 FromClient low
    (option_to_list (option_map (λ submit. (
      place_of origin FromClient p,
      message_of origin p submit
          (response_to centre before p),
    )) submit) ++ rest)
message-rises None origin centre before low p rest h k = rising-below origin.session.0 FromClient low (p.offset + 1) rest (omega arith) k
message-rises (Some submit) origin centre before low p rest h k = (refl, refl, h, k)

pub messages-rise : (origin : Origin) (centre before : List StoredPdu) (low : ℕ) (ps : List StoredPdu) → Rises low ps
    → Rising origin.session.0 FromClient low (flat_map (λ e. option_to_list (message_at origin centre e.0 e.1)) (with_earlier before ps))
messages-rise origin centre before low [] h = tt
messages-rise origin centre before low (p ∷ ps) h =
    message-rises (submit_in p.content) origin centre before low p _ h.0 (messages-rise origin centre (before ++ p ∷ []) (p.offset + 1) ps h.1)

receipt-rises : (receipt : Option Receipt) (origin : Origin) (low : ℕ) (p : StoredPdu) (rest : List (Place × ReceivedReceipt)) → low ≤ p.offset
    → Rising origin.session.0 FromCentre (p.offset + 1) rest
    → Rising origin.session.0 FromCentre low
    (option_to_list (option_map (λ (receipt : Receipt). (place_of origin FromCentre p, received origin p receipt)) receipt)
    ++ rest)
receipt-rises None origin low p rest h k = rising-below origin.session.0 FromCentre low (p.offset + 1) rest (omega arith) k
receipt-rises (Some receipt) origin low p rest h k = (refl, refl, h, k)

pub receipts-rise : (origin : Origin) (low : ℕ) (ps : List StoredPdu) → Rises low ps → Rising origin.session.0 FromCentre low (receipts_among origin ps)
receipts-rise origin low [] h = tt
receipts-rise origin low (p ∷ ps) h = receipt-rises (receipt_in p.content) origin low p _ h.0 (receipts-rise origin (p.offset + 1) ps h.1)

pub messages-sorted : (es : List (ℕ × Session)) → T (is_sorted nat_cmp es) → T (is_sorted place_cmp (flat_map session_messages es))
messages-sorted es h = sessions-sorted FromClient session_messages (λ e. messages-rise (origin_of e) (kept_pdus e.1.centre) [] 0
    (kept_pdus e.1.client) (kept-rise e.1.client)) es h

pub receipts-sorted : (es : List (ℕ × Session)) → T (is_sorted nat_cmp es) → T (is_sorted place_cmp (flat_map session_receipts es))
receipts-sorted es h = sessions-sorted FromCentre session_receipts
    (λ e. receipts-rise (origin_of e) 0 (kept_pdus e.1.centre) (kept-rise e.1.centre)) es h
