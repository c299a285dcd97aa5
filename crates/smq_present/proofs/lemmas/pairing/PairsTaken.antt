-- Where whole pairs are taken out of a session, a request that is taken finds among the responses that are taken its own: of
-- those of its sequence number as many are taken before it as requests are before the request.
use Rattle.std.proofs.Common.{◌≡◌, ℕ, suc, Bool, true, false, cond, List, [], ◌∷◌, ◌++◌, length, Option, Some, None, refl, sym, ap, ◌∙◌, subst}
use Rattle.std.specs.Prelude.{◌&&◌, filter, slice_get, option_map, option_to_list}
use Rattle.std.specs.List.{flat_map}
use Rattle.std.proofs.lemmas.Bool.{eq-eqb}
use Rattle.std.proofs.lemmas.List.{append-nil, append_assoc}
use Rattle.std.proofs.lemmas.List.Elements.{filter-append}
use Rattle.smq_kit.specs.declared.place.Dir.TheVariants.{FromClient, FromCentre}
use Rattle.smq_kit.specs.declared.place.Place.{Place}
use Rattle.smq_pdu.specs.Pairing.{is_request, is_request_of, is_response_of}
use Rattle.smq_pdu.specs.declared.body.Submit.{Submit}
use Rattle.smq_present.specs.declared.present.kept.StoredPdu.{StoredPdu}
use Rattle.smq_present.specs.present.Kept.{header_of, receipt_in, submit_in}
use Rattle.smq_present.specs.pairing.Dealt.{KeepsPairsTogether, KeepsResponses, pdus_taken, requests_numbered, takes}
use Rattle.smq_present.specs.pairing.Traffic.{Message, Origin, ReceivedReceipt, place_of, message_of, messages_among, rank_after, receipt_at, receipts_among, received, response_to, responses_of, with_earlier}
use Rattle.smq_present.specs.within.Pairs.{SubmitsAreRequests}
use Rattle.smq_present.proofs.lemmas.pairing.PushLemmas.{count-headers}
use Rattle.smq_present.proofs.lemmas.whole.DealtByKey.{filter-swap}

-- ---- two lists of which each element is taken with its like

module _ {A B : Type 0} (f : A → Bool) (g : B → Bool) where
  -- tests of two lists say the same of the elements at one rank
  abbrev pub Alike : List A → List B → Type 0
  Alike [] [] = Unit {0}
  Alike [] (r ∷ rs) = Unit {0}
  Alike (e ∷ es) [] = Unit {0}
  Alike (e ∷ es) (r ∷ rs) = (f e ≡ g r) × Alike es rs

  pub alike-each : (es : List A) (rs : List B)
      → ((n : ℕ) (e : A) (r : B) → slice_get es n ≡ Some e → slice_get rs n ≡ Some r → f e ≡ g r) → Alike es rs
  alike-each [] [] h = tt
  alike-each [] (r ∷ rs) h = tt
  alike-each (e ∷ es) [] h = tt
  alike-each (e ∷ es) (r ∷ rs) h = (h 0 e r refl refl, alike-each es rs (λ n. h (suc n)))

  -- the like of an element that is taken has among those that are taken the rank that the element has
  pub same-rank : (es : List A) (p : A) (later : List A) (rs : List B) → Alike (es ++ p ∷ later) rs → f p ≡ true
      → slice_get (filter g rs) (length (filter f es)) ≡ slice_get rs (length es)
  same-rank [] p later [] a h = refl
  same-rank [] p later (r ∷ rs) a h = ap (λ b. slice_get (cond b (r ∷ filter g rs) (filter g rs)) 0) (sym a.0 ∙ h)
  same-rank (e ∷ es) p later [] a h = refl
  same-rank (e ∷ es) p later (r ∷ rs) a h =
      ap (λ b. slice_get (cond b (r ∷ filter g rs) (filter g rs)) (length (cond (f e) (e ∷ filter f es) (filter f es)))) (sym a.0)
      ∙ by (f e) (same-rank es p later rs a.1 h)
    where
      by : (b : Bool) → slice_get (filter g rs) (length (filter f es)) ≡ slice_get rs (length es)
          → slice_get (cond b (r ∷ filter g rs) (filter g rs)) (length (cond b (e ∷ filter f es) (filter f es))) ≡ slice_get rs (length es)
      by true ih = ih
      by false ih = ih

module _ (here : Place → Bool) (origin : Origin) where
  -- ---- the response of a request

  abbrev of_client : StoredPdu → Bool
  of_client = takes here origin FromClient

  abbrev of_centre : StoredPdu → Bool
  of_centre = takes here origin FromCentre

  module _ (earlier later centre : List StoredPdu) (p : StoredPdu) (keeps : KeepsResponses here origin FromClient FromCentre (earlier ++ p ∷ later) centre)
      (request : is_request (header_of p) ≡ true) (taken : of_client p ≡ true) where
    abbrev numbered : StoredPdu → Bool
    numbered x = is_request_of p.seq (header_of x)

    own-number : numbered p ≡ true
    own-number = λ i. request i && eq-eqb p.seq p.seq refl i

    around : requests_numbered (earlier ++ p ∷ later) p.seq ≡ requests_numbered earlier p.seq ++ p ∷ requests_numbered later p.seq
    around =
        filter-append numbered earlier (p ∷ later)
        ∙ ap (λ b. filter numbered earlier ++ cond b (p ∷ filter numbered later) (filter numbered later)) own-number

    alike : Alike of_client of_centre (requests_numbered earlier p.seq ++ p ∷ requests_numbered later p.seq) (responses_of centre p.seq)
    alike =
        subst (λ es. Alike of_client of_centre es (responses_of centre p.seq)) around
        (alike-each of_client of_centre (requests_numbered (earlier ++ p ∷ later) p.seq) (responses_of centre p.seq) (keeps p.seq))

    rank-taken : rank_after (pdus_taken here origin FromClient earlier) p.seq ≡ length (filter of_client (requests_numbered earlier p.seq))
    rank-taken =
        count-headers (is_request_of p.seq) (pdus_taken here origin FromClient earlier) ∙ ap length (filter-swap of_client numbered earlier)

    -- the response of a request that is taken is the same
    response-taken : response_to (pdus_taken here origin FromCentre centre) (pdus_taken here origin FromClient earlier) p
        ≡ response_to centre earlier p
    response-taken =
        (λ i. slice_get (filter-swap of_centre (λ r. is_response_of p.seq (header_of r)) centre i) (rank-taken i))
        ∙ same-rank of_client of_centre (requests_numbered earlier p.seq) p (requests_numbered later p.seq) (responses_of centre p.seq) alike taken
        ∙ ap (slice_get (responses_of centre p.seq)) (sym (count-headers (is_request_of p.seq) earlier))

  -- ---- messages

  -- what stands at one place is taken with it
  one-taken : {X Y : Type 0} (q : Place) (f : Y → X) (b : Bool) → here q ≡ b → (y : Option Y)
      → filter (λ (e : Place × X). here e.0) (option_to_list (option_map (λ y. (q, f y)) y)) ≡ cond b (option_to_list (option_map (λ y. (q, f y)) y)) []
  one-taken q f true h None = refl
  one-taken q f false h None = refl
  one-taken q f b h (Some y) = ap (λ b. cond b ((q, f y) ∷ []) []) h

  abbrev said : StoredPdu → Option Submit → Option StoredPdu → List (Place × Message)
  said p submit response =
      option_to_list (option_map (λ submit. (place_of origin FromClient p, message_of origin p submit response)) submit)

  abbrev say : List StoredPdu → List StoredPdu × StoredPdu → List (Place × Message)
  say centre e = said e.1 (submit_in e.1.content) (response_to centre e.0 e.1)

  module _ (centre : List StoredPdu) where
    abbrev part : List StoredPdu
    part = pdus_taken here origin FromCentre centre

    abbrev own : List StoredPdu → List StoredPdu
    own pdus = pdus_taken here origin FromClient pdus

    abbrev rest : List StoredPdu → StoredPdu → List StoredPdu → List (Place × Message)
    rest earlier p later = filter (λ e. here e.0) (flat_map (say centre) (with_earlier (earlier ++ p ∷ []) later))

    messages-from : (earlier later : List StoredPdu) → KeepsResponses here origin FromClient FromCentre (earlier ++ later) centre
        → SubmitsAreRequests later
        → flat_map (say part) (with_earlier (own earlier) (own later))
        ≡ filter (λ e. here e.0) (flat_map (say centre) (with_earlier earlier later))
    messages-from earlier [] keeps asks = refl
    messages-from earlier (p ∷ later) keeps asks =
        by (of_client p) refl
        (messages-from (earlier ++ p ∷ []) later
        (subst (λ ps. KeepsResponses here origin FromClient FromCentre ps centre) (sym (append_assoc earlier (p ∷ []) later)) keeps)
        (record { each = λ i. asks.each (suc i) }))
        ∙ sym (filter-append (λ e. here e.0) (say centre (earlier, p)) (flat_map (say centre) (with_earlier (earlier ++ p ∷ []) later)))
      where
        next : (b : Bool) → of_client p ≡ b → flat_map (say part) (with_earlier (own (earlier ++ p ∷ [])) (own later)) ≡ rest earlier p later
            → flat_map (say part) (with_earlier (own earlier ++ cond b (p ∷ []) []) (own later)) ≡ rest earlier p later
        next b h ih =
            ap (λ es. flat_map (say part) (with_earlier es (own later)))
            (ap (λ b. own earlier ++ cond b (p ∷ []) []) (sym h) ∙ sym (filter-append of_client earlier (p ∷ [])))
            ∙ ih

        same : of_client p ≡ true → (submit : Option Submit) → submit_in p.content ≡ submit
            → said p submit (response_to part (own earlier) p) ≡ said p submit (response_to centre earlier p)
        same h None is = refl
        same h (Some submit) is =
            ap (said p (Some submit)) (response-taken earlier later centre p keeps (asks.each 0 p submit refl is) h)

        by : (b : Bool) → of_client p ≡ b
            → flat_map (say part) (with_earlier (own (earlier ++ p ∷ [])) (own later)) ≡ rest earlier p later
            → flat_map (say part) (with_earlier (own earlier) (cond b (p ∷ own later) (own later)))
            ≡ filter (λ e. here e.0) (say centre (earlier, p)) ++ rest earlier p later
        by true h ih = λ i. (same h (submit_in p.content) refl
            ∙ sym (one-taken (place_of origin FromClient p) (λ submit. message_of origin p submit (response_to centre earlier p)) true h (submit_in p.content))) i
            ++ next true h ih i
        by false h ih =
            ap (λ es. flat_map (say part) (with_earlier es (own later))) (sym (append-nil (own earlier)))
            ∙ next false h ih
            ∙ ap (λ (es : List (Place × Message)). es ++ rest earlier p later)
            (sym (one-taken (place_of origin FromClient p) (λ submit. message_of origin p submit (response_to centre earlier p)) false h (submit_in p.content)))

  -- the messages of the PDUs that are taken are those at the places that are taken
  pub messages-taken : (client centre : List StoredPdu) → SubmitsAreRequests client → KeepsPairsTogether here origin client centre
      → messages_among origin (pdus_taken here origin FromClient client) (pdus_taken here origin FromCentre centre)
      ≡ filter (λ e. here e.0) (messages_among origin client centre)
  messages-taken client centre asks keeps = messages-from centre [] client keeps.client_asks asks

  -- ---- receipts

  pub receipts-taken : (centre : List StoredPdu) → receipts_among origin (pdus_taken here origin FromCentre centre)
      ≡ filter (λ e. here e.0) (receipts_among origin centre)
  receipts-taken [] = refl
  receipts-taken (p ∷ centre) =
      by (of_centre p) refl (receipts-taken centre)
      ∙ sym (filter-append (λ e. here e.0) (option_to_list (receipt_at origin p)) (receipts_among origin centre))
    where
      by : (b : Bool) → of_centre p ≡ b
          → receipts_among origin (pdus_taken here origin FromCentre centre) ≡ filter (λ e. here e.0) (receipts_among origin centre)
          → receipts_among origin (cond b (p ∷ pdus_taken here origin FromCentre centre) (pdus_taken here origin FromCentre centre))
          ≡ filter (λ e. here e.0) (option_to_list (receipt_at origin p)) ++ filter (λ e. here e.0) (receipts_among origin centre)
      by true h ih = λ i. sym (one-taken (place_of origin FromCentre p) (λ receipt. received origin p receipt) true h (receipt_in p.content)) i ++ ih i
      by false h ih = ih
          ∙ ap (λ (es : List (Place × ReceivedReceipt)). es ++ filter (λ e. here e.0) (receipts_among origin centre))
          (sym (one-taken (place_of origin FromCentre p) (λ receipt. received origin p receipt) false h (receipt_in p.content)))
