-- A request and the response of its sequence number and rank are each other's, so they go to one part.
use Rattle.std.proofs.Common.{◌≡◌, ℕ, zero, suc, Bool, true, false, cond, List, [], ◌∷◌, ◌++◌, length, Option, Some, None, refl, sym, ap, ◌∙◌}
use Rattle.std.specs.Prelude.{not, ◌&&◌, Contains, ◌==◌, filter, slice_get, count_by, option_map, unwrap_or, option_and_then}
use Rattle.std.specs.Cmp.{nat_cmp_total}
use Rattle.std.specs.FinMap.{entries, get, nat_cmp-IsAntisymmetric}
use Rattle.std.proofs.lemmas.Bool.{and_parts, eqb-true}
use Rattle.std.proofs.lemmas.List.Elements.{All-from_recursion, All-contains}
use Rattle.smq_kit.specs.declared.link_key.LinkKey.{LinkKey}
use Rattle.smq_kit.specs.declared.place.Dir.{Dir}
use Rattle.smq_kit.specs.declared.place.Dir.TheVariants.{FromClient, FromCentre}
use Rattle.smq_kit.proofs.MapLemmas.{get-entry}
use Rattle.smq_pdu.specs.Commands.{alert_notification, outbind}
use Rattle.smq_pdu.specs.Header.{Header}
use Rattle.smq_pdu.specs.Pairing.{is_request, is_request_of, is_response, is_response_of}
use Rattle.smq_present.specs.declared.pairing.pairs.SessionForms.{SessionForms}
use Rattle.smq_present.specs.declared.present.kept.StoredPdu.{StoredPdu}
use Rattle.smq_present.specs.declared.present.session.Session.{Session}
use Rattle.smq_present.specs.pairing.Dealt.{KeepsResponses, requests_numbered}
use Rattle.smq_present.specs.pairing.Traffic.{origin_of, response_to, responses_of}
use Rattle.smq_present.specs.present.Kept.{header_of, headers_of}
use Rattle.smq_present.specs.present.Present.{PresentValue}
use Rattle.smq_present.specs.within.Lists.{source_of}
use Rattle.smq_present.proofs.lemmas.pairing.PushLemmas.{count-headers}
use Rattle.smq_deal.specs.Keys.{key_with, opposite, pair_key, partner_of, request_to}
use Rattle.smq_deal.specs.Parts.{KeepsAllPairs, RuleValue, is_in_part, part_of, part_with}
use Rattle.smq_deal.proofs.PartPlaces.{kept_from, part-there}

-- ---- where one of those that pass a test stands

-- One that passes stands between these, after so many that pass.
pub record Stands {X : Type 0} (test : X → Bool) (xs : List X) (n : ℕ) (x : X) : Type 0 where
  pub earlier : List X
  pub later : List X
  pub all : xs ≡ earlier ++ x ∷ later
  pub rank : length (filter test earlier) ≡ n
  pub passes : test x ≡ true

pub nth-passes : {X : Type 0} (test : X → Bool) (xs : List X) (n : ℕ) (x : X) → slice_get (filter test xs) n ≡ Some x → Stands test xs n x
nth-passes test [] n x at = absurd cc
nth-passes test (y ∷ xs) n x at = by (λ m. nth-passes test xs m x) (test y) refl n at
  where
    by : ((m : ℕ) → slice_get (filter test xs) m ≡ Some x → Stands test xs m x) → (b : Bool) → test y ≡ b → (m : ℕ)
        → slice_get (cond b (y ∷ filter test xs) (filter test xs)) m ≡ Some x → Stands test (y ∷ xs) m x
    by rest true t zero e =
        let one : y ≡ x = cc in
        record { earlier = []; later = xs; all = λ i. one i ∷ xs; rank = refl; passes = ap test (sym one) ∙ t }
    by rest true t (suc m) e =
        let w = rest m e in
        let more : length (y ∷ filter test w.earlier) ≡ suc m = ap suc w.rank in
        record {
          earlier = y ∷ w.earlier;
          later = w.later;
          all = λ i. y ∷ w.all i;
          rank = ap (λ b. length (cond b (y ∷ filter test w.earlier) (filter test w.earlier))) t ∙ more;
          passes = w.passes;
        }
    by rest false t m e =
        let w = rest m e in
        record {
          earlier = y ∷ w.earlier;
          later = w.later;
          all = λ i. y ∷ w.all i;
          rank = ap (λ b. length (cond b (y ∷ filter test w.earlier) (filter test w.earlier))) t ∙ w.rank;
          passes = w.passes;
        }

-- ---- a request and its response

-- a response is no request
not-request : (h : Header) → is_response h ≡ true → is_request h ≡ false
not-request h e = ap (λ b. (not b && not (h.command == outbind)) && not (h.command == alert_notification)) e

twice : (d : Dir) → opposite (opposite d) ≡ d
twice FromClient = refl
twice FromCentre = refl

module _ (asking answering : List StoredPdu) (seq rank : ℕ) (request response : StoredPdu)
    (asked : slice_get (requests_numbered asking seq) rank ≡ Some request)
    (answered : slice_get (responses_of answering seq) rank ≡ Some response) where
  pub request-stands : Stands (λ p. is_request_of seq (header_of p)) asking rank request
  request-stands = nth-passes (λ p. is_request_of seq (header_of p)) asking rank request asked

  pub response-stands : Stands (λ p. is_response_of seq (header_of p)) answering rank response
  response-stands = nth-passes (λ p. is_response_of seq (header_of p)) answering rank response answered

  is-request : (is_request (header_of request) ≡ true) × ((request.seq == seq) ≡ true)
  is-request = and_parts (is_request (header_of request)) (request.seq == seq) request-stands.passes

  is-response : (is_response (header_of response) ≡ true) × ((response.seq == seq) ≡ true)
  is-response = and_parts (is_response (header_of response)) (response.seq == seq) response-stands.passes

  request-number : request.seq ≡ seq
  request-number = eqb-true request.seq seq is-request.1

  response-number : response.seq ≡ seq
  response-number = eqb-true response.seq seq is-response.1

  -- the response is the partner of the request
  request-partner : partner_of answering request-stands.earlier request ≡ Some response
  request-partner =
      ap (λ b. cond b (response_to answering request-stands.earlier request)
      (cond (is_response (header_of request)) (request_to answering request-stands.earlier request) None)) is-request.0
      ∙ (λ i. slice_get (responses_of answering (request-number i))
      (count_by (is_request_of (request-number i)) (headers_of request-stands.earlier)))
      ∙ ap (slice_get (responses_of answering seq)) (count-headers (is_request_of seq) request-stands.earlier ∙ request-stands.rank)
      ∙ answered

  -- and the other way round
  response-partner : partner_of asking response-stands.earlier response ≡ Some request
  response-partner =
      ap (λ b. cond b (response_to asking response-stands.earlier response)
      (cond (is_response (header_of response)) (request_to asking response-stands.earlier response) None))
      (not-request (header_of response) is-response.0)
      ∙ ap (λ b. cond b (request_to asking response-stands.earlier response) None) is-response.0
      ∙ (λ i. slice_get (requests_numbered asking (response-number i))
      (count_by (is_response_of (response-number i)) (headers_of response-stands.earlier)))
      ∙ ap (slice_get (requests_numbered asking seq)) (count-headers (is_response_of seq) response-stands.earlier ∙ response-stands.rank)
      ∙ asked

  module _ (rule : RuleValue) (source : SessionForms) (d : Dir) where
    -- both have the key of the pair
    request-key : key_with source d request (Some response) ≡ pair_key source d request (Some response)
    request-key = ap (λ b. cond b (pair_key source d request (Some response))
        (option_and_then (λ asks. pair_key source (opposite d) asks (Some request)) (Some response))) is-request.0

    response-key : key_with source (opposite d) response (Some request) ≡ pair_key source d request (Some response)
    response-key =
        ap (λ b. cond b (pair_key source (opposite d) response (Some request))
        (option_and_then (λ asks. pair_key source (opposite (opposite d)) asks (Some response)) (Some request)))
        (not-request (header_of response) is-response.0)
        ∙ ap (λ dir. pair_key source dir request (Some response)) (twice d)

    by-key : (key : Option LinkKey) → part_with rule source request key (Some response) ≡ part_with rule source response key (Some request)
    by-key None = ap rule.paired (request-number ∙ sym response-number)
    by-key (Some key) = refl

    -- so both go to one part
    pub same-part : part_of rule source d answering request-stands.earlier request
        ≡ part_of rule source (opposite d) asking response-stands.earlier response
    same-part =
        (λ i. part_with rule source request (key_with source d request (request-partner i)) (request-partner i))
        ∙ ap (λ key. part_with rule source request key (Some response)) request-key
        ∙ by-key (pair_key source d request (Some response))
        ∙ sym ((λ i. part_with rule source response (key_with source (opposite d) response (response-partner i)) (response-partner i))
        ∙ ap (λ key. part_with rule source response key (Some request)) response-key)

-- ---- no part has a request without its response

entry-there : (p : PresentValue) (e : ℕ × Session) → Contains (entries p.sessions) e → get p.sessions e.0 ≡ Some e.1
entry-there p e h = All-contains (λ (x : ℕ × Session). get p.sessions x.0 ≡ Some x.1) (entries p.sessions) e
    (All-from_recursion _ _ (get-entry nat_cmp_total nat_cmp-IsAntisymmetric p.sessions)) h

keeps : (rule : RuleValue) (p : PresentValue) (part : ℕ) (e : ℕ × Session) → get p.sessions e.0 ≡ Some e.1 → (d : Dir)
    → KeepsResponses (is_in_part rule p part) (origin_of e) d (opposite d) (kept_from d e.1) (kept_from (opposite d) e.1)
keeps rule p part e there d seq rank request response asked answered =
    let asking = kept_from d e.1 in
    let answering = kept_from (opposite d) e.1 in
    let source = source_of p.settings e in
    let asks = request-stands asking answering seq rank request response asked answered in
    let answers = response-stands asking answering seq rank request response asked answered in
    ap (λ (found : Option ℕ). unwrap_or (option_map (λ it. it == part) found) false)
    (part-there rule p d e.0 e.1 there asks.earlier asks.later request asks.all
    ∙ ap Some (same-part asking answering seq rank request response asked answered rule source d)
    ∙ sym (part-there rule p (opposite d) e.0 e.1 there answers.earlier answers.later response answers.all
    ∙ (λ i. Some (part_of rule source (opposite d) (kept_from (twice d i) e.1) answers.earlier response))))

pub pairs-kept : (rule : RuleValue) → KeepsAllPairs rule
pairs-kept rule p part e h =
    let there = entry-there p e h in
    record { client_asks = keeps rule p part e there FromClient; centre_asks = keeps rule p part e there FromCentre }
