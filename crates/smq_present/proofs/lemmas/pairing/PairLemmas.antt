-- The response of a message is that of its pair, and responses come in turn.
use Rattle.std.proofs.Common.{◌≡◌, ℕ, zero, suc, Bool, true, List, [], ◌∷◌, ◌++◌, length, Option, Some, None, refl, sym, ap, ◌∙◌, subst}
use Rattle.std.specs.Prelude.{◌&&◌, ◌==◌, slice_get, option_and_then, option_map}
use Rattle.std.proofs.lemmas.Bool.{eq-eqb}
use Rattle.smq_kit.specs.declared.place.Dir.TheVariants.{FromClient, FromCentre}
use Rattle.smq_frame.specs.Stream.{Octet}
use Rattle.smq_pdu.specs.Header.{Header}
use Rattle.smq_pdu.specs.declared.body.Submit.{Submit}
use Rattle.smq_pair.specs.Pairing.{pair_at, pair_of}
use Rattle.smq_pdu.specs.Pairing.{IsPair, is_response_of, is_request, is_response, request_rank, response_index}
use Rattle.smq_pdu.proofs.Pairs.{finds_pairs, finds_each}
use Rattle.smq_present.specs.declared.present.kept.StoredPdu.{StoredPdu}
use Rattle.smq_present.specs.present.Kept.{header_of, headers_of, kept_pdus, submit_in}
use Rattle.smq_present.specs.pairing.Traffic.{Origin, place_of, placed, pairing_among, response_to}
use Rattle.smq_present.specs.within.Pairs.{Rises}
use Rattle.smq_present.proofs.lemmas.join.AgreeLists.{response-same}
use Rattle.smq_present.proofs.lemmas.pairing.Paired.{request-pair}
use Rattle.smq_present.proofs.lemmas.pairing.PlacesRise.{kept-rise}
use Rattle.smq_present.proofs.lemmas.pairing.Requests.{kept-ask}

-- ---- pairs

abbrev rank : List StoredPdu → List StoredPdu → StoredPdu → ℕ
rank before after p = request_rank (headers_of (before ++ p ∷ after)) (length before) p.seq

found_at : (before after centre : List StoredPdu) (p : StoredPdu) → response_to centre before p
    ≡ option_and_then (λ j. slice_get centre j) (response_index (headers_of centre) p.seq (rank before after p))
found_at before after centre p = response-same (before ++ p ∷ after) centre before (p ∷ after) (length before) p refl refl

pub pair-each : (before after centre : List StoredPdu) (p : StoredPdu) (j : ℕ) (response : Header)
    → IsPair (headers_of (before ++ p ∷ after)) (headers_of centre) (length before) j (header_of p) response
    → response_to centre before p ≡ slice_get centre j
pair-each before after centre p j response pair =
    found_at before after centre p
    ∙ ap (option_and_then (λ j. slice_get centre j)) (finds_each (headers_of (before ++ p ∷ after)) (headers_of centre)
    (length before) j (header_of p) response pair)

here : (before after : List StoredPdu) (p : StoredPdu) → slice_get (headers_of (before ++ p ∷ after)) (length before) ≡ Some (header_of p)
here [] after p = refl
here (b ∷ before) after p = here before after p

header-at : (centre : List StoredPdu) (j : ℕ) (r : StoredPdu) → slice_get centre j ≡ Some r → slice_get (headers_of centre) j ≡ Some (header_of r)
header-at [] j r e = absurd cc
header-at (x ∷ centre) zero r e = let one : x ≡ r = cc in ap (λ (x : StoredPdu). Some (header_of x)) one
header-at (x ∷ centre) (suc j) r e = header-at centre j r e

one_header : (a b : Header) (o : Option Header) → o ≡ Some a → o ≡ Some b → a ≡ b
one_header a b o e f = cc

by_place : (before after centre : List StoredPdu) (p r : StoredPdu) (o : Option ℕ) → is_request (header_of p) ≡ true
    → response_index (headers_of centre) p.seq (rank before after p) ≡ o
    → option_and_then (λ j. slice_get centre j) o ≡ Some r
    → (j : ℕ) × (slice_get centre j ≡ Some r) × IsPair (headers_of (before ++ p ∷ after)) (headers_of centre) (length before) j
    (header_of p) (header_of r)
by_place before after centre p r None request place e = absurd cc
by_place before after centre p r (Some j) request place e =
    let pair = finds_pairs (headers_of (before ++ p ∷ after)) (headers_of centre) (length before) j (header_of p)
    (here before after p) request place in
    let same : pair.0 ≡ header_of r = one_header pair.0 (header_of r) (slice_get (headers_of centre) j) ((pair.1).response_at)
    (header-at centre j r e) in
    (j, e, subst (λ (h : Header). IsPair (headers_of (before ++ p ∷ after)) (headers_of centre) (length before) j (header_of p) h) same pair.1)

pub pair-found : (before after centre : List StoredPdu) (p r : StoredPdu) → is_request (header_of p) ≡ true → response_to centre before p ≡ Some r
    → (j : ℕ) × (slice_get centre j ≡ Some r) × IsPair (headers_of (before ++ p ∷ after)) (headers_of centre) (length before) j
    (header_of p) (header_of r)
pair-found before after centre p r request e =
    by_place before after centre p r (response_index (headers_of centre) p.seq (rank before after p)) request refl
    (sym (found_at before after centre p) ∙ e)

-- ---- the pairs of a session

nth-after : (before after : List StoredPdu) (p : StoredPdu) → slice_get (before ++ p ∷ after) (length before) ≡ Some p
nth-after [] after p = refl
nth-after (b ∷ before) after p = nth-after before after p

pub pair-stands : (origin : Origin) (client centre : List Octet) (before after : List StoredPdu) (p : StoredPdu) (submit : Submit)
    → kept_pdus client ≡ before ++ p ∷ after → submit_in p.content ≡ Some submit
    → pair_at (pairing_among origin (kept_pdus client) (kept_pdus centre)) (place_of origin FromClient p)
    ≡ option_map (λ r. pair_of (placed origin FromClient p) (placed origin FromCentre r))
    (response_to (kept_pdus centre) before p)
pair-stands origin client centre before after p submit all said =
    ap (λ ps. pair_at (pairing_among origin ps (kept_pdus centre)) (place_of origin FromClient p)) all
    ∙ request-pair origin before after (kept_pdus centre) p (subst (λ ps. Rises 0 ps) all (kept-rise client))
    ((kept-ask client).each (length before) p submit (ap (λ ps. slice_get ps (length before)) all ∙ nth-after before after p) said)

-- ---- two requests of one number, and two responses of it

both : (a b : Bool) → a ≡ true → b ≡ true → (a && b) ≡ true
both a b p q = rw (p, q) refl

of_number : (p : StoredPdu) (seq : ℕ) → is_response (header_of p) ≡ true → p.seq ≡ seq → is_response_of seq (header_of p) ≡ true
of_number p seq response same = both (is_response (header_of p)) (p.seq == seq) response (eq-eqb p.seq seq same)
