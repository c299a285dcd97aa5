-- A PDU of the centre is the response to one message at most.
use Rattle.std.proofs.Common.{◌≡◌, ℕ, suc, ◌+◌, ◌<◌, ◌≤◌, Bool, true, false, cond, List, [], ◌∷◌, ◌++◌, length, Option, Some, None, refl, sym, ap, ◌∙◌, subst, arith}
use Rattle.std.specs.Prelude.{◌==◌, ◌&&◌, count_by, option_map, option_to_list}
use Rattle.std.specs.List.{flat_map}
use Rattle.std.proofs.lemmas.Bool.{false≢true, eqb-true, eq-eqb}
use Rattle.std.proofs.lemmas.List.Sums.{sum_by-cons}
use Rattle.smq_kit.specs.declared.place.Dir.TheVariants.{FromClient}
use Rattle.smq_kit.specs.declared.place.Place.{Place}
use Rattle.smq_pdu.specs.Header.{Header}
use Rattle.smq_pdu.specs.Pairing.{is_request, is_response, is_request_of, is_response_of}
use Rattle.smq_pdu.specs.declared.body.Submit.{Submit}
use Rattle.smq_present.specs.declared.present.kept.StoredPdu.{StoredPdu}
use Rattle.smq_present.specs.present.Kept.{header_of, headers_of, submit_in}
use Rattle.smq_present.specs.pairing.Traffic.{Message, Origin, message_at, message_of, place_of, rank_after, response_to, with_earlier}
use Rattle.smq_present.specs.pairing.Pushes.{is_next_response}
use Rattle.smq_present.specs.within.Pairs.{SubmitsAreRequests}
use Rattle.smq_book.specs.edits.Appended.{answered}

first_of_both : (a b : Bool) → (a && b) ≡ true → a ≡ true
first_of_both true b e = refl
first_of_both false b e = absurd (false≢true e)

second_of_both : (a b : Bool) → (a && b) ≡ true → b ≡ true
second_of_both true b e = e
second_of_both false b e = absurd (false≢true e)

pub count-push : (test : Header → Bool) (before : List StoredPdu) (p : StoredPdu) → count_by test (headers_of (before ++ p ∷ [])) ≡ count_by test (headers_of before) + cond (test (header_of p)) 1 0
count-push test [] p = sum_by-cons (λ h. cond (test h) 1 0) (header_of p) [] ∙ omega arith
count-push test (x ∷ before) p =
    let here = sum_by-cons (λ h. cond (test h) 1 0) (header_of x) (headers_of (before ++ p ∷ [])) in
    let there = sum_by-cons (λ h. cond (test h) 1 0) (header_of x) (headers_of before) in
    let rest = count-push test before p in
    omega (arith, here, there, rest)

module _ (origin : Origin) (centre : List StoredPdu) (next : StoredPdu) where
  abbrev pub answers : List StoredPdu × StoredPdu → List (Place × Message)
  answers e = cond (is_next_response centre next e.0 e.1) (option_to_list (message_at origin (centre ++ next ∷ []) e.0 e.1)) []

  -- how many responses of its sequence number came before it
  abbrev pub turn : ℕ
  turn = count_by (is_response_of next.seq) (headers_of centre)

  pub of_number : (before : List StoredPdu) (p : StoredPdu) → is_next_response centre next before p ≡ true → p.seq ≡ next.seq
  of_number before p e = sym (eqb-true next.seq p.seq (second_of_both (is_response (header_of next)) (next.seq == p.seq) (first_of_both (is_response_of p.seq (header_of next)) _ e)))

  pub in_turn : (before : List StoredPdu) (p : StoredPdu) → is_next_response centre next before p ≡ true → rank_after before next.seq ≡ turn
  in_turn before p e =
      let seq = of_number before p e in
      subst (λ (n : ℕ). rank_after before n ≡ count_by (is_response_of n) (headers_of centre)) seq
      (eqb-true (rank_after before p.seq) (count_by (is_response_of p.seq) (headers_of centre)) (second_of_both (is_response_of p.seq (header_of next)) _ e))

  -- once its turn has passed, it answers none
  pub none-later : (before ps : List StoredPdu) → turn < rank_after before next.seq → flat_map answers (with_earlier before ps) ≡ []
  none-later before [] past = refl
  none-later before (p ∷ ps) past =
      let grown = count-push (is_request_of next.seq) before p in
      let rest = none-later (before ++ p ∷ []) ps (omega (arith, past, grown)) in
      elim (is_next_response centre next before p) as (λ b. is_next_response centre next before p ≡ b → cond b (option_to_list (message_at origin (centre ++ next ∷ []) before p)) [] ++ flat_map answers (with_earlier (before ++ p ∷ []) ps) ≡ []) [
        | true ↦ λ t. (let same = in_turn before p t in absurd (omega (arith, same, past)))
        | false ↦ λ t. rest
      ] refl

  pub later-asks : (p : StoredPdu) (ps : List StoredPdu) → SubmitsAreRequests (p ∷ ps) → SubmitsAreRequests ps
  later-asks p ps h = record { each = λ i x submit at said. h.each (suc i) x submit at said }

  both : (a b : Bool) → a ≡ true → b ≡ true → (a && b) ≡ true
  both true b e h = h
  both false b e h = e

  one_at_most : (submit : Option Submit) (p : StoredPdu) (response : Option StoredPdu) (rest : List (Place × Message)) → ((s : Submit) → submit ≡ Some s → rest ≡ []) → length rest ≤ 1
      → length (option_to_list (option_map (λ (submit : Submit). (place_of origin FromClient p, message_of origin p submit response)) submit) ++ rest) ≤ 1
  one_at_most None p response rest none most = most
  one_at_most (Some submit) p response rest none most = let len : length rest ≡ 0 = ap length (none submit refl) in omega (arith, len)

  few : (before ps : List StoredPdu) → SubmitsAreRequests ps → length (flat_map answers (with_earlier before ps)) ≤ 1
  few before [] asks = omega arith
  few before (p ∷ ps) asks =
      let rest = few (before ++ p ∷ []) ps (later-asks p ps asks) in
      elim (is_next_response centre next before p) as (λ b. is_next_response centre next before p ≡ b
      → length (cond b (option_to_list (message_at origin (centre ++ next ∷ []) before p)) [] ++ flat_map answers (with_earlier (before ++ p ∷ []) ps)) ≤ 1) [
        | true ↦ λ t.
            one_at_most (submit_in p.content) p (response_to (centre ++ next ∷ []) before p) (flat_map answers (with_earlier (before ++ p ∷ []) ps)) (λ submit said.
            let seq = of_number before p t in
            let same = in_turn before p t in
            let request : is_request_of next.seq (header_of p) ≡ true = both (is_request (header_of p)) (p.seq == next.seq) (asks.each 0 p submit refl said) (eq-eqb p.seq next.seq seq) in
            let grown = count-push (is_request_of next.seq) before p in
            let one : ◌≡◌ {A = ℕ} (cond (is_request_of next.seq (header_of p)) 1 0) 1 = ap (λ b. cond b 1 0) request in
            none-later (before ++ p ∷ []) ps (omega (arith, same, grown, one))) rest
        | false ↦ λ t. rest
      ] refl

pub answers-one : (origin : Origin) (client centre : List StoredPdu) (next : StoredPdu) → SubmitsAreRequests client → length (answered origin client centre next) ≤ 1
answers-one origin client centre next asks = few origin centre next [] client asks
