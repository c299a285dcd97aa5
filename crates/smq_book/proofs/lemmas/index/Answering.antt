-- The pair that the next PDU of the centre makes is that of the message which it answers, if any.
use Rattle.std.proofs.Common.{◌≡◌, ℕ, zero, suc, ◌+◌, ◌<◌, ◌≤◌, Bool, true, false, cond, List, [], ◌∷◌, ◌++◌, take, Option, Some, None, refl, sym, ap, ◌∙◌, subst, arith}
use Rattle.std.specs.Prelude.{◌==◌, ◌&&◌, not, map, filter, slice_get, count_by, option_and_then, option_map, option_to_list}
use Rattle.std.specs.List.{flat_map}
use Rattle.std.specs.FinMap.{FinMap, find, get}
use Rattle.std.specs.Cmp.{tied_itself}
use Rattle.std.specs.Ordering.{eq_by_cmp, is_eq}
use Rattle.std.proofs.lemmas.Bool.{false≢true, eqb-true, eq-eqb}
use Rattle.std.proofs.lemmas.List.{append-nil, append_assoc, map-append}
use Rattle.std.proofs.lemmas.List.Sums.{sum_by-cons}
use Rattle.std.proofs.lemmas.Option.{slice_get-map}
use Rattle.smq_kit.specs.declared.place.Dir.{Dir}
use Rattle.smq_kit.specs.declared.place.Dir.TheVariants.{FromClient, FromCentre}
use Rattle.smq_kit.specs.declared.place.Place.{Place}
use Rattle.smq_kit.specs.Orders.{place_cmp}
use Rattle.smq_kit.proofs.MapLemmas.{same_key}
use Rattle.smq_kit.proofs.PlaceOrders.{places_total, places_exact}
use Rattle.smq_pdu.specs.Commands.{outbind, alert_notification}
use Rattle.smq_pdu.specs.Header.{Header}
use Rattle.smq_pdu.specs.Pairing.{is_request, is_response, is_request_of, is_response_of}
use Rattle.smq_pdu.specs.declared.body.Submit.{Submit}
use Rattle.smq_pair.specs.declared.pairing.Pair.{Pair}
use Rattle.smq_pair.specs.Pairing as pairs
use Rattle.smq_pair.specs.Pairing.{PlacedHeader, headers, pair_of, pair_after, pair_at}
use Rattle.smq_pair.specs.Growth.{made_by, pushed}
use Rattle.smq_pair.proofs.Turned.{and_both, and_second}
use Rattle.smq_present.specs.declared.present.kept.StoredPdu.{StoredPdu}
use Rattle.smq_present.specs.present.Kept.{header_of, headers_of, submit_in}
use Rattle.smq_present.specs.pairing.Traffic.{Message, Origin, TrafficValue, message_at, message_of, messages_among, pairing_among, place_of, placed, rank_after, response_to, with_earlier}
use Rattle.smq_present.specs.pairing.Pushes.{is_next_response}
use Rattle.smq_present.specs.within.Pairs.{Rises, SubmitsAreRequests}
use Rattle.smq_present.specs.join.Moves.{Move}
use Rattle.smq_book.specs.edits.Appended.{anew, answered}
use Rattle.smq_book.specs.index.Held.{IsTraffic}
use Rattle.smq_book.specs.index.Pushed.{IsSaidBy, answer_moves, said_by, with_response}
use Rattle.smq_book.proofs.lemmas.edits.Answered.{answers, count-push, in_turn, later-asks, none-later, of_number, turn}
use Rattle.smq_present.proofs.lemmas.pairing.Paired.{above, filter-placed, standing}
use Rattle.smq_present.proofs.lemmas.pairing.Searched.{at-offset}

-- ---- what passes a test, with one PDU more

module _ (test : Header → Bool) where
  abbrev passing : List StoredPdu → List StoredPdu
  passing ps = filter (λ p. test (header_of p)) ps

  -- the last of those that pass
  last-passing : (ps : List StoredPdu) (x : StoredPdu) → test (header_of x) ≡ true
      → slice_get (passing (ps ++ x ∷ [])) (count_by test (headers_of ps)) ≡ Some x
  last-passing [] x passes = ap (λ b. slice_get (cond b (x ∷ []) []) 0) passes
  last-passing (p ∷ ps) x passes =
      ap (λ n. slice_get (passing (p ∷ (ps ++ x ∷ []))) n) (sum_by-cons (λ h. cond (test h) 1 0) (header_of p) (headers_of ps))
      ∙ elim (test (header_of p)) as (λ b. slice_get (cond b (p ∷ passing (ps ++ x ∷ [])) (passing (ps ++ x ∷ [])))
      (cond b 1 0 + count_by test (headers_of ps)) ≡ Some x) [
        | true ↦ let more : 1 + count_by test (headers_of ps) ≡ suc (count_by test (headers_of ps)) = omega arith in
            ap (λ n. slice_get (p ∷ passing (ps ++ x ∷ [])) n) more ∙ last-passing ps x passes
        | false ↦ let same : 0 + count_by test (headers_of ps) ≡ count_by test (headers_of ps) = omega arith in
            ap (λ n. slice_get (passing (ps ++ x ∷ [])) n) same ∙ last-passing ps x passes
      ]

  -- none is past those that pass
  past-passing : (ps : List StoredPdu) → slice_get (passing ps) (count_by test (headers_of ps)) ≡ None
  past-passing [] = refl
  past-passing (p ∷ ps) =
      ap (λ n. slice_get (passing (p ∷ ps)) n) (sum_by-cons (λ h. cond (test h) 1 0) (header_of p) (headers_of ps))
      ∙ elim (test (header_of p)) as (λ b. slice_get (cond b (p ∷ passing ps) (passing ps)) (cond b 1 0 + count_by test (headers_of ps)) ≡ None) [
        | true ↦ let more : 1 + count_by test (headers_of ps) ≡ suc (count_by test (headers_of ps)) = omega arith in
            ap (λ n. slice_get (p ∷ passing ps) n) more ∙ past-passing ps
        | false ↦ let same : 0 + count_by test (headers_of ps) ≡ count_by test (headers_of ps) = omega arith in
            ap (λ n. slice_get (passing ps) n) same ∙ past-passing ps
      ]

  -- One that passes stands among all, after as many that pass as its rank.
  pub record StandsRanked (ps : List StoredPdu) (rank : ℕ) (p : StoredPdu) : Type 0 where
    pub index : ℕ
    pub at : slice_get ps index ≡ Some p
    pub ranked : count_by test (headers_of (take index ps)) ≡ rank
    pub passes : test (header_of p) ≡ true

  passing-ranked : (ps : List StoredPdu) (rank : ℕ) (p : StoredPdu) → slice_get (passing ps) rank ≡ Some p → StandsRanked ps rank p
  passing-ranked [] rank p at = absurd cc
  passing-ranked (x ∷ ps) rank p at = by (λ n. passing-ranked ps n p) (test (header_of x)) refl rank at
    where
      later : (b : Bool) (rest : ℕ) → test (header_of x) ≡ b → StandsRanked ps rest p → StandsRanked (x ∷ ps) (cond b 1 0 + rest) p
      later b rest e r = record {
        index = suc r.index;
        at = r.at;
        ranked = sum_by-cons (λ h. cond (test h) 1 0) (header_of x) (headers_of (take r.index ps)) ∙ (λ i. cond (e i) 1 0 + r.ranked i);
        passes = r.passes;
      }

      by : ((n : ℕ) → slice_get (passing ps) n ≡ Some p → StandsRanked ps n p) → (b : Bool) → test (header_of x) ≡ b → (n : ℕ)
          → slice_get (cond b (x ∷ passing ps) (passing ps)) n ≡ Some p → StandsRanked (x ∷ ps) n p
      by rest true t zero e = let one : x ≡ p = cc in record {
        index = 0;
        at = ap Some one;
        ranked = refl;
        passes = ap (λ (y : StoredPdu). test (header_of y)) (sym one) ∙ t;
      }
      by rest true t (suc n) e = let more : 1 + n ≡ suc n = omega arith in subst (λ n. StandsRanked (x ∷ ps) n p) more (later true n t (rest n e))
      by rest false t n e = let same : 0 + n ≡ n = omega arith in subst (λ n. StandsRanked (x ∷ ps) n p) same (later false n t (rest n e))

  -- one that passes stands among all
  passing-stands : (ps : List StoredPdu) (rank : ℕ) (p : StoredPdu) → slice_get (passing ps) rank ≡ Some p → (j : ℕ) × (slice_get ps j ≡ Some p)
  passing-stands [] rank p at = absurd cc
  passing-stands (x ∷ ps) zero p at =
      elim (test (header_of x)) as (λ b. slice_get (cond b (x ∷ passing ps) (passing ps)) 0 ≡ Some p → (j : ℕ) × (slice_get (x ∷ ps) j ≡ Some p)) [
        | true ↦ λ e. (0, e)
        | false ↦ λ e. let rest = passing-stands ps 0 p e in (suc rest.0, rest.1)
      ] at
  passing-stands (x ∷ ps) (suc rank) p at =
      elim (test (header_of x)) as (λ b. slice_get (cond b (x ∷ passing ps) (passing ps)) (suc rank) ≡ Some p
      → (j : ℕ) × (slice_get (x ∷ ps) j ≡ Some p)) [
        | true ↦ λ e. let rest = passing-stands ps rank p e in (suc rest.0, rest.1)
        | false ↦ λ e. let rest = passing-stands ps (suc rank) p e in (suc rest.0, rest.1)
      ] at

-- ---- the message that the next PDU of the centre answers

module _ (origin : Origin) (centre : List StoredPdu) (next : StoredPdu) where
  -- whether a PDU is a request of its sequence number
  abbrev asks : StoredPdu → Bool
  asks p = is_request_of next.seq (header_of p)

  -- the message that a PDU is with this response, if it is one
  abbrev says : StoredPdu → Option StoredPdu → Option Submit → List (Place × Message)
  says p response submit =
      option_to_list (option_map (λ (submit : Submit). (place_of origin FromClient p, message_of origin p submit response)) submit)

  abbrev answers_as : StoredPdu → Option Submit → List (Place × Message)
  answers_as p submit = says p (Some next) submit

  abbrev answers_to : Option StoredPdu → List (Place × Message)
  answers_to None = []
  answers_to (Some p) = answers_as p (submit_in p.content)

  -- where it isn't a response, it answers none
  none-answered : (before ps : List StoredPdu) → is_response (header_of next) ≡ false → flat_map (answers origin centre next) (with_earlier before ps) ≡ []
  none-answered before [] other = refl
  none-answered before (p ∷ ps) other =
      (λ i. cond ((other i && (next.seq == p.seq)) && (rank_after before p.seq == count_by (is_response_of p.seq) (headers_of centre)))
      (option_to_list (message_at origin (centre ++ next ∷ []) before p)) [] ++ none-answered (before ++ p ∷ []) ps other i)

  -- a PDU that isn't a request of its sequence number isn't a message that it answers
  not-asking : (before ps : List StoredPdu) (p : StoredPdu) → asks p ≡ false → SubmitsAreRequests (p ∷ ps) → (answers origin centre next) (before, p) ≡ []
  not-asking before ps p other submits =
      elim (is_next_response centre next before p) as (λ b. is_next_response centre next before p ≡ b
      → cond b (option_to_list (message_at origin (centre ++ next ∷ []) before p)) [] ≡ []) [
        | true ↦ λ t. by (submit_in p.content) refl t
        | false ↦ λ t. refl
      ] refl
    where
      by : (submit : Option Submit) → submit_in p.content ≡ submit → is_next_response centre next before p ≡ true
          → says p (response_to (centre ++ next ∷ []) before p) submit ≡ []
      by None said t = refl
      by (Some submit) said t =
          absurd (false≢true (sym other
          ∙ and_both (is_request (header_of p)) (p.seq == next.seq) (submits.each 0 p submit refl said)
          (eq-eqb p.seq next.seq (of_number origin centre next before p t))))

  -- nor is one of another rank
  not-in-turn : (before : List StoredPdu) (p : StoredPdu) → rank_after before next.seq < (turn origin centre next) → (answers origin centre next) (before, p) ≡ []
  not-in-turn before p early =
      elim (is_next_response centre next before p) as (λ b. is_next_response centre next before p ≡ b
      → cond b (option_to_list (message_at origin (centre ++ next ∷ []) before p)) [] ≡ []) [
        | true ↦ λ t. (let same = in_turn origin centre next before p t in absurd (omega (arith, same, early)))
        | false ↦ λ t. refl
      ] refl

  module _ (response : is_response (header_of next) ≡ true) where
    -- the request of its rank is
    asking : (before : List StoredPdu) (p : StoredPdu) → asks p ≡ true → rank_after before next.seq ≡ (turn origin centre next)
        → (answers origin centre next) (before, p) ≡ answers_as p (submit_in p.content)
    asking before p asked same =
        let seq : p.seq ≡ next.seq = eqb-true p.seq next.seq (and_second (is_request (header_of p)) (p.seq == next.seq) asked) in
        let of : is_response_of p.seq (header_of next) ≡ true =
        and_both (is_response (header_of next)) (next.seq == p.seq) response (eq-eqb next.seq p.seq (sym seq)) in
        let at : rank_after before p.seq ≡ count_by (is_response_of p.seq) (headers_of centre) =
        subst (λ (n : ℕ). rank_after before n ≡ count_by (is_response_of n) (headers_of centre)) (sym seq) same in
        let next_is : is_next_response centre next before p ≡ true =
        and_both (is_response_of p.seq (header_of next)) _ of
        (eq-eqb (rank_after before p.seq) (count_by (is_response_of p.seq) (headers_of centre)) at) in
        let answer : response_to (centre ++ next ∷ []) before p ≡ Some next =
        ap (slice_get (filter (λ r. is_response_of p.seq (header_of r)) (centre ++ next ∷ []))) at
        ∙ last-passing (is_response_of p.seq) centre next of in
        ap (λ b. cond b (option_to_list (message_at origin (centre ++ next ∷ []) before p)) []) next_is
        ∙ ap (λ (r : Option StoredPdu). says p r (submit_in p.content)) answer

    -- so it answers the request of its rank among those of its sequence number
    in-order : (before ps : List StoredPdu) (rank : ℕ) → rank_after before next.seq + rank ≡ (turn origin centre next) → SubmitsAreRequests ps
        → flat_map (answers origin centre next) (with_earlier before ps) ≡ answers_to (slice_get (filter asks ps) rank)
    in-order before [] rank at submits = refl
    in-order before (p ∷ ps) zero at submits =
        let grown = count-push (is_request_of next.seq) before p in
        elim (asks p) as (λ b. asks p ≡ b → (answers origin centre next) (before, p) ++ flat_map (answers origin centre next) (with_earlier (before ++ p ∷ []) ps)
        ≡ answers_to (slice_get (cond b (p ∷ filter asks ps) (filter asks ps)) 0)) [
          | true ↦ λ t.
              let one : ◌≡◌ {A = ℕ} (cond (asks p) 1 0) 1 = ap (λ b. cond b 1 0) t in
              let rest = none-later origin centre next (before ++ p ∷ []) ps (omega (arith, at, grown, one)) in
              (λ i. asking before p t (omega (arith, at)) i ++ rest i) ∙ append-nil (answers_as p (submit_in p.content))
          | false ↦ λ t.
              let none : ◌≡◌ {A = ℕ} (cond (asks p) 1 0) 0 = ap (λ b. cond b 1 0) t in
              let rest = in-order (before ++ p ∷ []) ps 0 (omega (arith, at, grown, none)) (later-asks origin centre next p ps submits) in
              ap (λ es. es ++ flat_map (answers origin centre next) (with_earlier (before ++ p ∷ []) ps)) (not-asking before ps p t submits) ∙ rest
        ] refl
    in-order before (p ∷ ps) (suc rank) at submits =
        let grown = count-push (is_request_of next.seq) before p in
        elim (asks p) as (λ b. asks p ≡ b → (answers origin centre next) (before, p) ++ flat_map (answers origin centre next) (with_earlier (before ++ p ∷ []) ps)
        ≡ answers_to (slice_get (cond b (p ∷ filter asks ps) (filter asks ps)) (suc rank))) [
          | true ↦ λ t.
              let one : ◌≡◌ {A = ℕ} (cond (asks p) 1 0) 1 = ap (λ b. cond b 1 0) t in
              let rest = in-order (before ++ p ∷ []) ps rank (omega (arith, at, grown, one)) (later-asks origin centre next p ps submits) in
              ap (λ es. es ++ flat_map (answers origin centre next) (with_earlier (before ++ p ∷ []) ps)) (not-in-turn before p (omega (arith, at))) ∙ rest
          | false ↦ λ t.
              let none : ◌≡◌ {A = ℕ} (cond (asks p) 1 0) 0 = ap (λ b. cond b 1 0) t in
              let rest = in-order (before ++ p ∷ []) ps (suc rank) (omega (arith, at, grown, none)) (later-asks origin centre next p ps submits) in
              ap (λ es. es ++ flat_map (answers origin centre next) (with_earlier (before ++ p ∷ []) ps)) (not-asking before ps p t submits) ∙ rest
        ] refl

-- ---- what stands at the place of a PDU among those of its direction

module _ (origin : Origin) (dir : Dir) where
  pub elsewhere : (p x : StoredPdu) → (p.offset ≡ x.offset → ⊥) → eq_by_cmp place_cmp (place_of origin dir p) (place_of origin dir x) ≡ false
  elsewhere p x apart = by (eq_by_cmp place_cmp (place_of origin dir p) (place_of origin dir x)) refl
    where
      by : (b : Bool) → eq_by_cmp place_cmp (place_of origin dir p) (place_of origin dir x) ≡ b → b ≡ false
      by true e =
          absurd (apart (ap (λ (q : Place). q.offset) (same_key places_total places_exact (place_of origin dir p) (place_of origin dir x) e)))
      by false e = refl

module _ (origin : Origin) (centre : List StoredPdu) where
  abbrev said_from : List StoredPdu → List StoredPdu → List (Place × Message)
  said_from before ps = flat_map (λ e. option_to_list (message_at origin centre e.0 e.1)) (with_earlier before ps)

  abbrev said_as : StoredPdu → Option StoredPdu → Option Submit → Option (Place × Message)
  said_as p response submit = option_map (λ (submit : Submit). (place_of origin FromClient p, message_of origin p submit response)) submit

  -- what another PDU says stands elsewhere
  passes : (q : Place) (p : StoredPdu) (response : Option StoredPdu) (submit : Option Submit) (rest : List (Place × Message))
      → eq_by_cmp place_cmp q (place_of origin FromClient p) ≡ false
      → find place_cmp q (option_to_list (said_as p response submit) ++ rest) ≡ find place_cmp q rest
  passes q p response None rest apart = refl
  passes q p response (Some submit) rest apart = ap (λ b. cond b (Some (message_of origin p submit response)) (find place_cmp q rest)) apart

  -- what it says itself stands there
  stands : (p : StoredPdu) (response : Option StoredPdu) (submit : Option Submit) (rest : List (Place × Message))
      → find place_cmp (place_of origin FromClient p) rest ≡ None
      → find place_cmp (place_of origin FromClient p) (option_to_list (said_as p response submit) ++ rest)
      ≡ option_map (λ (submit : Submit). message_of origin p submit response) submit
  stands p response None rest none = none
  stands p response (Some submit) rest none =
      ap (λ b. cond b (Some (message_of origin p submit response)) (find place_cmp (place_of origin FromClient p) rest))
      (ap is_eq (tied_itself places_total (place_of origin FromClient p)))

  -- nothing stands below the offsets of PDUs
  none-below : (before ps : List StoredPdu) (low : ℕ) (p : StoredPdu) → p.offset < low → Rises low ps
      → find place_cmp (place_of origin FromClient p) (said_from before ps) ≡ None
  none-below before [] low p h rises = refl
  none-below before (x ∷ ps) low p h rises =
      passes (place_of origin FromClient p) x (response_to centre before x) (submit_in x.content) (said_from (before ++ x ∷ []) ps)
      (elsewhere origin FromClient p x (λ same. omega (arith, h, rises.0, same)))
      ∙ none-below (before ++ x ∷ []) ps (x.offset + 1) p (omega (arith, h, rises.0)) rises.1

  -- nor above them
  pub none-above : (before ps : List StoredPdu) (low : ℕ) (p : StoredPdu) → Rises low (ps ++ p ∷ [])
      → find place_cmp (place_of origin FromClient p) (said_from before ps) ≡ None
  none-above before [] low p rises = refl
  none-above before (x ∷ ps) low p rises =
      let more = above (x.offset + 1) ps [] p rises.1 in
      passes (place_of origin FromClient p) x (response_to centre before x) (submit_in x.content) (said_from (before ++ x ∷ []) ps)
      (elsewhere origin FromClient p x (λ same. omega (arith, more, same)))
      ∙ none-above (before ++ x ∷ []) ps (x.offset + 1) p rises.1

  pub above-bound : (ps : List StoredPdu) (low j : ℕ) (p : StoredPdu) → Rises low ps → slice_get ps j ≡ Some p → low ≤ p.offset
  above-bound ps low j p rises at = (at-offset low ps j p rises at).0

  -- the message that a PDU is stands at its place, with some response
  pub own-message : (before ps : List StoredPdu) (low j : ℕ) (p : StoredPdu) → Rises low ps → slice_get ps j ≡ Some p
      → (response : Option StoredPdu) × (find place_cmp (place_of origin FromClient p) (said_from before ps)
      ≡ option_map (λ (submit : Submit). message_of origin p submit response) (submit_in p.content))
  own-message before [] low j p rises at = absurd cc
  own-message before (x ∷ ps) low zero p rises at =
      let one : x ≡ p = cc in (
        response_to centre before x,
        ap (λ (p : StoredPdu). find place_cmp (place_of origin FromClient p) (said_from before (x ∷ ps))) (sym one)
            ∙ stands x (response_to centre before x) (submit_in x.content) (said_from (before ++ x ∷ []) ps)
            (none-below (before ++ x ∷ []) ps (x.offset + 1) x (omega arith) rises.1)
            ∙ ap (λ (p : StoredPdu). option_map (λ (submit : Submit). message_of origin p submit (response_to centre before x))
            (submit_in p.content)) one,
      )
  own-message before (x ∷ ps) low (suc j) p rises at =
      let rest = own-message (before ++ x ∷ []) ps (x.offset + 1) j p rises.1 at in
      let more = above-bound ps (x.offset + 1) j p rises.1 at in (
        rest.0,
        passes (place_of origin FromClient p) x (response_to centre before x) (submit_in x.content) (said_from (before ++ x ∷ []) ps)
            (elsewhere origin FromClient p x (λ same. omega (arith, more, same)))
            ∙ rest.1,
      )

  -- and that response is the one of its rank
  pub own-ranked : (before ps : List StoredPdu) (low j : ℕ) (p : StoredPdu) → Rises low ps → slice_get ps j ≡ Some p
      → find place_cmp (place_of origin FromClient p) (said_from before ps)
      ≡ option_map (λ (submit : Submit). message_of origin p submit (response_to centre (before ++ take j ps) p)) (submit_in p.content)
  own-ranked before [] low j p rises at = absurd cc
  own-ranked before (x ∷ ps) low zero p rises at =
      let one : x ≡ p = cc in
      ap (λ (p : StoredPdu). find place_cmp (place_of origin FromClient p) (said_from before (x ∷ ps))) (sym one)
      ∙ stands x (response_to centre before x) (submit_in x.content) (said_from (before ++ x ∷ []) ps)
      (none-below (before ++ x ∷ []) ps (x.offset + 1) x (omega arith) rises.1)
      ∙ ap (λ (p : StoredPdu). option_map (λ (submit : Submit). message_of origin p submit (response_to centre before p)) (submit_in p.content)) one
      ∙ ap (λ (es : List StoredPdu). option_map (λ (submit : Submit). message_of origin p submit (response_to centre es p)) (submit_in p.content))
      (sym (append-nil before))
  own-ranked before (x ∷ ps) low (suc j) p rises at =
      let more = above-bound ps (x.offset + 1) j p rises.1 at in
      passes (place_of origin FromClient p) x (response_to centre before x) (submit_in x.content) (said_from (before ++ x ∷ []) ps)
      (elsewhere origin FromClient p x (λ same. omega (arith, more, same)))
      ∙ own-ranked (before ++ x ∷ []) ps (x.offset + 1) j p rises.1 at
      ∙ ap (λ (es : List StoredPdu). option_map (λ (submit : Submit). message_of origin p submit (response_to centre es p)) (submit_in p.content))
      (append_assoc before (x ∷ []) (take j ps))

-- ---- the pair that the next PDU of the centre makes

module _ (origin : Origin) (client centre : List StoredPdu) (next : StoredPdu) where
  abbrev mine : List PlacedHeader
  mine = map (placed origin FromCentre) centre

  abbrev theirs : List PlacedHeader
  theirs = map (placed origin FromClient) client

  abbrev here : PlacedHeader
  here = placed origin FromCentre next

  headers-placed : (ps : List StoredPdu) → headers (map (placed origin FromCentre) ps) ≡ headers_of ps
  headers-placed [] = refl
  headers-placed (p ∷ ps) = ap (λ hs. header_of p ∷ hs) (headers-placed ps)

  -- the request of its sequence number and rank, if any
  abbrev request : Option StoredPdu
  request = slice_get (filter (asks origin centre next) client) (turn origin centre next)

  made-after : Rises 0 (centre ++ next ∷ []) → made_by (pairing_among origin client centre) here ≡ pair_after theirs mine here
  made-after rises =
      let grown : pushed (pairing_among origin client centre) here ≡ pairing_among origin client (centre ++ next ∷ []) =
      λ i. record { client = theirs; centre = sym (map-append (placed origin FromCentre) centre (next ∷ [])) i } in
      ap (λ v. pair_at v (place_of origin FromCentre next)) grown
      ∙ ap (option_and_then (λ e. pair_after theirs e.0 e.1)) (standing origin FromCentre [] 0 centre [] next rises)

  requests-placed : pairs.request_of theirs mine here ≡ option_map (placed origin FromClient) request
  requests-placed =
      (λ i. slice_get (filter-placed origin FromClient (is_request_of next.seq) client i)
      (count_by (is_response_of next.seq) (headers-placed centre i)))
      ∙ slice_get-map (placed origin FromClient) (filter (asks origin centre next) client) (turn origin centre next)

  -- ---- what it answers

  module _ (messages : FinMap place_cmp Message) where
    abbrev moves_of : Option Pair → List Move
    moves_of made = answer_moves messages made next

    abbrev moves_at : Pair → Option Message → List Move
    moves_at pair found = flat_map anew (option_to_list (option_map (λ m. (pair.request, with_response m (said_by pair next))) found))

    -- a request of the centre answers no message
    asks-none : get messages (place_of origin FromCentre next) ≡ None → (response : Option PlacedHeader)
        → moves_of (option_map (λ r. pair_of here r) response) ≡ []
    asks-none none None = refl
    asks-none none (Some r) = ap (moves_at (pair_of here r)) none

    by-request : get messages (place_of origin FromCentre next) ≡ None → (b : Bool) (response : Option PlacedHeader)
        → moves_of (cond b (option_map (λ r. pair_of here r) response) None) ≡ []
    by-request none true response = asks-none none response
    by-request none false response = refl

    -- the response to a request puts its message in anew
    answers-one : (p : StoredPdu) (response : Option StoredPdu) (submit : Option Submit)
        → moves_at (pair_of (placed origin FromClient p) here) (option_map (λ (submit : Submit). message_of origin p submit response) submit)
        ≡ flat_map anew (answers_as origin centre next p submit)
    answers-one p response None = refl
    answers-one p response (Some submit) = refl

    module _ (rises : Rises 0 client)
        (said : (q : Place) → q.session.0 ≡ origin.session.0 → get messages q ≡ find place_cmp q (messages_among origin client centre)) where
      answers-found : (found : Option StoredPdu) → request ≡ found
          → moves_of (option_map (λ r. pair_of r here) (option_map (placed origin FromClient) found))
          ≡ flat_map anew (answers_to origin centre next found)
      answers-found None e = refl
      answers-found (Some p) e =
          let there = passing-stands (is_request_of next.seq) client (turn origin centre next) p e in
          let own = own-message origin centre [] client 0 there.0 p rises there.1 in
          ap (moves_at (pair_of (placed origin FromClient p) here)) (said (place_of origin FromClient p) refl ∙ own.1)
          ∙ answers-one p own.0 (submit_in p.content)

  pub answers-are : (t : TrafficValue) → IsTraffic t → IsSaidBy origin client centre t → Rises 0 client → Rises 0 (centre ++ next ∷ [])
      → SubmitsAreRequests client
      → answer_moves t.messages (made_by (pairing_among origin client centre) here) next ≡ flat_map anew (answered origin client centre next)
  answers-are t is said rises centre_rises submits =
      ap (λ (made : Option Pair). answer_moves t.messages made next) (made-after centre_rises)
      ∙ by (is_response (header_of next)) refl
    where
      none_there : (found : Option Message) → get t.messages (place_of origin FromCentre next) ≡ found → found ≡ None
      none_there None e = refl
      none_there (Some m) e = let clash : FromCentre ≡ FromClient = is.messages (place_of origin FromCentre next) m e in absurd cc

      none : get t.messages (place_of origin FromCentre next) ≡ None
      none = none_there (get t.messages (place_of origin FromCentre next)) refl

      by : (b : Bool) → is_response (header_of next) ≡ b
          → answer_moves t.messages (pair_after theirs mine here) next ≡ flat_map anew (answered origin client centre next)
      by true e =
          let no_request : is_request (header_of next) ≡ false =
          ap (λ b. not b && not ((header_of next).command == outbind) && not ((header_of next).command == alert_notification)) e in
          (λ i. moves_of t.messages (cond (no_request i) (option_map (λ r. pair_of here r) (pairs.response_to theirs mine here))
          (cond (e i) (option_map (λ r. pair_of r here) (requests-placed i)) None)))
          ∙ answers-found t.messages rises said.messages request refl
          ∙ ap (flat_map anew) (sym (in-order origin centre next e [] client (turn origin centre next) (omega arith) submits))
      by false e =
          (λ i. moves_of t.messages (cond (is_request (header_of next)) (option_map (λ r. pair_of here r) (pairs.response_to theirs mine here))
          (cond (e i) (option_map (λ r. pair_of r here) (pairs.request_of theirs mine here)) None)))
          ∙ by-request t.messages none (is_request (header_of next)) (pairs.response_to theirs mine here)
          ∙ ap (flat_map anew) (sym (none-answered origin centre next [] client e))

  -- the message that it answers had no response
  pub waits-for : (t : TrafficValue) → IsTraffic t → IsSaidBy origin client centre t → Rises 0 client → Rises 0 (centre ++ next ∷ [])
      → (pair : Pair) (m : Message) → made_by (pairing_among origin client centre) here ≡ Some pair → get t.messages pair.request ≡ Some m
      → m.response ≡ None
  waits-for t is said rises centre_rises pair m made there =
      by (is_request (header_of next)) (is_response (header_of next)) (sym (made-after centre_rises) ∙ made)
    where
      at-centre : (q : Place) → pair.request ≡ q → q.dir ≡ FromCentre → m.response ≡ None
      at-centre q same centre =
          let clash : FromCentre ≡ FromClient = sym centre ∙ is.messages q m (ap (get t.messages) (sym same) ∙ there) in absurd cc

      asked : (r : Option PlacedHeader) → option_map (λ r. pair_of here r) r ≡ Some pair → m.response ≡ None
      asked None e = absurd cc
      asked (Some r) e =
          let one : pair_of here r ≡ pair = cc in at-centre (place_of origin FromCentre next) (ap (λ (x : Pair). x.request) (sym one)) refl

      answering : (p : StoredPdu) → slice_get (filter (asks origin centre next) client) (turn origin centre next) ≡ Some p
          → pair.request ≡ place_of origin FromClient p → m.response ≡ None
      answering p at same =
          let ranked = passing-ranked (is_request_of next.seq) client (turn origin centre next) p at in
          let seq : p.seq ≡ next.seq = eqb-true p.seq next.seq (and_second (is_request (header_of p)) (p.seq == next.seq) ranked.passes) in
          let none : response_to centre (take ranked.index client) p ≡ None =
          ap (λ (n : ℕ). slice_get (filter (λ r. is_response_of n (header_of r)) centre) (count_by (is_request_of n) (headers_of (take ranked.index client)))) seq
          ∙ ap (λ (n : ℕ). slice_get (filter (λ r. is_response_of next.seq (header_of r)) centre) n) ranked.ranked
          ∙ past-passing (is_response_of next.seq) centre in
          let found = sym (said.messages (place_of origin FromClient p) refl ∙ own-ranked origin centre [] client 0 ranked.index p rises ranked.at)
          ∙ ap (get t.messages) (sym same) ∙ there in
          told (submit_in p.content)
          (ap (λ (r : Option StoredPdu). option_map (λ (submit : Submit). message_of origin p submit r) (submit_in p.content)) (sym none) ∙ found)
        where
          told : (submit : Option Submit) → option_map (λ (submit : Submit). message_of origin p submit None) submit ≡ Some m → m.response ≡ None
          told None e = absurd cc
          told (Some submit) e = let one : message_of origin p submit None ≡ m = cc in ap (λ (x : Message). x.response) (sym one)

      answered-by : (p : Option StoredPdu) → request ≡ p → option_map (λ r. pair_of r here) (option_map (placed origin FromClient) p) ≡ Some pair
          → m.response ≡ None
      answered-by None at e = absurd cc
      answered-by (Some p) at e =
          let one : pair_of (placed origin FromClient p) here ≡ pair = cc in answering p at (ap (λ (x : Pair). x.request) (sym one))

      by : (a b : Bool) → cond a (option_map (λ r. pair_of here r) (pairs.response_to theirs mine here))
          (cond b (option_map (λ r. pair_of r here) (pairs.request_of theirs mine here)) None) ≡ Some pair → m.response ≡ None
      by true b e = asked (pairs.response_to theirs mine here) e
      by false true e = answered-by request refl (ap (option_map (λ r. pair_of r here)) (sym requests-placed) ∙ e)
      by false false e = absurd cc
