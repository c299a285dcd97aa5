-- One PDU more: of the client it is one message more at most, of the centre it changes the messages to which it is the
-- response.
use Rattle.std.proofs.Common.{◌≡◌, ◌≢◌, ℕ, zero, suc, ◌+◌, Bool, true, false, cond, List, [], ◌∷◌, ◌++◌, length, Option, Some, None, refl, sym, ap, ◌∙◌, arith}
use Rattle.std.specs.Prelude.{◌&&◌, ◌==◌, filter, count_by, slice_get, option_map, option_to_list}
use Rattle.std.specs.List.{flat_map, list_any}
use Rattle.std.proofs.lemmas.Bool.Decides.{nat_tests}
use Rattle.std.proofs.lemmas.Bool.{false≢true}
use Rattle.std.proofs.lemmas.List.{append-nil, append_assoc}
use Rattle.std.proofs.lemmas.List.Concat.{flat_map-append}
use Rattle.std.proofs.lemmas.List.Elements.{filter-append}
use Rattle.std.proofs.lemmas.List.Sums.{sum_by-cons}
use Rattle.std.specs.Ordering.{eq_by_cmp}
use Rattle.std.specs.FinMap.{from_entries, find, get-from_entries}
use Rattle.smq_kit.specs.declared.place.Dir.TheVariants.{FromClient}
use Rattle.smq_kit.specs.declared.place.Place.{Place}
use Rattle.smq_kit.specs.Maps.{SameOutside}
use Rattle.smq_kit.specs.Orders.{place_cmp}
use Rattle.smq_kit.proofs.PlaceOrders.{places_total}
use Rattle.smq_kit.proofs.Comparisons.{or_first, or_second}
use Rattle.smq_pdu.specs.Header.{Header}
use Rattle.smq_pdu.specs.Pairing.{is_response_of}
use Rattle.smq_pdu.specs.declared.body.Submit.{Submit}
use Rattle.smq_present.specs.declared.present.kept.StoredPdu.{StoredPdu}
use Rattle.smq_present.specs.present.Kept.{header_of, headers_of, submit_in}
use Rattle.smq_present.specs.pairing.Traffic.{Message, Origin, place_of, message_of, message_at, messages_among, rank_after, response_to, with_earlier}
use Rattle.smq_present.specs.pairing.Pushes.{is_next_response, requests_of}

-- ---- a PDU more of the client

with-push : (before ps : List StoredPdu) (x : StoredPdu) → with_earlier before (ps ++ x ∷ []) ≡ with_earlier before ps ++ (before ++ ps, x) ∷ []
with-push before [] x = ap (λ (b : List StoredPdu). (b, x) ∷ []) (sym (append-nil before))
with-push before (p ∷ ps) x =
    ap (λ es. (before, p) ∷ es) (with-push (before ++ p ∷ []) ps x
    ∙ ap (λ (b : List StoredPdu). with_earlier (before ++ p ∷ []) ps ++ (b, x) ∷ []) (append_assoc before (p ∷ []) ps))

-- a PDU more of the client is the message that it is, if any, after the others
pub client-push : (origin : Origin) (client centre : List StoredPdu) (next : StoredPdu)
    → messages_among origin (client ++ next ∷ []) centre ≡ messages_among origin client centre
    ++ option_to_list (message_at origin centre client next)
client-push origin client centre next =
    let say : List StoredPdu × StoredPdu → List (Place × Message) = λ e. option_to_list (message_at origin centre e.0 e.1) in
    ap (flat_map say) (with-push [] client next)
    ∙ flat_map-append say (with_earlier [] client) ((client, next) ∷ [])
    ∙ ap (λ (ms : List (Place × Message)). messages_among origin client centre ++ ms)
    (append-nil (option_to_list (message_at origin centre client next)))

-- ---- the response of a rank, with one PDU more

get-push : {A : Type 0} (xs : List A) (y : A) (r : ℕ) → r ≢ length xs → slice_get (xs ++ y ∷ []) r ≡ slice_get xs r
get-push [] y zero h = absurd (h refl)
get-push [] y (suc r) h = refl
get-push (x ∷ xs) y zero h = refl
get-push (x ∷ xs) y (suc r) h = get-push xs y r (λ e. h (ap suc e))

module _ (p : Header → Bool) where
  pub count-headers : (xs : List StoredPdu) → count_by p (headers_of xs) ≡ length (filter (λ x. p (header_of x)) xs)
  count-headers [] = refl
  count-headers (x ∷ xs) =
      sum_by-cons (λ h. cond (p h) 1 0) (header_of x) (headers_of xs)
      ∙ elim (p (header_of x)) as (λ b. cond b 1 0 + count_by p (headers_of xs)
      ≡ length (cond b (x ∷ filter (λ x. p (header_of x)) xs) (filter (λ x. p (header_of x)) xs))) [
        | true ↦ omega (arith, count-headers xs)
        | false ↦ omega (arith, count-headers xs)
      ]

  filter-push : (xs : List StoredPdu) (y : StoredPdu) (r : ℕ) (b : Bool) → p (header_of y) ≡ b → (b ≡ true → r ≢ count_by p (headers_of xs))
      → slice_get (filter (λ x. p (header_of x)) (xs ++ y ∷ [])) r ≡ slice_get (filter (λ x. p (header_of x)) xs) r
  filter-push xs y r true e h =
      ap (λ ys. slice_get ys r) (filter-append (λ x. p (header_of x)) xs (y ∷ [])
      ∙ ap (λ b. filter (λ x. p (header_of x)) xs ++ cond b (y ∷ []) []) e)
      ∙ get-push (filter (λ x. p (header_of x)) xs) y r (λ is. h refl (is ∙ sym (count-headers xs)))
  filter-push xs y r false e h =
      ap (λ ys. slice_get ys r) (filter-append (λ x. p (header_of x)) xs (y ∷ [])
      ∙ ap (λ b. filter (λ x. p (header_of x)) xs ++ cond b (y ∷ []) []) e ∙ append-nil (filter (λ x. p (header_of x)) xs))

not_both : (a b : Bool) → (a && b) ≡ false → a ≡ true → b ≢ true
not_both true b e h k = false≢true (sym e ∙ k)
not_both false b e h k = false≢true h

equal_test : (m n : ℕ) → m ≡ n → (m == n) ≡ true
equal_test m n e = grind (arith, nat_tests)

-- ---- a PDU more of the centre

module _ (origin : Origin) (client centre : List StoredPdu) (next : StoredPdu) where
  pub response-stays : (before : List StoredPdu) (p : StoredPdu) → is_next_response centre next before p ≡ false
      → response_to (centre ++ next ∷ []) before p ≡ response_to centre before p
  response-stays before p h =
      filter-push (is_response_of p.seq) centre next (rank_after before p.seq) (is_response_of p.seq (header_of next)) refl
      (λ t is. not_both _ _ h t (equal_test (rank_after before p.seq) (count_by (is_response_of p.seq) (headers_of centre)) is))

  say : List StoredPdu → List StoredPdu × StoredPdu → List (Place × Message)
  say other e = option_to_list (message_at origin other e.0 e.1)

  said : Option Submit → StoredPdu → Option StoredPdu → List (Place × Message)
  said submit p response = option_to_list (option_map
      (λ (submit : Submit). (place_of origin FromClient p, message_of origin p submit response)) submit)

  message-stays : (e : List StoredPdu × StoredPdu) → is_next_response centre next e.0 e.1 ≡ false → say (centre ++ next ∷ []) e ≡ say centre e
  unfolding say said
  message-stays e h = ap (said (submit_in e.1.content) e.1) (response-stays e.0 e.1 h)

  passed-over : (submit : Option Submit) (p : StoredPdu) (response : Option StoredPdu) (rest : List (Place × Message)) (q : Place)
      → eq_by_cmp place_cmp q (place_of origin FromClient p) ≡ false
      → find place_cmp q (said submit p response ++ rest) ≡ find place_cmp q rest
  unfolding said
  passed-over None p response rest q h = refl
  passed-over (Some submit) p response rest q h = ap (λ b. cond b (Some (message_of origin p submit response)) (find place_cmp q rest)) h

  pub front : (q : Place) (xs ys zs : List (Place × Message)) → find place_cmp q ys ≡ find place_cmp q zs → find place_cmp q (xs ++ ys)
      ≡ find place_cmp q (xs ++ zs)
  front q [] ys zs h = h
  front q (x ∷ xs) ys zs h = ap (cond (eq_by_cmp place_cmp q x.0) (Some x.1)) (front q xs ys zs h)

  answered : List StoredPdu × StoredPdu → List Place
  answered e = cond (is_next_response centre next e.0 e.1) (place_of origin FromClient e.1 ∷ []) []

  found-alike : (q : Place) (es : List (List StoredPdu × StoredPdu)) → list_any (eq_by_cmp place_cmp q) (flat_map answered es) ≡ false
      → find place_cmp q (flat_map (say centre) es) ≡ find place_cmp q (flat_map (say (centre ++ next ∷ [])) es)
  unfolding answered say said
  found-alike q [] h = refl
  found-alike q (e ∷ es) h =
      elim (is_next_response centre next e.0 e.1) as (λ b. is_next_response centre next e.0 e.1 ≡ b
      → list_any (eq_by_cmp place_cmp q) (cond b (place_of origin FromClient e.1 ∷ []) [] ++ flat_map answered es) ≡ false
      → find place_cmp q (say centre e ++ flat_map (say centre) es)
      ≡ find place_cmp q (say (centre ++ next ∷ []) e ++ flat_map (say (centre ++ next ∷ [])) es)) [
        | true ↦ λ t out.
            let apart : eq_by_cmp place_cmp q (place_of origin FromClient e.1) ≡ false =
            or_first (eq_by_cmp place_cmp q (place_of origin FromClient e.1)) _ out in
            let rest = or_second (eq_by_cmp place_cmp q (place_of origin FromClient e.1)) _ out in
            passed-over (submit_in e.1.content) e.1 (response_to centre e.0 e.1) (flat_map (say centre) es) q apart
            ∙ found-alike q es rest
            ∙ sym (passed-over (submit_in e.1.content) e.1 (response_to (centre ++ next ∷ []) e.0 e.1)
            (flat_map (say (centre ++ next ∷ [])) es) q apart)
        | false ↦ λ t out.
            front q (say centre e) (flat_map (say centre) es) (flat_map (say (centre ++ next ∷ [])) es) (found-alike q es out)
            ∙ ap (λ (here : List (Place × Message)). find place_cmp q (here ++ flat_map (say (centre ++ next ∷ [])) es)) (sym (message-stays e t))
      ] refl h

  -- a PDU more of the centre changes the messages to which it is the response, and no other
  pub centre-push : SameOutside (requests_of origin client centre next)
      (from_entries {R = place_cmp} (messages_among origin client centre))
      (from_entries (messages_among origin client (centre ++ next ∷ [])))
  unfolding answered say said
  centre-push = record {
    at = λ q out.
        get-from_entries places_total (messages_among origin client centre) q
        ∙ found-alike q (with_earlier [] client) out
        ∙ sym (get-from_entries places_total (messages_among origin client (centre ++ next ∷ [])) q);
  }
