-- How many places an edit changes, against how much it reaches.
use Rattle.std.proofs.Common.{◌≡◌, ℕ, ◌+◌, ◌*◌, ◌≤◌, Bool, true, false, cond, List, [], ◌∷◌, ◌++◌, length, Option, Some, None, refl, sym, ap, ◌∙◌, subst, arith}
use Rattle.std.specs.Prelude.{map, count_by, option_map, option_to_list, unwrap_or}
use Rattle.std.specs.List.{flat_map, sum_by}
use Rattle.std.specs.FinMap.{FinMap, entries, keys, len, len-entries}
use Rattle.std.proofs.lemmas.List.{length-append, length-map}
use Rattle.std.proofs.lemmas.List.Sums.{sum_by-cons}
use Rattle.smq_kit.specs.declared.link_key.LinkKey.{LinkKey}
use Rattle.smq_kit.specs.declared.place.Dir.{Dir}
use Rattle.smq_kit.specs.declared.place.Dir.TheVariants.{FromClient, FromCentre}
use Rattle.smq_kit.specs.declared.place.Place.{Place}
use Rattle.smq_kit.specs.LinkKeys.{same_key}
use Rattle.smq_kit.specs.Maps.{kept_of, number_of}
use Rattle.smq_kit.specs.Orders.{place_cmp}
use Rattle.smq_kit.proofs.MapLemmas as maps
use Rattle.smq_kit.proofs.PlaceOrders.{places_total, places_exact}
use Rattle.smq_pair.specs.declared.pairing.Pair.{Pair}
use Rattle.smq_pair.specs.Growth.{made_by, touched}
use Rattle.smq_present.specs.declared.present.edit.Edit.TheVariants.{Append, Advance, Withdraw}
use Rattle.smq_present.specs.declared.present.kept.StoredPdu.{StoredPdu}
use Rattle.smq_present.specs.declared.present.session.Session.{Session}
use Rattle.smq_present.specs.present.Batch.{BatchValue, batch_pdus, next_tail}
use Rattle.smq_present.specs.present.Kept.{kept_pdus}
use Rattle.smq_present.specs.present.Present.{PresentValue, session_of}
use Rattle.smq_present.specs.present.Replies.{reply}
use Rattle.smq_present.specs.present.Steps.{step}
use Rattle.smq_present.specs.pairing.Traffic.{Origin, broken_at, origin_of, message_at, place_of, placed, pairing_among, receipt_at, session_messages, session_receipts, traffic_of, with_earlier}
use Rattle.smq_group.specs.Matching.{Grouping, GroupedReceipt}
use Rattle.smq_book.specs.edits.Appended.{append_places, batch_origin, noted_by, noted_in_turn, session_before}
use Rattle.smq_book.specs.edits.Reached.{passing, key_submits, key_receipts, due_by, lapsing}
use Rattle.smq_book.specs.edits.Reach.{members, weight, weights, batch_places, session_places, places_in, reach}
use Rattle.smq_book.proofs.lemmas.edits.Advances.{due-lapse}
use Rattle.smq_present.proofs.lemmas.present.Changes.{step-made}

-- ---- numbers of places

pub keys-number : {X : Type 0} (m : FinMap place_cmp X) → length (keys m) ≡ len m
keys-number m = length-map (entries m) _ ∙ sym (len-entries m)

least-sum : (f : Place → ℕ) → ((q : Place) → 1 ≤ f q) → (qs : List Place) → length qs ≤ sum_by f qs
least-sum f least [] = omega arith
least-sum f least (q ∷ qs) =
    let more = sum_by-cons f q qs in
    let rest = least-sum f least qs in
    let one = least q in
    omega (arith, more, rest, one)

-- each PDU weighs 1 at least
pub weights-least : (p : PresentValue) (places : List Place) → length places ≤ weights p places
weights-least p places = least-sum (weight p) (λ q. omega arith) places

-- how many pass is the number that passes
number-passing : {X : Type 0} (test : X → Bool) (es : List (Place × X)) → length (map (λ e. e.0) (flat_map (kept_of (λ place v. cond (test v) (Some v) None)) es)) ≡ count_by test (map (λ e. e.1) es)
number-passing test [] = refl
number-passing test (e ∷ es) =
    let rest = number-passing test es in
    let sum = sum_by-cons (λ v. cond (test v) 1 0) e.1 (map (λ e. e.1) es) in
    elim (test e.1) as (λ b. test e.1 ≡ b → length (map (λ e. e.0) (map (λ v. (e.0, v)) (option_to_list (cond b (Some e.1) None)) ++ flat_map (kept_of (λ place v. cond (test v) (Some v) None)) es)) ≡ count_by test (e.1 ∷ map (λ e. e.1) es)) [
      | true ↦ λ t. (let one : ◌≡◌ {A = ℕ} (cond (test e.1) 1 0) 1 = ap (λ b. cond b 1 0) t in omega (arith, rest, sum, one))
      | false ↦ λ t. (let none : ◌≡◌ {A = ℕ} (cond (test e.1) 1 0) 0 = ap (λ b. cond b 1 0) t in omega (arith, rest, sum, none))
    ] refl

passing-number : {X : Type 0} (test : X → Bool) (m : FinMap place_cmp X) → length (keys (passing (λ place v. test v) m)) ≡ number_of test m
passing-number {X} test m =
    ap (λ (es : List (Place × X)). length (map (λ e. e.0) es)) (maps.entries-chosen places_total places_exact (λ place v. cond (test v) (Some v) None) m)
    ∙ number-passing test (entries m)

-- a key has so many members
pub members-number : (g : Grouping) (key : LinkKey) → length (keys (key_submits g key)) + length (keys (key_receipts g key)) ≡ members g key
members-number g key = λ i. passing-number (same_key key) g.submits i + passing-number (λ (r : GroupedReceipt). same_key key r.key) g.receipts i

-- ---- a clock

pub due-number : (p : PresentValue) (clock : ℕ) → reply p (Advance clock) ≡ None → length (keys (due_by p.settings (traffic_of p.sessions) clock)) ≡ reach p (Advance clock)
due-number p clock made =
    keys-number (due_by p.settings (traffic_of p.sessions) clock)
    ∙ ap len (sym (due-lapse p.settings (traffic_of p.sessions) clock))
    ∙ ap (λ (q : PresentValue). len (lapsing p.settings q.settings (traffic_of p.sessions))) (sym (step-made p (Advance clock) made))

-- ---- a withdrawal

few-made : {A Y : Type 0} (f : A → Option Y) (xs : List A) → length (flat_map (λ x. option_to_list (f x)) xs) ≤ length xs
few-made f [] = omega arith
few-made f (x ∷ xs) =
    let rest = few-made f xs in
    elim (f x) as (λ y. length (option_to_list y ++ flat_map (λ x. option_to_list (f x)) xs) ≤ length (x ∷ xs)) [
      | None ↦ omega (arith, rest)
      | Some y ↦ omega (arith, rest)
    ]

earlier-number : (before ps : List StoredPdu) → length (with_earlier before ps) ≡ length ps
earlier-number before [] = refl
earlier-number before (p ∷ ps) = let rest = earlier-number (before ++ p ∷ []) ps in omega (arith, rest)

pub withdrawn-number : (p : PresentValue) (n : ℕ) (s : Session) → session_of p n ≡ Some s
    → length (session_messages (n, s)) + length (session_receipts (n, s)) ≤ reach p (Withdraw (record { 0 = n }))
withdrawn-number p n s there =
    let client = kept_pdus s.client in
    let centre = kept_pdus s.centre in
    let origin = origin_of (n, s) in
    let messages : length (session_messages (n, s)) ≤ length (with_earlier [] client) = few-made (λ e. message_at origin centre e.0 e.1) (with_earlier [] client) in
    let earlier = earlier-number [] client in
    let receipts : length (session_receipts (n, s)) ≤ length centre = few-made (receipt_at origin) centre in
    let places : length (session_places (n, s)) ≡ length client + length centre =
    length-append (map (place_of origin FromClient) client) (map (place_of origin FromCentre) centre)
    ∙ (λ i. length-map client (place_of origin FromClient) i + length-map centre (place_of origin FromCentre) i) in
    let here : places_in p n ≡ session_places (n, s) = ap (λ (o : Option Session). unwrap_or (option_map (λ session. session_places (n, session)) o) []) there in
    let weighed = subst (λ qs. length qs ≤ weights p (places_in p n)) here (weights-least p (places_in p n)) in
    omega (arith, messages, earlier, receipts, places, weighed)

-- ---- an append

touched-number : (q : Place) (made : Option Pair) → length (touched q made) ≤ 2
touched-number q None = omega arith
touched-number q (Some pair) = omega arith

noted-number : (origin : Origin) (dir : Dir) (client centre later : List StoredPdu) → length (noted_in_turn origin dir client centre later) ≤ 2 * length later
noted-number origin FromClient client centre [] = omega arith
noted-number origin FromCentre client centre [] = omega arith
noted-number origin FromClient client centre (x ∷ later) =
    let here = touched-number (place_of origin FromClient x) (made_by (pairing_among origin client centre) (placed origin FromClient x)) in
    let rest = noted-number origin FromClient (client ++ x ∷ []) centre later in
    let all = length-append (noted_by origin FromClient client centre x) (noted_in_turn origin FromClient (client ++ x ∷ []) centre later) in
    omega (arith, here, rest, all)
noted-number origin FromCentre client centre (x ∷ later) =
    let here = touched-number (place_of origin FromCentre x) (made_by (pairing_among origin client centre) (placed origin FromCentre x)) in
    let rest = noted-number origin FromCentre client (centre ++ x ∷ []) later in
    let all = length-append (noted_by origin FromCentre client centre x) (noted_in_turn origin FromCentre client (centre ++ x ∷ []) later) in
    omega (arith, here, rest, all)

option-number : (o : Option Place) → length (option_to_list o) ≤ 1
option-number None = omega arith
option-number (Some q) = omega arith

pub appended-number : (p : PresentValue) (batch : BatchValue) → length (append_places (session_of p batch.session.0) batch) ≤ 2 * reach p (Append batch) + 1
appended-number p batch =
    let session = session_of p batch.session.0 in
    let before = session_before session batch.link in
    let noted = noted_in_turn (batch_origin session batch) batch.dir (kept_pdus before.client) (kept_pdus before.centre) (batch_pdus batch) in
    let break = option_to_list (broken_at (batch_origin session batch) batch.dir (next_tail batch)) in
    let most = noted-number (batch_origin session batch) batch.dir (kept_pdus before.client) (kept_pdus before.centre) (batch_pdus batch) in
    let one = option-number (broken_at (batch_origin session batch) batch.dir (next_tail batch)) in
    let all = length-append noted break in
    let weighed = weights-least (step p (Append batch)) (batch_places batch) in
    let same = length-map (batch_pdus batch) (place_of (record { session = batch.session; link = batch.link }) batch.dir) in
    omega (arith, most, one, all, weighed, same)
