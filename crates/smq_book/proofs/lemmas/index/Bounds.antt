-- The touches of an edit that is made are at most 64 for what it reaches, and 64 more.
use Rattle.std.proofs.Common.{◌≡◌, ℕ, ◌+◌, ◌*◌, ◌≤◌, Bool, cond, List, [], ◌∷◌, ◌++◌, length, Option, Some, None, Result, Ok, Err, refl, sym, ap, subst, ◌∙◌, arith}
use Rattle.std.specs.Prelude.{OnOk, count_by, filter, is_none, map, option_and_then, option_map, option_to_list, unwrap_or}
use Rattle.std.specs.List.{sum_by}
use Rattle.std.specs.Option.{option_or}
use Rattle.std.proofs.lemmas.List.{length-append, length-map}
use Rattle.std.proofs.lemmas.Result.{on_ok_weaker}
use Rattle.std.proofs.lemmas.List.Sums.{count_by-le-length, length-filter, sum_by-append, sum_by-cons}
use Rattle.std.specs.FinMap.{get, get-insert, insert, len}
use Rattle.std.specs.Cmp.{nat_cmp_total, tied_itself}
use Rattle.std.specs.Ordering.{is_eq}
use Rattle.std.specs.FinSet.{FinSet}
use Rattle.smq_kit.specs.LinkKeys.{same_key}
use Rattle.smq_kit.specs.declared.link_key.LinkKey.{LinkKey}
use Rattle.smq_kit.specs.declared.names.LinkId.{LinkId}
use Rattle.smq_kit.specs.declared.names.SessionId.{SessionId}
use Rattle.smq_kit.specs.declared.place.Dir.{Dir}
use Rattle.smq_kit.specs.declared.place.Dir.TheVariants.{FromClient, FromCentre}
use Rattle.smq_kit.specs.declared.place.Place.{Place}
use Rattle.smq_kit.specs.declared.refusal.Refusal.{Refusal}
use Rattle.smq_kit.specs.Replies.{IsReply}
use Rattle.smq_frame.specs.Stream.{handed_in, values}
use Rattle.smq_frame.specs.Tail.{tail_of}
use Rattle.smq_pdu.specs.Header.{Header}
use Rattle.smq_pdu.specs.Pairing.{is_request, is_response}
use Rattle.smq_pair.specs.Paired.{no_pdus}
use Rattle.smq_pair.specs.Pairing.{PairingValue, pair_at, places_of, strays, waiting}
use Rattle.smq_group.specs.Groups.{vacancies}
use Rattle.smq_group.specs.Matching.{Grouping, GroupedReceipt}
use Rattle.smq_tally.specs.Lists.{listed}
use Rattle.smq_tally.specs.declared.list.List.TheVariants as list
use Rattle.smq_route.specs.Numbers as numbers
use Rattle.smq_route.specs.Numbers.{number_cmp, places_under}
use Rattle.smq_route.specs.Versions.{begins}
use Rattle.smq_book.specs.declared.index.index.Index.{Index}
use Rattle.smq_book.specs.declared.index.pairings.Pairings.{Pairings}
use Rattle.smq_present.specs.declared.present.edit.Edit.{Edit}
use Rattle.smq_present.specs.declared.present.edit.Edit.TheVariants.{Append, SetWindow, Withdraw, Advance}
use Rattle.smq_present.specs.present.Content.{Content}
use Rattle.smq_present.specs.declared.present.kept.StoredPdu.{StoredPdu}
use Rattle.smq_present.specs.declared.present.session.Session.{Session}
use Rattle.smq_book.specs.edits.Reach.{batch_places, groups, members, pair_in, reach, session_places, weight, weights}
use Rattle.smq_book.specs.edits.Reached.{due_by, messages_under}
use Rattle.smq_book.specs.index.Due.{due_cmp, due_of, places_due_on}
use Rattle.smq_book.specs.index.Ends.{end_cmp, ends_of, places_ending}
use Rattle.smq_book.specs.index.Held.{Holding, dues_in, ends_in}
use Rattle.smq_book.specs.index.Kept.{IsIndexed, IsKept}
use Rattle.smq_book.specs.index.Numbered.{numbers_of}
use Rattle.smq_book.specs.index.Touches.{HasNothingPending, index_cost, taken_of, message_load, pairs_touches, pdu_load, receipt_key_at, receipt_load, touches_of}
use Rattle.smq_present.specs.join.Keyed.{grouping_of}
use Rattle.smq_present.specs.pairing.Traffic.{Origin, TrafficValue, broken, broken_at, broken_notes, content_notes, disagrees, mismatched, notes_among, origin_of, pairing_among, pairing_notes, place_of, placed, places_where, session_notes, session_pairing, traffic_of, undecodable, unreadable}
use Rattle.smq_present.specs.present.Kept.{is_undecodable, is_unreadable, kept_pdus}
use Rattle.smq_present.specs.within.Pairs.{from_session}
use Rattle.smq_book.specs.edits.Appended.{session_before}
use Rattle.smq_book.specs.index.Pairs.{pairing_in}
use Rattle.smq_present.specs.present.Batch.{BatchValue, batch_pdus}
use Rattle.smq_present.specs.present.Book.{BookValue}
use Rattle.smq_present.specs.present.Present.{PresentValue, direction, octets_in, session_of}
use Rattle.smq_present.specs.present.Steps.{change, session_after, session_with}
use Rattle.smq_present.specs.present.Replies.{clock_back, reply}
use Rattle.smq_book.proofs.lemmas.edits.ReachBounds.{due-number, keys-number}
use Rattle.smq_book.proofs.lemmas.edits.Appends.{octets-before}
use Rattle.smq_present.proofs.lemmas.present.Changes.{step-made}
use Rattle.smq_present.proofs.lemmas.pairing.SessionTraffic.{no-message}
use Rattle.smq_book.proofs.lemmas.index.Members.{submit-absent}
use Rattle.smq_book.proofs.lemmas.index.Appending.{grown}
use Rattle.smq_book.proofs.lemmas.index.PushBounds.{pdus-bound}
use Rattle.smq_book.proofs.lemmas.index.Lengths.{ending-number, on-link-number, under-number}

-- what was made had no refusal
pub no-refusal : {T : Type 0} (r : Option Refusal) (x : T) (Made Unchanged : Type 0) → IsReply {T = T} r (Ok x) Made Unchanged → r ≡ None
no-refusal None x Made Unchanged is = refl
no-refusal (Some refusal) x Made Unchanged is = absurd is

module _ (p : PresentValue) (i j : Index) (is : IsIndexed p i) where
  abbrev said : TrafficValue
  said = traffic_of p.sessions

  ends-kept : ends_in i.ends.content ≡ ends_of p.settings said
  ends-kept = ap (λ (h : Holding). h.ends) is.held.held ∙ ap (ends_of p.settings) is.traffic

  due-kept : dues_in i.due.content ≡ due_of p.settings said
  due-kept = ap (λ (h : Holding). h.due) is.held.held ∙ ap (due_of p.settings) is.traffic

  numbers-kept : i.numbers.numbers ≡ numbers_of said
  numbers-kept = ap (λ (h : Holding). h.numbers) is.held.held ∙ ap numbers_of is.traffic

  -- a clock
  pub advance-bound : (clock : ℕ) (result : Result (Unit {0}) Refusal) (Made Unchanged : Type 0)
      → IsReply (clock_back p.settings.clock clock) result Made Unchanged
      → (HasNothingPending i → OnOk result (index_cost j ≤ index_cost i + 1 + 15 * length (places_ending p.settings.clock clock (ends_in i.ends.content))))
      → OnOk result (index_cost j ≤ index_cost i + 64 * (1 + reach p (Advance clock)))
  advance-bound clock (Err e) Made Unchanged made bound = tt
  advance-bound clock (Ok x) Made Unchanged made bound =
      let cost = bound is.pending in
      let many = ap (λ (ends : FinSet end_cmp). length (places_ending p.settings.clock clock ends)) ends-kept in
      let few = ending-number p.settings said clock in
      let all = keys-number (due_by p.settings said clock) in
      let reached = due-number p clock (no-refusal (clock_back p.settings.clock clock) x Made Unchanged made) in
      omega (arith, cost, many, few, all, reached)

  -- a window
  pub window-bound : (link : LinkId) (window : ℕ) (result : Result (Unit {0}) Refusal)
      → (HasNothingPending i → OnOk result (index_cost j ≤ index_cost i + 1 + 23 * length (places_due_on link (dues_in i.due.content))))
      → OnOk result (index_cost j ≤ index_cost i + 64 * (1 + reach p (SetWindow link window)))
  window-bound link window (Err e) bound = tt
  window-bound link window (Ok x) bound =
      let many = ap (λ (due : FinSet due_cmp). length (places_due_on link due)) due-kept in
      let few = on-link-number p.settings said link in
      let cost = bound is.pending in
      omega (arith, cost, many, few)

  -- an edit of routes
  pub routes-bound : (prefix : List ℕ) (result : Result (Unit {0}) Refusal)
      → OnOk result (index_cost j ≤ index_cost i + 1 + numbers.vacancies i.numbers prefix + 15 * length (places_under i.numbers.numbers prefix))
      → OnOk result (index_cost j ≤ index_cost i + 64 * (1 + len (messages_under prefix said)))
  routes-bound prefix (Err e) bound = tt
  routes-bound prefix (Ok x) bound =
      let many = ap (λ (ns : FinSet number_cmp). length (places_under ns prefix)) numbers-kept in
      let few = under-number said prefix in
      let none : numbers.vacancies i.numbers prefix ≡ 0 = ap (λ (vacant : List (List ℕ)). count_by (λ number. begins number prefix) vacant) is.pending.vacant_numbers in
      omega (arith, bound, many, few, none)

-- ---- a withdrawal

filter-few : {A : Type 0} (test : A → Bool) (xs : List A) → length (filter test xs) ≤ length xs
filter-few test xs = let some = length-filter test xs in let all = count_by-le-length test xs in omega (arith, some, all)

option-few : {A : Type 0} (x : Option A) → length (option_to_list x) ≤ 1
option-few None = omega arith
option-few (Some x) = omega arith

where-few : (test : Content → Bool) (origin : Origin) (dir : Dir) (pdus : List StoredPdu) → length (places_where test origin dir pdus) ≤ length pdus
where-few test origin dir pdus =
    let all = length-map (filter (λ p. test p.content) pdus) (place_of origin dir) in
    let few = filter-few (λ p. test p.content) pdus in
    omega (arith, all, few)

module _ (v : PairingValue) where
  places-few : (test : Header → Bool) → length (places_of test v) ≤ length v.client + length v.centre
  places-few test =
      let all = length-map (filter (λ p. test p.header) (v.client ++ v.centre)) (λ p. p.place) in
      let few = filter-few (λ p. test p.header) (v.client ++ v.centre) in
      let both = length-append v.client v.centre in
      omega (arith, all, few, both)

  pairing-notes-few : length (pairing_notes v) ≤ 3 * (length v.client + length v.centre)
  pairing-notes-few =
      let requests = places-few is_request in
      let responses = places-few is_response in
      let waits = filter-few (λ q. is_none (pair_at v q)) (places_of is_request v) in
      let stray = filter-few (λ q. is_none (pair_at v q)) (places_of is_response v) in
      let apart = filter-few (λ q. disagrees (pair_at v q)) (places_of is_request v) in
      let a = length-map (waiting v) (listed list.Waiting) in
      let b = length-map (strays v) (listed list.StrayAnswers) in
      let c = length-map (mismatched v) (listed list.Mismatched) in
      let all = length-append (map (listed list.Waiting) (waiting v) ++ map (listed list.StrayAnswers) (strays v)) (map (listed list.Mismatched) (mismatched v)) in
      let two = length-append (map (listed list.Waiting) (waiting v)) (map (listed list.StrayAnswers) (strays v)) in
      omega (arith, requests, responses, waits, stray, apart, a, b, c, all, two)

-- a session has five notes for each PDU at most, and two
session-notes-few : (n : ℕ) (s : Session) → length (session_notes (n, s)) ≤ 5 * (length (kept_pdus s.client) + length (kept_pdus s.centre)) + 2
session-notes-few n s =
    let origin = origin_of (n, s) in
    let client = kept_pdus s.client in
    let centre = kept_pdus s.centre in
    let v = pairing_among origin client centre in
    let paired = pairing-notes-few v in
    let a = length-map client (placed origin FromClient) in
    let b = length-map centre (placed origin FromCentre) in
    let unread = where-few is_unreadable origin FromCentre centre in
    let undecoded-client = where-few is_undecodable origin FromClient client in
    let undecoded-centre = where-few is_undecodable origin FromCentre centre in
    let c = length-map (unreadable origin centre) (listed list.Unreadable) in
    let d = length-map (undecodable origin client centre) (listed list.Undecodable) in
    let e = length-append (places_where is_undecodable origin FromClient client) (places_where is_undecodable origin FromCentre centre) in
    let f = length-append (map (listed list.Unreadable) (unreadable origin centre)) (map (listed list.Undecodable) (undecodable origin client centre)) in
    let g = length-append (pairing_notes v) (content_notes origin client centre) in
    let broken-client = option-few (broken_at origin FromClient (tail_of (values s.client))) in
    let broken-centre = option-few (broken_at origin FromCentre (tail_of (values s.centre))) in
    let h = length-append (option_to_list (broken_at origin FromClient (tail_of (values s.client)))) (option_to_list (broken_at origin FromCentre (tail_of (values s.centre)))) in
    let i = length-map (broken origin (tail_of (values s.client)) (tail_of (values s.centre))) (listed list.Broken) in
    let j = length-append (notes_among origin client centre) (broken_notes origin (tail_of (values s.client)) (tail_of (values s.centre))) in
    omega (arith, paired, a, b, unread, undecoded-client, undecoded-centre, c, d, e, f, g, broken-client, broken-centre, h, i, j)

module _ (p : PresentValue) (i : Index) (k : Pairings) (kept : IsKept p i k) where
  pub members-kept : i.groups.members ≡ groups p
  members-kept = ap (λ (h : Holding). h.members) kept.held.held ∙ ap (grouping_of p.settings) kept.traffic

  pub load-kept : (key : LinkKey) → taken_of i.groups (Some key) ≡ 33 * members (groups p) key
  load-kept key =
      let none : vacancies i.groups key ≡ 0 = ap (λ (vacant : List LinkKey). count_by (same_key key) vacant) kept.pending.vacant in
      let same = ap (λ (g : Grouping). members g key) members-kept in
      omega (arith, none, same)

  message-weighs : (origin : Origin) (x : StoredPdu) → message_load i.groups origin x + 5 ≤ 64 * weight p (place_of origin FromClient x)
  message-weighs origin x = by (get (groups p).submits q) refl
    where
      q : Place
      q = place_of origin FromClient x

      by : (o : Option LinkKey) → get (groups p).submits q ≡ o → message_load i.groups origin x + 5 ≤ 64 * weight p q
      by None is =
          let none = ap (taken_of i.groups) (ap (λ (g : Grouping). get g.submits q) members-kept ∙ is) in
          omega (arith, none)
      by (Some key) is =
          let some = ap (taken_of i.groups) (ap (λ (g : Grouping). get g.submits q) members-kept ∙ is) in
          let load = load-kept key in
          let own : ◌≡◌ {A = ℕ} (weight p q) (1 + members (groups p) key) =
          ap (λ (o : Option LinkKey). 1 + unwrap_or (option_map (members (groups p)) (option_or o
          (option_or (option_map (λ r. r.key) (get (groups p).receipts q))
          (option_and_then (λ pair. get (groups p).submits pair.request) (pair_in p q))))) 0) is in
          omega (arith, some, load, own)

  receipt-weighs : (origin : Origin) (x : StoredPdu) → receipt_load i.groups origin x + 5 ≤ 64 * weight p (place_of origin FromCentre x)
  receipt-weighs origin x = by (get (groups p).receipts q) refl
    where
      q : Place
      q = place_of origin FromCentre x

      none : get (groups p).submits q ≡ None
      none = submit-absent p.settings q (traffic_of p.sessions) (no-message p.sessions q refl)

      by : (o : Option GroupedReceipt) → get (groups p).receipts q ≡ o → receipt_load i.groups origin x + 5 ≤ 64 * weight p q
      by None is =
          let none = ap (λ (g : Grouping). taken_of i.groups (receipt_key_at g q)) members-kept
          ∙ ap (λ (o : Option GroupedReceipt). taken_of i.groups (option_map (λ r. r.key) o)) is in
          omega (arith, none)
      by (Some r) is =
          let some = ap (λ (g : Grouping). taken_of i.groups (receipt_key_at g q)) members-kept
          ∙ ap (λ (o : Option GroupedReceipt). taken_of i.groups (option_map (λ r. r.key) o)) is in
          let load = load-kept r.key in
          let own : ◌≡◌ {A = ℕ} (weight p q) (1 + members (groups p) r.key) =
          (λ j. 1 + unwrap_or (option_map (members (groups p)) (option_or (none j)
          (option_or (option_map (λ r. r.key) (is j))
          (option_and_then (λ pair. get (groups p).submits pair.request) (pair_in p q))))) 0) in
          omega (arith, some, load, own)

  sum-weighs : (f : StoredPdu → ℕ) (at : StoredPdu → Place) → ((x : StoredPdu) → f x + 5 ≤ 64 * weight p (at x)) → (xs : List StoredPdu)
      → sum_by f xs + 5 * length xs ≤ 64 * weights p (map at xs)
  sum-weighs f at each [] = omega arith
  sum-weighs f at each (x ∷ xs) =
      let one = each x in
      let rest = sum-weighs f at each xs in
      let a = sum_by-cons f x xs in
      let b = sum_by-cons (weight p) (at x) (map at xs) in
      omega (arith, one, rest, a, b)

  pub withdraw-bound : (n : SessionId) (s : Session) → session_of p n.0 ≡ Some s
      → sum_by (message_load i.groups (from_session n)) (kept_pdus s.client)
      + sum_by (receipt_load i.groups (from_session n)) (kept_pdus s.centre)
      + length (session_notes (n.0, s)) ≤ 64 * (1 + reach p (Withdraw n))
  withdraw-bound n s there =
      let origin = from_session n in
      let client = kept_pdus s.client in
      let centre = kept_pdus s.centre in
      let messages = sum-weighs (message_load i.groups origin) (place_of origin FromClient) (message-weighs origin) client in
      let receipts = sum-weighs (receipt_load i.groups origin) (place_of origin FromCentre) (receipt-weighs origin) centre in
      let notes = session-notes-few n.0 s in
      let both = sum_by-append (weight p) (map (place_of origin FromClient) client) (map (place_of origin FromCentre) centre) in
      let here = ap (λ (o : Option Session). weights p (unwrap_or (option_map (λ session. session_places (n.0, session)) o) [])) there in
      omega (arith, messages, receipts, notes, both, here)

-- ---- an append

-- what a made append leaves is what is present then
append-bound-in : (p : PresentValue) (batch : BatchValue) (members_then : Grouping) (pairs_then : PairingValue) (after : Session)
    → session_of p batch.session.0 ≡ Some after → members_then ≡ groups p → pairs_then ≡ pairing_in p.sessions batch.session.0
    → (before : List StoredPdu) → kept_pdus (direction batch.dir after) ≡ before ++ batch_pdus batch
    → sum_by (pdu_load members_then pairs_then (from_session batch.session) batch.dir) (batch_pdus batch) ≤ 64 * weights p (batch_places batch)
append-bound-in p batch members_then pairs_then after there members pairs before all =
    let bound = pdus-bound p batch.session.0 after there batch.dir before (batch_pdus batch) all in
    let paired : pairs_then ≡ session_pairing (batch.session.0, after) = pairs ∙ ap (λ (o : Option Session). unwrap_or (option_map (λ session. session_pairing (batch.session.0, session)) o) no_pdus) there in
    let same : sum_by (pdu_load members_then pairs_then (from_session batch.session) batch.dir) (batch_pdus batch)
    ≡ sum_by (pdu_load (groups p) (session_pairing (batch.session.0, after)) (from_session batch.session) batch.dir) (batch_pdus batch) =
    (λ i. sum_by (pdu_load (members i) (paired i) (from_session batch.session) batch.dir) (batch_pdus batch)) in
    omega (arith, bound, same)

module _ (p : PresentValue) (batch : BatchValue) where
  abbrev found : Option Session
  found = session_of p batch.session.0

  abbrev grown_session : Session
  grown_session = session_after found batch

  grown-by : (o : Option Session) (dir : Dir) → batch.dir ≡ dir → batch.tail ≡ tail_of (values (octets_in dir o))
      → kept_pdus (direction dir (session_with dir (handed_in batch.moment batch.octets) (session_before o batch.link)))
      ≡ kept_pdus (direction dir (session_before o batch.link)) ++ batch_pdus batch
  grown-by o FromClient is tail = grown (session_before o batch.link).client batch (tail ∙ ap (λ octets. tail_of (values octets)) (octets-before o batch.link FromClient))
  grown-by o FromCentre is tail = grown (session_before o batch.link).centre batch (tail ∙ ap (λ octets. tail_of (values octets)) (octets-before o batch.link FromCentre))

  after-is : (o : Option Session) → session_after o batch ≡ session_with batch.dir (handed_in batch.moment batch.octets) (session_before o batch.link)
  after-is None = refl
  after-is (Some s) = refl

  pub append-bound : (members_then : Grouping) (pairs_then : PairingValue) → reply p (Append batch) ≡ None
      → batch.tail ≡ tail_of (values (octets_in batch.dir found))
      → members_then ≡ groups (change p (Append batch)) → pairs_then ≡ pairing_in (change p (Append batch)).sessions batch.session.0
      → sum_by (pdu_load members_then pairs_then (from_session batch.session) batch.dir) (batch_pdus batch) ≤ 64 * reach p (Append batch)
  append-bound members_then pairs_then made in_step members pairs =
      let there : get (insert p.sessions batch.session.0 grown_session) batch.session.0 ≡ Some grown_session =
      get-insert nat_cmp_total p.sessions batch.session.0 grown_session batch.session.0
      ∙ ap (λ r. cond (is_eq r) (Some grown_session) (get p.sessions batch.session.0)) (tied_itself nat_cmp_total batch.session.0) in
      let bound = append-bound-in (change p (Append batch)) batch members_then pairs_then grown_session there members pairs
      (kept_pdus (direction batch.dir (session_before found batch.link)))
      (ap (λ (s : Session). kept_pdus (direction batch.dir s)) (after-is found) ∙ grown-by found batch.dir refl in_step) in
      let same = ap (λ (q : PresentValue). weights q (batch_places batch)) (step-made p (Append batch) made) in
      omega (arith, bound, same)

-- ---- a book

module _ (now : BookValue) (p : PresentValue) (i : Index) (k : Pairings) (seen : record { present = p; touches = touches_of i k } ≡ now)
    (kept : IsKept p i k) (edit e : Edit) (is : edit ≡ e) (r s : Result (Unit {0}) Refusal) (told : r ≡ s) (j : Index) where
  -- what is counted of touches rises no more than they do
  pub book-bound : (l : Pairings) → OnOk s (index_cost j + pairs_touches l ≤ index_cost i + pairs_touches k + 64 * (1 + reach p e))
      → OnOk r (touches_of j l ≤ now.touches + 64 * (1 + reach now.present edit))
  book-bound l bound =
      subst (λ (x : Result (Unit {0}) Refusal). OnOk x (touches_of j l ≤ now.touches + 64 * (1 + reach now.present edit))) (sym told)
      (on_ok_weaker s by bound)
    where
      by : index_cost j + pairs_touches l ≤ index_cost i + pairs_touches k + 64 * (1 + reach p e) → touches_of j l ≤ now.touches + 64 * (1 + reach now.present edit)
      by more =
          let groups = kept.pending.groups in
          let facts = kept.pending.facts in
          let of-numbers = kept.pending.numbers in
          let touched : touches_of i k ≡ now.touches = ap (λ (b : BookValue). b.touches) seen in
          let reached : reach p e ≡ reach now.present edit = (λ n. reach (seen n).present (sym is n)) in
          omega (arith, more, groups, facts, of-numbers, touched, reached)

  -- where pairs stay
  pub settings-bound : OnOk s (index_cost j ≤ index_cost i + 64 * (1 + reach p e))
      → OnOk r (touches_of j k ≤ now.touches + 64 * (1 + reach now.present edit))
  settings-bound bound = book-bound k (on_ok_weaker s (λ more. omega (arith, more)) bound)
