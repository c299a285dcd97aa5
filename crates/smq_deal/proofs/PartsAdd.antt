-- Each PDU is in one part of those below a number, so what is counted and listed of these parts adds up to the whole.
use Rattle.std.proofs.Common.{◌≡◌, ◌≢◌, ℕ, zero, suc, ◌+◌, ◌<◌, ◌≤◌, Bool, ◌||◌, true, false, cond, List, [], ◌∷◌, ◌++◌, append_assoc, length, Option, Some, None, refl, sym, ap, ◌∙◌, subst, arith}
use Rattle.std.specs.Cmp.{nat_cmp_total}
use Rattle.std.specs.Prelude.{◌==◌, is_none, is_some, map, filter, count_by, option_and_then, option_map, option_to_list, unwrap_or}
use Rattle.std.specs.List.{AllByRecursion, flat_map, list_any}
use Rattle.std.specs.FinMap.{FinMap, entries, find, get, keys, nat_cmp-IsAntisymmetric, retain_keys, values}
use Rattle.std.specs.FinSet.{FinSet}
use Rattle.std.proofs.lemmas.Bool.{eqb-false, eqb-true}
use Rattle.std.proofs.lemmas.Map.Views.{tells_apart}
use Rattle.std.proofs.lemmas.List.Sums.{sum_by-cons}
use Rattle.smq_kit.specs.declared.link_key.LinkKey.{LinkKey}
use Rattle.smq_kit.specs.declared.place.Dir.{Dir}
use Rattle.smq_kit.specs.declared.place.Dir.TheVariants.{FromClient, FromCentre}
use Rattle.smq_kit.specs.declared.place.Place.{Place}
use Rattle.smq_kit.specs.Maps.{number_of}
use Rattle.smq_kit.specs.Orders.{place_cmp}
use Rattle.smq_kit.proofs.MapLemmas as maps
use Rattle.smq_kit.proofs.PlaceOrders.{places_total, places_exact}
use Rattle.smq_frame.specs.Stream as stream
use Rattle.smq_frame.specs.Tail.{tail_of}
use Rattle.smq_group.specs.Matching.{GroupedReceipt, receipt_standing}
use Rattle.smq_pair.specs.Pairing.{PairingValue, PlacedHeader, pair_at, places_of, strays, waiting}
use Rattle.smq_pdu.specs.Header.{Header}
use Rattle.smq_pdu.specs.Pairing.{is_request, is_response}
use Rattle.smq_tally.specs.Lists.{in_list, listed, listed_cmp, listed_set, listings_by, listings_of_fact}
use Rattle.smq_tally.specs.Rows.{count_key, stands_in}
use Rattle.smq_tally.specs.Tables.{TablesValue, count_at, listed_in}
use Rattle.smq_tally.specs.declared.fact.Fact.{Fact}
use Rattle.smq_tally.specs.declared.list.List as l
use Rattle.smq_tally.specs.declared.list.List.TheVariants as v
use Rattle.smq_tally.specs.declared.list.Listed.{Listed}
use Rattle.smq_tally.specs.declared.outcome.Outcome.{Outcome}
use Rattle.smq_tally.specs.declared.outcome.Outcome.TheVariants as o
use Rattle.smq_tally.specs.within.ListOrder.{listed_total, same_listed}
use Rattle.smq_tally.proofs.ListOrders.{listed_exact, same_list}
use Rattle.smq_tally.proofs.Listings.{get-listed, marked}
use Rattle.smq_tally.proofs.Tallies.{count-tables}
use Rattle.smq_present.specs.declared.pairing.pairs.SessionForms.{SessionForms}
use Rattle.smq_present.specs.declared.present.kept.StoredPdu.{StoredPdu}
use Rattle.smq_present.specs.declared.present.session.Session.{Session}
use Rattle.smq_present.specs.join.Circumstances.{circumstances}
use Rattle.smq_present.specs.join.Facts.{fact_in_circumstances, facts_of}
use Rattle.smq_present.specs.join.Keyed.{grouping_of, keyed_receipt}
use Rattle.smq_present.specs.join.Listings.{list_of_standing, notes_of, receipt_listing, receipt_notes}
use Rattle.smq_present.specs.pairing.Traffic.{Message, ReceivedReceipt, TrafficValue, broken, broken_notes, content_notes, disagrees, mismatched, notes_among, origin_of, pairing_notes, place_of, placed, places_where, received, session_messages, session_notes, session_pairing, session_receipts, traffic_of, undecodable, unreadable}
use Rattle.smq_present.specs.present.Content.{Content}
use Rattle.smq_present.specs.present.Kept.{is_undecodable, is_unreadable, kept_pdus, receipt_in}
use Rattle.smq_present.specs.present.Present.{PresentValue}
use Rattle.smq_present.specs.whole.Dealt.{dealt, tables_from}
use Rattle.smq_present.specs.within.Lists.{source_of}
use Rattle.smq_present.proofs.lemmas.join.SessionLists.{all-append, all-filter, all-mapped}
use Rattle.smq_present.proofs.lemmas.pairing.SessionTraffic.{messages-own, receipts-own, said-at, session_number}
use Rattle.smq_present.proofs.lemmas.whole.DealtByKey.{entries-kept, facts-kept, filter-swap}
use Rattle.smq_present.proofs.lemmas.whole.ListsDealtByKey.{list-kept}
use Rattle.smq_present.proofs.lemmas.whole.SplitByLink.{all-weaker}
use Rattle.smq_present.proofs.lemmas.whole.Tallied.{notes-with}
use Rattle.smq_deal.specs.Keys.{key_with, opposite, partner_of}
use Rattle.smq_deal.specs.Parts.{CountsAddUp, IsBelow, ListsAddUp, RuleValue, is_in_part, part_map, part_of, part_tables, part_with, sum_below}
use Rattle.smq_deal.proofs.KeysKept.{keys-kept, message-found, receipt-found}
use Rattle.smq_deal.proofs.PartPlaces.{kept_from, part-there}

-- ---- sums over the numbers below one

sum-zero : (n : ℕ) → sum_below (λ k. 0) n ≡ 0
sum-zero zero = refl
sum-zero (suc n) = ap (λ m. m + 0) (sum-zero n)

sum-same : (f g : ℕ → ℕ) → ((k : ℕ) → f k ≡ g k) → (n : ℕ) → sum_below f n ≡ sum_below g n
sum-same f g h zero = refl
sum-same f g h (suc n) = λ i. sum-same f g h n i + h n i

sum-both : (f g : ℕ → ℕ) (n : ℕ) → sum_below f n + sum_below g n ≡ sum_below (λ k. f k + g k) n
sum-both f g zero = refl
sum-both f g (suc n) =
    let first : (sum_below f n + f n) + (sum_below g n + g n) ≡ (sum_below f n + sum_below g n) + (f n + g n) = omega arith in
    first ∙ ap (λ m. m + (f n + g n)) (sum-both f g n)

-- a number is none of those below it
none-below : (j n : ℕ) → n ≤ j → sum_below (λ k. cond (j == k) 1 0) n ≡ 0
none-below j zero h = refl
none-below j (suc n) h = by (j == n) refl (none-below j n (omega (arith, h)))
  where
    by : (b : Bool) → (j == n) ≡ b → sum_below (λ k. cond (j == k) 1 0) n ≡ 0 → sum_below (λ k. cond (j == k) 1 0) n + cond b 1 0 ≡ 0
    by true e ih = let same = eqb-true j n e in absurd (omega (arith, h, same))
    by false e ih = ap (λ m. m + 0) ih

-- and one of those below a greater one
one-below : (j n : ℕ) → j < n → sum_below (λ k. cond (j == k) 1 0) n ≡ 1
one-below j zero h = absurd (omega (arith, h))
one-below j (suc n) h = by (j == n) refl (one-below j n)
  where
    by : (b : Bool) → (j == n) ≡ b → (j < n → sum_below (λ k. cond (j == k) 1 0) n ≡ 1)
        → sum_below (λ k. cond (j == k) 1 0) n + cond b 1 0 ≡ 1
    by true e ih = let same = eqb-true j n e in ap (λ m. m + 1) (none-below j n (omega (arith, same)))
    by false e ih = let other = eqb-false j n e in ap (λ m. m + 0) (ih (omega (arith, h, other)))

-- ---- lists whose elements are dealt

module _ {A : Type 0} (here : ℕ → A → Bool) (n : ℕ) where
  -- This is in one part of those below a number.
  pub record IsDealt (x : A) : Type 0 where
    pub part : ℕ
    pub below : part < n
    pub only : (k : ℕ) → here k x ≡ (part == k)

  one_more : (b : Bool) (x : A) (rest : List A) → cond b 1 0 + length rest ≡ length (cond b (x ∷ rest) rest)
  one_more true x rest = omega arith
  one_more false x rest = omega arith

  -- so the parts of a list are as long as it, together
  pub lengths-add : (xs : List A) → AllByRecursion IsDealt xs → length xs ≡ sum_below (λ k. length (filter (here k) xs)) n
  lengths-add [] a = sym (sum-zero n)
  lengths-add (x ∷ xs) a =
      let first : length (x ∷ xs) ≡ 1 + length xs = omega arith in
      first
      ∙ (λ i. sym (one-below a.0.part n a.0.below) i + lengths-add xs a.1 i)
      ∙ sum-both (λ k. cond (a.0.part == k) 1 0) (λ k. length (filter (here k) xs)) n
      ∙ sum-same (λ k. cond (a.0.part == k) 1 0 + length (filter (here k) xs)) (λ k. length (filter (here k) (x ∷ xs)))
      (λ k. ap (λ b. cond b 1 0 + length (filter (here k) xs)) (sym (a.0.only k))
      ∙ one_more (here k x) x (filter (here k) xs)) n

-- ---- numbers of maps whose places are dealt

module _ {X : Type 0} (test : X → Bool) where
  number-entries : (es : List (Place × X)) → count_by test (map (λ e. e.1) es) ≡ length (filter (λ e. test e.1) es)
  number-entries [] = refl
  number-entries (e ∷ es) = sum_by-cons (λ x. cond (test x) 1 0) e.1 (map (λ e. e.1) es) ∙ by (test e.1) (number-entries es)
    where
      by : (b : Bool) → count_by test (map (λ e. e.1) es) ≡ length (filter (λ e. test e.1) es)
          → cond b 1 0 + count_by test (map (λ e. e.1) es) ≡ length (cond b (e ∷ filter (λ e. test e.1) es) (filter (λ e. test e.1) es))
      by true ih = omega (arith, ih)
      by false ih = omega (arith, ih)

  numbers-add : (here : ℕ → Place → Bool) (n : ℕ) (m : FinMap place_cmp X)
      → AllByRecursion (IsDealt (λ k (e : Place × X). here k e.0) n) (entries m)
      → number_of test m ≡ sum_below (λ k. number_of test (retain_keys m (here k))) n
  numbers-add here n m a =
      number-entries (entries m)
      ∙ lengths-add (λ k (e : Place × X). here k e.0) n (filter (λ e. test e.1) (entries m))
      (all-filter (IsDealt (λ k (e : Place × X). here k e.0) n) (λ e. test e.1) (entries m) a)
      ∙ sum-same (λ k. length (filter (λ e. here k e.0) (filter (λ e. test e.1) (entries m))))
      (λ k. number_of test (retain_keys m (here k)))
      (λ k. sym (number-entries (entries (retain_keys m (here k)))
      ∙ ap (λ (es : List (Place × X)). length (filter (λ e. test e.1) es)) (entries-kept places_total places_exact (here k) m)
      ∙ ap length (filter-swap (λ e. here k e.0) (λ e. test e.1) (entries m)))) n

-- ---- the parts of places

-- all parts are below
module _ (n : ℕ) (rule : RuleValue) (below : IsBelow n rule) where
  with-below : (source : SessionForms) (p : StoredPdu) (key : Option LinkKey) (partner : Option StoredPdu)
      → part_with rule source p key partner < n
  with-below source p (Some key) partner = below.keyed key
  with-below source p None (Some other) = below.paired p.seq
  with-below source p None None = below.lone source p

  part-below : (source : SessionForms) (d : Dir) (other earlier : List StoredPdu) (p : StoredPdu)
      → part_of rule source d other earlier p < n
  part-below source d other earlier p =
      with-below source p (key_with source d p (partner_of other earlier p)) (partner_of other earlier p)

module _ (n : ℕ) (rule : RuleValue) (p : PresentValue) where
  -- A place has a part below a number.
  pub record HasPart (q : Place) : Type 0 where
    pub part : ℕ
    pub there : get (part_map rule p) q ≡ Some part
    pub below : part < n

  pub place-dealt : (q : Place) → HasPart q → IsDealt (is_in_part rule p) n q
  place-dealt q h = record {
    part = h.part;
    below = h.below;
    only = λ k. ap (λ (found : Option ℕ). unwrap_or (option_map (λ it. it == k) found) false) h.there;
  }

module _ (n : ℕ) (rule : RuleValue) (p : PresentValue) (below : IsBelow n rule) where
  message-part : (q : Place) (m : Message) → get (traffic_of p.sessions).messages q ≡ Some m → HasPart n rule p q
  message-part q m stands = by (get p.sessions (session_number q)) refl
      (sym (said-at places_total places_exact session_number session_messages messages-own p.sessions q) ∙ stands)
    where
      by : (found : Option Session) → get p.sessions (session_number q) ≡ found
          → option_and_then (λ s. find place_cmp q (session_messages (session_number q, s))) found ≡ Some m
          → HasPart n rule p q
      by None there e = absurd cc
      by (Some s) there e =
          let it : ℕ × Session = (session_number q, s) in
          let source = source_of p.settings it in
          let centre = kept_pdus s.centre in
          let w = message-found (origin_of it) q centre m [] (kept_pdus s.client) e in
          record {
            part = part_of rule source FromClient centre w.earlier w.pdu;
            there = ap (get (part_map rule p)) w.place
                ∙ part-there rule p FromClient (session_number q) s there w.earlier w.later w.pdu w.all;
            below = part-below n rule below source FromClient centre w.earlier w.pdu;
          }

  abbrev traffic : TrafficValue
  traffic = traffic_of p.sessions

  abbrev facts : FinMap place_cmp Fact
  facts = facts_of p.settings traffic

  fact-part : (q : Place) (f : Fact) → get facts q ≡ Some f → HasPart n rule p q
  fact-part q f e = by (get traffic.messages q) refl
      (sym (maps.get-chosen places_total places_exact
      (λ place m. Some (fact_in_circumstances place m (circumstances p.settings traffic m))) traffic.messages q) ∙ e)
    where
      by : (v : Option Message) → get traffic.messages q ≡ v
          → option_and_then (λ m. Some (fact_in_circumstances q m (circumstances p.settings traffic m))) v ≡ Some f → HasPart n rule p q
      by None there e = absurd cc
      by (Some m) there e = message-part q m there

  facts-dealt : AllByRecursion (IsDealt (λ k (e : Place × Fact). is_in_part rule p k e.0) n) (entries facts)
  facts-dealt =
      all-weaker (λ e. get facts e.0 ≡ Some e.1) (IsDealt (λ k (e : Place × Fact). is_in_part rule p k e.0) n) (entries facts)
      (λ e there.
      let it = place-dealt n rule p e.0 (fact-part e.0 e.1 there) in
      record { part = it.part; below = it.below; only = it.only })
      (maps.get-entry places_total places_exact facts)

-- each count is the sum of those of the parts
pub counts-add : (n : ℕ) (rule : RuleValue) → IsBelow n rule → CountsAddUp n rule
counts-add n rule below p view value outcome =
    let key = count_key view value outcome in
    let t = traffic_of p.sessions in
    count-tables (facts_of p.settings t) (notes_of p.settings t) key
    ∙ numbers-add (stands_in key) (is_in_part rule p) n (facts_of p.settings t) (facts-dealt n rule p below)
    ∙ sum-same (λ k. number_of (stands_in key) (retain_keys (facts_of p.settings t) (is_in_part rule p k)))
    (λ k. count_at (part_tables rule p k) view value outcome)
    (λ k. sym (count-tables (facts_of p.settings (dealt (is_in_part rule p k) t)) (notes_of p.settings (dealt (is_in_part rule p k) t)) key
    ∙ ap (number_of (stands_in key)) (facts-kept p.settings t (is_in_part rule p k) (keys-kept rule p k)))) n

-- ---- lists

all-flat : {A B : Type 0} (P : B → Type 0) (Q : A → Type 0) (f : A → List B) (xs : List A) → AllByRecursion Q xs
    → ((x : A) → Q x → AllByRecursion P (f x)) → AllByRecursion P (flat_map f xs)
all-flat P Q f [] a h = tt
all-flat P Q f (x ∷ xs) a h = all-append P (f x) (flat_map f xs) (h x a.0) (all-flat P Q f xs a.1 h)

all-taken : {A : Type 0} (P : A → Type 0) (test : A → Bool) (xs : List A) → AllByRecursion P xs
    → AllByRecursion (λ x. P x × (test x ≡ true)) (filter test xs)
all-taken P test [] a = tt
all-taken {A} P test (x ∷ xs) a = by (test x) refl (all-taken P test xs a.1)
  where
    by : (b : Bool) → test x ≡ b → AllByRecursion (λ x. P x × (test x ≡ true)) (filter test xs)
        → AllByRecursion (λ x. P x × (test x ≡ true)) (cond b (x ∷ filter test xs) (filter test xs))
    by true t rest = ((a.0, t), rest)
    by false t rest = rest

-- what holds wherever one stands holds of all
all-split : {A : Type 0} (P : A → Type 0) (before xs : List A)
    → ((earlier later : List A) (x : A) → before ++ xs ≡ earlier ++ x ∷ later → P x) → AllByRecursion P xs
all-split P before [] h = tt
all-split P before (x ∷ xs) h = (
  h before xs x refl,
  all-split P (before ++ x ∷ []) xs (λ earlier later y all. h earlier later y (sym (append_assoc before (x ∷ []) xs) ∙ all)),
)

marked-some : (b : Bool) → is_some (marked b) ≡ true → b ≡ true
marked-some true e = refl
marked-some false e = e

module _ (n : ℕ) (rule : RuleValue) (p : PresentValue) (below : IsBelow n rule) where
  abbrev Has : Place → Type 0
  Has q = HasPart n rule p q

  -- A place that is listed has a part, but where a direction is broken.
  abbrev Noted : Listed → Type 0
  Noted x = x.list ≢ v.Broken → Has x.place

  any-noted : (x : Listed) (ys : List Listed) → AllByRecursion Noted ys → list_any (same_listed x) ys ≡ true → Noted x
  any-noted x [] a e = absurd cc
  any-noted x (y ∷ ys) a e = by (any-noted x ys a.1) (same_listed x y) refl e
    where
      by : (list_any (same_listed x) ys ≡ true → Noted x) → (b : Bool) → same_listed x y ≡ b
          → (b || list_any (same_listed x) ys) ≡ true → Noted x
      by rest true t e = subst Noted (sym (tells_apart listed_exact x y t)) a.0
      by rest false t e = rest e

  -- ---- of a session

  module _ (e : ℕ × Session) (there : get p.sessions e.0 ≡ Some e.1) where
    pdus-part : (d : Dir) → AllByRecursion (λ x. Has (place_of (origin_of e) d x)) (kept_from d e.1)
    pdus-part d = all-split (λ x. Has (place_of (origin_of e) d x)) [] (kept_from d e.1) (λ earlier later x all. record {
      part = part_of rule (source_of p.settings e) d (kept_from (opposite d) e.1) earlier x;
      there = part-there rule p d e.0 e.1 there earlier later x all;
      below = part-below n rule below (source_of p.settings e) d (kept_from (opposite d) e.1) earlier x;
    })

    abbrev pairing : PairingValue
    pairing = session_pairing e

    placed-part : AllByRecursion (λ (h : PlacedHeader). Has h.place) (pairing.client ++ pairing.centre)
    placed-part = all-append (λ (h : PlacedHeader). Has h.place) pairing.client pairing.centre
        (all-mapped (λ (h : PlacedHeader). Has h.place) (λ x. Has (place_of (origin_of e) FromClient x))
        (placed (origin_of e) FromClient) (kept_pdus e.1.client) (pdus-part FromClient) (λ x h. h))
        (all-mapped (λ (h : PlacedHeader). Has h.place) (λ x. Has (place_of (origin_of e) FromCentre x))
        (placed (origin_of e) FromCentre) (kept_pdus e.1.centre) (pdus-part FromCentre) (λ x h. h))

    places-part : (test : Header → Bool) → AllByRecursion Has (places_of test pairing)
    places-part test = all-mapped Has (λ (h : PlacedHeader). Has h.place) (λ (h : PlacedHeader). h.place)
        (filter (λ (h : PlacedHeader). test h.header) (pairing.client ++ pairing.centre))
        (all-filter (λ (h : PlacedHeader). Has h.place) (λ (h : PlacedHeader). test h.header) (pairing.client ++ pairing.centre)
        placed-part)
        (λ x h. h)

    in-list : (list : l.List) (places : List Place) → AllByRecursion Has places → AllByRecursion Noted (map (listed list) places)
    in-list list places a = all-mapped Noted Has (listed list) places a (λ q h other. h)

    pairs-noted : AllByRecursion Noted (pairing_notes pairing)
    pairs-noted =
        let waits = map (listed v.Waiting) (waiting pairing) in
        let stray = map (listed v.StrayAnswers) (strays pairing) in
        all-append Noted (waits ++ stray) (map (listed v.Mismatched) (mismatched pairing))
        (all-append Noted waits stray
        (in-list v.Waiting (waiting pairing)
        (all-filter Has (λ q. is_none (pair_at pairing q)) (places_of is_request pairing) (places-part is_request)))
        (in-list v.StrayAnswers (strays pairing)
        (all-filter Has (λ q. is_none (pair_at pairing q)) (places_of is_response pairing) (places-part is_response))))
        (in-list v.Mismatched (mismatched pairing)
        (all-filter Has (λ q. disagrees (pair_at pairing q)) (places_of is_request pairing) (places-part is_request)))

    where-part : (test : Content → Bool) (d : Dir) → AllByRecursion Has (places_where test (origin_of e) d (kept_from d e.1))
    where-part test d = all-mapped Has (λ x. Has (place_of (origin_of e) d x)) (place_of (origin_of e) d)
        (filter (λ (x : StoredPdu). test x.content) (kept_from d e.1))
        (all-filter (λ x. Has (place_of (origin_of e) d x)) (λ (x : StoredPdu). test x.content) (kept_from d e.1) (pdus-part d)) (λ x h. h)

    abbrev client : List StoredPdu
    client = kept_pdus e.1.client

    abbrev centre : List StoredPdu
    centre = kept_pdus e.1.centre

    contents-noted : AllByRecursion Noted (content_notes (origin_of e) client centre)
    contents-noted = all-append Noted (map (listed v.Unreadable) (unreadable (origin_of e) centre))
        (map (listed v.Undecodable) (undecodable (origin_of e) client centre))
        (in-list v.Unreadable (unreadable (origin_of e) centre) (where-part is_unreadable FromCentre))
        (in-list v.Undecodable (undecodable (origin_of e) client centre)
        (all-append Has (places_where is_undecodable (origin_of e) FromClient client)
        (places_where is_undecodable (origin_of e) FromCentre centre)
        (where-part is_undecodable FromClient) (where-part is_undecodable FromCentre)))

    breaks-noted : (places : List Place) → AllByRecursion Noted (map (listed v.Broken) places)
    breaks-noted [] = tt
    breaks-noted (q ∷ places) = ((λ other. absurd (other refl)), breaks-noted places)

    session-noted : AllByRecursion Noted (session_notes e)
    session-noted =
        all-append Noted (notes_among (origin_of e) client centre)
        (broken_notes (origin_of e) (tail_of (stream.values e.1.client)) (tail_of (stream.values e.1.centre)))
        (all-append Noted (pairing_notes pairing) (content_notes (origin_of e) client centre) pairs-noted contents-noted)
        (breaks-noted (broken (origin_of e) (tail_of (stream.values e.1.client)) (tail_of (stream.values e.1.centre))))

  -- ---- of all

  abbrev of_sessions : List Listed
  of_sessions = flat_map session_notes (entries p.sessions)

  abbrev of_receipts : List Listed
  of_receipts = receipt_notes (grouping_of p.settings (traffic_of p.sessions))

  abbrev of_facts : List Listed
  of_facts = flat_map listings_of_fact (values (facts_of p.settings (traffic_of p.sessions)))

  sessions-noted : AllByRecursion Noted of_sessions
  sessions-noted = all-flat Noted (λ (e : ℕ × Session). get p.sessions e.0 ≡ Some e.1) session_notes (entries p.sessions)
      (maps.get-entry nat_cmp_total nat_cmp-IsAntisymmetric p.sessions) session-noted

  receipt-part : (q : Place) (r : ReceivedReceipt) → get (traffic_of p.sessions).receipts q ≡ Some r → Has q
  receipt-part q r stands = by (get p.sessions (session_number q)) refl
      (sym (said-at places_total places_exact session_number session_receipts receipts-own p.sessions q) ∙ stands)
    where
      by : (found : Option Session) → get p.sessions (session_number q) ≡ found
          → option_and_then (λ s. find place_cmp q (session_receipts (session_number q, s))) found ≡ Some r → Has q
      by None there e = absurd cc
      by (Some s) there e =
          let it : ℕ × Session = (session_number q, s) in
          let source = source_of p.settings it in
          let client = kept_pdus s.client in
          let w = receipt-found (origin_of it) q receipt_in (received (origin_of it)) r (kept_pdus s.centre) e in
          record {
            part = part_of rule source FromCentre client w.earlier w.pdu;
            there = ap (get (part_map rule p)) w.place
                ∙ part-there rule p FromCentre (session_number q) s there w.earlier w.later w.pdu w.all;
            below = part-below n rule below source FromCentre client w.earlier w.pdu;
          }

  keyed-part : (q : Place) (r : GroupedReceipt) → get (grouping_of p.settings (traffic_of p.sessions)).receipts q ≡ Some r → Has q
  keyed-part q r e = by (get (traffic_of p.sessions).receipts q) refl
      (sym (maps.get-chosen places_total places_exact (λ place r. Some (keyed_receipt p.settings r))
      (traffic_of p.sessions).receipts q) ∙ e)
    where
      by : (v : Option ReceivedReceipt) → get (traffic_of p.sessions).receipts q ≡ v
          → option_and_then (λ x. Some (keyed_receipt p.settings x)) v ≡ Some r → Has q
      by None there e = absurd cc
      by (Some x) there e = receipt-part q x there

  standing-noted : (q : Place) (list : Option l.List) → Has q
      → AllByRecursion Noted (option_to_list (option_map (λ list. listed list q) list))
  standing-noted q None h = tt
  standing-noted q (Some list) h = ((λ other. h), tt)

  receipts-noted : AllByRecursion Noted of_receipts
  receipts-noted =
      let g = grouping_of p.settings (traffic_of p.sessions) in
      all-flat Noted (λ (e : Place × GroupedReceipt). get g.receipts e.0 ≡ Some e.1)
      (λ e. option_to_list (receipt_listing g e)) (entries g.receipts)
      (maps.get-entry places_total places_exact g.receipts)
      (λ e there. standing-noted e.0 (list_of_standing (receipt_standing g e.0 e.1)) (keyed-part e.0 e.1 there))

  abbrev whole : TrafficValue
  whole = traffic_of p.sessions

  fact-place : (q : Place) (f : Fact) → get (facts_of p.settings (traffic_of p.sessions)) q ≡ Some f → Has f.place
  fact-place q f e = by (get whole.messages q) refl
      (sym (maps.get-chosen places_total places_exact
      (λ place m. Some (fact_in_circumstances place m (circumstances p.settings whole m))) whole.messages q) ∙ e)
    where
      by : (v : Option Message) → get whole.messages q ≡ v
          → option_and_then (λ m. Some (fact_in_circumstances q m (circumstances p.settings whole m))) v ≡ Some f → Has f.place
      by None there e = absurd cc
      by (Some m) there e =
          let same : fact_in_circumstances q m (circumstances p.settings whole m) ≡ f = cc in
          subst (λ (f : Fact). Has f.place) same (message-part n rule p below q m there)

  outcome-noted : (outcome : Outcome) (q : Place) → Has q → AllByRecursion Noted (listings_by outcome q)
  outcome-noted o.Open q h = ((λ other. h), tt)
  outcome-noted o.Lapsed q h = ((λ other. h), tt)
  outcome-noted _ q h = tt

  facts-noted : AllByRecursion Noted of_facts
  facts-noted =
      let facts = facts_of p.settings (traffic_of p.sessions) in
      all-flat Noted (λ (f : Fact). Has f.place) listings_of_fact (values facts)
      (all-mapped (λ (f : Fact). Has f.place) (λ (e : Place × Fact). get facts e.0 ≡ Some e.1) (λ e. e.1) (entries facts)
      (maps.get-entry places_total places_exact facts) (λ e there. fact-place e.0 e.1 there))
      (λ f h. outcome-noted f.outcome f.place h)

  abbrev all_notes : List Listed
  all_notes = of_sessions ++ (of_receipts ++ of_facts)

  abbrev tables : TablesValue
  tables = tables_from p.settings (traffic_of p.sessions)

  places-listed : tables.places ≡ listed_set all_notes
  places-listed =
      let t = traffic_of p.sessions in
      notes-with (keys t.notes ++ of_receipts) of_facts
      ∙ ap listed_set (append_assoc (keys t.notes) of_receipts of_facts)
      ∙ notes-with of_sessions (of_receipts ++ of_facts)

  noted-all : AllByRecursion Noted all_notes
  noted-all = all-append Noted of_sessions (of_receipts ++ of_facts) sessions-noted
      (all-append Noted of_receipts of_facts receipts-noted facts-noted)

  key-noted : (x : Listed) (u : Unit {0}) → get tables.places x ≡ Some u → Noted x
  key-noted x u there = any-noted x all_notes noted-all
      (marked-some (list_any (same_listed x) all_notes)
      (ap is_some (sym (get-listed all_notes x) ∙ ap (λ (places : FinSet listed_cmp). get places x) (sym places-listed) ∙ there)))

  listed-part : (list : l.List) → list ≢ v.Broken → AllByRecursion Has (listed_in tables list)
  listed-part list other =
      all-mapped Has (λ x. Noted x × (in_list list x ≡ true)) (λ x. x.place) (filter (in_list list) (keys tables.places))
      (all-taken Noted (in_list list) (keys tables.places)
      (all-mapped Noted (λ (e : Listed × Unit {0}). get tables.places e.0 ≡ Some e.1) (λ e. e.0) (entries tables.places)
      (maps.get-entry listed_total listed_exact tables.places) (λ e there. key-noted e.0 e.1 there)))
      (λ x h. h.0 (λ broken. other (same_list list x.list (sym (eqb-true _ _ h.1)) ∙ broken)))

  listed-dealt : (list : l.List) → list ≢ v.Broken → AllByRecursion (IsDealt (is_in_part rule p) n) (listed_in tables list)
  listed-dealt list other =
      all-weaker Has (IsDealt (is_in_part rule p) n) (listed_in tables list) (place-dealt n rule p) (listed-part list other)

-- each list is as long as those of the parts together, but where directions are broken
pub lists-add : (n : ℕ) (rule : RuleValue) → IsBelow n rule → ListsAddUp n rule
lists-add n rule below p list other =
    let t = traffic_of p.sessions in
    lengths-add (is_in_part rule p) n (listed_in (tables_from p.settings t) list) (listed-dealt n rule p below list other)
    ∙ sum-same (λ k. length (filter (is_in_part rule p k) (listed_in (tables_from p.settings t) list)))
    (λ k. length (listed_in (part_tables rule p k) list))
    (λ k. ap length (sym (list-kept p.settings t (is_in_part rule p k) (keys-kept rule p k) list))) n
