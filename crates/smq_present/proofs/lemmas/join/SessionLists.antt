-- The notes of a session: none is in a list of receipts, all are of its places, and the traffic's are those of all its sessions.
use Rattle.std.proofs.Common.{◌≡◌, ℕ, true, ◌||◌, List, [], ◌∷◌, ◌++◌, refl, ◌≢◌, Bool, false, cond, Option, Some, None, ap, ◌∙◌}
use Rattle.std.specs.Prelude.{map, filter, option_map, option_to_list}
use Rattle.std.specs.List.{AllByRecursion, flat_map, list_any}
use Rattle.smq_frame.specs.Tail.{tail_of, TailValue}
use Rattle.smq_pair.specs.Pairing.{strays, waiting, PlacedHeader, PairingValue, places_of}
use Rattle.smq_tally.specs.declared.list.List as l
use Rattle.smq_tally.specs.declared.list.List.TheVariants as list
use Rattle.smq_tally.specs.Lists.{listed, listed_cmp}
use Rattle.smq_present.specs.present.Kept.{kept_pdus, is_undecodable, is_unreadable}
use Rattle.smq_present.specs.pairing.Traffic.{broken, broken_notes, content_notes, mismatched, notes_among, origin_of, pairing_among, pairing_notes, session_notes, undecodable, unreadable, Origin, placed, place_of, places_where, broken_at, traffic_of}
use Rattle.smq_present.specs.join.Listings.{AllTraffic, is_traffic_list}
use Rattle.std.specs.Ordering.{eq_by_cmp, nat_cmp}
use Rattle.std.specs.FinMap.{FinMap, entries, find, from_entries}
use Rattle.std.proofs.lemmas.List.{map-append}
use Rattle.smq_kit.specs.declared.place.Dir.{Dir}
use Rattle.smq_kit.specs.declared.place.Dir.TheVariants.{FromClient, FromCentre}
use Rattle.smq_kit.specs.declared.place.Place.{Place}
use Rattle.smq_kit.proofs.MapLemmas as maps
use Rattle.smq_frame.specs.Stream.{values}
use Rattle.smq_pdu.specs.Header.{Header}
use Rattle.smq_pdu.specs.Pairing.{is_request, is_response}
use Rattle.smq_tally.specs.declared.list.Listed.{Listed}
use Rattle.smq_tally.specs.within.ListOrder.{listed_total}
use Rattle.smq_tally.proofs.ListOrders.{listed_exact}
use Rattle.smq_present.specs.present.Content.{Content}
use Rattle.smq_present.specs.declared.present.kept.StoredPdu.{StoredPdu}
use Rattle.smq_present.specs.declared.present.session.Session.{Session}
use Rattle.smq_tally.proofs.Listings.{marked}

pub all-append : {X : Type 0} (P : X → Type 0) (xs ys : List X) → AllByRecursion P xs → AllByRecursion P ys → AllByRecursion P (xs ++ ys)
all-append P [] ys h k = k
all-append P (x ∷ xs) ys h k = (h.0, all-append P xs ys h.1 k)

-- ---- no note of a session is in a list of receipts

pub both : (xs ys : List Listed) → AllTraffic xs → AllTraffic ys → AllTraffic (xs ++ ys)
both = all-append (λ (note : Listed). is_traffic_list note.list ≡ true)

in-list : (name : l.List) → is_traffic_list name ≡ true → (places : List Place) → AllTraffic (map (listed name) places)
in-list name is [] = tt
in-list name is (q ∷ places) = (is, in-list name is places)

pub session-lists : (e : ℕ × Session) → AllTraffic (session_notes e)
session-lists e =
    let o = origin_of e in
    let client = kept_pdus e.1.client in
    let centre = kept_pdus e.1.centre in
    let v = pairing_among o client centre in
    both (notes_among o client centre) (broken_notes o (tail_of (values e.1.client)) (tail_of (values e.1.centre)))
    (both (pairing_notes v) (content_notes o client centre)
    (both (map (listed list.Waiting) (waiting v) ++ map (listed list.StrayAnswers) (strays v)) (map (listed list.Mismatched) (mismatched v))
    (both (map (listed list.Waiting) (waiting v)) (map (listed list.StrayAnswers) (strays v))
    (in-list list.Waiting refl (waiting v)) (in-list list.StrayAnswers refl (strays v)))
    (in-list list.Mismatched refl (mismatched v)))
    (both (map (listed list.Unreadable) (unreadable o centre)) (map (listed list.Undecodable) (undecodable o client centre))
    (in-list list.Unreadable refl (unreadable o centre)) (in-list list.Undecodable refl (undecodable o client centre))))
    (in-list list.Broken refl (broken o (tail_of (values e.1.client)) (tail_of (values e.1.centre))))

-- ---- the notes of a session are of its places

module _ {X : Type 0} (P : X → Type 0) where
  pub all-filter : (test : X → Bool) (xs : List X) → AllByRecursion P xs → AllByRecursion P (filter test xs)
  all-filter test [] h = tt
  all-filter test (x ∷ xs) h = elim (test x) as (λ b. AllByRecursion P (cond b (x ∷ filter test xs) (filter test xs))) [
    | true ↦ (h.0, all-filter test xs h.1)
    | false ↦ all-filter test xs h.1
  ]

  pub all-map : {Z : Type 0} (f : Z → X) (zs : List Z) → ((z : Z) → P (f z)) → AllByRecursion P (map f zs)
  all-map f [] h = tt
  all-map f (z ∷ zs) h = (h z, all-map f zs h)

  pub all-mapped : {Z : Type 0} (Q : Z → Type 0) (f : Z → X) (zs : List Z) → AllByRecursion Q zs → ((z : Z) → Q z → P (f z)) → AllByRecursion P (map f zs)
  all-mapped Q f [] a h = tt
  all-mapped Q f (z ∷ zs) a h = (h z a.0, all-mapped Q f zs a.1 h)

module _ (origin : Origin) where
  abbrev Here : Place → Type 0
  Here q = q.session.0 ≡ origin.session.0

  abbrev NotedHere : Listed → Type 0
  NotedHere note = note.place.session.0 ≡ origin.session.0

  listed-here : (name : l.List) (qs : List Place) → AllByRecursion Here qs → AllByRecursion NotedHere (map (listed name) qs)
  listed-here name qs h = all-mapped NotedHere Here (listed name) qs h (λ q is. is)

  module _ (client centre : List StoredPdu) where
    abbrev v : PairingValue
    v = pairing_among origin client centre

    places-here : (test : Header → Bool) → AllByRecursion Here (places_of test v)
    places-here test =
        all-mapped Here (λ (p : PlacedHeader). p.place.session.0 ≡ origin.session.0) (λ p. p.place) (filter (λ p. test p.header) (v.client ++ v.centre))
        (all-filter (λ (p : PlacedHeader). p.place.session.0 ≡ origin.session.0) (λ p. test p.header) (v.client ++ v.centre)
        (all-append (λ (p : PlacedHeader). p.place.session.0 ≡ origin.session.0) v.client v.centre
        (all-map (λ (p : PlacedHeader). p.place.session.0 ≡ origin.session.0) (placed origin FromClient) client (λ p. refl))
        (all-map (λ (p : PlacedHeader). p.place.session.0 ≡ origin.session.0) (placed origin FromCentre) centre (λ p. refl))))
        (λ p is. is)

    where-here : (test : Content → Bool) (dir : Dir) (pdus : List StoredPdu) → AllByRecursion Here (places_where test origin dir pdus)
    where-here test dir pdus = all-map Here (place_of origin dir) (filter (λ (p : StoredPdu). test p.content) pdus) (λ p. refl)

    pub notes-here : AllByRecursion NotedHere (notes_among origin client centre)
    notes-here =
        all-append NotedHere (pairing_notes v) (content_notes origin client centre)
        (all-append NotedHere (map (listed list.Waiting) (waiting v) ++ map (listed list.StrayAnswers) (strays v)) (map (listed list.Mismatched) (mismatched v))
        (all-append NotedHere (map (listed list.Waiting) (waiting v)) (map (listed list.StrayAnswers) (strays v))
        (listed-here list.Waiting (waiting v) (all-filter Here _ (places_of is_request v) (places-here is_request)))
        (listed-here list.StrayAnswers (strays v) (all-filter Here _ (places_of is_response v) (places-here is_response))))
        (listed-here list.Mismatched (mismatched v) (all-filter Here _ (places_of is_request v) (places-here is_request))))
        (all-append NotedHere (map (listed list.Unreadable) (unreadable origin centre)) (map (listed list.Undecodable) (undecodable origin client centre))
        (listed-here list.Unreadable (unreadable origin centre) (where-here is_unreadable FromCentre centre))
        (listed-here list.Undecodable (undecodable origin client centre)
        (all-append Here (places_where is_undecodable origin FromClient client) (places_where is_undecodable origin FromCentre centre)
        (where-here is_undecodable FromClient client) (where-here is_undecodable FromCentre centre))))

  break-here : (dir : Dir) (at : Option ℕ) → AllByRecursion Here (option_to_list (option_map (λ offset. record { session = origin.session; dir = dir; offset = offset }) at))
  break-here dir None = tt
  break-here dir (Some offset) = (refl, tt)

  pub breaks-here : (client centre : TailValue) → AllByRecursion NotedHere (broken_notes origin client centre)
  breaks-here client centre =
      listed-here list.Broken (broken origin client centre)
      (all-append Here (option_to_list (broken_at origin FromClient client)) (option_to_list (broken_at origin FromCentre centre))
      (break-here FromClient client.broken) (break-here FromCentre centre.broken))

-- ---- notes as entries of a set

abbrev pub marks : List Listed → List (Listed × Unit {0})
marks notes = map (λ e. (e, tt)) notes

abbrev pub note_number : Listed → ℕ
note_number note = note.place.session.0

abbrev pub noted : ℕ × Session → List (Listed × Unit {0})
noted e = marks (session_notes e)

unmarked : (n : ℕ) (q : Listed) (notes : List Listed) → note_number q ≢ n → AllByRecursion (λ note. note_number note ≡ n) notes → find listed_cmp q (marks notes) ≡ None
unmarked n q [] h a = refl
unmarked n q (note ∷ notes) h a =
    elim (eq_by_cmp listed_cmp q note) as (λ b. eq_by_cmp listed_cmp q note ≡ b → cond b (Some (tt {0})) (find listed_cmp q (marks notes)) ≡ None) [
      | true ↦ λ t. absurd (h (ap note_number (maps.same_key listed_total listed_exact q note t) ∙ a.0))
      | false ↦ λ t. unmarked n q notes h a.1
    ] refl

pub notes-own : (e : ℕ × Session) (q : Listed) → note_number q ≢ e.0 → find listed_cmp q (noted e) ≡ None
notes-own e q h =
    unmarked e.0 q (session_notes e) h
    (all-append (λ note. note_number note ≡ e.0) (notes_among (origin_of e) (kept_pdus e.1.client) (kept_pdus e.1.centre)) (broken_notes (origin_of e) (tail_of (values e.1.client)) (tail_of (values e.1.centre)))
    (notes-here (origin_of e) (kept_pdus e.1.client) (kept_pdus e.1.centre))
    (breaks-here (origin_of e) (tail_of (values e.1.client)) (tail_of (values e.1.centre))))

marks-flat : (es : List (ℕ × Session)) → marks (flat_map session_notes es) ≡ flat_map noted es
marks-flat [] = refl
marks-flat (e ∷ es) = map-append (λ e. (e, tt {0})) (session_notes e) (flat_map session_notes es) ∙ ap (λ (xs : List (Listed × Unit {0})). noted e ++ xs) (marks-flat es)

pub notes-all : (sessions : FinMap nat_cmp Session) → (traffic_of sessions).notes ≡ from_entries (flat_map noted (entries sessions))
notes-all sessions = ap (λ (es : List (Listed × Unit {0})). from_entries es) (marks-flat (entries sessions))

pub find-marks : (notes : List Listed) (q : Listed) → find listed_cmp q (marks notes) ≡ marked (list_any (eq_by_cmp listed_cmp q) notes)
find-marks [] q = refl
find-marks (note ∷ notes) q = elim (eq_by_cmp listed_cmp q note) as (λ b. cond b (Some (tt {0})) (find listed_cmp q (marks notes)) ≡ marked (b || list_any (eq_by_cmp listed_cmp q) notes)) [
  | true ↦ refl
  | false ↦ find-marks notes q
]
