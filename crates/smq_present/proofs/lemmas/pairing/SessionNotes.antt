-- The notes of a session that say what can't be read, list by list, and what stands at their places.
use Rattle.std.proofs.Common.{◌≡◌, ◌⊎◌, ℕ, ◌<◌, Bool, true, List, [], ◌∷◌, ◌++◌, Option, Some, None, inl, inr, subst, sym, ap, arith}
use Rattle.std.specs.Prelude.{Contains, map, filter, option_map, option_to_list}
use Rattle.std.proofs.lemmas.List.Elements.{Contains-append_left, Contains-append_right, Contains-append_cases}
use Rattle.smq_kit.specs.declared.names.SessionId.{SessionId}
use Rattle.smq_kit.specs.declared.place.Dir.{Dir}
use Rattle.smq_kit.specs.declared.place.Dir.TheVariants.{FromClient, FromCentre}
use Rattle.smq_kit.specs.declared.place.Place.{Place}
use Rattle.smq_frame.specs.Stream.{values}
use Rattle.smq_frame.specs.Tail.{tail_of}
use Rattle.smq_pair.specs.Pairing.{PairingValue, waiting, strays}
use Rattle.smq_tally.specs.declared.list.List.{List as ListName}
use Rattle.smq_tally.specs.declared.list.List.TheVariants as list
use Rattle.smq_tally.specs.declared.list.Listed.{Listed}
use Rattle.smq_tally.specs.Lists.{list_rank, listed}
use Rattle.smq_present.specs.present.Content.{Content}
use Rattle.smq_present.specs.declared.present.kept.StoredPdu.{StoredPdu}
use Rattle.smq_present.specs.declared.present.session.Session.{Session}
use Rattle.smq_present.specs.present.Kept.{kept_pdus, is_undecodable, is_unreadable}
use Rattle.smq_present.specs.present.Present.{direction}
use Rattle.smq_present.specs.pairing.Traffic.{place_of, places_where, mismatched, unreadable, undecodable, broken_at, broken, origin_of, pairing_notes, session_pairing, session_notes}
use Rattle.smq_present.proofs.lemmas.pairing.Members.{first-one, one-is, none-in, filter-has, has-filter, map-has, has-map}

-- ---- a session's notes, list by list

abbrev place : SessionId → Dir → ℕ → Place
place session dir offset = record { session = session; dir = dir; offset = offset }

pub some_none : {A : Type 0} (x : A) → Some x ≡ None → ⊥
some_none x e = absurd cc

in-other : {A : Type 0} (k l : ListName) (qs : List Place) (q : Place) → (list_rank k ≡ list_rank l → ⊥)
    → Contains (map (listed k) qs) (listed l q) → A
in-other k l qs q apart h = let w = map-has (listed k) qs (listed l q) h in absurd (apart (ap (λ (e : Listed). list_rank e.list) w.2))

in-this : (k : ListName) (qs : List Place) (q : Place) → Contains (map (listed k) qs) (listed k q) → Contains qs q
in-this k qs q h = let w = map-has (listed k) qs (listed k q) h in subst (λ z. Contains qs z) (ap (λ (e : Listed). e.place) w.2) w.1

-- the notes of a list that isn't one of pairs
by-list : (v : PairingValue) (us ds bs : List Place) (l : ListName) (q : Place) → 2 < list_rank l
    → Contains ((pairing_notes v ++ (map (listed list.Unreadable) us ++ map (listed list.Undecodable) ds))
    ++ map (listed list.Broken) bs) (listed l q)
    → Contains (map (listed list.Unreadable) us) (listed l q) ⊎ (Contains (map (listed list.Undecodable) ds) (listed l q)
    ⊎ Contains (map (listed list.Broken) bs) (listed l q))
by-list v us ds bs l q high h =
    let here = listed l q in
    let w = map (listed list.Waiting) (waiting v) in
    let s = map (listed list.StrayAnswers) (strays v) in
    let m = map (listed list.Mismatched) (mismatched v) in
    let u = map (listed list.Unreadable) us in
    let d = map (listed list.Undecodable) ds in
    let b = map (listed list.Broken) bs in
    elim (Contains-append_cases ((w ++ s ++ m) ++ (u ++ d)) b here h) as (λ _. Contains u here ⊎ (Contains d here ⊎ Contains b here)) [
      | inl pdus ↦ elim (Contains-append_cases (w ++ s ++ m) (u ++ d) here pdus) as (λ _. Contains u here ⊎ (Contains d here ⊎ Contains b here)) [
        | inl pairs ↦ elim (Contains-append_cases (w ++ s) m here pairs) as (λ _. Contains u here ⊎ (Contains d here ⊎ Contains b here)) [
          | inl others ↦ elim (Contains-append_cases w s here others) as (λ _. Contains u here ⊎ (Contains d here ⊎ Contains b here)) [
            | inl waits ↦ in-other list.Waiting l (waiting v) q (λ (is : 0 ≡ list_rank l). absurd (omega (arith, is, high))) waits
            | inr strayed ↦ in-other list.StrayAnswers l (strays v) q (λ (is : 1 ≡ list_rank l). absurd (omega (arith, is, high))) strayed
          ]
          | inr disagreed ↦ in-other list.Mismatched l (mismatched v) q (λ (is : 2 ≡ list_rank l). absurd (omega (arith, is, high))) disagreed
        ]
        | inr contents ↦ elim (Contains-append_cases u d here contents) as (λ _. Contains u here ⊎ (Contains d here ⊎ Contains b here)) [
          | inl unread ↦ inl unread
          | inr undecoded ↦ inr (inl undecoded)
        ]
      ]
      | inr breaks ↦ inr (inr breaks)
    ]

module _ (e : ℕ × Session) (q : Place) where
  abbrev client : List StoredPdu
  client = kept_pdus e.1.client

  abbrev centre : List StoredPdu
  centre = kept_pdus e.1.centre

  abbrev unreadables : List Place
  unreadables = unreadable (origin_of e) centre

  abbrev undecodables : List Place
  undecodables = undecodable (origin_of e) client centre

  abbrev breaks : List Place
  breaks = broken (origin_of e) (tail_of (values e.1.client)) (tail_of (values e.1.centre))

  abbrev of_pairs : List Listed
  of_pairs = pairing_notes (session_pairing e)

  abbrev of_contents : List Listed
  of_contents = map (listed list.Unreadable) unreadables ++ map (listed list.Undecodable) undecodables

  pub unreadable-noted : Contains (session_notes e) (listed list.Unreadable q) → Contains unreadables q
  unreadable-noted h = elim (by-list (session_pairing e) unreadables undecodables breaks list.Unreadable q (omega arith) h) as (λ _.
      Contains unreadables q) [
        | inl here ↦ in-this list.Unreadable unreadables q here
        | inr (inl other) ↦ in-other list.Undecodable list.Unreadable undecodables q (λ (is : 7 ≡ 6). absurd (omega (arith, is))) other
        | inr (inr other) ↦ in-other list.Broken list.Unreadable breaks q (λ (is : 8 ≡ 6). absurd (omega (arith, is))) other
      ]

  pub undecodable-noted : Contains (session_notes e) (listed list.Undecodable q) → Contains undecodables q
  undecodable-noted h = elim (by-list (session_pairing e) unreadables undecodables breaks list.Undecodable q (omega arith)
      h) as (λ _. Contains undecodables q) [
        | inl other ↦ in-other list.Unreadable list.Undecodable unreadables q (λ (is : 6 ≡ 7). absurd (omega (arith, is))) other
        | inr (inl here) ↦ in-this list.Undecodable undecodables q here
        | inr (inr other) ↦ in-other list.Broken list.Undecodable breaks q (λ (is : 8 ≡ 7). absurd (omega (arith, is))) other
      ]

  pub broken-noted : Contains (session_notes e) (listed list.Broken q) → Contains breaks q
  broken-noted h = elim (by-list (session_pairing e) unreadables undecodables breaks list.Broken q (omega arith) h) as (λ _. Contains breaks q) [
    | inl other ↦ in-other list.Unreadable list.Broken unreadables q (λ (is : 6 ≡ 8). absurd (omega (arith, is))) other
    | inr (inl other) ↦ in-other list.Undecodable list.Broken undecodables q (λ (is : 7 ≡ 8). absurd (omega (arith, is))) other
    | inr (inr here) ↦ in-this list.Broken breaks q here
  ]

  pub noted-unreadable : Contains unreadables q → Contains (session_notes e) (listed list.Unreadable q)
  noted-unreadable h =
      Contains-append_left (of_pairs ++ of_contents) (map (listed list.Broken) breaks) (listed list.Unreadable q)
      (Contains-append_right of_pairs of_contents (listed list.Unreadable q)
      (Contains-append_left (map (listed list.Unreadable) unreadables) (map (listed list.Undecodable) undecodables)
      (listed list.Unreadable q) (has-map (listed list.Unreadable) unreadables q h)))

  pub noted-undecodable : Contains undecodables q → Contains (session_notes e) (listed list.Undecodable q)
  noted-undecodable h =
      Contains-append_left (of_pairs ++ of_contents) (map (listed list.Broken) breaks) (listed list.Undecodable q)
      (Contains-append_right of_pairs of_contents (listed list.Undecodable q)
      (Contains-append_right (map (listed list.Unreadable) unreadables) (map (listed list.Undecodable) undecodables)
      (listed list.Undecodable q) (has-map (listed list.Undecodable) undecodables q h)))

  pub noted-broken : Contains breaks q → Contains (session_notes e) (listed list.Broken q)
  noted-broken h = Contains-append_right (of_pairs ++ of_contents) (map (listed list.Broken) breaks) (listed list.Broken q)
      (has-map (listed list.Broken) breaks q h)

  -- ---- a session's places, and what stands there

  -- the PDU at a place of a session, whose content passes a test
  abbrev pub Passes : (Content → Bool) → Type 0
  Passes test = (p : StoredPdu) × Contains (kept_pdus (direction q.dir e.1)) p × (p.offset ≡ q.offset) × (test p.content ≡ true)

  pub place-has : (test : Content → Bool) (d : Dir) → Contains (places_where test (origin_of e) d (kept_pdus (direction d e.1))) q
      → (e.0 ≡ q.session.0) × (d ≡ q.dir) × Passes test
  place-has test d h =
      let w = map-has (place_of (origin_of e) d) (filter (λ (p : StoredPdu). test p.content) (kept_pdus (direction d e.1))) q h in
      let f = filter-has (λ (p : StoredPdu). test p.content) (kept_pdus (direction d e.1)) w.0 w.1 in
      let dir : d ≡ q.dir = ap (λ (x : Place). x.dir) w.2 in (
        ap (λ (x : Place). x.session.0) w.2,
        dir,
        (
          w.0,
          subst (λ (x : Dir). Contains (kept_pdus (direction x e.1)) w.0) dir f.0,
          ap
              (λ (x : Place). x.offset) w.2,
          f.1,
        ),
      )

  has-place : (test : Content → Bool) → e.0 ≡ q.session.0 → Passes test
      → Contains (places_where test (origin_of e) q.dir (kept_pdus (direction q.dir e.1))) q
  has-place test number w =
      let is : place_of (origin_of e) q.dir w.0 ≡ q = λ i. record { session = record { 0 = number i }; dir = q.dir; offset = w.2 i } in
      subst (λ (x : Place). Contains (places_where test (origin_of e) q.dir (kept_pdus (direction q.dir e.1))) x) is
      (has-map (place_of (origin_of e) q.dir) (filter (λ (p : StoredPdu). test p.content) (kept_pdus (direction q.dir e.1))) w.0
      (has-filter (λ (p : StoredPdu). test p.content) (kept_pdus (direction q.dir e.1)) w.0 w.1 w.3))

  pub undecodable-there : Contains undecodables q → (e.0 ≡ q.session.0) × Passes is_undecodable
  undecodable-there h = elim (Contains-append_cases (places_where is_undecodable (origin_of e) FromClient client)
      (places_where is_undecodable (origin_of e) FromCentre centre) q h)
      as (λ _. (e.0 ≡ q.session.0) × Passes is_undecodable) [
        | inl here ↦ (let w = place-has is_undecodable FromClient here in (w.0, w.2))
        | inr here ↦ (let w = place-has is_undecodable FromCentre here in (w.0, w.2))
      ]

  pub there-undecodable : e.0 ≡ q.session.0 → Passes is_undecodable → Contains undecodables q
  there-undecodable number w = by q.dir (has-place is_undecodable number w)
    where
      by : (d : Dir) → Contains (places_where is_undecodable (origin_of e) d (kept_pdus (direction d e.1))) q → Contains undecodables q
      by FromClient h = Contains-append_left (places_where is_undecodable (origin_of e) FromClient client)
          (places_where is_undecodable (origin_of e) FromCentre centre) q h
      by FromCentre h = Contains-append_right (places_where is_undecodable (origin_of e) FromClient client)
          (places_where is_undecodable (origin_of e) FromCentre centre) q h

  pub there-unreadable : e.0 ≡ q.session.0 → q.dir ≡ FromCentre → Passes is_unreadable → Contains unreadables q
  there-unreadable number dir w =
      subst (λ (d : Dir). Contains (places_where is_unreadable (origin_of e) d (kept_pdus (direction d e.1))) q) dir
      (has-place is_unreadable number w)

  break-has : (d : Dir) (at : Option ℕ) → Contains (option_to_list (option_map (λ (offset : ℕ). place (origin_of e).session d offset) at)) q
      → (e.0 ≡ q.session.0) × (d ≡ q.dir) × (at ≡ Some q.offset)
  break-has d None h = none-in q h
  break-has d (Some at) h =
      let is : place (origin_of e).session d at ≡ q = one-is (place (origin_of e).session d at) q h in
      (ap (λ (x : Place). x.session.0) is, ap (λ (x : Place). x.dir) is, ap (λ (x : Place). Some x.offset) is)

  has-break : e.0 ≡ q.session.0 → (at : Option ℕ) → at ≡ Some q.offset
      → Contains (option_to_list (option_map (λ (offset : ℕ). place (origin_of e).session q.dir offset) at)) q
  has-break number at so =
      let is : place (origin_of e).session q.dir q.offset ≡ q = λ i. record { session = record { 0 = number i }; dir = q.dir; offset = q.offset } in
      subst (λ (o : Option ℕ). Contains (option_to_list (option_map (λ (offset : ℕ). place (origin_of e).session q.dir offset) o)) q) (sym so)
      (subst (λ (x : Place). Contains (place (origin_of e).session q.dir q.offset ∷ []) x) is
      (first-one (place (origin_of e).session q.dir q.offset) []))

  -- a direction of the session is broken at the place
  abbrev pub Breaks : Type 0
  Breaks = (tail_of (values (direction q.dir e.1))).broken ≡ Some q.offset

  pub broken-there : Contains breaks q → (e.0 ≡ q.session.0) × Breaks
  broken-there h = elim (Contains-append_cases (option_to_list (broken_at (origin_of e) FromClient (tail_of (values e.1.client))))
      (option_to_list (broken_at (origin_of e) FromCentre (tail_of (values e.1.centre)))) q h)
      as (λ _. (e.0 ≡ q.session.0) × Breaks) [
        | inl here ↦ turned FromClient (break-has FromClient (tail_of (values e.1.client)).broken here)
        | inr here ↦ turned FromCentre (break-has FromCentre (tail_of (values e.1.centre)).broken here)
      ]
    where
      turned : (d : Dir) → (e.0 ≡ q.session.0) × (d ≡ q.dir) × ((tail_of (values (direction d e.1))).broken ≡ Some q.offset)
          → (e.0 ≡ q.session.0) × Breaks
      turned d w = (w.0, subst (λ (x : Dir). (tail_of (values (direction x e.1))).broken ≡ Some q.offset) w.1 w.2)

  pub there-broken : e.0 ≡ q.session.0 → Breaks → Contains breaks q
  there-broken number so = by q.dir (has-break number (tail_of (values (direction q.dir e.1))).broken so)
    where
      by : (d : Dir) → Contains (option_to_list (broken_at (origin_of e) d (tail_of (values (direction d e.1))))) q → Contains breaks q
      by FromClient h = Contains-append_left (option_to_list (broken_at (origin_of e) FromClient (tail_of (values e.1.client))))
          (option_to_list (broken_at (origin_of e) FromCentre (tail_of (values e.1.centre)))) q h
      by FromCentre h = Contains-append_right (option_to_list (broken_at (origin_of e) FromClient (tail_of (values e.1.client))))
          (option_to_list (broken_at (origin_of e) FromCentre (tail_of (values e.1.centre)))) q h
