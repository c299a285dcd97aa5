-- What is found among entries, and what is alone among them.
use Rattle.std.proofs.Common.{◌≡◌, ◌≢◌, ℕ, suc, Bool, true, false, cond, List, [], ◌∷◌, ◌++◌, Option, Some, None, refl, sym, ap, ◌∙◌, subst, arith}
use Rattle.std.specs.Prelude.{◌==◌, ◌&&◌, map, filter, slice_get, option_and_then, option_map, is_none, count_by}
use Rattle.std.specs.List.Sorted.{IsStrictlySortedBy}
use Rattle.std.proofs.lemmas.Bool.Decides.{nat_tests}
use Rattle.std.proofs.lemmas.List.{map-append}
use Rattle.std.proofs.lemmas.List.Elements.{filter-append}
use Rattle.std.proofs.lemmas.List.Kept.{IsStrictlySortedBy-filter}
use Rattle.smq_kit.specs.declared.names.SessionId.{SessionId}
use Rattle.smq_kit.specs.declared.place.Dir.{Dir}
use Rattle.smq_kit.specs.declared.place.Dir.TheVariants.{FromClient, FromCentre}
use Rattle.smq_kit.specs.declared.place.Place.{Place}
use Rattle.smq_kit.specs.Orders.{place_cmp}
use Rattle.smq_pdu.specs.Header.{Header}
use Rattle.smq_pair.specs.declared.paired_pdu.PairedPdu.{PairedPdu}
use Rattle.smq_pair.specs.declared.paired_pdu.Role.{Role}
use Rattle.smq_pair.specs.declared.paired_pdu.Role.TheVariants.{Request, Response}
use Rattle.smq_pair.specs.declared.paired_pdu.Series.{Series}
use Rattle.smq_pair.specs.Paired.{no_pdus}
use Rattle.smq_pair.specs.Pairing.{PlacedHeader, PairingValue, pdus_from, opposite, pair_at, places_of}
use Rattle.smq_pair.specs.Growth.{AreInOrder}
use Rattle.smq_pair.specs.within.Turns.{count_in, is_of, is_on, headers_from, partner_of}
use Rattle.smq_pair.specs.within.Stream.{Held}
use Rattle.smq_pair.specs.within.Kept.{Entries, alone_from, at_offset, entries_from, header_of, held_at, is_alone, kept_at, pair_found, partner_in, partner_kept, pdus_in, placed, places_alone}
use Rattle.smq_pair.specs.within.Waits.{Holds, Waits, series_in}
use Rattle.smq_pair.proofs.Lists.{some-is}
use Rattle.std.proofs.lemmas.Bool.{eqb-true}
use Rattle.smq_pair.proofs.Standing.{pair_either, pair-here, pair-nowhere, ascend-filter, IsNowhere}
use Rattle.smq_pair.proofs.Held.{stands-kept, none-kept}
use Rattle.smq_pair.proofs.Entries.{entries-ascend, pdu-kept, entry-at, one-session}
use Rattle.smq_pair.proofs.Steps.{pair-found, partner-kept}

-- ---- the pair at a place

-- what is kept at a place of the session has the pair that is found there
found-by : (m : Waits) (es : Entries) (d : Dir) (offset : ℕ) (x : PairedPdu) → Holds m es → held_at offset (entries_from d es) ≡ Some x
    → pair_found (at_offset es.session d offset) x (partner_kept d x es) ≡ pair_at (pdus_in es) (at_offset es.session d offset)
found-by m es d offset x h is = let there = stands-kept (entries_from d es) offset x is in pair-found m es d there.0 (offset, x) h there.1

-- and where nothing is kept nothing stands
nowhere-kept : (es : Entries) (q : Place) → AreInOrder (pdus_in es) → kept_at q es ≡ None → IsNowhere (pdus_from q.dir (pdus_in es)) q
nowhere-kept es q order none i p at same =
    let e = entry-at q.dir es i p at in
    let is : placed es.session q.dir e.0 ≡ p = some-is _ _ (sym (pdu-kept q.dir es i e.0 e.1) ∙ at) in
    let place : at_offset es.session q.dir e.0.0 ≡ q = ap (λ (y : PlacedHeader). y.place) is ∙ same in
    let session : es.session.0 ≡ q.session.0 = ap (λ (r : Place). r.session.0) place in
    let its : (q.session.0 == es.session.0) ≡ true = grind (arith, nat_tests, session) in
    none-kept (entries_from q.dir es) q.offset (entries-ascend es q.dir order)
    (ap (λ b. cond b (held_at q.offset (entries_from q.dir es)) None) (sym its) ∙ none) i e.0 e.1
    (ap (λ (r : Place). r.offset) place)

pub none-at : (es : Entries) (v : PairingValue) (q : Place) → AreInOrder (pdus_in es) → pdus_in es ≡ v → None ≡ kept_at q es
    → None ≡ pair_at v q
none-at es v q order view is =
    sym (pair-nowhere (pdus_in es) q (nowhere-kept es q order (sym is))) ∙ ap (λ (w : PairingValue). pair_at w q) view

pub found-at : (m : Waits) (es : Entries) (v : PairingValue) (q : Place) (x : PairedPdu) → Holds m es → pdus_in es ≡ v
    → Some x ≡ kept_at q es → pair_found q x (partner_kept q.dir x es) ≡ pair_at v q
found-at m es v q x h view is =
    by_session (q.session.0 == es.session.0) refl (sym is) ∙ ap (λ (w : PairingValue). pair_at w q) view
  where
    by_session : (b : Bool) → (q.session.0 == es.session.0) ≡ b → cond b (held_at q.offset (entries_from q.dir es)) None ≡ Some x
        → pair_found q x (partner_kept q.dir x es) ≡ pair_at (pdus_in es) q
    by_session true same there =
        subst (λ (s : SessionId). pair_found (at_offset s q.dir q.offset) x (partner_kept q.dir x es) ≡ pair_at (pdus_in es) (at_offset s q.dir q.offset))
        (sym (one-session q.session es.session (eqb-true q.session.0 es.session.0 same))) (found-by m es q.dir q.offset x h there)
    by_session false same there = absurd cc

-- ---- a pairing of no PDUs

no_headers : (d : Dir) → headers_from d no_pdus ≡ []
no_headers FromClient = refl
no_headers FromCentre = refl

none_of : (s : Series) → count_in no_pdus s ≡ 0
none_of s = ap (count_by (is_of s.side s.seq)) (no_headers s.dir)

no_entries : (d : Dir) (s : SessionId) (i : ℕ) (e : Held) → slice_get (entries_from d (record { session = s; client = []; centre = [] })) i ≢ Some e
no_entries FromClient s i e at = absurd cc
no_entries FromCentre s i e at = absurd cc

none_hold : (s : SessionId) → Holds [] (record { session = s; client = []; centre = [] })
unfolding IsStrictlySortedBy
none_hold s = record {
  in_order = record { client = refl; centre = refl; ascend = tt };
  waits = λ x. none_of (series_in x Request) ∙ sym (none_of (series_in x Response));
  links = λ d i e at. absurd (no_entries d s i e at);
}

pub holds-none : (m : Waits) (es : Entries) → m ≡ [] → es.client ≡ [] → es.centre ≡ [] → Holds m es
holds-none m es waits client centre =
    subst (λ (n : Waits). Holds n es) (sym waits) (subst (Holds [])
    (λ i. record { session = es.session; client = sym client i; centre = sym centre i }) (none_hold es.session))

-- ---- what is alone

none_both : {X Y Z : Type 0} (f : X → Y) (g : X → Z) (xs : List X) (o : Option ℕ)
    → is_none (option_and_then (λ i. option_map f (slice_get xs i)) o) ≡ is_none (option_and_then (λ i. option_map g (slice_get xs i)) o)
none_both f g xs None = refl
none_both f g xs (Some i) =
    elim (slice_get xs i) as (λ x. is_none (option_map f x) ≡ is_none (option_map g x)) [ None ↦ refl | Some x ↦ refl ]

-- an entry has no partner where there is no pair at its place
pub alone-is : (m : Waits) (es : Entries) (d : Dir) (i : ℕ) (e : Held) → Holds m es → slice_get (entries_from d es) i ≡ Some e
    → is_none (partner_in e.1.link) ≡ is_none (pair_at (pdus_in es) (at_offset es.session d e.0))
alone-is m es d i e h at =
    ap is_none (partner-kept m es d i e h at)
    ∙ none_both (λ p. p.place.offset) (pair_either (placed es.session d e)) (pdus_from (opposite d) (pdus_in es))
    (partner_of (pdus_in es) d i (header_of e.1))
    ∙ sym (ap is_none (pair-here (pdus_in es) d i (placed es.session d e) h.in_order (pdu-kept d es i e at)))

module _ (m : Waits) (es : Entries) (side : Role) (h : Holds m es) where
  abbrev is_free : Place → Bool
  is_free q = is_none (pair_at (pdus_in es) q)

  -- the places of those that pass, and of those that are alone among them
  abbrev places_on : List PlacedHeader → List Place
  places_on ps = map (λ (p : PlacedHeader). p.place) (filter (λ (p : PlacedHeader). is_on side p.header) ps)

  alone-among : (d : Dir) (xs : List Held)
      → ((i : ℕ) (e : Held) → slice_get xs i ≡ Some e → is_none (partner_in e.1.link) ≡ is_free (at_offset es.session d e.0))
      → alone_from side es.session d xs ≡ filter is_free (places_on (map (placed es.session d) xs))
  alone-among d [] h = refl
  alone-among d (x ∷ xs) h =
      let f : Held → Place = λ e. at_offset es.session d e.0 in
      let alone = filter (λ (e : Held). is_alone side e.1) xs in
      let kept = filter (λ (p : PlacedHeader). is_on side p.header) (map (placed es.session d) xs) in
      let free = filter is_free (map (λ (p : PlacedHeader). p.place) kept) in
      let later = alone-among d xs (λ i. h (suc i)) in
      elim (is_on side (header_of x.1)) as (λ a. map f (cond (a && is_none (partner_in x.1.link)) (x ∷ alone) alone)
      ≡ filter is_free (map (λ (p : PlacedHeader). p.place) (cond a (placed es.session d x ∷ kept) kept))) [
        | true ↦ ap (λ b. map f (cond b (x ∷ alone) alone)) (h 0 x refl) ∙ elim (is_free (f x)) as
            (λ b. map f (cond b (x ∷ alone) alone) ≡ cond b (f x ∷ free) free) [ true ↦ ap (λ qs. f x ∷ qs) later | false ↦ later ]
        | false ↦ later
      ]

  pub alone-places : places_alone side es ≡ filter is_free (places_of (is_on side) (pdus_in es))
  alone-places =
      let client = (pdus_in es).client in
      let centre = (pdus_in es).centre in
      (λ i. alone-among FromClient es.client (λ i e. alone-is m es FromClient i e h) i
      ++ alone-among FromCentre es.centre (λ i e. alone-is m es FromCentre i e h) i)
      ∙ sym (filter-append is_free (places_on client) (places_on centre))
      ∙ ap (filter is_free) (sym (ap (map (λ (p : PlacedHeader). p.place)) (filter-append (λ (p : PlacedHeader). is_on side p.header) client centre)
      ∙ map-append (λ (p : PlacedHeader). p.place) (filter (λ (p : PlacedHeader). is_on side p.header) client)
      (filter (λ (p : PlacedHeader). is_on side p.header) centre)))

-- their places ascend
pub alone-ascend : (v : PairingValue) (test : Header → Bool) → AreInOrder v
    → IsStrictlySortedBy place_cmp (filter (λ q. is_none (pair_at v q)) (places_of test v))
alone-ascend v test o =
    IsStrictlySortedBy-filter place_cmp (λ q. is_none (pair_at v q)) (places_of test v)
    (ascend-filter (λ (p : PlacedHeader). p.place) (λ (p : PlacedHeader). test p.header) (v.client ++ v.centre) o.ascend)
