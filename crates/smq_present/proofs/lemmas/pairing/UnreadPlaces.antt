-- The places that are noted as unreadable, undecodable and broken, of all sessions.
use Rattle.std.proofs.Common.{◌≡◌, ◌⊎◌, ℕ, Bool, true, false, cond, List, [], ◌∷◌, ◌++◌, Option, Some, None, inl, inr, subst, refl, sym, ap, ◌∙◌}
use Rattle.std.specs.Prelude.{◌↔◌, Contains, IsTrue, map, is_some}
use Rattle.std.specs.List.{flat_map, list_any}
use Rattle.std.specs.Cmp.{eq_by_cmp_equiv, nat_cmp_total}
use Rattle.std.specs.Ordering.{nat_cmp, eq_by_cmp}
use Rattle.std.specs.FinMap.{FinMap, entries, get, contains_key, find, get-entries, get-from_entries, nat_cmp-IsAntisymmetric}
use Rattle.std.specs.FinMap.Entries.{is_some-find}
use Rattle.std.proofs.lemmas.Bool.{false≢true}
use Rattle.std.proofs.lemmas.List.Elements.{All-from_recursion, All-contains}
use Rattle.std.proofs.lemmas.Map.Views.{tells_apart, Contains-from_any, list_any-from_Contains}
use Rattle.smq_kit.specs.declared.place.Dir.TheVariants.{FromCentre}
use Rattle.smq_kit.specs.declared.place.Place.{Place}
use Rattle.smq_kit.proofs.MapLemmas.{get-entry}
use Rattle.smq_frame.specs.Stream.{Octet, values, handed_in}
use Rattle.smq_frame.specs.Tail.{TailValue, tail_of, tail_after}
use Rattle.smq_frame.proofs.Streams.{stream_grows, tail_of-nil}
use Rattle.smq_receipt.specs.declared.reading.Reading.TheVariants as v
use Rattle.smq_tally.specs.declared.list.List.{List as ListName}
use Rattle.smq_tally.specs.declared.list.List.TheVariants as list
use Rattle.smq_tally.specs.declared.list.Listed.{Listed}
use Rattle.smq_tally.specs.Lists.{listed, listed_cmp, listed_set}
use Rattle.smq_tally.specs.within.ListOrder.{listed_total}
use Rattle.smq_tally.proofs.ListOrders.{listed_exact}
use Rattle.smq_present.specs.present.Content.{Content}
use Rattle.smq_present.specs.present.Content as c
use Rattle.smq_present.specs.declared.present.kept.StoredPdu.{StoredPdu}
use Rattle.smq_present.specs.declared.present.session.Session.{Session}
use Rattle.smq_present.specs.present.Kept.{kept_pdus, is_undecodable, is_unreadable}
use Rattle.smq_present.specs.present.Present.{direction, octets_in}
use Rattle.smq_present.specs.pairing.Traffic.{session_notes, traffic_of}
use Rattle.smq_present.specs.pairing.Places.{octets_at, StandsAt, Says}
use Rattle.smq_present.proofs.lemmas.present.Growth.{kept_pdus-nil}
use Rattle.smq_present.proofs.lemmas.pairing.Members.{first-one, later-one, none-in, flat-has, has-flat}
use Rattle.smq_present.proofs.lemmas.pairing.SessionNotes.{some_none, unreadable-noted, undecodable-noted, broken-noted, noted-unreadable, noted-undecodable, noted-broken, Passes, place-has, undecodable-there, there-undecodable, there-unreadable, broken-there, there-broken}

-- ---- what a set of listed places has, and which sessions are entries

keys-are : (es : List Listed) → map (λ (e : Listed × Unit {0}). e.0) (map (λ e. (e, tt)) es) ≡ es
keys-are [] = refl
keys-are (e ∷ es) = ap (λ l. e ∷ l) (keys-are es)

set-any : (es : List Listed) (q : Listed) → contains_key (listed_set es) q ≡ list_any (eq_by_cmp listed_cmp q) es
set-any es q =
    ap is_some (get-from_entries listed_total (map (λ e. (e, tt {0})) es) q)
    ∙ is_some-find listed_cmp q (map (λ e. (e, tt {0})) es)
    ∙ ap (list_any (eq_by_cmp listed_cmp q)) (keys-are es)

set-has : (es : List Listed) (q : Listed) → contains_key (listed_set es) q ≡ true → Contains es q
set-has es q h = Contains-from_any (tells_apart listed_exact) q es (sym (set-any es q) ∙ h)

has-set : (es : List Listed) (q : Listed) → Contains es q → contains_key (listed_set es) q ≡ true
has-set es q h = set-any es q ∙ list_any-from_Contains (eq_by_cmp_equiv listed_total) q es h

entry-found : (n : ℕ) (s : Session) (es : List (ℕ × Session)) → find nat_cmp n es ≡ Some s → Contains es (n, s)
entry-found n s [] h = absurd cc
entry-found n s (e ∷ es) h = by (entry-found n s es) (eq_by_cmp nat_cmp n e.0) refl h
  where
    by : (find nat_cmp n es ≡ Some s → Contains es (n, s)) → (b : Bool) → eq_by_cmp nat_cmp n e.0 ≡ b
        → cond b (Some e.1) (find nat_cmp n es) ≡ Some s → Contains (e ∷ es) (n, s)
    by rest true same first =
        let number : n ≡ e.0 = tells_apart nat_cmp-IsAntisymmetric n e.0 same in
        let session : e.1 ≡ s = cc in
        subst (λ (x : ℕ × Session). Contains (e ∷ es) x) (λ i. (sym number i, session i)) (first-one e es)
    by rest false same later = later-one e es (n, s) (rest later)

session-found : (m : FinMap nat_cmp Session) (e : ℕ × Session) → Contains (entries m) e → get m e.0 ≡ Some e.1
session-found m e h = All-contains (λ (x : ℕ × Session). get m x.0 ≡ Some x.1) (entries m) e
    (All-from_recursion _ _ (get-entry nat_cmp_total nat_cmp-IsAntisymmetric m)) h

found-session : (m : FinMap nat_cmp Session) (n : ℕ) (s : Session) → get m n ≡ Some s → Contains (entries m) (n, s)
found-session m n s h = entry-found n s (entries m) (sym (get-entries m n) ∙ h)

-- ---- what the tests of contents say

undecodable-is : (content : Content) → is_undecodable content ≡ true → content ≡ c.Undecodable
undecodable-is (c.Submit submit) h = absurd (false≢true h)
undecodable-is (c.SubmitAnswer id) h = absurd (false≢true h)
undecodable-is (c.Deliver reading) h = absurd (false≢true h)
undecodable-is (c.DataSm submit reading) h = absurd (false≢true h)
undecodable-is c.Other h = absurd (false≢true h)
undecodable-is c.Undecodable h = refl

abbrev Unusable : Content → Type 0
Unusable content = Says content v.NoId ⊎ Says content v.NoState

unreadable-is : (content : Content) → is_unreadable content ≡ true → Unusable content
unreadable-is (c.Submit submit) h = absurd (false≢true h)
unreadable-is (c.SubmitAnswer id) h = absurd (false≢true h)
unreadable-is (c.Deliver (v.Receipt receipt)) h = absurd (false≢true h)
unreadable-is (c.Deliver v.NoId) h = inl (inl refl)
unreadable-is (c.Deliver v.NoState) h = inr (inl refl)
unreadable-is (c.Deliver v.NotReceipt) h = absurd (false≢true h)
unreadable-is (c.DataSm submit (v.Receipt receipt)) h = absurd (false≢true h)
unreadable-is (c.DataSm submit v.NoId) h = inl (inr (submit, refl))
unreadable-is (c.DataSm submit v.NoState) h = inr (inr (submit, refl))
unreadable-is (c.DataSm submit v.NotReceipt) h = absurd (false≢true h)
unreadable-is c.Other h = absurd (false≢true h)
unreadable-is c.Undecodable h = absurd (false≢true h)

is-unreadable : (content : Content) → Unusable content → is_unreadable content ≡ true
is-unreadable content (inl (inl is)) = ap is_unreadable is
is-unreadable content (inl (inr is)) = ap is_unreadable is.1
is-unreadable content (inr (inl is)) = ap is_unreadable is
is-unreadable content (inr (inr is)) = ap is_unreadable is.1

-- ---- all sessions

module _ (sessions : FinMap nat_cmp Session) (q : Place) where
  noted-in : (l : ListName) → contains_key (traffic_of sessions).notes (listed l q) ≡ true
      → (e : ℕ × Session) × (get sessions e.0 ≡ Some e.1) × Contains (session_notes e) (listed l q)
  noted-in l h =
      let w = flat-has session_notes (entries sessions) (listed l q) (set-has (flat_map session_notes (entries sessions)) (listed l q) h) in
      (w.0, session-found sessions w.0 w.1, w.2)

  in-noted : (l : ListName) (s : Session) → get sessions q.session.0 ≡ Some s → Contains (session_notes (q.session.0, s)) (listed l q)
      → contains_key (traffic_of sessions).notes (listed l q) ≡ true
  in-noted l s found h =
      has-set (flat_map session_notes (entries sessions)) (listed l q)
      (has-flat session_notes (entries sessions) (q.session.0, s) (listed l q) (found-session sessions q.session.0 s found) h)

  octets-of : (e : ℕ × Session) → get sessions e.0 ≡ Some e.1 → e.0 ≡ q.session.0 → direction q.dir e.1 ≡ octets_at sessions q
  octets-of e found number = sym (ap (octets_in q.dir) (ap (get sessions) (sym number) ∙ found))

  stands : (test : Content → Bool) (e : ℕ × Session) → get sessions e.0 ≡ Some e.1 → e.0 ≡ q.session.0 → (w : Passes e q test)
      → StandsAt sessions q w.0
  stands test e found number w = record {
    among = subst (λ (octets : List Octet). Contains (kept_pdus octets) w.0)
        (octets-of e found number) w.1;
    offset = w.2;
  }

  -- where a PDU stands, its session is present
  present : (p : StoredPdu) → StandsAt sessions q p → (s : Session) × (get sessions q.session.0 ≡ Some s) × Contains (kept_pdus (direction q.dir s)) p
  present p at = by (get sessions q.session.0) refl
    where
      by : (o : Option Session) → get sessions q.session.0 ≡ o → (s : Session) × (get sessions q.session.0 ≡ Some s)
          × Contains (kept_pdus (direction q.dir s)) p
      by None found = none-in p (subst (λ (ps : List StoredPdu). Contains ps p) kept_pdus-nil
          (subst (λ (o : Option Session). Contains (kept_pdus (octets_in q.dir o)) p) found at.among))
      by (Some s) found = (s, found, subst (λ (o : Option Session). Contains (kept_pdus (octets_in q.dir o)) p) found at.among)

  pub undecodable-places : IsTrue (contains_key (traffic_of sessions).notes (listed list.Undecodable q))
      ↔ ((p : StoredPdu) × StandsAt sessions q p × (p.content ≡ c.Undecodable))
  undecodable-places = (
    λ h. let n = noted-in list.Undecodable h in
        let w = undecodable-there n.0 q (undecodable-noted n.0 q n.2) in
        (w.1.0, stands is_undecodable n.0 n.1 w.0 w.1, undecodable-is w.1.0.content w.1.3),
    λ w. let s = present w.0 w.1 in
        in-noted list.Undecodable s.0 s.1 (noted-undecodable (q.session.0, s.0) q
        (there-undecodable (q.session.0, s.0) q refl (w.0, s.2, w.1.offset, ap is_undecodable w.2))),
  )

  pub unreadable-places : IsTrue (contains_key (traffic_of sessions).notes (listed list.Unreadable q))
      ↔ ((p : StoredPdu) × StandsAt sessions q p × (q.dir ≡ FromCentre) × (Says p.content v.NoId ⊎ Says p.content v.NoState))
  unreadable-places = (
    λ h. let n = noted-in list.Unreadable h in
        let w = place-has n.0 q is_unreadable FromCentre (unreadable-noted n.0 q n.2) in
        (w.2.0, stands is_unreadable n.0 n.1 w.0 w.2, sym w.1, unreadable-is w.2.0.content w.2.3),
    λ w. let s = present w.0 w.1 in
        in-noted list.Unreadable s.0 s.1 (noted-unreadable (q.session.0, s.0) q
        (there-unreadable (q.session.0, s.0) q refl w.2 (w.0, s.2, w.1.offset, is-unreadable w.0.content w.3))),
  )

  pub broken-places : IsTrue (contains_key (traffic_of sessions).notes (listed list.Broken q))
      ↔ ((tail_of (values (octets_at sessions q))).broken ≡ Some q.offset)
  broken-places = (
    λ h. let n = noted-in list.Broken h in
        let w = broken-there n.0 q (broken-noted n.0 q n.2) in
        subst (λ (octets : List Octet). (tail_of (values octets)).broken ≡ Some q.offset) (octets-of n.0 n.1 w.0) w.1,
    λ so. by (get sessions q.session.0) refl so,
  )
    where
      by : (o : Option Session) → get sessions q.session.0 ≡ o
          → (tail_of (values (octets_in q.dir (get sessions q.session.0)))).broken ≡ Some q.offset
          → contains_key (traffic_of sessions).notes (listed list.Broken q) ≡ true
      by None found so =
          let none : (tail_of []).broken ≡ Some q.offset =
          subst (λ (o : Option Session). (tail_of (values (octets_in q.dir o))).broken ≡ Some q.offset) found so in
          absurd (some_none q.offset (sym none ∙ ap (λ (t : TailValue). t.broken) tail_of-nil))
      by (Some s) found so =
          in-noted list.Broken s found (noted-broken (q.session.0, s) q
          (there-broken (q.session.0, s) q refl (subst (λ (o : Option Session). (tail_of (values (octets_in q.dir o))).broken
          ≡ Some q.offset) found so)))

-- ---- octets that come after a bad length

pub broken-stays : (stream : List Octet) (moment : ℕ) (piece : List ℕ) (at : ℕ) → (tail_of (values stream)).broken ≡ Some at
    → (tail_of (values (stream ++ handed_in moment piece))).broken ≡ Some at
unfolding tail_after
broken-stays stream moment piece at h = ap (λ (t : TailValue). t.broken) (stream_grows stream moment piece).tail ∙ after (tail_of (values stream)) h
  where
    after : (t : TailValue) → t.broken ≡ Some at → (tail_after t piece).broken ≡ Some at
    after t h = rw h refl
