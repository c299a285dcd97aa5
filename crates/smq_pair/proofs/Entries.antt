-- Entries and what they say, with one more, and with one that is given its partner.
use Rattle.std.proofs.Common.{◌≡◌, ◌≢◌, ℕ, zero, suc, Bool, true, List, [], ◌∷◌, ◌++◌, length, Option, Some, None, refl, sym, ap, ◌∙◌, subst, arith}
use Rattle.std.specs.Prelude.{◌==◌, map, option_map, slice_get, slice_set}
use Rattle.std.proofs.lemmas.List.{map-append, length-map}
use Rattle.std.proofs.lemmas.List.Folds.{list_all-append}
use Rattle.std.proofs.lemmas.Option.{slice_get-map}
use Rattle.std.proofs.lemmas.Bool.{and_parts, eqb-true}
use Rattle.std.specs.declared.cmp.Ordering.TheVariants.{Less, Equal}
use Rattle.std.specs.Ordering.{nat_cmp, ordering_then}
use Rattle.std.specs.Cmp.{nat_cmp_is}
use Rattle.std.specs.List.{AllByRecursion, list_all}
use Rattle.std.specs.List.Sorted.{IsStrictlySortedBy}
use Rattle.std.specs.Map.{keys_of}
use Rattle.smq_kit.specs.declared.names.SessionId.{SessionId}
use Rattle.smq_kit.specs.declared.place.Dir.{Dir}
use Rattle.smq_kit.specs.declared.place.Dir.TheVariants.{FromClient, FromCentre}
use Rattle.smq_kit.specs.declared.place.Place.{Place}
use Rattle.smq_kit.specs.Orders.{place_cmp}
use Rattle.smq_pair.specs.declared.paired_pdu.PairedPdu.{PairedPdu}
use Rattle.smq_pair.specs.declared.paired_pdu.PduLink.{PduLink}
use Rattle.smq_pair.specs.declared.paired_pdu.PduLink.TheVariants.{Before, Partner}
use Rattle.smq_pair.specs.Pairing.{PlacedHeader, pdus_from, opposite}
use Rattle.smq_pair.specs.Growth.{AreInOrder, pushed_in}
use Rattle.smq_pair.specs.within.Turns.{headers_from}
use Rattle.smq_pair.specs.within.Stream.{Ascend, Held}
use Rattle.smq_pair.specs.within.Kept.{Entries, are_of_session, at_offset, entries_from, header_of, joined, partner_in, placed, pdus_in}
use Rattle.smq_pair.specs.within.Waits.{Holds, HoldsOf, Waits}
use Rattle.smq_pair.proofs.Keys.{dir_itself}
use Rattle.smq_pair.proofs.Lists.{some-is, get-either, get-mapped}
use Rattle.smq_pair.proofs.Standing.{dir-ascends}
use Rattle.smq_pair.proofs.Held.{linked_to, linked-kept}

-- one more in a direction, the last
abbrev pub appended : Dir → Held → Entries → Entries
appended FromClient e es = record es { client = es.client ++ e ∷ [] }
appended FromCentre e es = record es { centre = es.centre ++ e ∷ [] }

-- entries of which the one at an index of a direction is this
abbrev pub set_in : Dir → ℕ → Held → Entries → Entries
set_in FromClient j e es = record es { client = slice_set es.client j e }
set_in FromCentre j e es = record es { centre = slice_set es.centre j e }

-- entries that are said to be of a session
abbrev pub of_session : SessionId → Entries → Entries
of_session session es = record es { session = session }

-- ---- entries and what they say

pub pdus-kept : (d : Dir) (es : Entries) → pdus_from d (pdus_in es) ≡ map (placed es.session d) (entries_from d es)
pdus-kept FromClient es = refl
pdus-kept FromCentre es = refl

pub pdus-at : (d : Dir) (es : Entries) (i : ℕ) → slice_get (pdus_from d (pdus_in es)) i ≡ option_map (placed es.session d) (slice_get (entries_from d es) i)
pdus-at d es i = ap (λ ps. slice_get ps i) (pdus-kept d es) ∙ slice_get-map (placed es.session d) (entries_from d es) i

pub pdu-kept : (d : Dir) (es : Entries) (i : ℕ) (e : Held) → slice_get (entries_from d es) i ≡ Some e
    → slice_get (pdus_from d (pdus_in es)) i ≡ Some (placed es.session d e)
pdu-kept d es i e at = pdus-at d es i ∙ ap (option_map (placed es.session d)) at

-- the header of an entry stands at its index
pub header-kept : (d : Dir) (es : Entries) (i : ℕ) (e : Held) → slice_get (entries_from d es) i ≡ Some e
    → slice_get (headers_from d (pdus_in es)) i ≡ Some (header_of e.1)
header-kept d es i e at =
    slice_get-map (λ (p : PlacedHeader). p.header) (pdus_from d (pdus_in es)) i
    ∙ ap (option_map (λ (p : PlacedHeader). p.header)) (pdu-kept d es i e at)

-- where a PDU stands, an entry does
pub entry-at : (d : Dir) (es : Entries) (i : ℕ) (p : PlacedHeader) → slice_get (pdus_from d (pdus_in es)) i ≡ Some p
    → (e : Held) × (slice_get (entries_from d es) i ≡ Some e)
entry-at d es i p at = get-mapped (placed es.session d) (entries_from d es) i p (ap (λ ps. slice_get ps i) (sym (pdus-kept d es)) ∙ at)

pub appended-in : (d : Dir) (e : Held) (es : Entries) → pdus_in (appended d e es) ≡ pushed_in d (pdus_in es) (placed es.session d e)
appended-in FromClient e es = ap (λ ps. record (pdus_in es) { client = ps }) (map-append (placed es.session FromClient) es.client (e ∷ []))
appended-in FromCentre e es = ap (λ ps. record (pdus_in es) { centre = ps }) (map-append (placed es.session FromCentre) es.centre (e ∷ []))

pub length-kept : (d : Dir) (es : Entries) → length (pdus_from d (pdus_in es)) ≡ length (entries_from d es)
length-kept d es = ap length (pdus-kept d es) ∙ length-map (entries_from d es) (placed es.session d)

-- an entry of a direction with one more is an old one or the new one
pub appended-get : {A : Type 0} (d f : Dir) (e : Held) (es : Entries) (i : ℕ) (x : Held) → slice_get (entries_from d (appended f e es)) i ≡ Some x
    → (slice_get (entries_from d es) i ≡ Some x → A) → (d ≡ f → i ≡ length (entries_from f es) → x ≡ e → A) → A
appended-get FromClient FromClient e es i x at old new = get-either es.client e i x at old (new refl)
appended-get FromCentre FromCentre e es i x at old new = get-either es.centre e i x at old (new refl)
appended-get _ _ e es i x at old new = old at

-- ---- the session of entries

pub of_session-from : (session : SessionId) (d : Dir) (es : Entries) → entries_from d (of_session session es) ≡ entries_from d es
of_session-from session FromClient es = refl
of_session-from session FromCentre es = refl

pub one-session : (s t : SessionId) → s.0 ≡ t.0 → s ≡ t
one-session s t same = ap (λ n. let session : SessionId = record { 0 = n } in session) same

-- PDUs that are all of a session say so by its number
said : (s t : SessionId) (d : Dir) (xs : List Held) → list_all (λ (p : PlacedHeader). p.place.session.0 == t.0) (map (placed s d) xs) ≡ true
    → map (placed t d) xs ≡ map (placed s d) xs
said s t d [] h = refl
said s t d (x ∷ xs) h =
    ap (λ (r : SessionId). map (placed r d) (x ∷ xs)) (sym (one-session s t (eqb-true s.0 t.0 (and_parts (s.0 == t.0) _ h).0)))

pub of_session-pdus : (session : SessionId) (es : Entries) → are_of_session session (pdus_in es) ≡ true → pdus_in (of_session session es) ≡ pdus_in es
of_session-pdus session es all =
    let is_its : PlacedHeader → Bool = λ p. p.place.session.0 == session.0 in
    let client : List PlacedHeader = (pdus_in es).client in
    let both = and_parts (list_all is_its client) _ (sym (list_all-append is_its client (pdus_in es).centre) ∙ all) in
    λ i. record {
      client = said es.session session FromClient es.client both.0 i;
      centre = said es.session session FromCentre es.centre both.1 i;
    }

pub of_session-holds : (m : Waits) (session : SessionId) (es : Entries) → are_of_session session (pdus_in es) ≡ true → Holds m es
    → Holds m (of_session session es)
of_session-holds m session es all h =
    subst (λ v. HoldsOf v m (of_session session es)) (sym (of_session-pdus session es all)) (record {
      in_order = h.in_order;
      waits = h.waits;
      links = λ d i e at. h.links d i e (ap (λ xs. slice_get xs i) (sym (of_session-from session d es)) ∙ at);
    })

pub of_session-joined : (d : Dir) (q : Place) (o : Option ℕ) (x : PairedPdu) (es : Entries) → joined d q o x es ≡ joined d q o x (of_session q.session es)
of_session-joined FromClient q o x es = refl
of_session-joined FromCentre q o x es = refl

-- ---- an entry that is given its partner

placed-set : (s : SessionId) (d : Dir) (xs : List Held) (j : ℕ) (k : PduLink) (e : Held) → slice_get xs j ≡ Some e
    → map (placed s d) (slice_set xs j (linked_to k e)) ≡ map (placed s d) xs
placed-set s d [] j k e at = refl
placed-set s d (x ∷ xs) zero k e at = ap (λ (y : Held). placed s d y ∷ map (placed s d) xs) (sym (some-is x e at))
placed-set s d (x ∷ xs) (suc j) k e at = ap (λ ps. placed s d x ∷ ps) (placed-set s d xs j k e at)

set-get : {A : Type 0} (xs : List Held) (j : ℕ) (y : Held) (i : ℕ) (x : Held)
    → slice_get (slice_set xs j y) i ≡ Some x → (i ≢ j → slice_get xs i ≡ Some x → A) → (i ≡ j → x ≡ y → A) → A
set-get [] j y i x h old new = absurd cc
set-get (z ∷ zs) zero y zero x h old new = new refl (sym (some-is _ x h))
set-get (z ∷ zs) zero y (suc i) x h old new = old (λ same. absurd (omega (arith, same))) h
set-get (z ∷ zs) (suc j) y zero x h old new = old (λ same. absurd (omega (arith, same))) h
set-get (z ∷ zs) (suc j) y (suc i) x h old new =
    set-get zs j y i x h (λ apart. old (λ same. apart (let one : i ≡ j = omega (arith, same) in one))) (λ same. new (ap suc same))

pub set_in-session : (d : Dir) (j : ℕ) (e : Held) (es : Entries) → (set_in d j e es).session ≡ es.session
set_in-session FromClient j e es = refl
set_in-session FromCentre j e es = refl

pub linked-pdus : (d : Dir) (j : ℕ) (k : PduLink) (e : Held) (es : Entries) → slice_get (entries_from d es) j ≡ Some e
    → pdus_in (set_in d j (linked_to k e) es) ≡ pdus_in es
linked-pdus FromClient j k e es at = ap (λ ps. record (pdus_in es) { client = ps }) (placed-set es.session FromClient es.client j k e at)
linked-pdus FromCentre j k e es at = ap (λ ps. record (pdus_in es) { centre = ps }) (placed-set es.session FromCentre es.centre j k e at)

-- an entry after that is as before, or is the one that is set
pub linked-get : {A : Type 0} (d : Dir) (j : ℕ) (y : Held) (es : Entries) (f : Dir) (i : ℕ) (x : Held)
    → slice_get (entries_from f (set_in d j y es)) i ≡ Some x
    → ((f ≡ d → i ≢ j) → slice_get (entries_from f es) i ≡ Some x → A) → (f ≡ d → i ≡ j → x ≡ y → A) → A
linked-get FromClient j y es FromClient i x h old new = set-get es.client j y i x h (λ apart. old (λ _. apart)) (new refl)
linked-get FromCentre j y es FromCentre i x h old new = set-get es.centre j y i x h (λ apart. old (λ _. apart)) (new refl)
linked-get _ j y es _ i x h old new = old (λ same. absurd cc) h

-- ---- entries that stand in order

place-order : (s : SessionId) (d : Dir) (a b : ℕ) → place_cmp (at_offset s d a) (at_offset s d b) ≡ nat_cmp a b
place-order s d a b = λ i. ordering_then (sym (nat_cmp_is s.0 s.0 Equal refl) i) (ordering_then (dir_itself d i) (nat_cmp a b))

-- a direction's entries stand in order
pub entries-ascend : (es : Entries) (d : Dir) → AreInOrder (pdus_in es) → Ascend (entries_from d es)
unfolding IsStrictlySortedBy
entries-ascend es d o =
    by_list (entries_from d es) (subst (λ ps. IsStrictlySortedBy place_cmp (map (λ (p : PlacedHeader). p.place) ps)) (pdus-kept d es)
    (dir-ascends (pdus_in es) d o))
  where
    above : (a : ℕ) (xs : List Held) → AllByRecursion (λ q. place_cmp (at_offset es.session d a) q ≡ Less)
        (map (λ (p : PlacedHeader). p.place) (map (placed es.session d) xs)) → AllByRecursion (λ b. nat_cmp a b ≡ Less) (keys_of xs)
    above a [] h = tt
    above a (x ∷ xs) h = (sym (place-order es.session d a x.0) ∙ h.0, above a xs h.1)

    by_list : (xs : List Held) → IsStrictlySortedBy place_cmp (map (λ (p : PlacedHeader). p.place) (map (placed es.session d) xs)) → Ascend xs
    by_list [] h = tt
    by_list (x ∷ xs) h = (above x.0 xs h.0, by_list xs h.1)

-- one more in a direction, to which no other is linked
pub joined-alone : (d : Dir) (e : Held) (es : Entries) → partner_in e.1.link ≡ None → joined d (at_offset es.session d e.0) None e.1 es ≡ appended d e es
joined-alone FromClient e es none = rw none refl
joined-alone FromCentre e es none = rw none refl

-- one that has a partner
pub joined-linked : (d : Dir) (e : Held) (es : Entries) (j : ℕ) (y : Held) → partner_in e.1.link ≡ Some y.0
    → Ascend (entries_from (opposite d) es) → slice_get (entries_from (opposite d) es) j ≡ Some y
    → joined d (at_offset es.session d e.0) None e.1 es ≡ appended d e (set_in (opposite d) j (linked_to (Partner e.0) y) es)
joined-linked FromClient e es j y some s at = rw (linked-kept (partner_in e.1.link) (Partner e.0) es.centre j y some s at) refl
joined-linked FromCentre e es j y some s at = rw (linked-kept (partner_in e.1.link) (Partner e.0) es.client j y some s at) refl

-- and one that waits after another
pub joined-before : (d : Dir) (e : Held) (es : Entries) (j : ℕ) (y : Held) → partner_in e.1.link ≡ None
    → Ascend (entries_from d es) → slice_get (entries_from d es) j ≡ Some y
    → joined d (at_offset es.session d e.0) (Some y.0) e.1 es ≡ appended d e (set_in d j (linked_to (Before e.0) y) es)
joined-before FromClient e es j y none s at = rw (none, linked-kept (Some y.0) (Before e.0) es.client j y refl s at) refl
joined-before FromCentre e es j y none s at = rw (none, linked-kept (Some y.0) (Before e.0) es.centre j y refl s at) refl
