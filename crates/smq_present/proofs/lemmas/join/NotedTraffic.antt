-- What the traffic notes, list by list: in six lists what its sessions say, and nothing in the others.
use Rattle.std.proofs.Common.{◌≡◌, ℕ, Bool, true, false, ◌||◌, List, Option, Some, None, refl, ap, ◌∙◌, ◌++◌}
use Rattle.std.specs.Prelude.{◌&&◌, option_and_then, map}
use Rattle.std.specs.Ordering.{eq_by_cmp, nat_cmp}
use Rattle.std.specs.FinMap.{FinMap, find, get}
use Rattle.smq_frame.specs.Stream.{values}
use Rattle.smq_frame.specs.Tail.{tail_of}
use Rattle.smq_pair.specs.Pairing.{waiting, strays}
use Rattle.smq_pair.specs.Growth.{is_among}
use Rattle.smq_tally.specs.declared.list.List.TheVariants as list
use Rattle.smq_tally.specs.Lists.{listed_cmp, listed}
use Rattle.smq_tally.specs.within.ListOrder.{listed_total}
use Rattle.smq_tally.proofs.ListOrders.{listed_exact}
use Rattle.smq_tally.proofs.Listings.{marked}
use Rattle.smq_present.specs.declared.present.session.Session.{Session}
use Rattle.smq_present.specs.present.Kept.{kept_pdus}
use Rattle.smq_present.specs.pairing.Traffic.{Origin, origin_of, pairing_among, mismatched, unreadable, undecodable, notes_among, broken, broken_notes, session_notes, traffic_of}
use Rattle.smq_present.proofs.lemmas.pairing.SessionTraffic.{said-at}
use Rattle.std.specs.List.{list_any}
use Rattle.std.proofs.lemmas.List.Folds.{list_any-append}
use Rattle.smq_kit.specs.declared.place.Place.{Place}
use Rattle.smq_kit.specs.Orders.{place_cmp}
use Rattle.smq_tally.specs.declared.list.List.{List as ListName}
use Rattle.smq_tally.specs.declared.list.Listed.{Listed}
use Rattle.smq_present.specs.declared.present.kept.StoredPdu.{StoredPdu}
use Rattle.smq_present.specs.join.Listings.{same_list}
use Rattle.smq_present.proofs.lemmas.join.ReceiptLists.{any-of-list}
use Rattle.smq_present.proofs.lemmas.join.SessionLists.{find-marks, note_number, noted, notes-own, notes-all}

-- ---- a note among those of PDUs

abbrev pub one_list : (e : Listed) → ListName → List Place → Bool
one_list e name places = same_list e.list name && list_any (eq_by_cmp place_cmp e.place) places

abbrev pub five : Listed → List Place → List Place → List Place → List Place → List Place → Bool
five e w s m u d = ((one_list e list.Waiting w || one_list e list.StrayAnswers s) || one_list e list.Mismatched m) || (one_list e list.Unreadable u || one_list e list.Undecodable d)

pub any-notes : (origin : Origin) (client centre : List StoredPdu) (e : Listed) → list_any (eq_by_cmp listed_cmp e) (notes_among origin client centre)
    ≡ five e (waiting (pairing_among origin client centre)) (strays (pairing_among origin client centre)) (mismatched (pairing_among origin client centre)) (unreadable origin centre) (undecodable origin client centre)
any-notes origin client centre e =
    let test = eq_by_cmp listed_cmp e in
    let v = pairing_among origin client centre in
    let w = map (listed list.Waiting) (waiting v) in
    let s = map (listed list.StrayAnswers) (strays v) in
    let m = map (listed list.Mismatched) (mismatched v) in
    let u = map (listed list.Unreadable) (unreadable origin centre) in
    let d = map (listed list.Undecodable) (undecodable origin client centre) in
    list_any-append test ((w ++ s) ++ m) (u ++ d)
    ∙ (λ i. list_any-append test (w ++ s) m i || list_any-append test u d i)
    ∙ (λ i. (list_any-append test w s i || list_any test m) || (list_any test u || list_any test d))
    ∙ (λ i. ((any-of-list e.list list.Waiting e.place (waiting v) i || any-of-list e.list list.StrayAnswers e.place (strays v) i) || any-of-list e.list list.Mismatched e.place (mismatched v) i)
    || (any-of-list e.list list.Unreadable e.place (unreadable origin centre) i || any-of-list e.list list.Undecodable e.place (undecodable origin client centre) i))

-- ---- the lists in which a session is noted

-- whether a place is in a list, where it is told of each of the lists of pairs, contents and broken directions
abbrev pub in_lists : ListName → Bool → Bool → Bool → Bool → Bool → Bool → Bool
in_lists list.Waiting w s m u d b = w
in_lists list.StrayAnswers w s m u d b = s
in_lists list.Mismatched w s m u d b = m
in_lists list.Unreadable w s m u d b = u
in_lists list.Undecodable w s m u d b = d
in_lists list.Broken w s m u d b = b
in_lists _ w s m u d b = false

-- whether a note is one of a session whose PDUs are these and whose directions are broken at these places
abbrev pub is_noted : Origin → List StoredPdu → List StoredPdu → List Place → Listed → Bool
is_noted origin client centre broken e =
    in_lists e.list (is_among e.place (waiting (pairing_among origin client centre))) (is_among e.place (strays (pairing_among origin client centre)))
    (is_among e.place (mismatched (pairing_among origin client centre))) (is_among e.place (unreadable origin centre))
    (is_among e.place (undecodable origin client centre)) (is_among e.place broken)

or_false : (b : Bool) → (b || false) ≡ b
or_false true = refl
or_false false = refl

six-lists : (name : ListName) (w s m u d b : Bool)
    → (((((same_list name list.Waiting && w) || (same_list name list.StrayAnswers && s)) || (same_list name list.Mismatched && m))
    || ((same_list name list.Unreadable && u) || (same_list name list.Undecodable && d))) || (same_list name list.Broken && b))
    ≡ in_lists name w s m u d b
six-lists list.Waiting w s m u d b =
    or_false (((w || false) || false) || false) ∙ or_false ((w || false) || false) ∙ or_false (w || false) ∙ or_false w
six-lists list.StrayAnswers w s m u d b = or_false ((s || false) || false) ∙ or_false (s || false) ∙ or_false s
six-lists list.Mismatched w s m u d b = or_false (m || false) ∙ or_false m
six-lists list.Unreadable w s m u d b = or_false (u || false) ∙ or_false u
six-lists list.Undecodable w s m u d b = or_false d
six-lists _ w s m u d b = refl

-- whether a note is one of a session
abbrev pub session_noted : ℕ → Session → Listed → Bool
session_noted n s e =
    is_noted (origin_of (n, s)) (kept_pdus s.client) (kept_pdus s.centre) (broken (origin_of (n, s)) (tail_of (values s.client))
    (tail_of (values s.centre))) e

pub said-in : (n : ℕ) (s : Session) (e : Listed) → find listed_cmp e (noted (n, s)) ≡ marked (session_noted n s e)
said-in n s e =
    let origin = origin_of (n, s) in
    let client = kept_pdus s.client in
    let centre = kept_pdus s.centre in
    let breaks = broken origin (tail_of (values s.client)) (tail_of (values s.centre)) in
    let v = pairing_among origin client centre in
    find-marks (session_notes (n, s)) e
    ∙ ap marked
    (list_any-append (eq_by_cmp listed_cmp e) (notes_among origin client centre)
    (broken_notes origin (tail_of (values s.client)) (tail_of (values s.centre)))
    ∙ (λ i. any-notes origin client centre e i || any-of-list e.list list.Broken e.place breaks i)
    ∙ six-lists e.list (is_among e.place (waiting v)) (is_among e.place (strays v)) (is_among e.place (mismatched v))
    (is_among e.place (unreadable origin centre))
    (is_among e.place (undecodable origin client centre)) (is_among e.place breaks))

-- ---- all sessions

-- what the traffic notes at a place is what the session of that place says
pub said-noted : (sessions : FinMap nat_cmp Session) (e : Listed) → get (traffic_of sessions).notes e
    ≡ option_and_then (λ s. marked (session_noted (note_number e) s e)) (get sessions (note_number e))
said-noted sessions e =
    ap (λ (m : FinMap listed_cmp (Unit {0})). get m e) (notes-all sessions)
    ∙ said-at listed_total listed_exact note_number noted notes-own sessions e
    ∙ by (get sessions (note_number e))
  where
    by : (s : Option Session) → option_and_then (λ s. find listed_cmp e (noted (note_number e, s))) s
        ≡ option_and_then (λ s. marked (session_noted (note_number e) s e)) s
    by None = refl
    by (Some s) = said-in (note_number e) s e
