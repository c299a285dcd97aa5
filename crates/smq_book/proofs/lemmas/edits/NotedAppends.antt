-- What a batch leaves of the notes: what the moves of its PDUs leave of them, and where it leaves its direction broken.
use Rattle.std.proofs.Common.{◌≡◌, ℕ, Bool, true, false, cond, ◌||◌, List, [], ◌++◌, Option, Some, None, refl, sym, ap, ◌∙◌, subst}
use Rattle.std.specs.Prelude.{map, option_map, option_and_then, option_to_list}
use Rattle.std.specs.List.{AllByRecursion}
use Rattle.std.specs.Cmp.{nat_cmp_total}
use Rattle.std.specs.Ordering.{eq_by_cmp, nat_cmp}
use Rattle.std.specs.FinMap.{FinMap, find, get, insert, same_map, nat_cmp-IsAntisymmetric}
use Rattle.std.proofs.lemmas.List.Folds.{list_any-append}
use Rattle.smq_kit.specs.declared.names.LinkId.{LinkId}
use Rattle.smq_kit.specs.declared.place.Dir.{Dir}
use Rattle.smq_kit.specs.declared.place.Dir.TheVariants.{FromClient, FromCentre}
use Rattle.smq_kit.specs.declared.place.Place.{Place}
use Rattle.smq_kit.specs.Orders.{place_cmp}
use Rattle.smq_kit.proofs.MapLemmas as maps
use Rattle.smq_frame.specs.Stream.{Octet, values, handed_in, frames_after}
use Rattle.smq_frame.specs.Tail.{TailValue, tail_of, tail_after}
use Rattle.smq_frame.proofs.Streams.{tail_of-nil}
use Rattle.smq_pair.specs.Pairing.{waiting, strays}
use Rattle.smq_pair.specs.Growth.{AreInOrder, is_among}
use Rattle.smq_tally.specs.declared.list.List.{List as ListName}
use Rattle.smq_tally.specs.declared.list.List.TheVariants as list
use Rattle.smq_tally.specs.declared.list.Listed.{Listed}
use Rattle.smq_tally.specs.Lists.{listed, listed_cmp}
use Rattle.smq_tally.specs.within.ListOrder.{listed_total}
use Rattle.smq_tally.proofs.ListOrders.{listed_exact}
use Rattle.smq_tally.proofs.Listings.{marked}
use Rattle.smq_present.specs.declared.present.kept.StoredPdu.{StoredPdu}
use Rattle.smq_present.specs.declared.present.session.Session.{Session}
use Rattle.smq_present.specs.present.Batch.{BatchValue, batch_pdus, next_tail}
use Rattle.smq_present.specs.present.Kept.{kept_pdus}
use Rattle.smq_present.specs.present.Present.{octets_in}
use Rattle.smq_present.specs.present.Steps.{session_after}
use Rattle.smq_present.specs.pairing.Traffic.{Origin, origin_of, pairing_among, mismatched, unreadable, undecodable, broken, traffic_of}
use Rattle.smq_present.specs.within.Pairs.{Rises}
use Rattle.smq_present.specs.join.Moves.{Move, PutNote, moved_by}
use Rattle.smq_book.specs.edits.Appended.{session_before, batch_origin}
use Rattle.smq_book.specs.edits.AppendedNotes.{note_moves, broken_moves, append_notes}
use Rattle.smq_book.proofs.lemmas.edits.Appends.{grown-client, grown-centre, octets-before}
use Rattle.smq_book.proofs.lemmas.edits.MarkedNotes.{mark_by, mark-both, marked-by, IsOf, unmoved}
use Rattle.smq_book.proofs.lemmas.edits.NotedPairs.{put-idle}
use Rattle.smq_book.proofs.lemmas.edits.NotedPushes.{clients-noted, centres-noted}
use Rattle.smq_present.proofs.lemmas.join.NotedTraffic.{in_lists, is_noted, session_noted, said-in, said-noted}
use Rattle.smq_book.proofs.lemmas.edits.OwnNotes.{client-own, centre-own, broken-own}
use Rattle.smq_book.proofs.lemmas.edits.PushNotes.{pdus-order}
use Rattle.smq_present.specs.join.Listings.{same_list}
use Rattle.smq_present.proofs.lemmas.pairing.SessionTraffic.{said-put}
use Rattle.smq_present.proofs.lemmas.join.SessionLists.{note_number, noted, notes-own, notes-all, all-append}
use Rattle.smq_present.proofs.lemmas.pairing.PlacesRise.{kept-rise}
use Rattle.smq_present.proofs.lemmas.pairing.UnreadPlaces.{broken-stays}
use Rattle.smq_present.proofs.lemmas.present.Growth.{kept_frames, pdus-grown, tail-grown, kept_pdus-nil}

-- ---- where a direction is broken

module _ (origin : Origin) (dir : Dir) (q : Place) where
  abbrev break : Option ℕ → List Place
  break at = option_to_list (option_map (λ offset. record { session = origin.session; dir = dir; offset = offset }) at)

  abbrev puts : Option ℕ → List Move
  puts at = map (λ (k : Place). PutNote (listed list.Broken k)) (break at)

  broken-idle : (name : ListName) (b : Bool) (tail : TailValue) → same_list name list.Broken ≡ false
      → mark_by (listed name q) b (broken_moves origin dir tail) ≡ b
  broken-idle name b tail h = by tail.broken
    where
      by : (at : Option ℕ) → mark_by (listed name q) b (puts at) ≡ b
      by None = refl
      by (Some offset) = put-idle name list.Broken q (record { session = origin.session; dir = dir; offset = offset }) b h

  broken-lists : (name : ListName) (w s m u d b new : Bool) (tail : TailValue) → new ≡ mark_by (listed list.Broken q) b (broken_moves origin dir tail)
      → in_lists name w s m u d new ≡ mark_by (listed name q) (in_lists name w s m u d b) (broken_moves origin dir tail)
  broken-lists list.Waiting w s m u d b new tail h = sym (broken-idle list.Waiting w tail refl)
  broken-lists list.StrayAnswers w s m u d b new tail h = sym (broken-idle list.StrayAnswers s tail refl)
  broken-lists list.Mismatched w s m u d b new tail h = sym (broken-idle list.Mismatched m tail refl)
  broken-lists list.Unreadable w s m u d b new tail h = sym (broken-idle list.Unreadable u tail refl)
  broken-lists list.Undecodable w s m u d b new tail h = sym (broken-idle list.Undecodable d tail refl)
  broken-lists list.Broken w s m u d b new tail h = h
  broken-lists name w s m u d b new tail h = sym (broken-idle name false tail refl)

  -- with the other direction's before it or after it
  put_once : (c k o : Bool) → ((c || (o || false)) || k) ≡ cond o true ((c || false) || k)
  put_once true k true = refl
  put_once true k false = refl
  put_once false k true = refl
  put_once false k false = refl

  put_again : (c k o : Bool) → ((c || (o || false)) || k) ≡ cond o true ((c || (o || false)) || k)
  put_again true k true = refl
  put_again true k false = refl
  put_again false k true = refl
  put_again false k false = refl

  broken-grows : (c k : Bool) (x y : Option ℕ) → ((offset : ℕ) → x ≡ Some offset → y ≡ Some offset)
      → ((c || is_among q (break y)) || k) ≡ mark_by (listed list.Broken q) ((c || is_among q (break x)) || k) (puts y)
  broken-grows c k None None h = refl
  broken-grows c k None (Some y) h = put_once c k (eq_by_cmp place_cmp q (record { session = origin.session; dir = dir; offset = y }))
  broken-grows c k (Some x) y h =
      subst (λ (y : Option ℕ). ((c || is_among q (break y)) || k) ≡ mark_by (listed list.Broken q) ((c || is_among q (break (Some x))) || k) (puts y))
      (sym (h x refl))
      (put_again c k (eq_by_cmp place_cmp q (record { session = origin.session; dir = dir; offset = x })))

or_false : (b : Bool) → (b || false) ≡ b
or_false true = refl
or_false false = refl

module _ (origin : Origin) (q : Place) where
  client-broken : (old new centre : TailValue) → ((offset : ℕ) → old.broken ≡ Some offset → new.broken ≡ Some offset)
      → is_among q (broken origin new centre) ≡ mark_by (listed list.Broken q) (is_among q (broken origin old centre))
      (broken_moves origin FromClient new)
  client-broken old new centre stays =
      let k = is_among q (break origin FromCentre q centre.broken) in
      list_any-append (eq_by_cmp place_cmp q) (break origin FromClient q new.broken) (break origin FromCentre q centre.broken)
      ∙ broken-grows origin FromClient q false k old.broken new.broken stays
      ∙ ap (λ b. mark_by (listed list.Broken q) b (broken_moves origin FromClient new))
      (sym (list_any-append (eq_by_cmp place_cmp q) (break origin FromClient q old.broken) (break origin FromCentre q centre.broken)))

  centre-broken : (client old new : TailValue) → ((offset : ℕ) → old.broken ≡ Some offset → new.broken ≡ Some offset)
      → is_among q (broken origin client new) ≡ mark_by (listed list.Broken q) (is_among q (broken origin client old))
      (broken_moves origin FromCentre new)
  centre-broken client old new stays =
      let c = is_among q (break origin FromClient q client.broken) in
      list_any-append (eq_by_cmp place_cmp q) (break origin FromClient q client.broken) (break origin FromCentre q new.broken)
      ∙ sym (or_false (c || is_among q (break origin FromCentre q new.broken)))
      ∙ broken-grows origin FromCentre q c false old.broken new.broken stays
      ∙ ap (λ b. mark_by (listed list.Broken q) b (broken_moves origin FromCentre new))
      (or_false (c || is_among q (break origin FromCentre q old.broken))
      ∙ sym (list_any-append (eq_by_cmp place_cmp q) (break origin FromClient q client.broken) (break origin FromCentre q old.broken)))

-- what a note is of a session whose PDUs are these follows from the places at which its directions are broken
abbrev lists_with : Origin → List StoredPdu → List StoredPdu → Listed → Bool → Bool
lists_with origin client centre e b =
    in_lists e.list (is_among e.place (waiting (pairing_among origin client centre))) (is_among e.place (strays (pairing_among origin client centre)))
    (is_among e.place (mismatched (pairing_among origin client centre))) (is_among e.place (unreadable origin centre))
    (is_among e.place (undecodable origin client centre)) b

breaks-noted : (origin : Origin) (dir : Dir) (client centre : List StoredPdu) (e : Listed) (b new : Bool) (tail : TailValue)
    → new ≡ mark_by (listed list.Broken e.place) b (broken_moves origin dir tail)
    → lists_with origin client centre e new ≡ mark_by e (lists_with origin client centre e b) (broken_moves origin dir tail)
breaks-noted origin dir client centre e b new tail h =
    broken-lists origin dir e.place e.list (is_among e.place (waiting (pairing_among origin client centre)))
    (is_among e.place (strays (pairing_among origin client centre)))
    (is_among e.place (mismatched (pairing_among origin client centre))) (is_among e.place (unreadable origin centre))
    (is_among e.place (undecodable origin client centre)) b new tail h

-- ---- a direction grows

module _ (origin : Origin) (batch : BatchValue) (client centre : List Octet) where
  abbrev all_noted : List Octet → List Octet → Listed → Bool
  all_noted client centre e =
      is_noted origin (kept_pdus client) (kept_pdus centre) (broken origin (tail_of (values client)) (tail_of (values centre))) e

  abbrev moves_in : Dir → List Move
  moves_in dir = note_moves origin dir (kept_pdus client) (kept_pdus centre) (batch_pdus batch) ++ broken_moves origin dir (next_tail batch)

  abbrev order : AreInOrder (pairing_among origin (kept_pdus client) (kept_pdus centre))
  order = pdus-order origin (kept_pdus client) (kept_pdus centre) (kept-rise client) (kept-rise centre)

  module _ (tail : batch.tail ≡ tail_of (values client)) where
    abbrev new_client : List Octet
    new_client = client ++ handed_in batch.moment batch.octets

    client-pdus : kept_pdus new_client ≡ kept_pdus client ++ batch_pdus batch
    client-pdus =
        pdus-grown client batch.moment batch.octets ∙ ap (λ tail. kept_pdus client ++ kept_frames (frames_after tail batch.moment batch.octets))
        (sym tail)

    client-rises : Rises 0 (kept_pdus client ++ batch_pdus batch)
    client-rises = subst (λ ps. Rises 0 ps) client-pdus (kept-rise new_client)

    client-tail : tail_of (values new_client) ≡ next_tail batch
    client-tail = tail-grown client batch.moment batch.octets ∙ ap (λ tail. tail_after tail batch.octets) (sym tail)

    client-stays : (offset : ℕ) → (tail_of (values client)).broken ≡ Some offset → (next_tail batch).broken ≡ Some offset
    client-stays offset is = ap (λ (t : TailValue). t.broken) (sym client-tail) ∙ broken-stays client batch.moment batch.octets offset is

    client-appended : (e : Listed) → all_noted new_client centre e ≡ mark_by e (all_noted client centre e) (moves_in FromClient)
    client-appended e =
        let pdus = kept_pdus client ++ batch_pdus batch in
        let others = tail_of (values centre) in
        (λ i. is_noted origin (client-pdus i) (kept_pdus centre) (broken origin (client-tail i) others) e)
        ∙ breaks-noted origin FromClient pdus (kept_pdus centre) e (is_among e.place (broken origin (tail_of (values client)) others))
        (is_among e.place (broken origin (next_tail batch) others)) (next_tail batch)
        (client-broken origin e.place (tail_of (values client)) (next_tail batch) others client-stays)
        ∙ ap (λ b. mark_by e b (broken_moves origin FromClient (next_tail batch)))
        (clients-noted origin (broken origin (tail_of (values client)) others) e (kept_pdus client) (kept_pdus centre) (batch_pdus batch) client-rises
        order)
        ∙ sym (mark-both e (all_noted client centre e) (note_moves origin FromClient (kept_pdus client) (kept_pdus centre) (batch_pdus batch))
        (broken_moves origin FromClient (next_tail batch)))

    client-moves-own : AllByRecursion (IsOf origin.session.0) (moves_in FromClient)
    client-moves-own =
        all-append (IsOf origin.session.0) (note_moves origin FromClient (kept_pdus client) (kept_pdus centre) (batch_pdus batch))
        (broken_moves origin FromClient (next_tail batch))
        (client-own origin (kept_pdus client) (kept_pdus centre) (batch_pdus batch) client-rises order)
        (broken-own origin FromClient (next_tail batch))

  module _ (tail : batch.tail ≡ tail_of (values centre)) where
    abbrev new_centre : List Octet
    new_centre = centre ++ handed_in batch.moment batch.octets

    centre-pdus : kept_pdus new_centre ≡ kept_pdus centre ++ batch_pdus batch
    centre-pdus =
        pdus-grown centre batch.moment batch.octets ∙ ap (λ tail. kept_pdus centre ++ kept_frames (frames_after tail batch.moment batch.octets))
        (sym tail)

    centre-rises : Rises 0 (kept_pdus centre ++ batch_pdus batch)
    centre-rises = subst (λ ps. Rises 0 ps) centre-pdus (kept-rise new_centre)

    centre-tail : tail_of (values new_centre) ≡ next_tail batch
    centre-tail = tail-grown centre batch.moment batch.octets ∙ ap (λ tail. tail_after tail batch.octets) (sym tail)

    centre-stays : (offset : ℕ) → (tail_of (values centre)).broken ≡ Some offset → (next_tail batch).broken ≡ Some offset
    centre-stays offset is = ap (λ (t : TailValue). t.broken) (sym centre-tail) ∙ broken-stays centre batch.moment batch.octets offset is

    centre-appended : (e : Listed) → all_noted client new_centre e ≡ mark_by e (all_noted client centre e) (moves_in FromCentre)
    centre-appended e =
        let pdus = kept_pdus centre ++ batch_pdus batch in
        let others = tail_of (values client) in
        (λ i. is_noted origin (kept_pdus client) (centre-pdus i) (broken origin others (centre-tail i)) e)
        ∙ breaks-noted origin FromCentre (kept_pdus client) pdus e (is_among e.place (broken origin others (tail_of (values centre))))
        (is_among e.place (broken origin others (next_tail batch))) (next_tail batch)
        (centre-broken origin e.place others (tail_of (values centre)) (next_tail batch) centre-stays)
        ∙ ap (λ b. mark_by e b (broken_moves origin FromCentre (next_tail batch)))
        (centres-noted origin (broken origin others (tail_of (values centre))) e (kept_pdus client) (kept_pdus centre) (batch_pdus batch) centre-rises
        order)
        ∙ sym (mark-both e (all_noted client centre e) (note_moves origin FromCentre (kept_pdus client) (kept_pdus centre) (batch_pdus batch))
        (broken_moves origin FromCentre (next_tail batch)))

    centre-moves-own : AllByRecursion (IsOf origin.session.0) (moves_in FromCentre)
    centre-moves-own =
        all-append (IsOf origin.session.0) (note_moves origin FromCentre (kept_pdus client) (kept_pdus centre) (batch_pdus batch))
        (broken_moves origin FromCentre (next_tail batch))
        (centre-own origin (kept_pdus client) (kept_pdus centre) (batch_pdus batch) centre-rises order)
        (broken-own origin FromCentre (next_tail batch))

-- ---- a batch

none-listed : (name : ListName) → in_lists name false false false false false false ≡ false
none-listed list.Waiting = refl
none-listed _ = refl

module _ (sessions : FinMap nat_cmp Session) (batch : BatchValue) where
  abbrev found : Option Session
  found = get sessions batch.session.0

  abbrev before : Session
  before = session_before found batch.link

  abbrev after : Session
  after = session_after found batch

  -- a session that is absent notes nothing
  none-noted : (link : LinkId) (e : Listed) → session_noted batch.session.0 (record { link = link; client = []; centre = [] }) e ≡ false
  none-noted link e =
      let origin : Origin = origin_of (batch.session.0, record { link = link; client = []; centre = [] }) in
      (λ i. is_noted origin (kept_pdus-nil i) (kept_pdus-nil i) (broken origin (tail_of-nil i) (tail_of-nil i)) e) ∙ none-listed e.list

  noted-before : (e : Listed) → eq_by_cmp nat_cmp (note_number e) batch.session.0 ≡ true
      → get (traffic_of sessions).notes e ≡ marked (session_noted batch.session.0 before e)
  noted-before e t =
      said-noted sessions e
      ∙ ap (λ n. option_and_then (λ s. marked (session_noted n s e)) (get sessions n))
      (maps.same_key nat_cmp_total nat_cmp-IsAntisymmetric (note_number e) batch.session.0 t)
      ∙ by found
    where
      by : (s : Option Session) → option_and_then (λ s. marked (session_noted batch.session.0 s e)) s
          ≡ marked (session_noted batch.session.0 (session_before s batch.link) e)
      by None = sym (ap marked (none-noted batch.link e))
      by (Some s) = refl

  -- where moves of the session leave of its notes what it notes after the batch, they leave the notes then
  by-notes : (moves : List Move) → AllByRecursion (IsOf batch.session.0) moves → ((e : Listed)
      → session_noted batch.session.0 after e ≡ mark_by e (session_noted batch.session.0 before e) moves)
      → (traffic_of (insert sessions batch.session.0 after)).notes ≡ (moved_by (traffic_of sessions) moves).notes
  by-notes moves own same = same_map listed_total listed_exact _ _ (λ e.
      ap (λ (m : FinMap listed_cmp (Unit {0})). get m e) (notes-all (insert sessions batch.session.0 after))
      ∙ said-put listed_total listed_exact note_number noted notes-own sessions batch.session.0 after e
      ∙ ap (λ (m : FinMap listed_cmp (Unit {0})). cond (eq_by_cmp nat_cmp (note_number e) batch.session.0)
      (find listed_cmp e (noted (batch.session.0, after))) (get m e)) (sym (notes-all sessions))
      ∙ elim (eq_by_cmp nat_cmp (note_number e) batch.session.0) as (λ b. eq_by_cmp nat_cmp (note_number e) batch.session.0 ≡ b
      → cond b (find listed_cmp e (noted (batch.session.0, after))) (get (traffic_of sessions).notes e)
      ≡ get (moved_by (traffic_of sessions) moves).notes e) [
        | true ↦ λ t.
            said-in batch.session.0 after e
            ∙ ap marked (same e)
            ∙ sym (marked-by (traffic_of sessions) e (session_noted batch.session.0 before e) moves (noted-before e t))
        | false ↦ λ t. sym (unmoved batch.session.0 e t (traffic_of sessions) moves own)
      ] refl)

  by-dir : (d : Dir) → batch.dir ≡ d → batch.tail ≡ tail_of (values (octets_in batch.dir found))
      → (traffic_of (insert sessions batch.session.0 after)).notes ≡ (moved_by (traffic_of sessions) (append_notes found batch)).notes
  by-dir FromClient is in_step =
      let tail : batch.tail ≡ tail_of (values before.client) = in_step ∙ ap (λ d. tail_of (values (octets_in d found))) is
      ∙ ap (λ o. tail_of (values o)) (octets-before found batch.link FromClient) in
      let moves : moves_in (batch_origin found batch) batch before.client before.centre FromClient
      ≡ append_notes found batch = ap (λ d. moves_in (batch_origin found batch) batch before.client before.centre d) (sym is) in
      by-notes (moves_in (batch_origin found batch) batch before.client before.centre FromClient)
      (client-moves-own (batch_origin found batch) batch before.client before.centre tail)
      (λ e. ap (λ s. session_noted batch.session.0 s e) (grown-client found batch is)
      ∙ client-appended (batch_origin found batch) batch before.client before.centre tail e)
      ∙ ap (λ ms. (moved_by (traffic_of sessions) ms).notes) moves
  by-dir FromCentre is in_step =
      let tail : batch.tail ≡ tail_of (values before.centre) = in_step ∙ ap (λ d. tail_of (values (octets_in d found))) is
      ∙ ap (λ o. tail_of (values o)) (octets-before found batch.link FromCentre) in
      let moves : moves_in (batch_origin found batch) batch before.client before.centre FromCentre
      ≡ append_notes found batch = ap (λ d. moves_in (batch_origin found batch) batch before.client before.centre d) (sym is) in
      by-notes (moves_in (batch_origin found batch) batch before.client before.centre FromCentre)
      (centre-moves-own (batch_origin found batch) batch before.client before.centre tail)
      (λ e. ap (λ s. session_noted batch.session.0 s e) (grown-centre found batch is)
      ∙ centre-appended (batch_origin found batch) batch before.client before.centre tail e)
      ∙ ap (λ ms. (moved_by (traffic_of sessions) ms).notes) moves

pub appended-notes : (sessions : FinMap nat_cmp Session) (batch : BatchValue) → batch.tail
    ≡ tail_of (values (octets_in batch.dir (get sessions batch.session.0)))
    → (traffic_of (insert sessions batch.session.0 (session_after (get sessions batch.session.0) batch))).notes
    ≡ (moved_by (traffic_of sessions) (append_notes (get sessions batch.session.0) batch)).notes
appended-notes sessions batch in_step = by-dir sessions batch batch.dir refl in_step
