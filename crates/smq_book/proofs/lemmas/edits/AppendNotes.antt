-- An append leaves the notes outside of the places of its PDUs and of their pairs, and of where its direction is broken.
use Rattle.std.proofs.Common.{◌≡◌, ℕ, Bool, true, false, cond, ◌||◌, List, [], ◌++◌, Option, Some, None, refl, sym, ap, ◌∙◌, subst}
use Rattle.std.specs.Prelude.{◌&&◌, option_map, option_and_then, option_to_list}
use Rattle.std.specs.List.{flat_map, list_any}
use Rattle.std.specs.Cmp.{nat_cmp_total}
use Rattle.std.specs.Ordering.{eq_by_cmp, nat_cmp}
use Rattle.std.specs.FinMap.{FinMap, entries, find, from_entries, get, insert, nat_cmp-IsAntisymmetric}
use Rattle.std.proofs.lemmas.List.Folds.{list_any-append}
use Rattle.smq_kit.specs.declared.names.LinkId.{LinkId}
use Rattle.smq_kit.specs.declared.place.Dir.{Dir}
use Rattle.smq_kit.specs.declared.place.Dir.TheVariants.{FromClient, FromCentre}
use Rattle.smq_kit.specs.declared.place.Place.{Place}
use Rattle.smq_kit.specs.Orders.{place_cmp}
use Rattle.smq_kit.proofs.Comparisons.{or_first, or_second}
use Rattle.smq_kit.proofs.MapLemmas as maps
use Rattle.smq_frame.specs.Stream.{Octet, values, handed_in, frames_after}
use Rattle.smq_frame.specs.Tail.{TailValue, tail_of, tail_after}
use Rattle.smq_frame.proofs.Streams.{tail_of-nil}
use Rattle.smq_tally.specs.declared.list.List.TheVariants as list
use Rattle.smq_tally.specs.declared.list.Listed.{Listed}
use Rattle.smq_tally.specs.Lists.{listed_cmp}
use Rattle.smq_tally.specs.within.ListOrder.{listed_total}
use Rattle.smq_tally.proofs.ListOrders.{listed_exact}
use Rattle.smq_tally.proofs.Listings.{marked}
use Rattle.smq_present.specs.declared.present.kept.StoredPdu.{StoredPdu}
use Rattle.smq_present.specs.declared.present.session.Session.{Session}
use Rattle.smq_present.specs.present.Batch.{BatchValue, batch_pdus, next_tail}
use Rattle.smq_present.specs.present.Kept.{kept_pdus}
use Rattle.smq_present.specs.present.Present.{octets_in}
use Rattle.smq_present.specs.present.Steps.{session_after}
use Rattle.smq_present.specs.pairing.Traffic.{Origin, origin_of, notes_among, broken, broken_at, broken_notes, session_notes, traffic_of}
use Rattle.smq_present.specs.within.Pairs.{Rises}
use Rattle.smq_book.specs.edits.Appended.{session_before, batch_origin, noted_in_turn, append_places}
use Rattle.smq_book.proofs.lemmas.edits.Appends.{grown-client, grown-centre, octets-before}
use Rattle.smq_present.proofs.lemmas.present.Growth.{kept_frames, pdus-grown, tail-grown, kept_pdus-nil}
use Rattle.smq_present.proofs.lemmas.pairing.PlacesRise.{kept-rise}
use Rattle.smq_book.proofs.lemmas.edits.PushNotes.{client-notes-in-turn, centre-notes-in-turn, pdus-order}
use Rattle.smq_present.specs.join.Listings.{same_list}
use Rattle.smq_present.proofs.lemmas.join.ReceiptLists.{any-of-list}
use Rattle.smq_present.proofs.lemmas.pairing.SessionTraffic.{said-at, said-put}
use Rattle.smq_present.proofs.lemmas.pairing.UnreadPlaces.{broken-stays}
use Rattle.smq_present.proofs.lemmas.join.SessionLists.{find-marks, note_number, noted, notes-own, notes-all}

-- ---- where a direction is broken

abbrev break : Origin → Dir → Option ℕ → List Place
break origin dir at = option_to_list (option_map (λ offset. record { session = origin.session; dir = dir; offset = offset }) at)

break-stays : (origin : Origin) (dir : Dir) (q : Place) (old new : Option ℕ) → ((offset : ℕ) → old ≡ Some offset → new ≡ Some offset) → list_any (eq_by_cmp place_cmp q) (break origin dir new) ≡ false
    → list_any (eq_by_cmp place_cmp q) (break origin dir new) ≡ list_any (eq_by_cmp place_cmp q) (break origin dir old)
break-stays origin dir q None new stays out = out
break-stays origin dir q (Some offset) new stays out = ap (λ at. list_any (eq_by_cmp place_cmp q) (break origin dir at)) (stays offset refl)

abbrev any_broken : Origin → Listed → TailValue → TailValue → Bool
any_broken origin e client centre =
    same_list e.list list.Broken && (list_any (eq_by_cmp place_cmp e.place) (break origin FromClient client.broken) || list_any (eq_by_cmp place_cmp e.place) (break origin FromCentre centre.broken))

any-broken : (origin : Origin) (e : Listed) (client centre : TailValue) → list_any (eq_by_cmp listed_cmp e) (broken_notes origin client centre) ≡ any_broken origin e client centre
any-broken origin e client centre =
    any-of-list e.list list.Broken e.place (broken origin client centre)
    ∙ ap (λ b. same_list e.list list.Broken && b) (list_any-append (eq_by_cmp place_cmp e.place) (break origin FromClient client.broken) (break origin FromCentre centre.broken))

abbrev any_noted : Origin → Listed → List StoredPdu → List StoredPdu → TailValue → TailValue → Bool
any_noted origin e client centre client_tail centre_tail = list_any (eq_by_cmp listed_cmp e) (notes_among origin client centre) || any_broken origin e client_tail centre_tail

any-noted : (origin : Origin) (e : Listed) (client centre : List Octet) → list_any (eq_by_cmp listed_cmp e) (notes_among origin (kept_pdus client) (kept_pdus centre) ++ broken_notes origin (tail_of (values client)) (tail_of (values centre)))
    ≡ any_noted origin e (kept_pdus client) (kept_pdus centre) (tail_of (values client)) (tail_of (values centre))
any-noted origin e client centre =
    list_any-append (eq_by_cmp listed_cmp e) (notes_among origin (kept_pdus client) (kept_pdus centre)) (broken_notes origin (tail_of (values client)) (tail_of (values centre)))
    ∙ ap (λ b. list_any (eq_by_cmp listed_cmp e) (notes_among origin (kept_pdus client) (kept_pdus centre)) || b) (any-broken origin e (tail_of (values client)) (tail_of (values centre)))

-- ---- a direction grows

module _ (origin : Origin) (batch : BatchValue) (client centre : List Octet) (e : Listed) where
  abbrev any_of : List Octet → List Octet → Bool
  any_of client centre = any_noted origin e (kept_pdus client) (kept_pdus centre) (tail_of (values client)) (tail_of (values centre))

  client-grown : batch.tail ≡ tail_of (values client)
      → list_any (eq_by_cmp place_cmp e.place) (noted_in_turn origin FromClient (kept_pdus client) (kept_pdus centre) (batch_pdus batch) ++ option_to_list (broken_at origin FromClient (next_tail batch))) ≡ false
      → any_of (client ++ handed_in batch.moment batch.octets) centre ≡ any_of client centre
  client-grown tail out =
      let after = client ++ handed_in batch.moment batch.octets in
      let pdus : kept_pdus after ≡ kept_pdus client ++ batch_pdus batch = pdus-grown client batch.moment batch.octets ∙ ap (λ tail. kept_pdus client ++ kept_frames (frames_after tail batch.moment batch.octets)) (sym tail) in
      let rises : Rises 0 (kept_pdus client ++ batch_pdus batch) = subst (λ ps. Rises 0 ps) pdus (kept-rise after) in
      let parts = sym (list_any-append (eq_by_cmp place_cmp e.place) (noted_in_turn origin FromClient (kept_pdus client) (kept_pdus centre) (batch_pdus batch)) (break origin FromClient (next_tail batch).broken)) ∙ out in
      let apart = or_second (list_any (eq_by_cmp place_cmp e.place) (noted_in_turn origin FromClient (kept_pdus client) (kept_pdus centre) (batch_pdus batch))) _ parts in
      let next : tail_of (values after) ≡ next_tail batch = tail-grown client batch.moment batch.octets ∙ ap (λ tail. tail_after tail batch.octets) (sym tail) in
      let pairs : list_any (eq_by_cmp listed_cmp e) (notes_among origin (kept_pdus after) (kept_pdus centre)) ≡ list_any (eq_by_cmp listed_cmp e) (notes_among origin (kept_pdus client) (kept_pdus centre)) =
      ap (λ ps. list_any (eq_by_cmp listed_cmp e) (notes_among origin ps (kept_pdus centre))) pdus
      ∙ client-notes-in-turn origin (kept_pdus client) (kept_pdus centre) (batch_pdus batch) e rises (pdus-order origin (kept_pdus client) (kept_pdus centre) (kept-rise client) (kept-rise centre)) (or_first _ _ parts) in
      let breaks : list_any (eq_by_cmp place_cmp e.place) (break origin FromClient (tail_of (values after)).broken) ≡ list_any (eq_by_cmp place_cmp e.place) (break origin FromClient (tail_of (values client)).broken) =
      break-stays origin FromClient e.place (tail_of (values client)).broken (tail_of (values after)).broken (λ offset is. broken-stays client batch.moment batch.octets offset is)
      (ap (λ (t : TailValue). list_any (eq_by_cmp place_cmp e.place) (break origin FromClient t.broken)) next ∙ apart) in
      λ i. pairs i || (same_list e.list list.Broken && (breaks i || list_any (eq_by_cmp place_cmp e.place) (break origin FromCentre (tail_of (values centre)).broken)))

  centre-grown : batch.tail ≡ tail_of (values centre)
      → list_any (eq_by_cmp place_cmp e.place) (noted_in_turn origin FromCentre (kept_pdus client) (kept_pdus centre) (batch_pdus batch) ++ option_to_list (broken_at origin FromCentre (next_tail batch))) ≡ false
      → any_of client (centre ++ handed_in batch.moment batch.octets) ≡ any_of client centre
  centre-grown tail out =
      let after = centre ++ handed_in batch.moment batch.octets in
      let pdus : kept_pdus after ≡ kept_pdus centre ++ batch_pdus batch = pdus-grown centre batch.moment batch.octets ∙ ap (λ tail. kept_pdus centre ++ kept_frames (frames_after tail batch.moment batch.octets)) (sym tail) in
      let rises : Rises 0 (kept_pdus centre ++ batch_pdus batch) = subst (λ ps. Rises 0 ps) pdus (kept-rise after) in
      let parts = sym (list_any-append (eq_by_cmp place_cmp e.place) (noted_in_turn origin FromCentre (kept_pdus client) (kept_pdus centre) (batch_pdus batch)) (break origin FromCentre (next_tail batch).broken)) ∙ out in
      let apart = or_second (list_any (eq_by_cmp place_cmp e.place) (noted_in_turn origin FromCentre (kept_pdus client) (kept_pdus centre) (batch_pdus batch))) _ parts in
      let next : tail_of (values after) ≡ next_tail batch = tail-grown centre batch.moment batch.octets ∙ ap (λ tail. tail_after tail batch.octets) (sym tail) in
      let pairs : list_any (eq_by_cmp listed_cmp e) (notes_among origin (kept_pdus client) (kept_pdus after)) ≡ list_any (eq_by_cmp listed_cmp e) (notes_among origin (kept_pdus client) (kept_pdus centre)) =
      ap (λ ps. list_any (eq_by_cmp listed_cmp e) (notes_among origin (kept_pdus client) ps)) pdus
      ∙ centre-notes-in-turn origin (kept_pdus client) (kept_pdus centre) (batch_pdus batch) e rises (pdus-order origin (kept_pdus client) (kept_pdus centre) (kept-rise client) (kept-rise centre)) (or_first _ _ parts) in
      let breaks : list_any (eq_by_cmp place_cmp e.place) (break origin FromCentre (tail_of (values after)).broken) ≡ list_any (eq_by_cmp place_cmp e.place) (break origin FromCentre (tail_of (values centre)).broken) =
      break-stays origin FromCentre e.place (tail_of (values centre)).broken (tail_of (values after)).broken (λ offset is. broken-stays centre batch.moment batch.octets offset is)
      (ap (λ (t : TailValue). list_any (eq_by_cmp place_cmp e.place) (break origin FromCentre t.broken)) next ∙ apart) in
      λ i. pairs i || (same_list e.list list.Broken && (list_any (eq_by_cmp place_cmp e.place) (break origin FromClient (tail_of (values client)).broken) || breaks i))

-- ---- a batch

module _ (sessions : FinMap nat_cmp Session) (batch : BatchValue) (e : Listed) where
  abbrev found : Option Session
  found = get sessions batch.session.0

  abbrev before : Session
  before = session_before found batch.link

  abbrev after : Session
  after = session_after found batch

  abbrev any_in : Session → Bool
  any_in s = any_noted (origin_of (batch.session.0, s)) e (kept_pdus s.client) (kept_pdus s.centre) (tail_of (values s.client)) (tail_of (values s.centre))

  said-in : (s : Session) → find listed_cmp e (noted (batch.session.0, s)) ≡ marked (any_in s)
  said-in s = find-marks (session_notes (batch.session.0, s)) e ∙ ap marked (any-noted (origin_of (batch.session.0, s)) e s.client s.centre)

  none-in : (link : LinkId) → any_in (record { link = link; client = []; centre = [] }) ≡ false
  none-in link =
      let origin : Origin = origin_of (batch.session.0, record { link = link; client = []; centre = [] }) in
      (λ i. any_noted origin e (kept_pdus-nil i) (kept_pdus-nil i) (tail_of-nil i) (tail_of-nil i)) ∙ nothing (same_list e.list list.Broken)
    where
      nothing : (b : Bool) → (b && false) ≡ false
      nothing true = refl
      nothing false = refl

  said-before : (s : Option Session) → option_and_then (λ s. find listed_cmp e (noted (batch.session.0, s))) s ≡ marked (any_in (session_before s batch.link))
  said-before None = ap marked (sym (none-in batch.link))
  said-before (Some s) = said-in s

  -- where the session notes the same, all do
  by-session : any_in after ≡ any_in before → get (traffic_of sessions).notes e ≡ get (traffic_of (insert sessions batch.session.0 after)).notes e
  by-session same =
      ap (λ (m : FinMap listed_cmp (Unit {0})). get m e) (notes-all sessions)
      ∙ elim (eq_by_cmp nat_cmp (note_number e) batch.session.0) as (λ b. eq_by_cmp nat_cmp (note_number e) batch.session.0 ≡ b
      → get (from_entries {R = listed_cmp} (flat_map noted (entries sessions))) e ≡ cond b (find listed_cmp e (noted (batch.session.0, after))) (get (from_entries {R = listed_cmp} (flat_map noted (entries sessions))) e)) [
        | true ↦ λ t.
            said-at listed_total listed_exact note_number noted notes-own sessions e
            ∙ ap (λ n. option_and_then (λ s. find listed_cmp e (noted (n, s))) (get sessions n)) (maps.same_key nat_cmp_total nat_cmp-IsAntisymmetric (note_number e) batch.session.0 t)
            ∙ said-before found
            ∙ ap marked (sym same)
            ∙ sym (said-in after)
        | false ↦ λ t. refl
      ] refl
      ∙ sym (said-put listed_total listed_exact note_number noted notes-own sessions batch.session.0 after e)
      ∙ ap (λ (m : FinMap listed_cmp (Unit {0})). get m e) (sym (notes-all (insert sessions batch.session.0 after)))

  pub notes-stay-by : (d : Dir) → batch.dir ≡ d → batch.tail ≡ tail_of (values (octets_in batch.dir found)) → list_any (eq_by_cmp place_cmp e.place) (append_places found batch) ≡ false → any_in after ≡ any_in before
  notes-stay-by FromClient is in_step out =
      let tail : batch.tail ≡ tail_of (values before.client) = in_step ∙ ap (λ d. tail_of (values (octets_in d found))) is ∙ ap (λ o. tail_of (values o)) (octets-before found batch.link FromClient) in
      let places = ap (λ d. list_any (eq_by_cmp place_cmp e.place) (noted_in_turn (batch_origin found batch) d (kept_pdus before.client) (kept_pdus before.centre) (batch_pdus batch) ++ option_to_list (broken_at (batch_origin found batch) d (next_tail batch)))) (sym is) in
      ap any_in (grown-client found batch is) ∙ client-grown (batch_origin found batch) batch before.client before.centre e tail (places ∙ out)
  notes-stay-by FromCentre is in_step out =
      let tail : batch.tail ≡ tail_of (values before.centre) = in_step ∙ ap (λ d. tail_of (values (octets_in d found))) is ∙ ap (λ o. tail_of (values o)) (octets-before found batch.link FromCentre) in
      let places = ap (λ d. list_any (eq_by_cmp place_cmp e.place) (noted_in_turn (batch_origin found batch) d (kept_pdus before.client) (kept_pdus before.centre) (batch_pdus batch) ++ option_to_list (broken_at (batch_origin found batch) d (next_tail batch)))) (sym is) in
      ap any_in (grown-centre found batch is) ∙ centre-grown (batch_origin found batch) batch before.client before.centre e tail (places ∙ out)

pub notes-stay : (sessions : FinMap nat_cmp Session) (batch : BatchValue) (e : Listed) → batch.tail ≡ tail_of (values (octets_in batch.dir (get sessions batch.session.0)))
    → list_any (eq_by_cmp place_cmp e.place) (append_places (get sessions batch.session.0) batch) ≡ false
    → get (traffic_of sessions).notes e ≡ get (traffic_of (insert sessions batch.session.0 (session_after (get sessions batch.session.0) batch))).notes e
notes-stay sessions batch e in_step out = by-session sessions batch e (notes-stay-by sessions batch e batch.dir refl in_step out)
