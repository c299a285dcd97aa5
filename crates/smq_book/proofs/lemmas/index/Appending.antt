-- A batch of a session, which may be absent: what stands before its PDUs, and what they leave.
use Rattle.std.proofs.Common.{◌≡◌, ℕ, cond, List, ◌++◌, Option, Some, None, refl, sym, ap, ◌∙◌, subst}
use Rattle.std.specs.Prelude.{option_map, unwrap_or}
use Rattle.std.specs.FinMap.{FinMap, get, insert, get-insert}
use Rattle.std.specs.Cmp.{nat_cmp_total, tied_itself}
use Rattle.std.specs.Ordering.{is_eq, nat_cmp}
use Rattle.smq_kit.specs.declared.place.Dir.{Dir}
use Rattle.smq_kit.specs.declared.place.Dir.TheVariants.{FromClient, FromCentre}
use Rattle.smq_frame.specs.Stream.{Octet, frames_after, handed_in, values}
use Rattle.smq_frame.specs.Tail.{TailValue, tail_of}
use Rattle.smq_pair.specs.Paired.{no_pdus}
use Rattle.smq_present.specs.declared.present.kept.StoredPdu.{StoredPdu}
use Rattle.smq_present.specs.declared.present.session.Session.{Session}
use Rattle.smq_present.specs.present.Batch.{BatchValue, batch_pdus, next_tail}
use Rattle.smq_present.specs.present.Kept.{kept_pdus}
use Rattle.smq_present.specs.present.Present.{direction}
use Rattle.smq_present.specs.present.Settings.{SettingsValue}
use Rattle.smq_present.specs.present.Steps.{session_after, session_with}
use Rattle.smq_present.specs.pairing.Traffic.{origin_of, pairing_among, session_pairing, traffic_of}
use Rattle.smq_present.specs.within.Pairs.{Rises, SubmitsAreRequests}
use Rattle.smq_present.specs.join.Moves.{Move, moved_by}
use Rattle.smq_book.specs.edits.Appended.{batch_origin, session_before}
use Rattle.smq_book.specs.edits.AppendedNotes.{broken_moves}
use Rattle.smq_book.specs.index.Held.{Holding, traffic_held}
use Rattle.smq_book.specs.index.Pairs.{pairing_in}
use Rattle.smq_book.specs.index.Pushed.{IsHeldAfter, IsSaidBy, origin_at, pairing_with, pushed_moves}
use Rattle.smq_present.proofs.lemmas.present.Growth.{kept_frames, kept_pdus-nil, pdus-grown}
use Rattle.smq_present.proofs.lemmas.pairing.PlacesRise.{kept-rise}
use Rattle.smq_present.proofs.lemmas.pairing.Requests.{kept-ask}
use Rattle.smq_book.proofs.lemmas.edits.Appends.{at-first}
use Rattle.smq_present.specs.present.Replies.{append_refusals}
use Rattle.smq_present.proofs.lemmas.present.RefusedBatches.{in-step}
use Rattle.smq_kit.specs.Replies.{first_of}
use Rattle.smq_book.proofs.lemmas.index.PushedAll.{pushed-all}
use Rattle.smq_book.proofs.lemmas.index.Item.{has-said}

-- ---- the PDUs of a direction once its next batch came

module _ (octets : List Octet) (batch : BatchValue) (in_step : batch.tail ≡ tail_of (values octets)) where
  pub grown : kept_pdus (octets ++ handed_in batch.moment batch.octets) ≡ kept_pdus octets ++ batch_pdus batch
  grown =
      pdus-grown octets batch.moment batch.octets
      ∙ ap (λ (tail : TailValue). kept_pdus octets ++ kept_frames (frames_after tail batch.moment batch.octets)) (sym in_step)

  pub batch-rises : Rises 0 (kept_pdus octets ++ batch_pdus batch)
  batch-rises = subst (λ ps. Rises 0 ps) grown (kept-rise (octets ++ handed_in batch.moment batch.octets))

  pub batch-asks : SubmitsAreRequests (kept_pdus octets ++ batch_pdus batch)
  batch-asks = subst SubmitsAreRequests grown (kept-ask (octets ++ handed_in batch.moment batch.octets))

-- the pairs of the session then
pub batch-pairs : (s : Session) (batch : BatchValue) → batch.tail ≡ tail_of (values (direction batch.dir s))
    → pairing_with (origin_at batch.session s.link) batch.dir (kept_pdus s.client) (kept_pdus s.centre) (batch_pdus batch)
    ≡ session_pairing (batch.session.0, session_with batch.dir (handed_in batch.moment batch.octets) s)
batch-pairs s batch in_step = by batch.dir in_step
  where
    by : (dir : Dir) → batch.tail ≡ tail_of (values (direction dir s))
        → pairing_with (origin_at batch.session s.link) dir (kept_pdus s.client) (kept_pdus s.centre) (batch_pdus batch)
        ≡ session_pairing (batch.session.0, session_with dir (handed_in batch.moment batch.octets) s)
    by FromClient tail =
        ap (λ (ps : List StoredPdu). pairing_among (origin_at batch.session s.link) ps (kept_pdus s.centre)) (sym (grown s.client batch tail))
    by FromCentre tail =
        ap (λ (ps : List StoredPdu). pairing_among (origin_at batch.session s.link) (kept_pdus s.client) ps) (sym (grown s.centre batch tail))

-- ---- the session of a number, or a new one

module _ (sessions : FinMap nat_cmp Session) (batch : BatchValue) where
  abbrev found : Option Session
  found = get sessions batch.session.0

  abbrev after : FinMap nat_cmp Session
  after = insert sessions batch.session.0 (session_after found batch)

  -- what a new session has
  none-paired : (n : ℕ) → no_pdus ≡ session_pairing (n, session_before None batch.link)
  none-paired n = λ i. pairing_among (origin_of (n, session_before None batch.link)) (sym kept_pdus-nil i) (sym kept_pdus-nil i)

  paired : (o : Option Session) → unwrap_or (option_map (λ (s : Session). session_pairing (batch.session.0, s)) o) no_pdus
      ≡ session_pairing (batch.session.0, session_before o batch.link)
  paired None = none-paired batch.session.0
  paired (Some s) = refl

  with_batch : (o : Option Session)
      → session_with batch.dir (handed_in batch.moment batch.octets) (session_before o batch.link) ≡ session_after o batch
  with_batch None = refl
  with_batch (Some s) = refl

  -- the session that is there is the one before the batch; where none is, that is one of the batch's link without octets
  pub found-before : (s : Session) → found ≡ Some s → s ≡ session_before found batch.link
  found-before s there = ap (λ (o : Option Session). session_before o batch.link) (sym there)

  pub new-before : (s : Session) → found ≡ None → s ≡ session_before None batch.link → s ≡ session_before found batch.link
  new-before s none is = is ∙ ap (λ (o : Option Session). session_before o batch.link) (sym none)

  module _ (s : Session) (is : s ≡ session_before found batch.link) where
    pub first-said : IsSaidBy (origin_at batch.session s.link) (kept_pdus s.client) (kept_pdus s.centre) (traffic_of sessions)
    first-said =
        subst (λ (s : Session). IsSaidBy (origin_at batch.session s.link) (kept_pdus s.client) (kept_pdus s.centre) (traffic_of sessions)) (sym is)
        (has-said (batch_origin found batch) (kept_pdus (session_before found batch.link).client) (kept_pdus (session_before found batch.link).centre)
        (traffic_of sessions) (traffic_of sessions) (at-first sessions batch))

    pub first-pairs : pairing_in sessions batch.session.0 ≡ session_pairing (batch.session.0, s)
    first-pairs = paired found ∙ ap (λ (s : Session). session_pairing (batch.session.0, s)) (sym is)

    pub last-pairs : session_pairing (batch.session.0, session_with batch.dir (handed_in batch.moment batch.octets) s)
        ≡ pairing_in after batch.session.0
    last-pairs =
        ap (λ (s : Session). session_pairing (batch.session.0, s))
        (ap (session_with batch.dir (handed_in batch.moment batch.octets)) is ∙ with_batch found)
        ∙ ap (λ (o : Option Session). unwrap_or (option_map (λ (s : Session). session_pairing (batch.session.0, s)) o) no_pdus)
        (sym (get-insert nat_cmp_total sessions batch.session.0 (session_after found batch) batch.session.0
        ∙ ap (λ b. cond b (Some (session_after found batch)) found) (ap is_eq (tied_itself nat_cmp_total batch.session.0))))

    module _ (free : first_of (append_refusals found batch) ≡ None) where
      abbrev moves : Session → List Move
      moves s =
          pushed_moves (origin_at batch.session s.link) batch.dir (kept_pdus s.client) (kept_pdus s.centre) (batch_pdus batch)
          ++ broken_moves (origin_at batch.session s.link) batch.dir (next_tail batch)

      -- the moves of its PDUs, and the note where it leaves its direction broken, leave the traffic with the batch
      pub last-traffic : (z : SettingsValue) (g h : Holding) → traffic_held g ≡ traffic_of sessions → IsHeldAfter z g (moves s) h
          → traffic_held h ≡ traffic_of after
      last-traffic z g h was left =
          left.traffic
          ∙ (λ i. moved_by (was i) (moves (is i)))
          ∙ pushed-all sessions batch (in-step found batch free)
