-- The moves of the PDUs of a batch, each with its notes, leave the traffic with the batch.
use Rattle.std.proofs.Common.{◌≡◌, List, [], ◌∷◌, ◌++◌, Option, Some, None, refl, sym, ap, ◌∙◌}
use Rattle.std.specs.Prelude.{⊤, map, option_to_list}
use Rattle.std.specs.List.{AllByRecursion, flat_map}
use Rattle.std.specs.Ordering.{nat_cmp}
use Rattle.std.specs.FinMap.{FinMap, get, insert, remove}
use Rattle.smq_kit.specs.declared.place.Dir.{Dir}
use Rattle.smq_kit.specs.declared.place.Dir.TheVariants.{FromClient, FromCentre}
use Rattle.smq_kit.specs.declared.place.Place.{Place}
use Rattle.smq_frame.specs.Stream.{values}
use Rattle.smq_frame.specs.Tail.{tail_of}
use Rattle.smq_pair.specs.Growth.{made_by}
use Rattle.smq_tally.specs.declared.list.List.TheVariants as list
use Rattle.smq_tally.specs.Lists.{listed}
use Rattle.smq_present.specs.declared.present.kept.StoredPdu.{StoredPdu}
use Rattle.smq_present.specs.declared.present.session.Session.{Session}
use Rattle.smq_present.specs.present.Batch.{BatchValue, batch_pdus, next_tail}
use Rattle.smq_present.specs.present.Kept.{kept_pdus}
use Rattle.smq_present.specs.present.Present.{octets_in}
use Rattle.smq_present.specs.present.Steps.{session_after}
use Rattle.smq_present.specs.pairing.Traffic.{Message, Origin, ReceivedReceipt, TrafficValue, broken_at, message_at, pairing_among, placed, receipt_at, traffic_of}
use Rattle.smq_present.specs.join.Moves.{Move, PutMessage, TakeMessage, PutReceipt, TakeReceipt, PutNote, TakeNote, moved, moved_by}
use Rattle.smq_book.specs.edits.Appended.{anew, answered, batch_origin, centre_moves, client_moves, push_moves, session_before}
use Rattle.smq_book.specs.edits.AppendedNotes.{broken_moves, next_moves, note_moves}
use Rattle.smq_book.specs.index.Pushed.{pushed_moves}
use Rattle.smq_book.proofs.lemmas.edits.Appends.{appended}
use Rattle.smq_book.proofs.lemmas.edits.Moved.{moved-both}
use Rattle.smq_book.proofs.lemmas.edits.NotedAppends.{appended-notes}
use Rattle.smq_book.proofs.lemmas.index.Pushed.{AreOfNotes, messages-stay, noted-of-notes, receipts-stay}

-- ---- moves of messages and receipts leave notes

abbrev IsOfPdus : Move → Type 0
IsOfPdus (PutMessage e) = ⊤
IsOfPdus (TakeMessage q) = ⊤
IsOfPdus (PutReceipt e) = ⊤
IsOfPdus (TakeReceipt q) = ⊤
IsOfPdus (PutNote note) = ⊥
IsOfPdus (TakeNote note) = ⊥

abbrev AreOfPdus : List Move → Type 0
AreOfPdus moves = AllByRecursion IsOfPdus moves

notes-moved : (t : TrafficValue) (move : Move) → IsOfPdus move → (moved t move).notes ≡ t.notes
notes-moved t (PutMessage e) of = refl
notes-moved t (TakeMessage q) of = refl
notes-moved t (PutReceipt e) of = refl
notes-moved t (TakeReceipt q) of = refl
notes-moved t (PutNote note) of = absurd of
notes-moved t (TakeNote note) of = absurd of

notes-stay : (t : TrafficValue) (moves : List Move) → AreOfPdus moves → (moved_by t moves).notes ≡ t.notes
notes-stay t [] of = refl
notes-stay t (move ∷ moves) of = notes-stay (moved t move) moves of.1 ∙ notes-moved t move of.0

both-of-pdus : (xs ys : List Move) → AreOfPdus xs → AreOfPdus ys → AreOfPdus (xs ++ ys)
both-of-pdus [] ys a b = b
both-of-pdus (x ∷ xs) ys a b = (a.0, both-of-pdus xs ys a.1 b)

messages-of-pdus : (e : Option (Place × Message)) → AreOfPdus (map PutMessage (option_to_list e))
messages-of-pdus None = tt
messages-of-pdus (Some e) = (tt, tt)

receipts-of-pdus : (e : Option (Place × ReceivedReceipt)) → AreOfPdus (map PutReceipt (option_to_list e))
receipts-of-pdus None = tt
receipts-of-pdus (Some e) = (tt, tt)

anew-of-pdus : (es : List (Place × Message)) → AreOfPdus (flat_map anew es)
anew-of-pdus [] = tt
anew-of-pdus (e ∷ es) = (tt, (tt, anew-of-pdus es))

broken-of-notes : (e : Option Place) → AreOfNotes (map (λ q. PutNote (listed list.Broken q)) (option_to_list e))
broken-of-notes None = tt
broken-of-notes (Some q) = (tt, tt)

-- ---- each kind goes by what there was of it

messages-move : (t u : TrafficValue) (move : Move) → t.messages ≡ u.messages → (moved t move).messages ≡ (moved u move).messages
messages-move t u (PutMessage e) same = λ i. insert (same i) e.0 e.1
messages-move t u (TakeMessage q) same = λ i. remove (same i) q
messages-move t u (PutReceipt e) same = same
messages-move t u (TakeReceipt q) same = same
messages-move t u (PutNote note) same = same
messages-move t u (TakeNote note) same = same

receipts-move : (t u : TrafficValue) (move : Move) → t.receipts ≡ u.receipts → (moved t move).receipts ≡ (moved u move).receipts
receipts-move t u (PutMessage e) same = same
receipts-move t u (TakeMessage q) same = same
receipts-move t u (PutReceipt e) same = λ i. insert (same i) e.0 e.1
receipts-move t u (TakeReceipt q) same = λ i. remove (same i) q
receipts-move t u (PutNote note) same = same
receipts-move t u (TakeNote note) same = same

notes-move : (t u : TrafficValue) (move : Move) → t.notes ≡ u.notes → (moved t move).notes ≡ (moved u move).notes
notes-move t u (PutMessage e) same = same
notes-move t u (TakeMessage q) same = same
notes-move t u (PutReceipt e) same = same
notes-move t u (TakeReceipt q) same = same
notes-move t u (PutNote note) same = λ i. insert (same i) note tt
notes-move t u (TakeNote note) same = λ i. remove (same i) note

pub messages-by : (t u : TrafficValue) (moves : List Move) → t.messages ≡ u.messages → (moved_by t moves).messages ≡ (moved_by u moves).messages
messages-by t u [] same = same
messages-by t u (move ∷ moves) same = messages-by (moved t move) (moved u move) moves (messages-move t u move same)

pub receipts-by : (t u : TrafficValue) (moves : List Move) → t.receipts ≡ u.receipts → (moved_by t moves).receipts ≡ (moved_by u moves).receipts
receipts-by t u [] same = same
receipts-by t u (move ∷ moves) same = receipts-by (moved t move) (moved u move) moves (receipts-move t u move same)

notes-by : (t u : TrafficValue) (moves : List Move) → t.notes ≡ u.notes → (moved_by t moves).notes ≡ (moved_by u moves).notes
notes-by t u [] same = same
notes-by t u (move ∷ moves) same = notes-by (moved t move) (moved u move) moves (notes-move t u move same)

-- ---- one PDU's notes and messages, then the rest

module _ (notes pdus rest other : List Move) where
  in-parts : (t : TrafficValue) → moved_by t ((notes ++ pdus) ++ rest) ≡ moved_by (moved_by (moved_by t notes) pdus) rest
  in-parts t = moved-both t (notes ++ pdus) rest ∙ ap (λ v. moved_by v rest) (moved-both t notes pdus)

  messages-step : AreOfNotes notes → ((t : TrafficValue) → (moved_by t rest).messages ≡ (moved_by t other).messages)
      → (t : TrafficValue) → (moved_by t ((notes ++ pdus) ++ rest)).messages ≡ (moved_by t (pdus ++ other)).messages
  messages-step of later t =
      ap (λ (v : TrafficValue). v.messages) (in-parts t)
      ∙ later (moved_by (moved_by t notes) pdus)
      ∙ messages-by (moved_by (moved_by t notes) pdus) (moved_by t pdus) other
      (messages-by (moved_by t notes) t pdus (messages-stay t notes of))
      ∙ ap (λ (v : TrafficValue). v.messages) (sym (moved-both t pdus other))

  receipts-step : AreOfNotes notes → ((t : TrafficValue) → (moved_by t rest).receipts ≡ (moved_by t other).receipts)
      → (t : TrafficValue) → (moved_by t ((notes ++ pdus) ++ rest)).receipts ≡ (moved_by t (pdus ++ other)).receipts
  receipts-step of later t =
      ap (λ (v : TrafficValue). v.receipts) (in-parts t)
      ∙ later (moved_by (moved_by t notes) pdus)
      ∙ receipts-by (moved_by (moved_by t notes) pdus) (moved_by t pdus) other
      (receipts-by (moved_by t notes) t pdus (receipts-stay t notes of))
      ∙ ap (λ (v : TrafficValue). v.receipts) (sym (moved-both t pdus other))

  notes-step : AreOfPdus pdus → ((t : TrafficValue) → (moved_by t rest).notes ≡ (moved_by t other).notes)
      → (t : TrafficValue) → (moved_by t ((notes ++ pdus) ++ rest)).notes ≡ (moved_by t (notes ++ other)).notes
  notes-step of later t =
      ap (λ (v : TrafficValue). v.notes) (in-parts t)
      ∙ later (moved_by (moved_by t notes) pdus)
      ∙ notes-by (moved_by (moved_by t notes) pdus) (moved_by t notes) other (notes-stay (moved_by t notes) pdus of)
      ∙ ap (λ (v : TrafficValue). v.notes) (sym (moved-both t notes other))

-- ---- PDUs in turn

module _ (origin : Origin) where
  pub next-of-notes : (dir : Dir) (client centre : List StoredPdu) (next : StoredPdu) → AreOfNotes (next_moves origin dir client centre next)
  next-of-notes dir client centre next =
      noted-of-notes origin dir next (made_by (pairing_among origin client centre) (placed origin dir next))

  client-of-pdus : (client centre : List StoredPdu) (next : StoredPdu) → AreOfPdus (client_moves origin client centre next)
  client-of-pdus client centre next = messages-of-pdus (message_at origin centre client next)

  centre-of-pdus : (client centre : List StoredPdu) (next : StoredPdu) → AreOfPdus (centre_moves origin client centre next)
  centre-of-pdus client centre next =
      both-of-pdus (flat_map anew (answered origin client centre next)) (map PutReceipt (option_to_list (receipt_at origin next)))
      (anew-of-pdus (answered origin client centre next)) (receipts-of-pdus (receipt_at origin next))

  pushed-messages : (dir : Dir) (client centre later : List StoredPdu) (t : TrafficValue)
      → (moved_by t (pushed_moves origin dir client centre later)).messages ≡ (moved_by t (push_moves origin dir client centre later)).messages
  pushed-messages FromClient client centre [] t = refl
  pushed-messages FromCentre client centre [] t = refl
  pushed-messages FromClient client centre (next ∷ later) t =
      messages-step (next_moves origin FromClient client centre next) (client_moves origin client centre next)
      (pushed_moves origin FromClient (client ++ next ∷ []) centre later) (push_moves origin FromClient (client ++ next ∷ []) centre later)
      (next-of-notes FromClient client centre next) (pushed-messages FromClient (client ++ next ∷ []) centre later) t
  pushed-messages FromCentre client centre (next ∷ later) t =
      messages-step (next_moves origin FromCentre client centre next) (centre_moves origin client centre next)
      (pushed_moves origin FromCentre client (centre ++ next ∷ []) later) (push_moves origin FromCentre client (centre ++ next ∷ []) later)
      (next-of-notes FromCentre client centre next) (pushed-messages FromCentre client (centre ++ next ∷ []) later) t

  pushed-receipts : (dir : Dir) (client centre later : List StoredPdu) (t : TrafficValue)
      → (moved_by t (pushed_moves origin dir client centre later)).receipts ≡ (moved_by t (push_moves origin dir client centre later)).receipts
  pushed-receipts FromClient client centre [] t = refl
  pushed-receipts FromCentre client centre [] t = refl
  pushed-receipts FromClient client centre (next ∷ later) t =
      receipts-step (next_moves origin FromClient client centre next) (client_moves origin client centre next)
      (pushed_moves origin FromClient (client ++ next ∷ []) centre later) (push_moves origin FromClient (client ++ next ∷ []) centre later)
      (next-of-notes FromClient client centre next) (pushed-receipts FromClient (client ++ next ∷ []) centre later) t
  pushed-receipts FromCentre client centre (next ∷ later) t =
      receipts-step (next_moves origin FromCentre client centre next) (centre_moves origin client centre next)
      (pushed_moves origin FromCentre client (centre ++ next ∷ []) later) (push_moves origin FromCentre client (centre ++ next ∷ []) later)
      (next-of-notes FromCentre client centre next) (pushed-receipts FromCentre client (centre ++ next ∷ []) later) t

  pushed-notes : (dir : Dir) (client centre later : List StoredPdu) (t : TrafficValue)
      → (moved_by t (pushed_moves origin dir client centre later)).notes ≡ (moved_by t (note_moves origin dir client centre later)).notes
  pushed-notes FromClient client centre [] t = refl
  pushed-notes FromCentre client centre [] t = refl
  pushed-notes FromClient client centre (next ∷ later) t =
      notes-step (next_moves origin FromClient client centre next) (client_moves origin client centre next)
      (pushed_moves origin FromClient (client ++ next ∷ []) centre later) (note_moves origin FromClient (client ++ next ∷ []) centre later)
      (client-of-pdus client centre next) (pushed-notes FromClient (client ++ next ∷ []) centre later) t
  pushed-notes FromCentre client centre (next ∷ later) t =
      notes-step (next_moves origin FromCentre client centre next) (centre_moves origin client centre next)
      (pushed_moves origin FromCentre client (centre ++ next ∷ []) later) (note_moves origin FromCentre client (centre ++ next ∷ []) later)
      (centre-of-pdus client centre next) (pushed-notes FromCentre client (centre ++ next ∷ []) later) t

-- ---- a batch

module _ (sessions : FinMap nat_cmp Session) (batch : BatchValue)
    (in_step : batch.tail ≡ tail_of (values (octets_in batch.dir (get sessions batch.session.0)))) where
  abbrev found : Option Session
  found = get sessions batch.session.0

  abbrev origin : Origin
  origin = batch_origin found batch

  abbrev client : List StoredPdu
  client = kept_pdus (session_before found batch.link).client

  abbrev centre : List StoredPdu
  centre = kept_pdus (session_before found batch.link).centre

  abbrev was : TrafficValue
  was = traffic_of sessions

  abbrev after : TrafficValue
  after = traffic_of (insert sessions batch.session.0 (session_after found batch))

  abbrev pushed : List Move
  pushed = pushed_moves origin batch.dir client centre (batch_pdus batch)

  abbrev broken : List Move
  broken = broken_moves origin batch.dir (next_tail batch)

  of-notes : AreOfNotes broken
  of-notes = broken-of-notes (broken_at origin batch.dir (next_tail batch))

  pub pushed-all : moved_by was (pushed ++ broken) ≡ after
  pushed-all =
      let messages : (moved_by was (pushed ++ broken)).messages ≡ after.messages =
      ap (λ (t : TrafficValue). t.messages) (moved-both was pushed broken)
      ∙ messages-stay (moved_by was pushed) broken of-notes
      ∙ pushed-messages origin batch.dir client centre (batch_pdus batch) was
      ∙ ap (λ (t : TrafficValue). t.messages) (sym (appended sessions batch in_step)) in
      let receipts : (moved_by was (pushed ++ broken)).receipts ≡ after.receipts =
      ap (λ (t : TrafficValue). t.receipts) (moved-both was pushed broken)
      ∙ receipts-stay (moved_by was pushed) broken of-notes
      ∙ pushed-receipts origin batch.dir client centre (batch_pdus batch) was
      ∙ ap (λ (t : TrafficValue). t.receipts) (sym (appended sessions batch in_step)) in
      let notes : (moved_by was (pushed ++ broken)).notes ≡ after.notes =
      ap (λ (t : TrafficValue). t.notes) (moved-both was pushed broken)
      ∙ notes-by (moved_by was pushed) (moved_by was (note_moves origin batch.dir client centre (batch_pdus batch))) broken
      (pushed-notes origin batch.dir client centre (batch_pdus batch) was)
      ∙ ap (λ (t : TrafficValue). t.notes) (sym (moved-both was (note_moves origin batch.dir client centre (batch_pdus batch)) broken))
      ∙ sym (appended-notes sessions batch in_step) in
      λ i. record { messages = messages i; receipts = receipts i; notes = notes i }
