-- The traffic without a session is the traffic from which the session's messages, receipts and notes are taken.
use Rattle.std.proofs.Common.{◌≡◌, ℕ, List, [], ◌∷◌, ◌++◌, Some, None, refl, sym, ap, ◌∙◌}
use Rattle.std.specs.Prelude.{map}
use Rattle.std.specs.Ordering.{nat_cmp}
use Rattle.std.specs.FinMap.{FinMap, get, remove}
use Rattle.smq_kit.specs.Maps.{patched}
use Rattle.smq_kit.proofs.PlaceOrders.{places_total, places_exact}
use Rattle.smq_tally.specs.declared.list.Listed.{Listed}
use Rattle.smq_tally.specs.within.ListOrder.{listed_total}
use Rattle.smq_tally.proofs.ListOrders.{listed_exact}
use Rattle.smq_present.specs.declared.present.session.Session.{Session}
use Rattle.smq_present.specs.pairing.Traffic.{TrafficValue, session_messages, session_receipts, session_notes, traffic_of}
use Rattle.smq_present.specs.join.Moves.{moved_by, TakeMessage, TakeReceipt, TakeNote}
use Rattle.smq_book.specs.edits.Withdrawn.{withdrawal_moves}
use Rattle.smq_present.proofs.lemmas.join.SessionLists.{marks, note_number, noted, notes-own, notes-all}
use Rattle.smq_book.proofs.lemmas.edits.Moved.{moved-both, takes-messages, takes-receipts, takes-notes}
use Rattle.smq_present.proofs.lemmas.pairing.SessionTraffic.{session_number, messages-own, receipts-own, said-without}

marked-keys : (notes : List Listed) → map (λ (e : Listed × Unit {0}). e.0) (marks notes) ≡ notes
marked-keys [] = refl
marked-keys (note ∷ notes) = ap (λ es. note ∷ es) (marked-keys notes)

-- ---- a session is withdrawn

module _ (sessions : FinMap nat_cmp Session) (n : ℕ) (s : Session) (there : get sessions n ≡ Some s) where
  notes-without : patched (traffic_of sessions).notes (λ q. None) (session_notes (n, s)) ≡ (traffic_of (remove sessions n)).notes
  notes-without =
      (λ i. patched (notes-all sessions i) (λ q. None) (sym (marked-keys (session_notes (n, s))) i))
      ∙ said-without listed_total listed_exact note_number noted notes-own sessions n s there
      ∙ sym (notes-all (remove sessions n))

  pub withdrawn : moved_by (traffic_of sessions) (withdrawal_moves (n, s)) ≡ traffic_of (remove sessions n)
  withdrawn =
      let t = traffic_of sessions in
      let u = traffic_of (remove sessions n) in
      let messages : patched t.messages (λ q. None) (map (λ e. e.0) (session_messages (n, s))) ≡ u.messages = said-without places_total places_exact session_number session_messages messages-own sessions n s there in
      let receipts : patched t.receipts (λ q. None) (map (λ e. e.0) (session_receipts (n, s))) ≡ u.receipts = said-without places_total places_exact session_number session_receipts receipts-own sessions n s there in
      moved-both t (map (λ m. TakeMessage m.0) (session_messages (n, s))) (map (λ r. TakeReceipt r.0) (session_receipts (n, s)) ++ map TakeNote (session_notes (n, s)))
      ∙ ap (λ (w : TrafficValue). moved_by w (map (λ r. TakeReceipt r.0) (session_receipts (n, s)) ++ map TakeNote (session_notes (n, s)))) (takes-messages t (session_messages (n, s)))
      ∙ moved-both (record t { messages = patched t.messages (λ q. None) (map (λ e. e.0) (session_messages (n, s))) }) (map (λ r. TakeReceipt r.0) (session_receipts (n, s))) (map TakeNote (session_notes (n, s)))
      ∙ ap (λ (w : TrafficValue). moved_by w (map TakeNote (session_notes (n, s)))) (takes-receipts (record t { messages = patched t.messages (λ q. None) (map (λ e. e.0) (session_messages (n, s))) }) (session_receipts (n, s)))
      ∙ takes-notes (record {
        messages = patched t.messages (λ q. None) (map (λ e. e.0) (session_messages (n, s)));
        receipts = patched t.receipts (λ q. None) (map (λ e. e.0) (session_receipts (n, s)));
        notes = t.notes;
      }) (session_notes (n, s))
      ∙ (λ i. record { messages = messages i; receipts = receipts i; notes = notes-without i })
