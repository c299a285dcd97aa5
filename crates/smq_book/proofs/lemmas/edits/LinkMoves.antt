-- All of a link is taken out, its forms are idle then, and all of it is put in again.
use Rattle.std.proofs.Common.{◌≡◌, ◌≢◌, Bool, true, false, List, ◌++◌, Some, None, refl, ap, ◌∙◌}
use Rattle.std.specs.Prelude.{◌==◌, not, map}
use Rattle.std.specs.FinMap.{entries, get, keys}
use Rattle.std.proofs.lemmas.Bool.{false≢true}
use Rattle.smq_kit.specs.declared.names.LinkId.{LinkId}
use Rattle.smq_kit.specs.declared.place.Place.{Place}
use Rattle.smq_kit.specs.Maps.{patched}
use Rattle.smq_tally.specs.Lists.{listed_set}
use Rattle.smq_present.specs.present.Settings.{SettingsValue, forms_of}
use Rattle.smq_present.specs.pairing.Traffic.{TrafficValue, Message, ReceivedReceipt}
use Rattle.smq_present.specs.join.Facts.{facts_of}
use Rattle.smq_present.specs.join.Keyed.{grouping_of}
use Rattle.smq_present.specs.join.Listings.{notes_of, receipt_notes}
use Rattle.smq_present.specs.join.Moves.{moved_by, PutMessage, PutReceipt, TakeMessage, TakeReceipt}
use Rattle.smq_book.specs.edits.Reached.{link_takes, link_puts, passing, without_link}
use Rattle.smq_book.proofs.lemmas.edits.FormEdits.{other_link}
use Rattle.smq_book.proofs.lemmas.edits.Moved.{moved-both, takes-messages, takes-receipts, puts-messages, puts-receipts}
use Rattle.smq_present.proofs.lemmas.join.OtherForms.{grouping-ignores, facts-ignore}
use Rattle.smq_book.proofs.lemmas.edits.Passing.{without-passing, again-passing, passing-does, entries-passing}

not_true : (b : Bool) → not b ≡ true → b ≡ false
not_true true e = absurd (false≢true e)
not_true false e = refl

-- what passes is taken out, and put in again
module _ (f : Place → Message → Bool) (g : Place → ReceivedReceipt → Bool) (t : TrafficValue) where
  abbrev messages : List (Place × Message)
  messages = entries (passing f t.messages)

  abbrev receipts : List (Place × ReceivedReceipt)
  receipts = entries (passing g t.receipts)

  -- the traffic without it
  abbrev left : TrafficValue
  left = record t { messages = passing (λ q m. not (f q m)) t.messages; receipts = passing (λ q r. not (g q r)) t.receipts }

  pub passing-taken : moved_by t (map (λ e. TakeMessage e.0) messages ++ map (λ e. TakeReceipt e.0) receipts) ≡ left
  passing-taken =
      moved-both t (map (λ e. TakeMessage e.0) messages) (map (λ e. TakeReceipt e.0) receipts)
      ∙ ap (λ (u : TrafficValue). moved_by u (map (λ e. TakeReceipt e.0) receipts)) (takes-messages t messages)
      ∙ takes-receipts (record t { messages = patched t.messages (λ q. None) (keys (passing f t.messages)) }) receipts
      ∙ (λ i. record t { messages = without-passing f t.messages i; receipts = without-passing g t.receipts i })

  pub passing-again : moved_by left (map PutMessage messages ++ map PutReceipt receipts) ≡ t
  passing-again =
      moved-both left (map PutMessage messages) (map PutReceipt receipts)
      ∙ ap (λ (w : TrafficValue). moved_by w (map PutReceipt receipts)) (puts-messages (get t.messages) left messages (entries-passing f t.messages))
      ∙ puts-receipts (get t.receipts) (record left { messages = patched left.messages (get t.messages) (keys (passing f t.messages)) }) receipts
      (entries-passing g t.receipts)
      ∙ (λ i. record t { messages = again-passing f t.messages i; receipts = again-passing g t.receipts i })

module _ (link : LinkId) (t : TrafficValue) where
  abbrev on_link : Place → Message → Bool
  on_link q m = m.link.0 == link.0

  abbrev receipt_on_link : Place → ReceivedReceipt → Bool
  receipt_on_link q r = r.link.0 == link.0

  pub taken : moved_by t (link_takes link t) ≡ without_link link t
  taken = passing-taken on_link receipt_on_link t

  pub no-message : (q : Place) (m : Message) → get (without_link link t).messages q ≡ Some m → m.link ≢ link
  no-message q m e = other_link m.link link (not_true (m.link.0 == link.0) (passing-does (λ place (m : Message). not (m.link.0 == link.0)) t.messages q m e))

  pub no-receipt : (q : Place) (r : ReceivedReceipt) → get (without_link link t).receipts q ≡ Some r → r.link ≢ link
  no-receipt q r e = other_link r.link link (not_true (r.link.0 == link.0) (passing-does (λ place (r : ReceivedReceipt). not (r.link.0 == link.0)) t.receipts q r e))

  pub again : moved_by (without_link link t) (link_puts link t) ≡ t
  again = passing-again on_link receipt_on_link t

  module _ (s z : SettingsValue) (windows : s.windows ≡ z.windows) (versions : s.versions ≡ z.versions) (clock : s.clock ≡ z.clock)
      (others : (l : LinkId) → l ≢ link → forms_of s l ≡ forms_of z l) where
    pub groups-idle : grouping_of s (without_link link t) ≡ grouping_of z (without_link link t)
    groups-idle = grouping-ignores s z (without_link link t) link windows versions clock others (λ q m e is. absurd (no-message q m e is)) no-receipt

    pub facts-idle : facts_of s (without_link link t) ≡ facts_of z (without_link link t)
    facts-idle = facts-ignore s z (without_link link t) link windows versions clock others (λ q m e is. absurd (no-message q m e is)) no-receipt

    pub notes-idle : notes_of s (without_link link t) ≡ notes_of z (without_link link t)
    notes-idle = λ i. listed_set (keys t.notes ++ receipt_notes (groups-idle i))
