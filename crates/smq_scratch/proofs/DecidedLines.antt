-- A line for a message names a receipt exactly where it says that the message was delivered or failed.
use Rattle.std.proofs.Common.{◌≡◌, ℕ, Bool, true, false, List, [], ◌∷◌, ◌++◌, Option, Some, None, refl, sym, ap, ◌∙◌}
use Rattle.std.specs.Prelude.{◌==◌, is_some, map, not, option_map}
use Rattle.std.specs.FinMap.{entries}
use Rattle.std.specs.List.{enumerate_from, flat_map}
use mathlib.Core.List.{map-map}
use Rattle.std.proofs.lemmas.List.{map-append}
use Rattle.smq_kit.specs.LinkKeys.{link_key}
use Rattle.smq_kit.specs.declared.link_key.LinkKey.{LinkKey}
use Rattle.smq_pdu.specs.Pairing.{agrees}
use Rattle.smq_pdu.specs.declared.body.Submit.{Submit}
use Rattle.smq_tally.specs.declared.outcome.Outcome.{Outcome}
use Rattle.smq_tally.specs.declared.outcome.Outcome.TheVariants as o
use Rattle.smq_present.specs.join.Lines.{MessageLineValue}
use Rattle.smq_present.specs.declared.pairing.pairs.SessionForms.{SessionForms}
use Rattle.smq_present.specs.declared.present.kept.StoredPdu.{StoredPdu}
use Rattle.smq_present.specs.declared.present.session.Session.{Session}
use Rattle.smq_present.specs.present.Kept.{header_of, id_in, kept_pdus, submit_in}
use Rattle.smq_present.specs.present.Present.{PresentValue}
use Rattle.smq_present.specs.present.Settings.{SettingsValue}
use Rattle.smq_present.specs.join.Circumstances.{lapsed_in}
use Rattle.smq_present.specs.join.Outcomes.{first_that_holds, is_decided, is_delivered, is_shared, says_delivered}
use Rattle.smq_present.specs.within.Accepted.{decider_of, is_single}
use Rattle.smq_present.specs.within.Lists.{receipts_of, session_submits, source_of, submits_of}
use Rattle.smq_present.specs.within.Messages.{SubmittedMessage, message_of, response_of, submit_by, submit_with}
use Rattle.smq_present.specs.within.Outcomes.{message_from, received, standing_of}
use Rattle.smq_present.specs.within.Receipts.{KeyedReceipt, PlacedReceipt, candidates, least_receipt}
use Rattle.smq_scratch.specs.Lines.{deciding_receipt, message_line, message_lines}

abbrev names : MessageLineValue → Bool
names line = is_some line.receipt

abbrev says : MessageLineValue → Bool
says line = is_decided line.fact.outcome

module _ (s : SettingsValue) (submits : List SubmittedMessage) (receipts : List KeyedReceipt) where
  abbrev line : SubmittedMessage → MessageLineValue
  line m = message_line s submits receipts m

  -- what becomes of an accepted message that asks for a receipt or doesn't, and has lapsed or not
  abbrev outcome_of : LinkKey → Bool → Bool → Outcome
  outcome_of key asks lapsed = first_that_holds
      ((is_shared (Some (standing_of submits receipts key)), o.Ambiguous)
      ∷ (says_delivered (option_map received (decider_of submits receipts (Some key))), o.Delivered)
      ∷ (is_some (option_map received (decider_of submits receipts (Some key))), o.Failed)
      ∷ (not asks, o.Unasked) ∷ (lapsed, o.Lapsed) ∷ []) o.Open

  undecided : (asks lapsed : Bool)
      → false ≡ is_decided (first_that_holds ((not asks, o.Unasked) ∷ (lapsed, o.Lapsed) ∷ []) o.Open)
  undecided false lapsed = refl
  undecided true true = refl
  undecided true false = refl

  by_receipt : (decider : Option PlacedReceipt) (asks lapsed : Bool) → is_some (option_map deciding_receipt decider)
      ≡ is_decided (first_that_holds ((says_delivered (option_map received decider), o.Delivered)
      ∷ (is_some (option_map received decider), o.Failed) ∷ (not asks, o.Unasked) ∷ (lapsed, o.Lapsed) ∷ []) o.Open)
  by_receipt None asks lapsed = undecided asks lapsed
  by_receipt (Some r) asks lapsed = elim (is_delivered r.receipt.state) as (λ b. true ≡ is_decided (first_that_holds ((b, o.Delivered)
      ∷ (true, o.Failed) ∷ (not asks, o.Unasked) ∷ (lapsed, o.Lapsed) ∷ []) o.Open)) [ true ↦ refl | false ↦ refl ]

  by_key : (key : LinkKey) (asks lapsed single : Bool) → is_single submits key ≡ single
      → is_some (option_map deciding_receipt (decider_of submits receipts (Some key))) ≡ is_decided (outcome_of key asks lapsed)
  by_key key asks lapsed true e = rw e (by_receipt (least_receipt (candidates key receipts)) asks lapsed)
  by_key key asks lapsed false e = rw e refl

  module _ (source : SessionForms) (p : StoredPdu) (submit : Submit) where
    by_response : (r : StoredPdu) (agree sound : Bool) (id : Option (List ℕ)) → agrees (header_of p) (header_of r) ≡ agree
        → (r.status == 0) ≡ sound → id_in r.content ≡ id
        → names (line (message_of source p submit (Some r))) ≡ says (line (message_of source p submit (Some r)))
    by_response r false sound id a z i = rw a refl
    by_response r true false id a z i = rw (a, z) refl
    by_response r true true None a z i = rw (a, z, i) refl
    by_response r true true (Some octets) a z i =
        let m = message_of source p submit (Some r) in
        let key = link_key source.link source.forms.response octets in
        rw (a, z, i) (by_key key m.asks_receipt (lapsed_in s (message_from m)) (is_single submits key) refl)

    one-decided : (response : Option StoredPdu)
        → names (line (message_of source p submit response)) ≡ says (line (message_of source p submit response))
    one-decided None = refl
    one-decided (Some r) = by_response r (agrees (header_of p) (header_of r)) (r.status == 0) (id_in r.content) refl refl refl

  -- so it is of these messages
  Decided : List SubmittedMessage → Type 0
  Decided ms = map (λ m. names (line m)) ms ≡ map (λ m. says (line m)) ms

  submit-decided : (submit : Option Submit) (source : SessionForms) (p : StoredPdu) (response : Option StoredPdu) → Decided (submit_with submit source p response)
  unfolding Decided
  submit-decided (Some submit) source p response = ap (λ b. b ∷ []) (one-decided source p submit response)
  submit-decided None source p response = refl

  append-decided : (xs ys : List SubmittedMessage) → Decided xs → Decided ys → Decided (xs ++ ys)
  unfolding Decided
  append-decided [] ys h k = k
  append-decided (x ∷ xs) ys h k =
      map-append (λ m. names (line m)) (x ∷ xs) ys ∙ (λ i. h i ++ k i) ∙ sym (map-append (λ m. says (line m)) (x ∷ xs) ys)

  flat-decided : {X : Type 0} (f : X → List SubmittedMessage) (xs : List X) → ((x : X) → Decided (f x)) → Decided (flat_map f xs)
  unfolding Decided
  flat-decided f [] h = refl
  flat-decided f (x ∷ xs) h = append-decided (f x) (flat_map f xs) (h x) (flat-decided f xs h)

module _ (p : PresentValue) where
  session-decided : (e : ℕ × Session) → Decided p.settings (submits_of p) (receipts_of p) (session_submits p.settings e)
  session-decided e = flat-decided p.settings (submits_of p) (receipts_of p)
      (λ i. submit_by (submit_in i.1.content) (source_of p.settings e) (kept_pdus e.1.client) (kept_pdus e.1.centre) i.0 i.1)
      (enumerate_from 0 (kept_pdus e.1.client)) (λ i. submit-decided p.settings (submits_of p) (receipts_of p)
      (submit_in i.1.content) (source_of p.settings e) i.1 (response_of (kept_pdus e.1.client) (kept_pdus e.1.centre) i.0 i.1))

  pub lines-decided : map (λ line. is_some line.receipt) (message_lines p) ≡ map (λ line. is_decided line.fact.outcome) (message_lines p)
  unfolding Decided
  lines-decided =
      map-map names (message_line p.settings (submits_of p) (receipts_of p)) (submits_of p)
      ∙ flat-decided p.settings (submits_of p) (receipts_of p) (session_submits p.settings) (entries p.sessions) session-decided
      ∙ sym (map-map says (message_line p.settings (submits_of p) (receipts_of p)) (submits_of p))
