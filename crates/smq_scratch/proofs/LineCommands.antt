-- The commands of lines: a message is a submit_sm or a data_sm, and a delivery receipt a deliver_sm or a data_sm.
use Rattle.std.proofs.Common.{◌≡◌, ◌+◌, ◌⊎◌, ℕ, List, [], ◌∷◌, drop, Option, Some, None, refl, ap, ◌∙◌, subst}
use Rattle.std.specs.Prelude.{◌==◌, Contains, map}
use Rattle.std.specs.FinMap.{entries}
use Rattle.std.specs.List.{enumerate_from}
use Rattle.smq_frame.specs.Frame.{FrameValue}
use Rattle.smq_frame.specs.Stream.{Octet, stream_frames}
use Rattle.smq_pdu.specs.Commands.{data_sm, deliver_sm, submit_sm}
use Rattle.smq_pdu.specs.Header.{header_at}
use Rattle.smq_pdu.specs.Pdu.{body_of}
use Rattle.smq_pdu.specs.Placed.{placed_pdu, stream_pdus}
use Rattle.smq_pdu.specs.declared.body.Submit.{Submit}
use Rattle.smq_receipt.specs.declared.reading.Receipt.{Receipt}
use Rattle.smq_present.specs.join.Lines.{MessageLineValue, ReceiptLineValue}
use Rattle.smq_present.specs.declared.pairing.pairs.SessionForms.{SessionForms}
use Rattle.smq_present.specs.declared.present.kept.StoredPdu.{StoredPdu}
use Rattle.smq_present.specs.present.Kept.{kept_pdu, kept_pdus, receipt_in, submit_in}
use Rattle.smq_present.specs.present.Present.{PresentValue}
use Rattle.smq_present.specs.within.Lists.{receipts_of, session_receipts, session_submits, source_of, submits_of}
use Rattle.smq_present.specs.within.Messages.{SubmittedMessage, message_of, response_of, submit_by, submit_with}
use Rattle.smq_present.specs.within.Receipts.{KeyedReceipt, keyed_receipt, receipt_by}
use Rattle.smq_present.proofs.lemmas.pairing.Members.{flat-has, has-map, map-has, none-in, one-is}
use Rattle.smq_present.proofs.lemmas.pairing.Requests.{by_command, received_by_command}
use Rattle.smq_scratch.specs.Lines.{message_line, message_lines, receipt_line, receipt_lines}

-- ---- PDUs of a stream

submit-command : (f : FrameValue) (submit : Submit) → submit_in (kept_pdu (placed_pdu f)).content ≡ Some submit
    → ((kept_pdu (placed_pdu f)).command ≡ submit_sm) ⊎ ((kept_pdu (placed_pdu f)).command ≡ data_sm)
unfolding body_of
submit-command f submit e = by_command ((header_at f.octets).command == submit_sm) (header_at f.octets).command (drop 16 f.octets) submit refl e

receipt-command : (f : FrameValue) (r : Receipt) → receipt_in (kept_pdu (placed_pdu f)).content ≡ Some r
    → ((kept_pdu (placed_pdu f)).command ≡ deliver_sm) ⊎ ((kept_pdu (placed_pdu f)).command ≡ data_sm)
unfolding body_of
receipt-command f r e =
    received_by_command ((header_at f.octets).command == submit_sm) (header_at f.octets).command (drop 16 f.octets) r e

-- a PDU of a stream is that of a frame
of-frame : (stream : List Octet) (p : StoredPdu) → Contains (kept_pdus stream) p → (f : FrameValue) × (kept_pdu (placed_pdu f) ≡ p)
of-frame stream p among =
    let (q, there, is) = map-has kept_pdu (stream_pdus stream) p among in
    let (f, here, same) = map-has placed_pdu (stream_frames stream) q there in
    (f, ap kept_pdu same ∙ is)

-- what is numbered is what there was
numbers-gone : {X : Type 0} (n : ℕ) (xs : List X) → map (λ (e : ℕ × X). e.1) (enumerate_from n xs) ≡ xs
numbers-gone n [] = refl
numbers-gone {X = X} n (x ∷ xs) = ap (λ (ys : List X). x ∷ ys) (numbers-gone (n + 1) xs)

numbered-has : {X : Type 0} (n : ℕ) (xs : List X) (e : ℕ × X) → Contains (enumerate_from n xs) e → Contains xs e.1
numbered-has {X = X} n xs e h =
    subst (λ (ys : List X). Contains ys e.1) (numbers-gone n xs) (has-map (λ (e : ℕ × X). e.1) (enumerate_from n xs) e h)

-- ---- messages

-- a message that a PDU is has its command
submit-of : (submit : Option Submit) (source : SessionForms) (p : StoredPdu) (response : Option StoredPdu) (m : SubmittedMessage)
    → Contains (submit_with submit source p response) m → (said : Submit) × (submit ≡ Some said) × (p.command ≡ m.header.command)
submit-of None source p response m h = none-in m h
submit-of (Some said) source p response m h =
    (said, refl, ap (λ (n : SubmittedMessage). n.header.command) (one-is (message_of source p said response) m h))

module _ (p : PresentValue) where
  message-command : (m : SubmittedMessage) → Contains (submits_of p) m → (m.header.command ≡ submit_sm) ⊎ (m.header.command ≡ data_sm)
  message-command m among =
      let (e, there, here) = flat-has (session_submits p.settings) (entries p.sessions) m among in
      let source = source_of p.settings e in
      let client = kept_pdus e.1.client in
      let centre = kept_pdus e.1.centre in
      let (i, numbered, said) = flat-has (λ (i : ℕ × StoredPdu). submit_by (submit_in i.1.content) source client centre i.0 i.1)
      (enumerate_from 0 client) m here in
      let (submit, is, same) = submit-of (submit_in i.1.content) source i.1 (response_of client centre i.0 i.1) m said in
      let (f, framed) = of-frame e.1.client i.1 (numbered-has 0 client i numbered) in
      subst (λ n. (n ≡ submit_sm) ⊎ (n ≡ data_sm)) (ap (λ (q : StoredPdu). q.command) framed ∙ same)
      (submit-command f submit (ap (λ (q : StoredPdu). submit_in q.content) framed ∙ is))

  pub message-commands : (line : MessageLineValue) → Contains (message_lines p) line → (line.command ≡ submit_sm) ⊎ (line.command ≡ data_sm)
  message-commands line among =
      let (m, there, is) = map-has (message_line p.settings (submits_of p) (receipts_of p)) (submits_of p) line among in
      subst (λ (l : MessageLineValue). (l.command ≡ submit_sm) ⊎ (l.command ≡ data_sm)) is (message-command m there)

-- ---- delivery receipts

-- a receipt that a PDU is has its command
receipt-of : (receipt : Option Receipt) (source : SessionForms) (p : StoredPdu) (e : KeyedReceipt)
    → Contains (receipt_by receipt source p) e → (said : Receipt) × (receipt ≡ Some said) × (p.command ≡ e.1.command)
receipt-of None source p e h = none-in e h
receipt-of (Some said) source p e h = (said, refl, ap (λ (x : KeyedReceipt). x.1.command) (one-is (keyed_receipt source p said) e h))

module _ (p : PresentValue) where
  one-command : (x : KeyedReceipt) → Contains (receipts_of p) x → (x.1.command ≡ deliver_sm) ⊎ (x.1.command ≡ data_sm)
  one-command x among =
      let (e, there, here) = flat-has (session_receipts p.settings) (entries p.sessions) x among in
      let source = source_of p.settings e in
      let (q, kept, said) = flat-has (λ (q : StoredPdu). receipt_by (receipt_in q.content) source q) (kept_pdus e.1.centre) x here in
      let (receipt, is, same) = receipt-of (receipt_in q.content) source q x said in
      let (f, framed) = of-frame e.1.centre q kept in
      subst (λ n. (n ≡ deliver_sm) ⊎ (n ≡ data_sm)) (ap (λ (r : StoredPdu). r.command) framed ∙ same)
      (receipt-command f receipt (ap (λ (r : StoredPdu). receipt_in r.content) framed ∙ is))

  pub receipt-commands : (line : ReceiptLineValue) → Contains (receipt_lines p) line → (line.command ≡ deliver_sm) ⊎ (line.command ≡ data_sm)
  receipt-commands line among =
      let (x, there, is) = map-has (receipt_line (submits_of p) (receipts_of p)) (receipts_of p) line among in
      subst (λ (l : ReceiptLineValue). (l.command ≡ deliver_sm) ⊎ (l.command ≡ data_sm)) is (one-command x there)
