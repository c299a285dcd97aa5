-- PDUs that are read alike keep the same.
use Rattle.std.proofs.Common.{◌≡◌, ℕ, ◌+◌, ◌≤◌, List, Option, take, drop, refl, sym, ap, ◌∙◌, arith}
use Rattle.std.specs.Prelude.{◌==◌, ◌||◌, ◌-ℤ◌, bit_and, if◌then◌else◌, is_some, option_and_then, option_map, unwrap_or}
use Rattle.std.specs.Int.{w32, from_be_bytes}
use Rattle.std.specs.Option.{option_zip}
use Rattle.std.proofs.lemmas.Bool.{ne_eqb}
use Rattle.std.proofs.lemmas.List.{drop-take, take-take}
use Rattle.smq_pdu.specs.Header.{Header, header_at, word_at}
use Rattle.smq_pdu.specs.Bodies.{DeliverValue, SubmitBody, DataSmBody, submit_said, deliver_said, data_sm_said}
use Rattle.smq_pdu.specs.Commands.{data_sm, deliver_sm, submit_sm}
use Rattle.smq_pdu.specs.Laws.{IsOther, body_at, command_at, said}
use Rattle.smq_pdu.specs.Numbers.{number_of}
use Rattle.smq_pdu.specs.Pdu.{body_of}
use Rattle.smq_pdu.specs.Sources.{source_in}
use Rattle.smq_pdu.proofs.BodyLaws.{data_sm_says, deliver_says, other_says, submit_says}
use Rattle.smq_pdu.proofs.Numbers.{has_found}
use Rattle.smq_kit.specs.declared.error_code.ErrorCode.{ErrorCode}
use Rattle.smq_kit.specs.declared.error_code.ErrorCode.TheVariants.{Unstated}
use Rattle.smq_receipt.specs.Dates.{centre_delay_of, moment_of}
use Rattle.smq_receipt.specs.Errors.{network_code_in, text_code_in}
use Rattle.smq_receipt.specs.Readings.{error_of, id_of, parameter_or_value, reading_of, reading_with, receipt_of, receipted_id, state_in, state_of, text_of, usable_id}
use Rattle.smq_receipt.specs.States.{state_of_word}
use Rattle.smq_receipt.specs.Texts.{header_of}
use Rattle.smq_receipt.specs.declared.reading.Reading.TheVariants as v
use Rattle.smq_present.specs.present.Content as c
use Rattle.smq_present.specs.present.Content.{Content}
use Rattle.smq_present.specs.present.Kept.{content_of_body}
use Rattle.smq_scratch.specs.Blanked.{AreDataSmsAlike, AreDeliversAlike, AreReadAlike, AreReadAlikeAsReceipts, AreSameReceipt, AreSubmitsAlike, DataSms, Delivers, HaveSameValues, IsNoReceipt, NoReceipts, SameBody, SameReceipt, Submits, Unread, delivered, kept_at}

-- ---- headers

-- a word within the header is one of its octets
word-within : (place : ℕ) (octets : List ℕ) → place ≤ 12 → take 4 (drop place octets) ≡ drop place (take (place + 4) (take 16 octets))
word-within place octets low =
    sym (drop-take place 4 octets) ∙ ap (λ (x : List ℕ). drop place x) (sym (take-take (place + 4) 16 octets (omega (arith, low))))

word-same : (place : ℕ) (one other : List ℕ) → place ≤ 12 → take 16 one ≡ take 16 other → word_at place one ≡ word_at place other
unfolding word_at
word-same place one other low e =
    ap (λ (x : List ℕ). from_be_bytes w32 x) (word-within place one low
    ∙ ap (λ (x : List ℕ). drop place (take (place + 4) x)) e ∙ sym (word-within place other low))

header-same : (one other : List ℕ) → take 16 one ≡ take 16 other → header_at one ≡ header_at other
header-same one other e =
    let command = word-same 4 one other (omega arith) e in
    let status = word-same 8 one other (omega arith) e in
    let seq = word-same 12 one other (omega arith) e in
    λ i. record { command = command i; status = status i; seq = seq i }

-- ---- delivery receipts

no-receipt : (d : DeliverValue) → IsNoReceipt d → reading_of d ≡ v.NotReceipt
unfolding reading_of
no-receipt d h =
    rw (ne_eqb (bit_and d.esm_class 0x3C) 0x04 h.no_receipt, ne_eqb (bit_and d.esm_class 0x3C) 0x20 h.no_notification, h.no_id) refl

-- what a parameter says, or the value of a name
by-either : {A : Type 0} (f g : List ℕ → Option A) (p q u w : Option (List ℕ)) → p ≡ q → u ≡ w
    → parameter_or_value f p g u ≡ parameter_or_value f q g w
by-either f g p q u w one two = λ i. parameter_or_value f (one i) g (two i)

id-same : (d e : DeliverValue) (s t : List ℕ) → AreSameReceipt d e → HaveSameValues s t → id_of d s ≡ id_of e t
unfolding id_of
id-same d e s t h k = by-either receipted_id usable_id _ _ _ _ h.receipted_message_id k.id

state-same : (d e : DeliverValue) (s t : List ℕ) → AreSameReceipt d e → HaveSameValues s t → state_of d s ≡ state_of e t
unfolding state_of
state-same d e s t h k = by-either state_in state_of_word _ _ _ _ h.message_state k.state

error-same : (d e : DeliverValue) (s t : List ℕ) → AreSameReceipt d e → HaveSameValues s t → error_of d s ≡ error_of e t
unfolding error_of
error-same d e s t h k =
    ap (λ (x : Option ErrorCode). unwrap_or x Unstated) (by-either network_code_in text_code_in _ _ _ _ h.network_error_code k.error)

delay-same : (s t : List ℕ) → HaveSameValues s t → centre_delay_of s ≡ centre_delay_of t
unfolding centre_delay_of
delay-same s t k =
    let submitted = k.submit_date in
    let done = k.done_date in
    λ i. option_map (λ p. p.1 -ℤ p.0) (option_zip (option_and_then moment_of (submitted i)) (option_and_then moment_of (done i)))

receipt-same : (d e : DeliverValue) (s t : List ℕ) → AreSameReceipt d e → HaveSameValues s t → receipt_of d s ≡ receipt_of e t
unfolding receipt_of
receipt-same d e s t h k =
    let ids = id-same d e s t h k in
    let states = state-same d e s t h k in
    let kind = h.kind in
    let errors = error-same d e s t h k in
    let delays = delay-same s t k in
    λ i. reading_with (ids i) (states i) (kind i == 0x20) (errors i) (delays i)

reading-same : (d e : DeliverValue) → AreSameReceipt d e → reading_of d ≡ reading_of e
unfolding reading_of
reading-same d e h =
    let kind = h.kind in
    let ids = h.receipted_message_id in
    let says = receipt-same d e (header_of (text_of d)) (header_of (text_of e)) h h.text in
    λ i. if kind i == 0x04 || kind i == 0x20 || is_some (ids i) then says i else v.NotReceipt

reading-alike : (d e : DeliverValue) → AreReadAlikeAsReceipts d e → reading_of d ≡ reading_of e
reading-alike d e (NoReceipts one other) = no-receipt d one ∙ sym (no-receipt e other)
reading-alike d e (SameReceipt h) = reading-same d e h

-- ---- bodies

submits-alike : (one other : List ℕ) → command_at one ≡ submit_sm → command_at other ≡ submit_sm
    → AreSubmitsAlike (body_at one) (body_at other) → content_of_body (said one) ≡ content_of_body (said other)
submits-alike one other is is_too h =
    let first = submit_says one (submit_said h.fields) (record {
      command = is;
      fields = h.fields;
      tlvs = h.tlvs;
      rest = h.rest;
      body = h.is_body;
      registered_delivery = refl;
      number = has_found h.fields.destination (number_of h.fields.destination) refl;
      source_ton = refl;
      source = refl;
    }) in
    let second = submit_says other (submit_said h.other_fields) (record {
      command = is_too;
      fields = h.other_fields;
      tlvs = h.other_tlvs;
      rest = h.other_rest;
      body = h.is_other;
      registered_delivery = refl;
      number = has_found h.other_fields.destination (number_of h.other_fields.destination) refl;
      source_ton = refl;
      source = refl;
    }) in
    let delivery = h.registered_delivery in
    let number = h.number in
    let ton = h.source_ton in
    let source = h.source in
    let same : content_of_body (SubmitBody (submit_said h.fields)) ≡ content_of_body (SubmitBody (submit_said h.other_fields)) =
    λ i. c.Submit (record {
      registered_delivery = delivery i;
      number = number i;
      source_ton = ton i;
      source = source_in (source i);
    }) in
    ap content_of_body first ∙ same ∙ sym (ap content_of_body second)

delivers-alike : (one other : List ℕ) → command_at one ≡ deliver_sm → command_at other ≡ deliver_sm
    → AreDeliversAlike (body_at one) (body_at other) → content_of_body (said one) ≡ content_of_body (said other)
delivers-alike one other is is_too h =
    let first = deliver_says one (deliver_said h.fields h.tlvs) (record {
      command = is;
      fields = h.fields;
      tlvs = h.tlvs;
      rest = h.rest;
      body = h.is_body;
      value = refl;
    }) in
    let second = deliver_says other (deliver_said h.other_fields h.other_tlvs) (record {
      command = is_too;
      fields = h.other_fields;
      tlvs = h.other_tlvs;
      rest = h.other_rest;
      body = h.is_other;
      value = refl;
    }) in
    let same = reading-alike (deliver_said h.fields h.tlvs) (deliver_said h.other_fields h.other_tlvs) h.receipts in
    ap content_of_body first ∙ ap c.Deliver same ∙ sym (ap content_of_body second)

data-sms-alike : (one other : List ℕ) → command_at one ≡ data_sm → command_at other ≡ data_sm
    → AreDataSmsAlike (body_at one) (body_at other) → content_of_body (said one) ≡ content_of_body (said other)
data-sms-alike one other is is_too h =
    let first = data_sm_says one (data_sm_said h.fields (number_of h.fields.destination) h.tlvs) (record {
      command = is;
      fields = h.fields;
      tlvs = h.tlvs;
      rest = h.rest;
      body = h.is_body;
      number = has_found h.fields.destination (number_of h.fields.destination) refl;
      value = refl;
    }) in
    let second = data_sm_says other (data_sm_said h.other_fields (number_of h.other_fields.destination) h.other_tlvs) (record {
      command = is_too;
      fields = h.other_fields;
      tlvs = h.other_tlvs;
      rest = h.other_rest;
      body = h.is_other;
      number = has_found h.other_fields.destination (number_of h.other_fields.destination) refl;
      value = refl;
    }) in
    let delivery = h.registered_delivery in
    let number = h.number in
    let ton = h.source_ton in
    let source = h.source in
    let readings = reading-alike (delivered h.fields h.tlvs) (delivered h.other_fields h.other_tlvs) h.receipts in
    let same : content_of_body (DataSmBody (data_sm_said h.fields (number_of h.fields.destination) h.tlvs))
    ≡ content_of_body (DataSmBody (data_sm_said h.other_fields (number_of h.other_fields.destination) h.other_tlvs)) =
    λ i. c.DataSm (record {
      registered_delivery = delivery i;
      number = number i;
      source_ton = ton i;
      source = source_in (source i);
    }) (readings i) in
    ap content_of_body first ∙ same ∙ sym (ap content_of_body second)

-- ---- PDUs

others-alike : (one other : List ℕ) → command_at one ≡ command_at other → IsOther one → IsOther other
others-alike one other e h = record {
  no_submit = λ k. h.no_submit (e ∙ k);
  no_submit_resp = λ k. h.no_submit_resp (e ∙ k);
  no_deliver = λ k. h.no_deliver (e ∙ k);
  no_data_sm = λ k. h.no_data_sm (e ∙ k);
  no_data_sm_resp = λ k. h.no_data_sm_resp (e ∙ k);
}

contents-alike : (one other : List ℕ) → AreReadAlike one other → content_of_body (said one) ≡ content_of_body (said other)
contents-alike one other h =
    let command : command_at one ≡ command_at other = ap (λ (x : Header). x.command) (header-same one other h.header) in
    elim h.bodies [
      | SameBody same ↦ λ i. content_of_body (body_of (command i) (same i))
      | Submits is alike ↦ submits-alike one other is (sym command ∙ is) alike
      | Delivers is alike ↦ delivers-alike one other is (sym command ∙ is) alike
      | DataSms is alike ↦ data-sms-alike one other is (sym command ∙ is) alike
      | Unread unread ↦ ap content_of_body (other_says one unread)
          ∙ sym (ap content_of_body (other_says other (others-alike one other command unread)))
    ]

pub pdus-keep : (one other : List ℕ) (offset moment : ℕ) → AreReadAlike one other → kept_at offset moment one ≡ kept_at offset moment other
pdus-keep one other offset moment h =
    let headers = header-same one other h.header in
    let contents = contents-alike one other h in
    λ i. record {
      offset = offset;
      moment = moment;
      command = (headers i).command;
      status = (headers i).status;
      seq = (headers i).seq;
      content = contents i;
    }
