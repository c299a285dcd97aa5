-- Known PDUs that are read alike, and those that aren't.
use Rattle.std.proofs.Common.{◌≡◌, ℕ, ◌<◌, ◌≤◌, true, List, [], ◌∷◌, Some, None, length, refl, sym, ap, ◌∙◌, inl, arith}
use Rattle.std.specs.Prelude.{codes, nat_lt, sum}
use Rattle.std.specs.List.{list_all}
use Rattle.std.proofs.lemmas.Bool.{and_parts}
use Rattle.std.proofs.lemmas.Bool.Decides.{nat_tests}
use Rattle.smq_frame.specs.Framing.{IsFrame, stated_length}
use Rattle.smq_pdu.specs.Fields.{DataSmFields, IsText, Mandatory}
use Rattle.smq_pdu.specs.Header.{word_at}
use Rattle.smq_pdu.specs.Known.{other_octets, submit_octets}
use Rattle.smq_pdu.specs.Numbers.{digits_of, number_of}
use Rattle.smq_pdu.specs.Parameters.{Tlv}
use Rattle.smq_pdu.specs.Pdu.{body_of, deliver_of, submit_of}
use Rattle.smq_pdu.specs.Readers.{address_at, c_octet_at, mandatory_at, number_at, octets_at, tlv_at, tlvs_of, tlvs_within}
use Rattle.smq_pdu.specs.Sources.{source_in}
use Rattle.smq_receipt.specs.Dates.{centre_delay_of, moment_of}
use Rattle.smq_receipt.specs.Errors.{network_code_in, text_code_in}
use Rattle.smq_receipt.specs.Places.{least_below}
use Rattle.smq_receipt.specs.Readings.{error_of, id_of, reading_of, receipt_of, receipted_id, state_in, state_of, text_of, usable_id}
use Rattle.smq_receipt.specs.States.{state_of_number, state_of_word}
use Rattle.smq_receipt.specs.Texts.{header_of, labels_at, same_letters, stands_at, value_at, value_of}
use Rattle.smq_receipt.specs.declared.message_state.MessageState.{MessageState}
use Rattle.smq_receipt.specs.declared.message_state.MessageState.TheVariants as m
use Rattle.smq_present.specs.declared.present.kept.StoredPdu.{StoredPdu}
use Rattle.smq_present.specs.present.Kept.{receipt_in, submit_in}
use Rattle.smq_present.specs.present.Stream.{last_moment}
use Rattle.smq_scratch.specs.Blanked.{AreReadAlike, AreStreamsAlike, DataSms, Delivers, NoReceipts, SameReceipt, Submits, Unread, kept_at}
use Rattle.smq_scratch.specs.KnownBlanked.{AreApart, StayTheSame, bind_with, data_sm_saying, deliver_saying, stream_with, submit_saying}
use Rattle.smq_scratch.proofs.BlankedPdus.{pdus-keep}
use Rattle.smq_scratch.proofs.BlankedStreams.{last-stays}

-- octets among which is no zero are a text
no-zeros : (text : List ℕ) → list_all (λ x. nat_lt 0 x) text ≡ true → IsText text
no-zeros [] e = tt
no-zeros (x ∷ xs) e =
    let parts = and_parts (nat_lt 0 x) (list_all (λ x. nat_lt 0 x) xs) e in
    let some : 0 < x = let test = parts.0 in grind (arith, nat_tests) in
    ((λ none. omega (arith, some, none)), no-zeros xs parts.1)

stays : (one other : List ℕ) → AreReadAlike one other → StayTheSame one other
stays one other h = record { alike = h; kept = pdus-keep one other 0 1000 h }

-- PDUs of which a number that is kept differs are apart
apart : (of : StoredPdu → ℕ) (one other : List ℕ) → (of (kept_at 0 1000 one) ≡ of (kept_at 0 1000 other) → ⊥) → AreApart one other
apart of one other differ = record {
  unlike = λ h. differ (ap of (pdus-keep one other 0 1000 h));
  kept = λ same. differ (ap of same);
}

-- ---- submit_sm

-- the fields of such a submit_sm
abbrev submit_fields : ℕ → ℕ → ℕ → List ℕ → Mandatory
submit_fields service_type esm_class data_coding text = record {
  service_type = service_type ∷ [];
  source = record { ton = 0; npi = 0; text = codes "1000" };
  destination = record { ton = 1; npi = 1; text = codes "+447700900123" };
  esm_class = esm_class;
  protocol_id = 0;
  priority_flag = 0;
  schedule_delivery_time = [];
  validity_period = [];
  registered_delivery = 1;
  replace_if_present_flag = 0;
  data_coding = data_coding;
  sm_default_msg_id = 0;
  short_message = text;
}

pub submit-stays : StayTheSame (submit_saying 65 0 0 (codes "hi")) (submit_saying 42 64 8 (codes "**"))
unfolding word_at
submit-stays = stays _ _ (record {
  header = refl;
  len = refl;
  bodies = Submits refl (record {
    fields = submit_fields 65 0 0 (codes "hi");
    tlvs = [];
    rest = [];
    other_fields = submit_fields 42 64 8 (codes "**");
    other_tlvs = [];
    other_rest = [];
    is_body = record {
      parts = refl;
      texts = record {
        service_type = no-zeros (65 ∷ []) refl;
        source = no-zeros (codes "1000") refl;
        destination = no-zeros (codes "+447700900123") refl;
        schedule_delivery_time = tt;
        validity_period = tt;
      };
      each = tt;
      ends = inl (omega arith);
    };
    is_other = record {
      parts = refl;
      texts = record {
        service_type = no-zeros (42 ∷ []) refl;
        source = no-zeros (codes "1000") refl;
        destination = no-zeros (codes "+447700900123") refl;
        schedule_delivery_time = tt;
        validity_period = tt;
      };
      each = tt;
      ends = inl (omega arith);
    };
    source_ton = refl;
    source = refl;
    number = refl;
    registered_delivery = refl;
  });
})

-- the sum of the octets of a submit_sm's number
abbrev octet_sum : StoredPdu → ℕ
octet_sum p = elim (submit_in p.content) [ None ↦ 0 | Some submit ↦ elim submit.number [ None ↦ 0 | Some digits ↦ sum digits ] ]

pub destination-apart : AreApart submit_octets other_octets
unfolding word_at body_of submit_of deliver_of number_of digits_of source_in mandatory_at address_at c_octet_at octets_at number_at tlv_at
    tlvs_within tlvs_of
destination-apart = apart octet_sum submit_octets other_octets (λ same. let differ : 613 ≡ 614 = same in omega (arith, differ))

-- ---- deliver_sm

-- the fields of such a deliver_sm
abbrev deliver_fields : ℕ → List ℕ → Mandatory
deliver_fields esm_class text = record {
  service_type = [];
  source = record { ton = 0; npi = 0; text = [] };
  destination = record { ton = 0; npi = 0; text = [] };
  esm_class = esm_class;
  protocol_id = 0;
  priority_flag = 0;
  schedule_delivery_time = [];
  validity_period = [];
  registered_delivery = 0;
  replace_if_present_flag = 0;
  data_coding = 0;
  sm_default_msg_id = 0;
  short_message = text;
}

abbrev first_message : List ℕ
first_message = codes "id:1 stat:UNDELIV text:hi  "

abbrev other_message : List ℕ
other_message = codes "id:2 stat:DELIVRD text:**  "

pub message-stays : StayTheSame (deliver_saying 0 first_message) (deliver_saying 1 other_message)
unfolding word_at
message-stays = stays _ _ (record {
  header = refl;
  len = refl;
  bodies = Delivers refl (record {
    fields = deliver_fields 0 first_message;
    tlvs = [];
    rest = [];
    other_fields = deliver_fields 1 other_message;
    other_tlvs = [];
    other_rest = [];
    is_body = record {
      parts = refl;
      texts = record { service_type = tt; source = tt; destination = tt; schedule_delivery_time = tt; validity_period = tt };
      each = tt;
      ends = inl (omega arith);
    };
    is_other = record {
      parts = refl;
      texts = record { service_type = tt; source = tt; destination = tt; schedule_delivery_time = tt; validity_period = tt };
      each = tt;
      ends = inl (omega arith);
    };
    receipts = NoReceipts
        (record { no_receipt = λ e. omega (arith, e); no_notification = λ e. omega (arith, e); no_id = refl })
        (record { no_receipt = λ e. omega (arith, e); no_notification = λ e. omega (arith, e); no_id = refl });
  });
})

abbrev first_receipt : List ℕ
first_receipt = codes "id:1 stat:UNDELIV a text:hi"

abbrev other_receipt : List ℕ
other_receipt = codes "id:1 stat:UNDELIV * text:**"

pub receipt-stays : StayTheSame (deliver_saying 4 first_receipt) (deliver_saying 5 other_receipt)
unfolding word_at least_below same_letters stands_at labels_at header_of value_at value_of text_of
receipt-stays = stays _ _ (record {
  header = refl;
  len = refl;
  bodies = Delivers refl (record {
    fields = deliver_fields 4 first_receipt;
    tlvs = [];
    rest = [];
    other_fields = deliver_fields 5 other_receipt;
    other_tlvs = [];
    other_rest = [];
    is_body = record {
      parts = refl;
      texts = record { service_type = tt; source = tt; destination = tt; schedule_delivery_time = tt; validity_period = tt };
      each = tt;
      ends = inl (omega arith);
    };
    is_other = record {
      parts = refl;
      texts = record { service_type = tt; source = tt; destination = tt; schedule_delivery_time = tt; validity_period = tt };
      each = tt;
      ends = inl (omega arith);
    };
    receipts = SameReceipt (record {
      kind = refl;
      receipted_message_id = refl;
      network_error_code = refl;
      message_state = refl;
      text = record { id = refl; state = refl; error = refl; submit_date = refl; done_date = refl };
    });
  });
})

-- Delivered is told from the other states
abbrev number_for : MessageState → ℕ
number_for m.Delivered = 2
number_for _ = 1

-- a number for the state that a receipt tells
abbrev state_number : StoredPdu → ℕ
state_number p = elim (receipt_in p.content) [ None ↦ 0 | Some receipt ↦ number_for receipt.state ]

pub state-apart : AreApart (deliver_saying 4 first_receipt) (deliver_saying 4 (codes "id:1 stat:DELIVRD a text:hi"))
unfolding word_at body_of submit_of deliver_of mandatory_at address_at c_octet_at octets_at number_at tlv_at tlvs_within tlvs_of
    least_below same_letters stands_at labels_at header_of value_at value_of state_of_number state_of_word network_code_in
    text_code_in moment_of centre_delay_of text_of usable_id receipted_id state_in id_of state_of error_of receipt_of reading_of
state-apart = apart state_number _ _ (λ same. let differ : 1 ≡ 2 = same in omega (arith, differ))

-- ---- data_sm

-- the fields of such a data_sm
abbrev data_sm_fields : ℕ → DataSmFields
data_sm_fields data_coding = record {
  service_type = [];
  source = record { ton = 0; npi = 0; text = codes "1000" };
  destination = record { ton = 1; npi = 1; text = codes "447700900123" };
  esm_class = 0;
  registered_delivery = 1;
  data_coding = data_coding;
}

-- its parameter message_payload
abbrev payload : List ℕ → List Tlv
payload text = (record { tag = 0x0424; value = text }) ∷ []

pub data-sm-stays : StayTheSame (data_sm_saying 0 (codes "hi")) (data_sm_saying 8 (codes "**"))
unfolding word_at
data-sm-stays = stays _ _ (record {
  header = refl;
  len = refl;
  bodies = DataSms refl (record {
    fields = data_sm_fields 0;
    tlvs = payload (codes "hi");
    rest = [];
    other_fields = data_sm_fields 8;
    other_tlvs = payload (codes "**");
    other_rest = [];
    is_body = record {
      parts = refl;
      texts = record { service_type = tt; source = no-zeros (codes "1000") refl; destination = no-zeros (codes "447700900123") refl };
      each = (record { tag_fits = omega arith; length_fits = omega arith }, tt);
      ends = inl (omega arith);
    };
    is_other = record {
      parts = refl;
      texts = record { service_type = tt; source = no-zeros (codes "1000") refl; destination = no-zeros (codes "447700900123") refl };
      each = (record { tag_fits = omega arith; length_fits = omega arith }, tt);
      ends = inl (omega arith);
    };
    source_ton = refl;
    source = refl;
    number = refl;
    registered_delivery = refl;
    receipts = NoReceipts
        (record { no_receipt = λ e. omega (arith, e); no_notification = λ e. omega (arith, e); no_id = refl })
        (record { no_receipt = λ e. omega (arith, e); no_notification = λ e. omega (arith, e); no_id = refl });
  });
})

-- ---- a bind

pub password-stays : StayTheSame (bind_with (codes "secret")) (bind_with (codes "******"))
unfolding word_at
password-stays = stays _ _ (record {
  header = refl;
  len = refl;
  bodies = Unread (record {
    no_submit = λ e. omega (arith, e);
    no_submit_resp = λ e. omega (arith, e);
    no_deliver = λ e. omega (arith, e);
    no_data_sm = λ e. omega (arith, e);
    no_data_sm_resp = λ e. omega (arith, e);
  });
})

-- ---- streams

-- octets that state their length are a frame
is-frame : (frame : List ℕ) (n : ℕ) → stated_length frame ≡ n → length frame ≡ n → 16 ≤ n → n ≤ 131072 → IsFrame frame
is-frame frame n stated len low high =
    record { stated = stated ∙ sym len; good = record { low = omega (arith, len, low); high = omega (arith, len, high) } }

pub stream-alike :
    AreStreamsAlike (stream_with 2000 (codes "secret") (submit_saying 65 0 0 (codes "hi")))
    (stream_with 2000 (codes "******") (submit_saying 42 64 8 (codes "**")))
unfolding stated_length
stream-alike = record {
  frames = bind_with (codes "secret") ∷ submit_saying 65 0 0 (codes "hi") ∷ [];
  other_frames = bind_with (codes "******") ∷ submit_saying 42 64 8 (codes "**") ∷ [];
  rest = 0 ∷ 0 ∷ 0 ∷ [];
  splits = record {
    whole = refl;
    each = (
      is-frame _ 32 refl refl (omega arith) (omega arith),
      (is-frame _ 53 refl refl (omega arith) (omega arith), tt),
    );
    ends = inl (inl (omega arith));
  };
  other_splits = record {
    whole = refl;
    each = (
      is-frame _ 32 refl refl (omega arith) (omega arith),
      (is-frame _ 53 refl refl (omega arith) (omega arith), tt),
    );
    ends = inl (inl (omega arith));
  };
  alike = (password-stays.alike, (submit-stays.alike, tt));
  moments_are = refl;
}

pub moment-apart :
    AreStreamsAlike (stream_with 2000 (codes "secret") (submit_saying 65 0 0 (codes "hi")))
    (stream_with 3000 (codes "secret") (submit_saying 65 0 0 (codes "hi"))) → ⊥
unfolding last_moment
moment-apart = λ h. let differ : 2000 ≡ 3000 = last-stays _ _ h in omega (arith, differ)
