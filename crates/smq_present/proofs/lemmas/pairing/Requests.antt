-- Each submit_sm and data_sm of a stream is a request, and so is each delivery receipt.
use Rattle.std.proofs.Common.{◌≡◌, ℕ, Bool, true, false, cond, List, drop, Option, Some, None, ◌⊎◌, inl, inr, refl, sym, ap, ◌∙◌, arith}
use Rattle.std.specs.Prelude.{◌==◌, ◌||◌, map, slice_get, option_map}
use Rattle.std.proofs.lemmas.Bool.Decides.{nat_tests}
use Rattle.std.proofs.lemmas.Option.{slice_get-map}
use Rattle.smq_frame.specs.Frame.{FrameValue}
use Rattle.smq_frame.specs.Stream.{Octet, stream_frames}
use Rattle.smq_pdu.specs.Bodies.{BodyValue, SubmitBody, SubmitAnswerBody, DeliverBody, OtherBody, UndecodableBody, deliver_said, submit_said}
use Rattle.smq_pdu.specs.Commands.{submit_sm, submit_sm_resp, deliver_sm, data_sm, data_sm_resp}
use Rattle.smq_pdu.specs.Fields.{Mandatory}
use Rattle.smq_pdu.specs.Header.{header_at, header_with}
use Rattle.smq_pdu.specs.Pairing.{is_request}
use Rattle.smq_pdu.specs.Pdu.{body_of, submit_of, deliver_of, data_sm_of, id_of}
use Rattle.smq_pdu.specs.Placed.{placed_pdu}
use Rattle.smq_pdu.specs.Readers.{mandatory_at, tlvs_of}
use Rattle.smq_pdu.specs.declared.body.Submit.{Submit}
use Rattle.smq_receipt.specs.declared.reading.Receipt.{Receipt}
use Rattle.smq_present.specs.declared.present.kept.StoredPdu.{StoredPdu}
use Rattle.smq_present.specs.present.Kept.{content_of_body, kept_pdu, kept_pdus, header_of, receipt_in, submit_in}
use Rattle.smq_present.specs.within.Pairs.{SubmitsAreRequests}

no_submit : (submit : Submit) → None ≡ Some submit → ⊥
no_submit submit e = absurd cc

no_delivery : (fields : Option (Mandatory × List ℕ)) (submit : Submit)
    → submit_in (content_of_body (elim fields [ None ↦ UndecodableBody | Some p ↦ DeliverBody (deliver_said p.0 (tlvs_of p.1)) ])) ≡ Some submit → ⊥
no_delivery None submit e = no_submit submit e
no_delivery (Some p) submit e = no_submit submit e

-- what the body of a command is, where it is none of those before
abbrev data_sm_or_other : ℕ → List ℕ → BodyValue
data_sm_or_other command octets = cond (command == data_sm) (data_sm_of octets) OtherBody

abbrev deliver_or_other : ℕ → List ℕ → BodyValue
deliver_or_other command octets = cond (command == deliver_sm) (deliver_of octets) (data_sm_or_other command octets)

abbrev response_or_other : ℕ → List ℕ → BodyValue
response_or_other command octets =
    cond (command == submit_sm_resp || command == data_sm_resp) (SubmitAnswerBody (id_of octets)) (deliver_or_other command octets)

by_data_sm : (b : Bool) (command : ℕ) (octets : List ℕ) (submit : Submit) → (command == data_sm) ≡ b
    → submit_in (content_of_body (cond b (data_sm_of octets) OtherBody)) ≡ Some submit → command ≡ data_sm
by_data_sm true command octets submit same e = grind (arith, nat_tests, same)
by_data_sm false command octets submit same e = absurd (no_submit submit e)

by_delivery : (b : Bool) (command : ℕ) (octets : List ℕ) (submit : Submit)
    → submit_in (content_of_body (cond b (deliver_of octets) (data_sm_or_other command octets))) ≡ Some submit → command ≡ data_sm
unfolding deliver_of
by_delivery true command octets submit e = absurd (no_delivery (mandatory_at octets) submit e)
by_delivery false command octets submit e = by_data_sm (command == data_sm) command octets submit refl e

by_response : (b : Bool) (command : ℕ) (octets : List ℕ) (submit : Submit)
    → submit_in (content_of_body (cond b (SubmitAnswerBody (id_of octets)) (deliver_or_other command octets))) ≡ Some submit
    → command ≡ data_sm
by_response true command octets submit e = absurd (no_submit submit e)
by_response false command octets submit e = by_delivery (command == deliver_sm) command octets submit e

pub by_command : (b : Bool) (command : ℕ) (octets : List ℕ) (submit : Submit) → (command == submit_sm) ≡ b
    → submit_in (content_of_body (cond b (submit_of octets) (response_or_other command octets))) ≡ Some submit
    → (command ≡ submit_sm) ⊎ (command ≡ data_sm)
by_command true command octets submit same e = inl (grind (arith, nat_tests, same))
by_command false command octets submit same e = inr (by_response (command == submit_sm_resp || command == data_sm_resp) command octets submit e)

frame-asks : (f : FrameValue) (submit : Submit) → submit_in (kept_pdu (placed_pdu f)).content ≡ Some submit
    → is_request (header_of (kept_pdu (placed_pdu f))) ≡ true
unfolding body_of
frame-asks f submit e =
    by (by_command ((header_at f.octets).command == submit_sm) (header_at f.octets).command (drop 16 f.octets) submit refl e)
  where
    asks : (named : ℕ) → is_request (header_with named) ≡ true → (header_at f.octets).command ≡ named
        → is_request (header_of (kept_pdu (placed_pdu f))) ≡ true
    asks named request same =
        ap (λ command. is_request (record { command = command; status = (header_at f.octets).status; seq = (header_at f.octets).seq })) same
        ∙ request

    by : ((header_at f.octets).command ≡ submit_sm) ⊎ ((header_at f.octets).command ≡ data_sm)
        → is_request (header_of (kept_pdu (placed_pdu f))) ≡ true
    by (inl same) = asks submit_sm refl same
    by (inr same) = asks data_sm refl same

frames-ask : (fs : List FrameValue) (i : ℕ) (p : StoredPdu) (submit : Submit) → slice_get (map kept_pdu (map placed_pdu fs)) i
    ≡ Some p → submit_in p.content ≡ Some submit → is_request (header_of p) ≡ true
frames-ask fs i p submit at said =
    of_frame (slice_get fs i) (sym (slice_get-map kept_pdu (map placed_pdu fs) i ∙ ap (option_map kept_pdu) (slice_get-map placed_pdu fs i)) ∙ at)
  where
    of_frame : (f : Option FrameValue) → option_map kept_pdu (option_map placed_pdu f) ≡ Some p → is_request (header_of p) ≡ true
    of_frame None e = absurd cc
    of_frame (Some f) e =
        let one : kept_pdu (placed_pdu f) ≡ p = cc in
        ap (λ (q : StoredPdu). is_request (header_of q)) (sym one) ∙ frame-asks f submit (ap (λ (q : StoredPdu). submit_in q.content) one ∙ said)

pub kept-ask : (stream : List Octet) → SubmitsAreRequests (kept_pdus stream)
kept-ask stream = record { each = frames-ask (stream_frames stream) }

-- ---- and so is each delivery receipt

no_receipt : (r : Receipt) → None ≡ Some r → ⊥
no_receipt r e = absurd cc

received_by_data_sm : (b : Bool) (command : ℕ) (octets : List ℕ) (r : Receipt) → (command == data_sm) ≡ b
    → receipt_in (content_of_body (cond b (data_sm_of octets) OtherBody)) ≡ Some r → command ≡ data_sm
received_by_data_sm true command octets r same e = grind (arith, nat_tests, same)
received_by_data_sm false command octets r same e = absurd (no_receipt r e)

received_by_delivery : (b : Bool) (command : ℕ) (octets : List ℕ) (r : Receipt) → (command == deliver_sm) ≡ b
    → receipt_in (content_of_body (cond b (deliver_of octets) (data_sm_or_other command octets))) ≡ Some r
    → (command ≡ deliver_sm) ⊎ (command ≡ data_sm)
received_by_delivery true command octets r same e = inl (grind (arith, nat_tests, same))
received_by_delivery false command octets r same e = inr (received_by_data_sm (command == data_sm) command octets r refl e)

received_by_response : (b : Bool) (command : ℕ) (octets : List ℕ) (r : Receipt)
    → receipt_in (content_of_body (cond b (SubmitAnswerBody (id_of octets)) (deliver_or_other command octets))) ≡ Some r
    → (command ≡ deliver_sm) ⊎ (command ≡ data_sm)
received_by_response true command octets r e = absurd (no_receipt r e)
received_by_response false command octets r e = received_by_delivery (command == deliver_sm) command octets r refl e

no_submission : (fields : Option (Mandatory × List ℕ)) (r : Receipt)
    → receipt_in (content_of_body (elim fields [ None ↦ UndecodableBody | Some p ↦ SubmitBody (submit_said p.0) ])) ≡ Some r → ⊥
no_submission None r e = no_receipt r e
no_submission (Some p) r e = no_receipt r e

pub received_by_command : (b : Bool) (command : ℕ) (octets : List ℕ) (r : Receipt)
    → receipt_in (content_of_body (cond b (submit_of octets) (response_or_other command octets))) ≡ Some r
    → (command ≡ deliver_sm) ⊎ (command ≡ data_sm)
unfolding submit_of
received_by_command true command octets r e = absurd (no_submission (mandatory_at octets) r e)
received_by_command false command octets r e = received_by_response (command == submit_sm_resp || command == data_sm_resp) command octets r e

frame-delivers : (f : FrameValue) (r : Receipt) → receipt_in (kept_pdu (placed_pdu f)).content ≡ Some r
    → is_request (header_of (kept_pdu (placed_pdu f))) ≡ true
unfolding body_of
frame-delivers f r e =
    by (received_by_command ((header_at f.octets).command == submit_sm) (header_at f.octets).command (drop 16 f.octets) r e)
  where
    asks : (named : ℕ) → is_request (header_with named) ≡ true → (header_at f.octets).command ≡ named
        → is_request (header_of (kept_pdu (placed_pdu f))) ≡ true
    asks named request same =
        ap (λ command. is_request (record { command = command; status = (header_at f.octets).status; seq = (header_at f.octets).seq })) same
        ∙ request

    by : ((header_at f.octets).command ≡ deliver_sm) ⊎ ((header_at f.octets).command ≡ data_sm)
        → is_request (header_of (kept_pdu (placed_pdu f))) ≡ true
    by (inl same) = asks deliver_sm refl same
    by (inr same) = asks data_sm refl same

frames-deliver : (fs : List FrameValue) (i : ℕ) (p : StoredPdu) (r : Receipt) → slice_get (map kept_pdu (map placed_pdu fs)) i
    ≡ Some p → receipt_in p.content ≡ Some r → is_request (header_of p) ≡ true
frames-deliver fs i p r at said =
    of_frame (slice_get fs i) (sym (slice_get-map kept_pdu (map placed_pdu fs) i ∙ ap (option_map kept_pdu) (slice_get-map placed_pdu fs i)) ∙ at)
  where
    of_frame : (f : Option FrameValue) → option_map kept_pdu (option_map placed_pdu f) ≡ Some p → is_request (header_of p) ≡ true
    of_frame None e = absurd cc
    of_frame (Some f) e =
        let one : kept_pdu (placed_pdu f) ≡ p = cc in
        ap (λ (q : StoredPdu). is_request (header_of q)) (sym one) ∙ frame-delivers f r (ap (λ (q : StoredPdu). receipt_in q.content) one ∙ said)

pub kept-delivers : (stream : List Octet) (i : ℕ) (p : StoredPdu) (r : Receipt) → slice_get (kept_pdus stream) i ≡ Some p
    → receipt_in p.content ≡ Some r → is_request (header_of p) ≡ true
kept-delivers stream i p r at said = frames-deliver (stream_frames stream) i p r at said
