-- What `==` calls one PDU says the same: part by part.
use Rattle.std.proofs.Common.{◌≡◌, ℕ, Bool, List, Option, Some, None, refl, ap, rules}
use Rattle.std.specs.Prelude.{nat_eq}
use Rattle.std.specs.Bool.{Decides}
use Rattle.std.specs.Cmp.{unsigned_Decides}
use Rattle.std.specs.Cmp.Lexicographic.{pointwise}
use Rattle.std.specs.Option.{option_eq}
use Rattle.std.proofs.lemmas.Bool.Decides.{Decides-and, Decides-like}
use Rattle.std.proofs.lemmas.Slice.Eq.{slice_eq-Decides}
use denote.Bor.{Bor}
use Rattle.smq_kit.specs.contracts.message_id.MessageIdPartialEq.TheImpl as id_eq
use Rattle.smq_kit.specs.declared.message_id.MessageId.{MessageId}
use Rattle.smq_kit.specs.contracts.number.DigitsPartialEq.TheImpl as digits_eq
use Rattle.smq_kit.specs.declared.number.Digits.{Digits}
use Rattle.smq_pdu.specs.contracts.source.SourceAddressPartialEq.TheImpl as source_eq
use Rattle.smq_pdu.specs.declared.source.SourceAddress.{SourceAddress}
use Rattle.smq_pdu.specs.Bodies.{SubmitValue, DeliverValue, DataSmValue, DeliverBody, DataSmBody, SubmitBody, SubmitAnswerBody}
use Rattle.smq_pdu.specs.Decoded.{seen, submit_view, deliver_view, data_sm_view, body_view, pdu_view}
use Rattle.smq_pdu.specs.Equalities.{is_same_submit, is_same_deliver, is_same_data_sm, is_same_body, is_same_pdu}
use Rattle.smq_pdu.specs.declared.body.Body.{Body}
use Rattle.smq_pdu.specs.declared.body.Body.TheVariants as v
use Rattle.smq_pdu.specs.declared.body.Submit.{Submit}
use Rattle.smq_pdu.specs.declared.body.Deliver.{Deliver}
use Rattle.smq_pdu.specs.declared.data_sm.DataSm.{DataSm}
use Rattle.smq_pdu.specs.declared.pdu.Pdu.{Pdu}
use Rattle.smq_pdu.specs.Pdu.{PduValue}

-- ---- what a deliver_sm says

-- `==` of octets, wherever they lie
abbrev text_eq : Bor (List ℕ) → Bor (List ℕ) → Bool
text_eq a b = pointwise nat_eq a.now b.now

texts : (a b : Bor (List ℕ)) → Decides (text_eq a b) (a.now ≡ b.now)
texts a b = slice_eq-Decides unsigned_Decides a.now b.now (text_eq a b) refl

values : (a b : Option (Bor (List ℕ))) → Decides (option_eq text_eq a b) (seen a ≡ seen b)
values None None = (λ h. refl, λ e. refl)
values None (Some y) = (λ h. absurd cc, λ e. absurd cc)
values (Some x) None = (λ h. absurd cc, λ e. absurd cc)
values (Some x) (Some y) =
    Decides-like (text_eq x y) (λ h. ap (λ (z : List ℕ). Some z) h) (λ e. let same : x.now ≡ y.now = cc in same) (texts x y)

-- each part of what two deliver_sm say is one
abbrev Parts : DeliverValue → DeliverValue → Type 0
Parts a b =
    (a.esm_class ≡ b.esm_class) × ((a.short_message ≡ b.short_message) × ((a.receipted_message_id ≡ b.receipted_message_id)
    × ((a.network_error_code ≡ b.network_error_code) × ((a.message_payload ≡ b.message_payload) × (a.message_state ≡ b.message_state)))))

parts_decide : (a b : Deliver) → Decides (is_same_deliver a b) (Parts (deliver_view a) (deliver_view b))
parts_decide a b =
    Decides-and _ _ (unsigned_Decides a.esm_class b.esm_class)
    (Decides-and _ _ (texts a.short_message b.short_message)
    (Decides-and _ _ (values a.receipted_message_id b.receipted_message_id)
    (Decides-and _ _ (values a.network_error_code b.network_error_code)
    (Decides-and _ _ (values a.message_payload b.message_payload) (values a.message_state b.message_state)))))

one : (a b : DeliverValue) → Parts a b → a ≡ b
one a b p = λ i. record {
  esm_class = p.0 i;
  short_message = p.1.0 i;
  receipted_message_id = p.1.1.0 i;
  network_error_code = p.1.1.1.0 i;
  message_payload = p.1.1.1.1.0 i;
  message_state = p.1.1.1.1.1 i;
}

parts : (a b : DeliverValue) → a ≡ b → Parts a b
parts a b e = (
  ap (λ d. d.esm_class) e,
  (
    ap (λ d. d.short_message) e,
    (
      ap (λ d. d.receipted_message_id) e,
      (ap (λ d. d.network_error_code) e, (ap (λ d. d.message_payload) e, ap (λ d. d.message_state) e)),
    ),
  ),
)

pub delivers_decide : (a b : Deliver) → Decides (is_same_deliver a b) (deliver_view a ≡ deliver_view b)
delivers_decide a b =
    Decides-like (is_same_deliver a b) (one (deliver_view a) (deliver_view b)) (parts (deliver_view a) (deliver_view b)) (parts_decide a b)

-- ---- what a submit_sm says

numbers : (a b : Digits) → Decides (digits_eq.ghosts.eq a b) (a ≡ b)
numbers a b = search rules

number_given : (a b : Option Digits) → Decides (option_eq digits_eq.ghosts.eq a b) (a ≡ b)
number_given None None = (λ h. refl, λ e. refl)
number_given None (Some y) = (λ h. absurd cc, λ e. absurd cc)
number_given (Some x) None = (λ h. absurd cc, λ e. absurd cc)
number_given (Some x) (Some y) =
    Decides-like (digits_eq.ghosts.eq x y) (λ h. ap (λ (z : Digits). Some z) h) (λ e. let same : x ≡ y = cc in same) (numbers x y)

sources : (a b : SourceAddress) → Decides (source_eq.ghosts.eq a b) (a ≡ b)
sources a b = search rules

source_given : (a b : Option SourceAddress) → Decides (option_eq source_eq.ghosts.eq a b) (a ≡ b)
source_given None None = (λ h. refl, λ e. refl)
source_given None (Some y) = (λ h. absurd cc, λ e. absurd cc)
source_given (Some x) None = (λ h. absurd cc, λ e. absurd cc)
source_given (Some x) (Some y) =
    Decides-like (source_eq.ghosts.eq x y) (λ h. ap (λ (z : SourceAddress). Some z) h) (λ e. let same : x ≡ y = cc in same) (sources x y)

-- each part of what two submit_sm say is one
abbrev SubmitParts : SubmitValue → SubmitValue → Type 0
SubmitParts a b =
    (a.registered_delivery ≡ b.registered_delivery) × ((a.number ≡ b.number) × ((a.source_ton ≡ b.source_ton) × (a.source ≡ b.source)))

submit_parts_decide : (a b : Submit) → Decides (is_same_submit a b) (SubmitParts (submit_view a) (submit_view b))
submit_parts_decide a b =
    Decides-and _ _ (unsigned_Decides a.registered_delivery b.registered_delivery)
    (Decides-and _ _ (number_given a.number b.number)
    (Decides-and _ _ (unsigned_Decides a.source_ton b.source_ton) (source_given a.source b.source)))

one_submit : (a b : SubmitValue) → SubmitParts a b → a ≡ b
one_submit a b p = λ i. record { registered_delivery = p.0 i; number = p.1.0 i; source_ton = p.1.1.0 i; source = p.1.1.1 i }

submit_parts : (a b : SubmitValue) → a ≡ b → SubmitParts a b
submit_parts a b e =
    (ap (λ d. d.registered_delivery) e, (ap (λ d. d.number) e, (ap (λ d. d.source_ton) e, ap (λ d. d.source) e)))

pub submits_decide : (a b : Submit) → Decides (is_same_submit a b) (submit_view a ≡ submit_view b)
submits_decide a b =
    Decides-like (is_same_submit a b) (one_submit (submit_view a) (submit_view b)) (submit_parts (submit_view a) (submit_view b))
    (submit_parts_decide a b)

-- ---- what a data_sm says

-- each part of what two data_sm say is one
abbrev DataSmParts : DataSmValue → DataSmValue → Type 0
DataSmParts a b =
    (a.esm_class ≡ b.esm_class) × ((a.registered_delivery ≡ b.registered_delivery) × ((a.number ≡ b.number)
    × ((a.source_ton ≡ b.source_ton) × ((a.source ≡ b.source)
    × ((a.receipted_message_id ≡ b.receipted_message_id) × ((a.network_error_code ≡ b.network_error_code)
    × ((a.message_payload ≡ b.message_payload) × (a.message_state ≡ b.message_state))))))))

data_sm_parts_decide : (a b : DataSm) → Decides (is_same_data_sm a b) (DataSmParts (data_sm_view a) (data_sm_view b))
data_sm_parts_decide a b =
    Decides-and _ _ (unsigned_Decides a.esm_class b.esm_class)
    (Decides-and _ _ (unsigned_Decides a.registered_delivery b.registered_delivery)
    (Decides-and _ _ (number_given a.number b.number)
    (Decides-and _ _ (unsigned_Decides a.source_ton b.source_ton)
    (Decides-and _ _ (source_given a.source b.source)
    (Decides-and _ _ (values a.receipted_message_id b.receipted_message_id)
    (Decides-and _ _ (values a.network_error_code b.network_error_code)
    (Decides-and _ _ (values a.message_payload b.message_payload) (values a.message_state b.message_state))))))))

one_data_sm : (a b : DataSmValue) → DataSmParts a b → a ≡ b
one_data_sm a b p = λ i. record {
  esm_class = p.0 i;
  registered_delivery = p.1.0 i;
  number = p.1.1.0 i;
  source_ton = p.1.1.1.0 i;
  source = p.1.1.1.1.0 i;
  receipted_message_id = p.1.1.1.1.1.0 i;
  network_error_code = p.1.1.1.1.1.1.0 i;
  message_payload = p.1.1.1.1.1.1.1.0 i;
  message_state = p.1.1.1.1.1.1.1.1 i;
}

data_sm_parts : (a b : DataSmValue) → a ≡ b → DataSmParts a b
data_sm_parts a b e = (
  ap (λ d. d.esm_class) e,
  (
    ap (λ d. d.registered_delivery) e,
    (
      ap (λ d. d.number) e,
      (
        ap (λ d. d.source_ton) e,
        (
          ap (λ d. d.source) e,
          (
            ap (λ d. d.receipted_message_id) e,
            (ap (λ d. d.network_error_code) e, (ap (λ d. d.message_payload) e, ap (λ d. d.message_state) e)),
          ),
        ),
      ),
    ),
  ),
)

pub data_sms_decide : (a b : DataSm) → Decides (is_same_data_sm a b) (data_sm_view a ≡ data_sm_view b)
data_sms_decide a b =
    Decides-like (is_same_data_sm a b) (one_data_sm (data_sm_view a) (data_sm_view b)) (data_sm_parts (data_sm_view a) (data_sm_view b))
    (data_sm_parts_decide a b)

-- ---- bodies, command by command

ids : (a b : MessageId) → Decides (id_eq.ghosts.eq a b) (a ≡ b)
ids a b = search rules

given : (a b : Option MessageId) → Decides (option_eq id_eq.ghosts.eq a b) (a ≡ b)
given None None = (λ h. refl, λ e. refl)
given None (Some y) = (λ h. absurd cc, λ e. absurd cc)
given (Some x) None = (λ h. absurd cc, λ e. absurd cc)
given (Some x) (Some y) =
    Decides-like (id_eq.ghosts.eq x y) (λ h. ap (λ (z : MessageId). Some z) h) (λ e. let same : x ≡ y = cc in same) (ids x y)

bodies_decide : (a b : Body) → Decides (is_same_body a b) (body_view a ≡ body_view b)
bodies_decide (v.Submit s) (v.Submit t) =
    Decides-like (is_same_submit s t) (λ h. ap SubmitBody h) (λ e. let same : submit_view s ≡ submit_view t = cc in same) (submits_decide s t)
bodies_decide (v.Submit s) (v.SubmitAnswer t) = (λ h. absurd cc, λ e. absurd cc)
bodies_decide (v.Submit s) (v.Deliver t) = (λ h. absurd cc, λ e. absurd cc)
bodies_decide (v.Submit s) (v.DataSm t) = (λ h. absurd cc, λ e. absurd cc)
bodies_decide (v.Submit s) v.Other = (λ h. absurd cc, λ e. absurd cc)
bodies_decide (v.Submit s) v.Undecodable = (λ h. absurd cc, λ e. absurd cc)
bodies_decide (v.SubmitAnswer s) (v.Submit t) = (λ h. absurd cc, λ e. absurd cc)
bodies_decide (v.SubmitAnswer s) (v.SubmitAnswer t) =
    Decides-like (option_eq id_eq.ghosts.eq s.message_id t.message_id) (λ h. ap (λ (id : Option MessageId). SubmitAnswerBody id) h)
    (λ e. let same : s.message_id ≡ t.message_id = cc in same) (given s.message_id t.message_id)
bodies_decide (v.SubmitAnswer s) (v.Deliver t) = (λ h. absurd cc, λ e. absurd cc)
bodies_decide (v.SubmitAnswer s) (v.DataSm t) = (λ h. absurd cc, λ e. absurd cc)
bodies_decide (v.SubmitAnswer s) v.Other = (λ h. absurd cc, λ e. absurd cc)
bodies_decide (v.SubmitAnswer s) v.Undecodable = (λ h. absurd cc, λ e. absurd cc)
bodies_decide (v.Deliver s) (v.Submit t) = (λ h. absurd cc, λ e. absurd cc)
bodies_decide (v.Deliver s) (v.SubmitAnswer t) = (λ h. absurd cc, λ e. absurd cc)
bodies_decide (v.Deliver s) (v.Deliver t) =
    Decides-like (is_same_deliver s t) (λ h. ap DeliverBody h) (λ e. let same : deliver_view s ≡ deliver_view t = cc in same) (delivers_decide s t)
bodies_decide (v.Deliver s) (v.DataSm t) = (λ h. absurd cc, λ e. absurd cc)
bodies_decide (v.Deliver s) v.Other = (λ h. absurd cc, λ e. absurd cc)
bodies_decide (v.Deliver s) v.Undecodable = (λ h. absurd cc, λ e. absurd cc)
bodies_decide (v.DataSm s) (v.Submit t) = (λ h. absurd cc, λ e. absurd cc)
bodies_decide (v.DataSm s) (v.SubmitAnswer t) = (λ h. absurd cc, λ e. absurd cc)
bodies_decide (v.DataSm s) (v.Deliver t) = (λ h. absurd cc, λ e. absurd cc)
bodies_decide (v.DataSm s) (v.DataSm t) =
    Decides-like (is_same_data_sm s t) (λ h. ap DataSmBody h) (λ e. let same : data_sm_view s ≡ data_sm_view t = cc in same) (data_sms_decide s t)
bodies_decide (v.DataSm s) v.Other = (λ h. absurd cc, λ e. absurd cc)
bodies_decide (v.DataSm s) v.Undecodable = (λ h. absurd cc, λ e. absurd cc)
bodies_decide v.Other (v.Submit t) = (λ h. absurd cc, λ e. absurd cc)
bodies_decide v.Other (v.SubmitAnswer t) = (λ h. absurd cc, λ e. absurd cc)
bodies_decide v.Other (v.Deliver t) = (λ h. absurd cc, λ e. absurd cc)
bodies_decide v.Other (v.DataSm t) = (λ h. absurd cc, λ e. absurd cc)
bodies_decide v.Other v.Other = (λ h. refl, λ e. refl)
bodies_decide v.Other v.Undecodable = (λ h. absurd cc, λ e. absurd cc)
bodies_decide v.Undecodable (v.Submit t) = (λ h. absurd cc, λ e. absurd cc)
bodies_decide v.Undecodable (v.SubmitAnswer t) = (λ h. absurd cc, λ e. absurd cc)
bodies_decide v.Undecodable (v.Deliver t) = (λ h. absurd cc, λ e. absurd cc)
bodies_decide v.Undecodable (v.DataSm t) = (λ h. absurd cc, λ e. absurd cc)
bodies_decide v.Undecodable v.Other = (λ h. absurd cc, λ e. absurd cc)
bodies_decide v.Undecodable v.Undecodable = (λ h. refl, λ e. refl)

-- ---- PDUs

abbrev PduParts : PduValue → PduValue → Type 0
PduParts a b =
    (a.header.seq ≡ b.header.seq) × ((a.header.command ≡ b.header.command) × ((a.header.status ≡ b.header.status) × (a.body ≡ b.body)))

pdu_parts_decide : (a b : Pdu) → Decides (is_same_pdu a b) (PduParts (pdu_view a) (pdu_view b))
pdu_parts_decide a b =
    Decides-and _ _ (unsigned_Decides a.seq b.seq) (Decides-and _ _ (unsigned_Decides a.command b.command)
    (Decides-and _ _ (unsigned_Decides a.status b.status) (bodies_decide a.body b.body)))

one_pdu : (a b : PduValue) → PduParts a b → a ≡ b
one_pdu a b p = λ i. record { header = record { command = p.1.0 i; status = p.1.1.0 i; seq = p.0 i }; body = p.1.1.1 i }

pdu_parts : (a b : PduValue) → a ≡ b → PduParts a b
pdu_parts a b e =
    (ap (λ d. d.header.seq) e, (ap (λ d. d.header.command) e, (ap (λ d. d.header.status) e, ap (λ d. d.body) e)))

pub pdus_decide : (a b : Pdu) → Decides (is_same_pdu a b) (pdu_view a ≡ pdu_view b)
pdus_decide a b =
    Decides-like (is_same_pdu a b) (one_pdu (pdu_view a) (pdu_view b)) (pdu_parts (pdu_view a) (pdu_view b)) (pdu_parts_decide a b)
