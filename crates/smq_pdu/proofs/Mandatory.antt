-- The fields that are read are the fields that are spelled.
use Rattle.std.proofs.Common.{◌≡◌, ◌≢◌, ℕ, ◌≤◌, true, false, cond, List, [], ◌∷◌, ◌++◌, length, take, drop, Option, Some, None, refl, sym, ap, subst, ◌∙◌, arith, ltb, append_assoc}
use Rattle.std.specs.Prelude.{option_map, ◌==◌}
use Rattle.std.proofs.lemmas.Bool.{ltb-false, le-ltb, eqb-true, eqb-false, ne_eqb}
use Rattle.std.proofs.lemmas.List.{take_at, drop_at, take-append-drop, length-append, length-take-le}
use Rattle.smq_pdu.specs.Fields.{Address, Mandatory, DataSmFields, c_octet, address, spelling, data_sm_spelling, IsText, BeginsWith, BeginsWithDataSm}
use Rattle.smq_pdu.specs.Readers.{◌>>=◌, octet_at, c_octet_at, octets_at, address_at, mandatory_at, data_sm_fields_at}
use Rattle.smq_pdu.specs.within.Parts.{Front, Middle, Back, front_at, middle_at, back_at, mandatory_of, mandatory_by_parts}

-- the value of a step that found something
pub bind_some : {A B : Type 0} (r : Option A) (f : A → Option B) (y : B) → (r >>= f) ≡ Some y → (x : A) × (r ≡ Some x) × (f x ≡ Some y)
bind_some None f y e = absurd cc
bind_some (Some x) f y e = (x, refl, e)

abbrev found : {A : Type 0} → A → Option A
found x = Some x

pub some_is : {A : Type 0} (x y : A) → found x ≡ found y → x ≡ y
some_is x y e = cc

pub pair_is : {A B : Type 0} (x y : A × B) → found x ≡ found y → (x.0 ≡ y.0) × (x.1 ≡ y.1)
pair_is {A} {B} x y e = let same = some_is x y e in (ap (λ (p : A × B). p.0) same, ap (λ (p : A × B). p.1) same)

-- ---- one octet

octet_found : (o : List ℕ) (x : ℕ) (r : List ℕ) → octet_at o ≡ Some (x, r) → o ≡ x ∷ r
octet_found [] x r e = absurd cc
octet_found (y ∷ o) x r e = let p = pair_is (y, o) (x, r) e in λ i. p.0 i ∷ p.1 i

-- ---- a text

pub text_again : (t r : List ℕ) → IsText t → c_octet_at (t ++ 0 ∷ r) ≡ Some (t, r)
unfolding c_octet_at
text_again [] r h = refl
text_again (x ∷ t) r h = rw (ne_eqb x 0 h.0, text_again t r h.1) refl

abbrev pub put : ℕ → List ℕ × List ℕ → List ℕ × List ℕ
put x p = (x ∷ p.0, p.1)

pub record TextIs (o t r : List ℕ) : Type 0 where
  pub parts : o ≡ t ++ 0 ∷ r
  pub text : IsText t

text_put : (x : ℕ) (o t r : List ℕ) (f : Option (List ℕ × List ℕ)) → x ≢ 0 → ((u s : List ℕ) → f ≡ Some (u, s) → TextIs o u s)
    → option_map (put x) f ≡ Some (t, r) → TextIs (x ∷ o) t r
text_put x o t r None ne h e = absurd cc
text_put x o t r (Some p) ne h e =
    let is = h p.0 p.1 refl in
    let q = pair_is (put x p) (t, r) e in
    let one : x ∷ p.0 ≡ t = q.0 in
    let two : p.1 ≡ r = q.1 in
    rw (← one, ← two) (record { parts = ap (λ (w : List ℕ). x ∷ w) is.parts; text = (ne, is.text) })

pub text_found : (o t r : List ℕ) → c_octet_at o ≡ Some (t, r) → TextIs o t r
unfolding c_octet_at
text_found [] t r e = absurd cc
text_found (x ∷ o) t r e =
    elim (x == 0) as (λ b. (x == 0) ≡ b → cond b (Some ([], o)) (option_map (put x) (c_octet_at o)) ≡ Some (t, r) → TextIs (x ∷ o) t r) [
      | true ↦ λ z h.
          let q = pair_is ([], o) (t, r) h in
          let one : [] ≡ t = q.0 in
          let two : o ≡ r = q.1 in
          rw (← one, ← two, eqb-true x 0 z) (record { parts = refl; text = tt })
      | false ↦ λ z h. text_put x o t r (c_octet_at o) (eqb-false x 0 z) (λ u s. text_found o u s) h
    ] refl e

-- ---- so many octets

pub octets_found : (n : ℕ) (o t r : List ℕ) → octets_at n o ≡ Some (t, r) → (o ≡ t ++ r) × (length t ≡ n)
unfolding octets_at
octets_found n o t r e =
    elim (ltb (length o) n) as (λ b. ltb (length o) n ≡ b → cond b None (found {A = List ℕ × List ℕ} (take n o, drop n o))
    ≡ found {A = List ℕ × List ℕ} (t, r) → (o ≡ t ++ r) × (length t ≡ n)) [
      | true ↦ λ z h. absurd cc
      | false ↦ λ z h.
          let q = pair_is (take n o, drop n o) (t, r) h in
          let one : take n o ≡ t = q.0 in
          let two : drop n o ≡ r = q.1 in
          let long : n ≤ length o = ltb-false (length o) n z in
          rw (← one, ← two) (sym (take-append-drop n o), length-take-le n o long)
    ] refl e

pub octets_again : (t r : List ℕ) → octets_at (length t) (t ++ r) ≡ Some (t, r)
unfolding octets_at
octets_again t r =
    let long : ltb (length (t ++ r)) (length t) ≡ false = le-ltb _ _ (omega (arith, length-append t r)) in
    rw (long, take_at t r (length t) refl, drop_at t r (length t) refl) refl

-- ---- an address

address_found : (o : List ℕ) (a : Address) (r : List ℕ) → address_at o ≡ Some (a, r) → (o ≡ address a ++ r) × IsText a.text
unfolding address_at
address_found o a r e =
    let ton = bind_some (octet_at o) _ (a, r) e in
    let npi = bind_some (octet_at ton.0.1) _ (a, r) ton.2 in
    let text = bind_some (c_octet_at npi.0.1) _ (a, r) npi.2 in
    let is = text_found npi.0.1 text.0.0 text.0.1 text.1 in
    let read : Address = record { ton = ton.0.0; npi = npi.0.0; text = text.0.0 } in
    let q = pair_is (read, text.0.1) (a, r) text.2 in
    let parts : o ≡ address read ++ text.0.1 = octet_found o ton.0.0 ton.0.1 ton.1
    ∙ ap (λ (w : List ℕ). ton.0.0 ∷ w) (octet_found ton.0.1 npi.0.0 npi.0.1 npi.1
    ∙ ap (λ (w : List ℕ). npi.0.0 ∷ w) (is.parts ∙ sym (append_assoc text.0.0 (0 ∷ []) text.0.1))) in
    subst (λ (p : Address × List ℕ). (o ≡ address p.0 ++ p.1) × IsText p.0.text) (some_is (read, text.0.1) (a, r) text.2) (parts, is.text)

address_again : (a : Address) (r : List ℕ) → IsText a.text → address_at (address a ++ r) ≡ Some (a, r)
unfolding address_at
address_again a r h = rw (append_assoc a.text (0 ∷ []) r, text_again a.text r h) refl

-- ---- the three parts

abbrev front_spelling : Front → List ℕ
front_spelling f = c_octet f.service_type ++ (address f.source ++ address f.destination)

record FrontTexts (f : Front) : Type 0 where
  service_type : IsText f.service_type
  source : IsText f.source.text
  destination : IsText f.destination.text

front_found : (o : List ℕ) (f : Front) (r : List ℕ) → front_at o ≡ Some (f, r) → (o ≡ front_spelling f ++ r) × FrontTexts f
unfolding front_at
front_found o f r e =
    let service = bind_some (c_octet_at o) _ (f, r) e in
    let source = bind_some (address_at service.0.1) _ (f, r) service.2 in
    let destination = bind_some (address_at source.0.1) _ (f, r) source.2 in
    let a = text_found o service.0.0 service.0.1 service.1 in
    let b = address_found service.0.1 source.0.0 source.0.1 source.1 in
    let c = address_found source.0.1 destination.0.0 destination.0.1 destination.1 in
    let read : Front = record { service_type = service.0.0; source = source.0.0; destination = destination.0.0 } in
    let parts : o ≡ front_spelling read ++ destination.0.1 =
    a.parts ∙ ap (λ (w : List ℕ). service.0.0 ++ 0 ∷ w) (b.0 ∙ ap (λ (w : List ℕ). address source.0.0 ++ w) c.0) ∙ simp append_assoc in
    subst (λ (p : Front × List ℕ). (o ≡ front_spelling p.0 ++ p.1) × FrontTexts p.0) (some_is (read, destination.0.1) (f, r) destination.2)
    (parts, record { service_type = a.text; source = b.1; destination = c.1 })

front_again : (f : Front) (r : List ℕ) → FrontTexts f
    → front_at (c_octet f.service_type ++ (address f.source ++ (address f.destination ++ r))) ≡ Some (f, r)
unfolding front_at
front_again f r h =
    rw (
      append_assoc f.service_type (0 ∷ []) (address f.source ++ (address f.destination ++ r)),
      text_again f.service_type
          (address f.source ++ (address f.destination ++ r)) h.service_type,
      address_again f.source (address f.destination ++ r)
          h.source,
      address_again f.destination r h.destination,
    ) refl

abbrev middle_spelling : Middle → List ℕ
middle_spelling m = m.esm_class ∷ m.protocol_id ∷ m.priority_flag ∷ (c_octet m.schedule_delivery_time ++ c_octet m.validity_period)

record MiddleTexts (m : Middle) : Type 0 where
  schedule_delivery_time : IsText m.schedule_delivery_time
  validity_period : IsText m.validity_period

middle_found : (o : List ℕ) (m : Middle) (r : List ℕ) → middle_at o ≡ Some (m, r) → (o ≡ middle_spelling m ++ r) × MiddleTexts m
unfolding middle_at
middle_found o m r e =
    let esm = bind_some (octet_at o) _ (m, r) e in
    let protocol = bind_some (octet_at esm.0.1) _ (m, r) esm.2 in
    let priority = bind_some (octet_at protocol.0.1) _ (m, r) protocol.2 in
    let schedule = bind_some (c_octet_at priority.0.1) _ (m, r) priority.2 in
    let validity = bind_some (c_octet_at schedule.0.1) _ (m, r) schedule.2 in
    let a = text_found priority.0.1 schedule.0.0 schedule.0.1 schedule.1 in
    let b = text_found schedule.0.1 validity.0.0 validity.0.1 validity.1 in
    let read : Middle = record {
      esm_class = esm.0.0;
      protocol_id = protocol.0.0;
      priority_flag =
          priority.0.0;
      schedule_delivery_time = schedule.0.0;
      validity_period = validity.0.0;
    } in
    let texts : priority.0.1 ≡ c_octet schedule.0.0 ++ c_octet validity.0.0 ++ validity.0.1 = a.parts
    ∙ ap (λ (w : List ℕ). schedule.0.0 ++ 0 ∷ w) b.parts ∙ simp append_assoc in
    let parts : o ≡ middle_spelling read ++ validity.0.1 = octet_found o esm.0.0 esm.0.1 esm.1
    ∙ ap (λ (w : List ℕ). esm.0.0 ∷ w) (octet_found esm.0.1 protocol.0.0 protocol.0.1 protocol.1
    ∙ ap (λ (w : List ℕ). protocol.0.0 ∷ w) (octet_found protocol.0.1 priority.0.0 priority.0.1 priority.1
    ∙ ap (λ (w : List ℕ). priority.0.0 ∷ w) texts)) in
    subst (λ (p : Middle × List ℕ). (o ≡ middle_spelling p.0 ++ p.1) × MiddleTexts p.0) (some_is (read, validity.0.1) (m, r) validity.2)
    (parts, record { schedule_delivery_time = a.text; validity_period = b.text })

middle_again : (m : Middle) (r : List ℕ) → MiddleTexts m
    → middle_at (m.esm_class ∷ m.protocol_id ∷ m.priority_flag
    ∷ (c_octet m.schedule_delivery_time ++ (c_octet m.validity_period ++ r))) ≡ Some (m, r)
unfolding middle_at
middle_again m r h =
    rw (
      append_assoc m.schedule_delivery_time (0 ∷ []) (c_octet m.validity_period ++ r),
      text_again m.schedule_delivery_time
          (c_octet m.validity_period ++ r) h.schedule_delivery_time,
      append_assoc m.validity_period (0 ∷ []) r,
      text_again
          m.validity_period r h.validity_period,
    ) refl

abbrev back_spelling : Back → List ℕ
back_spelling b = b.registered_delivery ∷ b.replace_if_present_flag ∷ b.data_coding ∷ b.sm_default_msg_id ∷ length b.short_message ∷ b.short_message

back_found : (o : List ℕ) (b : Back) (r : List ℕ) → back_at o ≡ Some (b, r) → o ≡ back_spelling b ++ r
unfolding back_at
back_found o b r e =
    let registered = bind_some (octet_at o) _ (b, r) e in
    let replace = bind_some (octet_at registered.0.1) _ (b, r) registered.2 in
    let coding = bind_some (octet_at replace.0.1) _ (b, r) replace.2 in
    let default = bind_some (octet_at coding.0.1) _ (b, r) coding.2 in
    let len = bind_some (octet_at default.0.1) _ (b, r) default.2 in
    let message = bind_some (octets_at len.0.0 len.0.1) _ (b, r) len.2 in
    let is = octets_found len.0.0 len.0.1 message.0.0 message.0.1 message.1 in
    let read : Back = record {
      registered_delivery = registered.0.0;
      replace_if_present_flag = replace.0.0;
      data_coding =
          coding.0.0;
      sm_default_msg_id = default.0.0;
      short_message = message.0.0;
    } in
    let parts : o ≡ back_spelling read ++ message.0.1 = octet_found o registered.0.0 registered.0.1 registered.1
    ∙ ap (λ (w : List ℕ). registered.0.0 ∷ w) (octet_found registered.0.1 replace.0.0 replace.0.1 replace.1
    ∙ ap (λ (w : List ℕ). replace.0.0 ∷ w) (octet_found replace.0.1 coding.0.0 coding.0.1 coding.1
    ∙ ap (λ (w : List ℕ). coding.0.0 ∷ w) (octet_found coding.0.1 default.0.0 default.0.1 default.1
    ∙ ap (λ (w : List ℕ). default.0.0 ∷ w) (octet_found default.0.1 len.0.0 len.0.1 len.1 ∙ (λ i. sym is.1 i ∷ is.0 i))))) in
    subst (λ (p : Back × List ℕ). o ≡ back_spelling p.0 ++ p.1) (some_is (read, message.0.1) (b, r) message.2) parts

back_again : (b : Back) (r : List ℕ) → back_at (back_spelling b ++ r) ≡ Some (b, r)
unfolding back_at
back_again b r = rw (octets_again b.short_message r) refl

-- ---- all of them

-- steps within a step are steps one after the other
bind_through : {A B C : Type 0} (r : Option A) (f : A → Option B) (g : B → Option C) (h : A → Option C)
    → ((x : A) → (f x >>= g) ≡ h x) → ((r >>= f) >>= g) ≡ (r >>= h)
bind_through None f g h e = refl
bind_through (Some x) f g h e = e x

-- read part by part, the fields are the same
pub by_parts-is : (o : List ℕ) → mandatory_by_parts o ≡ mandatory_at o
unfolding mandatory_by_parts mandatory_at front_at middle_at back_at
by_parts-is o =
    bind_through (c_octet_at o) _ _ _ (λ service. bind_through (address_at service.1) _ _ _
    (λ source. bind_through (address_at source.1) _ _ _ (λ destination.
    bind_through (octet_at destination.1) _ _ _
    (λ esm. bind_through (octet_at esm.1) _ _ _ (λ protocol. bind_through (octet_at protocol.1) _ _ _ (λ priority.
    bind_through (c_octet_at priority.1) _ _ _ (λ schedule. bind_through (c_octet_at schedule.1) _ _ _ (λ validity.
    bind_through (octet_at validity.1) _ _ _
    (λ registered. bind_through (octet_at registered.1) _ _ _ (λ replace. bind_through (octet_at replace.1) _ _ _ (λ coding.
    bind_through (octet_at coding.1) _ _ _ (λ default. bind_through (octet_at default.1) _ _ _
    (λ len. bind_through (octets_at len.0 len.1) _ _ _ (λ message. refl))))))))))))))

parts_found : (o r : List ℕ) (m : Mandatory) → mandatory_by_parts o ≡ Some (m, r) → BeginsWith o m r
unfolding mandatory_by_parts
parts_found o r m e =
    let front = bind_some (front_at o) _ (m, r) e in
    let middle = bind_some (middle_at front.0.1) _ (m, r) front.2 in
    let back = bind_some (back_at middle.0.1) _ (m, r) middle.2 in
    let a = front_found o front.0.0 front.0.1 front.1 in
    let b = middle_found front.0.1 middle.0.0 middle.0.1 middle.1 in
    let c = back_found middle.0.1 back.0.0 back.0.1 back.1 in
    let read : Mandatory = mandatory_of front.0.0 middle.0.0 back.0.0 in
    let parts : o ≡ spelling read ++ back.0.1 = a.0
    ∙ ap (λ (w : List ℕ). front_spelling front.0.0 ++ w) (b.0 ∙ ap (λ (w : List ℕ). middle_spelling middle.0.0 ++ w) c)
    ∙ simp append_assoc in
    subst (λ (p : Mandatory × List ℕ). BeginsWith o p.0 p.1) (some_is (read, back.0.1) (m, r) back.2)
    (record {
      parts = parts;
      texts = record {
        service_type = a.1.service_type;
        source = a.1.source;
        destination =
            a.1.destination;
        schedule_delivery_time = b.1.schedule_delivery_time;
        validity_period = b.1.validity_period;
      };
    })

parts_again : (o r : List ℕ) (m : Mandatory) → BeginsWith o m r → mandatory_by_parts o ≡ Some (m, r)
unfolding mandatory_by_parts
parts_again o r m h =
    let t = h.texts in
    let front : Front = record { service_type = m.service_type; source = m.source; destination = m.destination } in
    let middle : Middle = record {
      esm_class = m.esm_class;
      protocol_id = m.protocol_id;
      priority_flag =
          m.priority_flag;
      schedule_delivery_time = m.schedule_delivery_time;
      validity_period = m.validity_period;
    } in
    let back : Back = record {
      registered_delivery = m.registered_delivery;
      replace_if_present_flag =
          m.replace_if_present_flag;
      data_coding = m.data_coding;
      sm_default_msg_id = m.sm_default_msg_id;
      short_message =
          m.short_message;
    } in
    let last : List ℕ = back_spelling back ++ r in
    let second : List ℕ = m.esm_class ∷ m.protocol_id ∷ m.priority_flag ∷ (c_octet m.schedule_delivery_time ++ (c_octet m.validity_period ++ last)) in
    let parts : o ≡ c_octet m.service_type ++ (address m.source ++ (address m.destination ++ second)) = h.parts ∙ simp append_assoc in
    rw (
      parts,
      front_again front second (record { service_type = t.service_type; source = t.source; destination = t.destination }),
      middle_again middle last (record {
        schedule_delivery_time = t.schedule_delivery_time;
        validity_period =
            t.validity_period;
      }),
      back_again back r,
    ) refl

pub mandatory_found : (o r : List ℕ) (m : Mandatory) → mandatory_at o ≡ Some (m, r) → BeginsWith o m r
mandatory_found o r m e = parts_found o r m (by_parts-is o ∙ e)

pub mandatory_again : (o r : List ℕ) (m : Mandatory) → BeginsWith o m r → mandatory_at o ≡ Some (m, r)
mandatory_again o r m h = sym (by_parts-is o) ∙ parts_again o r m h

-- ---- those of a data_sm

data_sm_parts : (service : List ℕ) (source destination : Address) (esm registered coding : ℕ) (r : List ℕ)
    → service ++ 0 ∷ (address source ++ (address destination ++ (esm ∷ registered ∷ coding ∷ r)))
    ≡ (c_octet service ++ (address source ++ (address destination ++ (esm ∷ registered ∷ coding ∷ [])))) ++ r
data_sm_parts service source destination esm registered coding r = simp append_assoc

pub data_sm_fields_found : (o r : List ℕ) (m : DataSmFields) → data_sm_fields_at o ≡ Some (m, r) → BeginsWithDataSm o m r
unfolding data_sm_fields_at
data_sm_fields_found o r m e =
    let service = bind_some (c_octet_at o) _ (m, r) e in
    let source = bind_some (address_at service.0.1) _ (m, r) service.2 in
    let destination = bind_some (address_at source.0.1) _ (m, r) source.2 in
    let esm = bind_some (octet_at destination.0.1) _ (m, r) destination.2 in
    let registered = bind_some (octet_at esm.0.1) _ (m, r) esm.2 in
    let coding = bind_some (octet_at registered.0.1) _ (m, r) registered.2 in
    let a = text_found o service.0.0 service.0.1 service.1 in
    let b = address_found service.0.1 source.0.0 source.0.1 source.1 in
    let c = address_found source.0.1 destination.0.0 destination.0.1 destination.1 in
    let read : DataSmFields = record {
      service_type = service.0.0;
      source = source.0.0;
      destination = destination.0.0;
      esm_class = esm.0.0;
      registered_delivery = registered.0.0;
      data_coding = coding.0.0;
    } in
    let octets : destination.0.1 ≡ esm.0.0 ∷ registered.0.0 ∷ coding.0.0 ∷ coding.0.1 = octet_found destination.0.1 esm.0.0 esm.0.1 esm.1
    ∙ ap (λ (w : List ℕ). esm.0.0 ∷ w) (octet_found esm.0.1 registered.0.0 registered.0.1 registered.1
    ∙ ap (λ (w : List ℕ). registered.0.0 ∷ w) (octet_found registered.0.1 coding.0.0 coding.0.1 coding.1)) in
    let parts : o ≡ data_sm_spelling read ++ coding.0.1 = a.parts
    ∙ ap (λ (w : List ℕ). service.0.0 ++ 0 ∷ w) (b.0 ∙ ap (λ (w : List ℕ). address source.0.0 ++ w) (c.0
    ∙ ap (λ (w : List ℕ). address destination.0.0 ++ w) octets))
    ∙ data_sm_parts service.0.0 source.0.0 destination.0.0 esm.0.0 registered.0.0 coding.0.0 coding.0.1 in
    subst (λ (p : DataSmFields × List ℕ). BeginsWithDataSm o p.0 p.1) (some_is (read, coding.0.1) (m, r) coding.2)
    (record { parts = parts; texts = record { service_type = a.text; source = b.1; destination = c.1 } })

pub data_sm_fields_again : (o r : List ℕ) (m : DataSmFields) → BeginsWithDataSm o m r → data_sm_fields_at o ≡ Some (m, r)
unfolding data_sm_fields_at
data_sm_fields_again o r m h =
    let t = h.texts in
    let last : List ℕ = m.esm_class ∷ m.registered_delivery ∷ m.data_coding ∷ r in
    let parts : o ≡ c_octet m.service_type ++ (address m.source ++ (address m.destination ++ last)) = h.parts ∙ simp append_assoc in
    rw (
      parts,
      append_assoc m.service_type (0 ∷ []) (address m.source ++ (address m.destination ++ last)),
      text_again m.service_type (address m.source ++ (address m.destination ++ last)) t.service_type,
      address_again m.source (address m.destination ++ last) t.source,
      address_again m.destination last t.destination,
    ) refl
