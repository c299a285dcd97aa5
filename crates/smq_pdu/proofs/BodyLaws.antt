-- What a body says is what its fields and parameters say.
use Rattle.std.proofs.Common.{◌≡◌, ◌≢◌, ℕ, ◌⊎◌, inl, inr, List, ◌++◌, Option, Some, None, refl, sym, ap, subst, ◌∙◌, arith}
use Rattle.std.specs.Prelude.{◌==◌}
use Rattle.std.specs.List.{flat_map}
use Rattle.std.proofs.lemmas.Bool.{cases_Bool, eqb-true, eqb-false, ne_eqb}
use Rattle.smq_pdu.specs.Commands.{submit_sm, submit_sm_resp, deliver_sm, data_sm, data_sm_resp}
use Rattle.smq_pdu.specs.Fields.{Mandatory, DataSmFields, spelling, data_sm_spelling}
use Rattle.smq_pdu.specs.Numbers.{number_of}
use Rattle.smq_pdu.specs.Sources.{source_in}
use Rattle.smq_pdu.specs.Parameters.{Tlv, tlv_spelling}
use Rattle.smq_pdu.specs.Bodies.{SubmitValue, DeliverValue, DataSmValue, SubmitBody, SubmitAnswerBody, DeliverBody, DataSmBody, OtherBody, UndecodableBody, IsBody, IsDataSmBody, IsMessageId, submit_said, deliver_said, data_sm_said}
use Rattle.smq_pdu.specs.Readers.{mandatory_at, data_sm_fields_at, tlvs_of, rest_of}
use Rattle.smq_pdu.specs.Pdu.{id_of, before_zero, submit_of, deliver_of, data_sm_of, body_of}
use Rattle.smq_pdu.specs.Laws.{command_at, body_at, said, GivesId, IsSubmit, IsDeliver, IsDataSm, IsUndecodable, IsSubmitResponse, IsSubmitResponseWithoutId, IsOther}
use Rattle.smq_pdu.proofs.Mandatory.{some_is, pair_is, mandatory_found, mandatory_again, data_sm_fields_found, data_sm_fields_again}
use Rattle.smq_frame.specs.Framing.{AreOctets}
use Rattle.smq_frame.proofs.Octets.{octets_parts, octets_right}
use Rattle.smq_pdu.proofs.Parameters.{parameters_stand, parameters_again}
use Rattle.smq_pdu.proofs.MessageIds.{id_again, id_cases}
use Rattle.smq_pdu.proofs.Numbers.{has_again, has_found}

-- ---- a body by its relation

abbrev after : List Tlv → List ℕ → List ℕ
after tlvs rest = flat_map tlv_spelling tlvs ++ rest

body_reads : (b rest : List ℕ) (m : Mandatory) (tlvs : List Tlv) → IsBody b m tlvs rest → mandatory_at b ≡ Some (m, after tlvs rest)
body_reads b rest m tlvs h = mandatory_again b (after tlvs rest) m (record { parts = h.parts; texts = h.texts })

body_tlvs : (b rest : List ℕ) (m : Mandatory) (tlvs : List Tlv) → IsBody b m tlvs rest → (tlvs ≡ tlvs_of (after tlvs rest))
    × (rest ≡ rest_of (after tlvs rest))
body_tlvs b rest m tlvs h = parameters_again (after tlvs rest) rest tlvs (record { parts = refl; each = h.each; ends = h.ends })

body_stands : (b r : List ℕ) (m : Mandatory) → AreOctets b → mandatory_at b ≡ Some (m, r) → IsBody b m (tlvs_of r) (rest_of r)
body_stands b r m h e =
    let begins = mandatory_found b r m e in
    let left : AreOctets r = octets_right (spelling m) r (subst AreOctets begins.parts h) in
    let parameters = parameters_stand r left in
    record {
      parts = begins.parts ∙ ap (λ (a : List ℕ). spelling m ++ a) parameters.parts;
      texts = begins.texts;
      each =
          parameters.each;
      ends = parameters.ends;
    }

pub body_unique : (b : List ℕ) (m n : Mandatory) (ts us : List Tlv) (r s : List ℕ) → IsBody b m ts r → IsBody b n us s → (m ≡ n) × (ts ≡ us) × (r ≡ s)
body_unique b m n ts us r s h k =
    let same = pair_is (m, after ts r) (n, after us s) (sym (body_reads b r m ts h) ∙ body_reads b s n us k) in
    let one = body_tlvs b r m ts h in
    let two = body_tlvs b s n us k in
    (same.0, one.0 ∙ ap tlvs_of same.1 ∙ sym two.0, one.1 ∙ ap rest_of same.1 ∙ sym two.1)

-- ---- a body of a data_sm, by its relation

data_sm_reads : (b rest : List ℕ) (m : DataSmFields) (tlvs : List Tlv) → IsDataSmBody b m tlvs rest
    → data_sm_fields_at b ≡ Some (m, after tlvs rest)
data_sm_reads b rest m tlvs h = data_sm_fields_again b (after tlvs rest) m (record { parts = h.parts; texts = h.texts })

data_sm_tlvs : (b rest : List ℕ) (m : DataSmFields) (tlvs : List Tlv) → IsDataSmBody b m tlvs rest → (tlvs ≡ tlvs_of (after tlvs rest))
    × (rest ≡ rest_of (after tlvs rest))
data_sm_tlvs b rest m tlvs h = parameters_again (after tlvs rest) rest tlvs (record { parts = refl; each = h.each; ends = h.ends })

data_sm_stands : (b r : List ℕ) (m : DataSmFields) → AreOctets b → data_sm_fields_at b ≡ Some (m, r)
    → IsDataSmBody b m (tlvs_of r) (rest_of r)
data_sm_stands b r m h e =
    let begins = data_sm_fields_found b r m e in
    let left : AreOctets r = octets_right (data_sm_spelling m) r (subst AreOctets begins.parts h) in
    let parameters = parameters_stand r left in
    record {
      parts = begins.parts ∙ ap (λ (a : List ℕ). data_sm_spelling m ++ a) parameters.parts;
      texts = begins.texts;
      each = parameters.each;
      ends = parameters.ends;
    }

pub data_sm_unique : (b : List ℕ) (m n : DataSmFields) (ts us : List Tlv) (r s : List ℕ) → IsDataSmBody b m ts r → IsDataSmBody b n us s
    → (m ≡ n) × (ts ≡ us) × (r ≡ s)
data_sm_unique b m n ts us r s h k =
    let same = pair_is (m, after ts r) (n, after us s) (sym (data_sm_reads b r m ts h) ∙ data_sm_reads b s n us k) in
    let one = data_sm_tlvs b r m ts h in
    let two = data_sm_tlvs b s n us k in
    (same.0, one.0 ∙ ap tlvs_of same.1 ∙ sym two.0, one.1 ∙ ap rest_of same.1 ∙ sym two.1)

-- ---- what is read, by the command and whether the fields fit

data Kind (c : ℕ) : Type 0 where
  submits : c ≡ submit_sm → Kind c
  responds : GivesId c → Kind c
  delivers : c ≡ deliver_sm → Kind c
  data_sms : c ≡ data_sm → Kind c
  others : c ≢ submit_sm → c ≢ submit_sm_resp → c ≢ data_sm_resp → c ≢ deliver_sm → c ≢ data_sm → Kind c

kind_of : (c : ℕ) → Kind c
kind_of c =
    elim (cases_Bool (c == submit_sm)) [
      | inl a ↦ submits (eqb-true c submit_sm a)
      | inr a ↦ elim (cases_Bool (c == submit_sm_resp)) [
        | inl b ↦ responds (inl (eqb-true c submit_sm_resp b))
        | inr b ↦ elim (cases_Bool (c == data_sm_resp)) [
          | inl f ↦ responds (inr (eqb-true c data_sm_resp f))
          | inr f ↦ elim (cases_Bool (c == deliver_sm)) [
            | inl d ↦ delivers (eqb-true c deliver_sm d)
            | inr d ↦ elim (cases_Bool (c == data_sm)) [
              | inl g ↦ data_sms (eqb-true c data_sm g)
              | inr g ↦ others (eqb-false c submit_sm a) (eqb-false c submit_sm_resp b) (eqb-false c data_sm_resp f)
                  (eqb-false c deliver_sm d) (eqb-false c data_sm g)
            ]
          ]
        ]
      ]
    ]

of_submit : (c : ℕ) (b : List ℕ) → c ≡ submit_sm → body_of c b ≡ submit_of b
unfolding body_of
of_submit c b e = rw e refl

of_response : (c : ℕ) (b : List ℕ) → GivesId c → body_of c b ≡ SubmitAnswerBody (id_of b)
unfolding body_of
of_response c b (inl e) = rw e refl
of_response c b (inr e) = rw e refl

of_deliver : (c : ℕ) (b : List ℕ) → c ≡ deliver_sm → body_of c b ≡ deliver_of b
unfolding body_of
of_deliver c b e = rw e refl

of_data_sm : (c : ℕ) (b : List ℕ) → c ≡ data_sm → body_of c b ≡ data_sm_of b
unfolding body_of
of_data_sm c b e = rw e refl

of_other : (c : ℕ) (b : List ℕ) → c ≢ submit_sm → c ≢ submit_sm_resp → c ≢ data_sm_resp → c ≢ deliver_sm → c ≢ data_sm
    → body_of c b ≡ OtherBody
unfolding body_of
of_other c b x y w z u =
    rw (ne_eqb c submit_sm x, ne_eqb c submit_sm_resp y, ne_eqb c data_sm_resp w, ne_eqb c deliver_sm z, ne_eqb c data_sm u) refl

fields_cases : {A : Type 0} (f : Option A) → (f ≡ None) ⊎ ((x : A) × (f ≡ Some x))
fields_cases None = inl refl
fields_cases (Some x) = inr (x, refl)

submit_none : (b : List ℕ) → mandatory_at b ≡ None → submit_of b ≡ UndecodableBody
unfolding submit_of
submit_none b e = rw (e, submit_of) refl

submit_some : (b r : List ℕ) (m : Mandatory) → mandatory_at b ≡ Some (m, r) → submit_of b ≡ SubmitBody (submit_said m)
unfolding submit_of
submit_some b r m e = rw (e, submit_of) refl

deliver_none : (b : List ℕ) → mandatory_at b ≡ None → deliver_of b ≡ UndecodableBody
unfolding deliver_of
deliver_none b e = rw (e, deliver_of) refl

deliver_some : (b r : List ℕ) (m : Mandatory) → mandatory_at b ≡ Some (m, r) → deliver_of b ≡ DeliverBody (deliver_said m (tlvs_of r))
unfolding deliver_of
deliver_some b r m e = rw (e, deliver_of) refl

data_sm_none : (b : List ℕ) → data_sm_fields_at b ≡ None → data_sm_of b ≡ UndecodableBody
unfolding data_sm_of
data_sm_none b e = rw (e, data_sm_of) refl

data_sm_some : (b r : List ℕ) (m : DataSmFields) → data_sm_fields_at b ≡ Some (m, r) → data_sm_of b ≡ DataSmBody (data_sm_said m (number_of m.destination) (tlvs_of r))
unfolding data_sm_of
data_sm_some b r m e = rw (e, data_sm_of) refl

-- the bodies, in the order of their cases
data Read (o : List ℕ) : Type 0 where
  a_submit : command_at o ≡ submit_sm → (m : Mandatory) (r : List ℕ) → mandatory_at (body_at o) ≡ Some (m, r)
      → said o ≡ SubmitBody (submit_said m) → Read o
  a_deliver : command_at o ≡ deliver_sm → (m : Mandatory) (r : List ℕ) → mandatory_at (body_at o) ≡ Some (m, r)
      → said o ≡ DeliverBody (deliver_said m (tlvs_of r)) → Read o
  undecodable : (command_at o ≡ submit_sm) ⊎ (command_at o ≡ deliver_sm) → mandatory_at (body_at o) ≡ None → said o ≡ UndecodableBody → Read o
  a_data_sm : command_at o ≡ data_sm → (m : DataSmFields) (r : List ℕ) → data_sm_fields_at (body_at o) ≡ Some (m, r)
      → said o ≡ DataSmBody (data_sm_said m (number_of m.destination) (tlvs_of r)) → Read o
  undecodable_data_sm : command_at o ≡ data_sm → data_sm_fields_at (body_at o) ≡ None → said o ≡ UndecodableBody → Read o
  a_response : GivesId (command_at o) → said o ≡ SubmitAnswerBody (id_of (body_at o)) → Read o
  another : IsOther o → said o ≡ OtherBody → Read o

read_of : (o : List ℕ) → Read o
read_of o =
    let c : ℕ = command_at o in
    let b : List ℕ = body_at o in
    elim (kind_of c) [
      | submits e ↦ elim (fields_cases (mandatory_at b)) [
        | inl none ↦ undecodable (inl e) none (of_submit c b e ∙ submit_none b none)
        | inr some ↦ a_submit e some.0.0 some.0.1 some.1 (of_submit c b e ∙ submit_some b some.0.1 some.0.0 some.1)
      ]
      | responds e ↦ a_response e (of_response c b e)
      | delivers e ↦ elim (fields_cases (mandatory_at b)) [
        | inl none ↦ undecodable (inr e) none (of_deliver c b e ∙ deliver_none b none)
        | inr some ↦ a_deliver e some.0.0 some.0.1 some.1 (of_deliver c b e ∙ deliver_some b some.0.1 some.0.0 some.1)
      ]
      | data_sms e ↦ elim (fields_cases (data_sm_fields_at b)) [
        | inl none ↦ undecodable_data_sm e none (of_data_sm c b e ∙ data_sm_none b none)
        | inr some ↦ a_data_sm e some.0.0 some.0.1 some.1 (of_data_sm c b e ∙ data_sm_some b some.0.1 some.0.0 some.1)
      ]
      | others x y w z u ↦ another
          (record { no_submit = x; no_submit_resp = y; no_deliver = z; no_data_sm = u; no_data_sm_resp = w })
          (of_other c b x y w z u)
    ]

-- ---- the laws

body_octets : (o : List ℕ) → AreOctets o → AreOctets (body_at o)
body_octets o h = (octets_parts 16 o h).1

no_body : (b : List ℕ) → mandatory_at b ≡ None → (m : Mandatory) (tlvs : List Tlv) (rest : List ℕ) → IsBody b m tlvs rest → ⊥
no_body b e m tlvs rest h = let differ = sym e ∙ body_reads b rest m tlvs h in cc

no_data_sm_body : (b : List ℕ) → data_sm_fields_at b ≡ None → (m : DataSmFields) (tlvs : List Tlv) (rest : List ℕ)
    → IsDataSmBody b m tlvs rest → ⊥
no_data_sm_body b e m tlvs rest h = let differ = sym e ∙ data_sm_reads b rest m tlvs h in cc

submit_is : (v w : SubmitValue) → SubmitBody v ≡ SubmitBody w → v ≡ w
submit_is v w e = cc

both : (v : SubmitValue) (m : Mandatory) → v.registered_delivery ≡ m.registered_delivery → number_of m.destination ≡ v.number
    → v.source_ton ≡ m.source.ton → v.source ≡ source_in m.source.text → submit_said m ≡ v
both v m e k t s = λ i. record { registered_delivery = sym e i; number = k i; source_ton = sym t i; source = sym s i }

pub says_submit : (o : List ℕ) (v : SubmitValue) → AreOctets o → said o ≡ SubmitBody v → IsSubmit o v
says_submit o v h s =
    elim (read_of o) [
      | a_submit e m r found is ↦ record {
        command = e;
        fields = m;
        tlvs = tlvs_of r;
        rest = rest_of r;
        body = body_stands (body_at o) r m (body_octets o h) found;
        registered_delivery = ap (λ (x : SubmitValue). x.registered_delivery) (submit_is v (submit_said m) (sym s ∙ is));
        number = has_found m.destination v.number (sym (ap (λ (x : SubmitValue). x.number) (submit_is v (submit_said m) (sym s ∙ is))));
        source_ton = ap (λ (x : SubmitValue). x.source_ton) (submit_is v (submit_said m) (sym s ∙ is));
        source = ap (λ (x : SubmitValue). x.source) (submit_is v (submit_said m) (sym s ∙ is));
      }
      | a_deliver e m r found is ↦ absurd (let differ = sym s ∙ is in cc)
      | undecodable e none is ↦ absurd (let differ = sym s ∙ is in cc)
      | a_data_sm e m r found is ↦ absurd (let differ = sym s ∙ is in cc)
      | undecodable_data_sm e none is ↦ absurd (let differ = sym s ∙ is in cc)
      | a_response e is ↦ absurd (let differ = sym s ∙ is in cc)
      | another x is ↦ absurd (let differ = sym s ∙ is in cc)
    ]

pub submit_says : (o : List ℕ) (v : SubmitValue) → IsSubmit o v → said o ≡ SubmitBody v
submit_says o v h =
    of_submit (command_at o) (body_at o) h.command
    ∙ submit_some (body_at o) (after h.tlvs h.rest) h.fields (body_reads (body_at o) h.rest h.fields h.tlvs h.body)
    ∙ ap SubmitBody (both v h.fields h.registered_delivery (has_again h.fields.destination v.number h.number) h.source_ton h.source)

pub says_deliver : (o : List ℕ) (v : DeliverValue) → AreOctets o → said o ≡ DeliverBody v → IsDeliver o v
says_deliver o v h s =
    elim (read_of o) [
      | a_submit e m r found is ↦ absurd (let differ = sym s ∙ is in cc)
      | a_deliver e m r found is ↦ record {
        command = e;
        fields = m;
        tlvs = tlvs_of r;
        rest = rest_of r;
        body = body_stands (body_at o) r m (body_octets o h) found;
        value = let same = sym s ∙ is in cc;
      }
      | undecodable e none is ↦ absurd (let differ = sym s ∙ is in cc)
      | a_data_sm e m r found is ↦ absurd (let differ = sym s ∙ is in cc)
      | undecodable_data_sm e none is ↦ absurd (let differ = sym s ∙ is in cc)
      | a_response e is ↦ absurd (let differ = sym s ∙ is in cc)
      | another x is ↦ absurd (let differ = sym s ∙ is in cc)
    ]

pub deliver_says : (o : List ℕ) (v : DeliverValue) → IsDeliver o v → said o ≡ DeliverBody v
deliver_says o v h =
    let tlvs = body_tlvs (body_at o) h.rest h.fields h.tlvs h.body in
    of_deliver (command_at o) (body_at o) h.command
    ∙ deliver_some (body_at o) (after h.tlvs h.rest) h.fields (body_reads (body_at o) h.rest h.fields h.tlvs h.body)
    ∙ ap (λ (ts : List Tlv). DeliverBody (deliver_said h.fields ts)) (sym tlvs.0) ∙ ap DeliverBody (sym h.value)

data_sm_is : (v w : DataSmValue) → DataSmBody v ≡ DataSmBody w → v ≡ w
data_sm_is v w e = cc

pub says_data_sm : (o : List ℕ) (v : DataSmValue) → AreOctets o → said o ≡ DataSmBody v → IsDataSm o v
says_data_sm o v h s =
    elim (read_of o) [
      | a_submit e m r found is ↦ absurd (let differ = sym s ∙ is in cc)
      | a_deliver e m r found is ↦ absurd (let differ = sym s ∙ is in cc)
      | undecodable e none is ↦ absurd (let differ = sym s ∙ is in cc)
      | a_data_sm e m r found is ↦ record {
        command = e;
        fields = m;
        tlvs = tlvs_of r;
        rest = rest_of r;
        body = data_sm_stands (body_at o) r m (body_octets o h) found;
        number = has_found m.destination v.number (sym (ap (λ (x : DataSmValue). x.number) (data_sm_is v _ (sym s ∙ is))));
        value = data_sm_is v _ (sym s ∙ is)
            ∙ ap (λ (n : Option (List ℕ)). data_sm_said m n (tlvs_of r))
            (sym (ap (λ (x : DataSmValue). x.number) (data_sm_is v _ (sym s ∙ is))));
      }
      | undecodable_data_sm e none is ↦ absurd (let differ = sym s ∙ is in cc)
      | a_response e is ↦ absurd (let differ = sym s ∙ is in cc)
      | another x is ↦ absurd (let differ = sym s ∙ is in cc)
    ]

pub data_sm_says : (o : List ℕ) (v : DataSmValue) → IsDataSm o v → said o ≡ DataSmBody v
data_sm_says o v h =
    let tlvs = data_sm_tlvs (body_at o) h.rest h.fields h.tlvs h.body in
    of_data_sm (command_at o) (body_at o) h.command
    ∙ data_sm_some (body_at o) (after h.tlvs h.rest) h.fields (data_sm_reads (body_at o) h.rest h.fields h.tlvs h.body)
    ∙ (λ i. DataSmBody (data_sm_said h.fields (has_again h.fields.destination v.number h.number i) (sym tlvs.0 i)))
    ∙ ap DataSmBody (sym h.value)

pub says_undecodable : (o : List ℕ) → said o ≡ UndecodableBody → IsUndecodable o
says_undecodable o s =
    elim (read_of o) [
      | a_submit e m r found is ↦ absurd (let differ = sym s ∙ is in cc)
      | a_deliver e m r found is ↦ absurd (let differ = sym s ∙ is in cc)
      | undecodable e none is ↦ inl (record { command = e; none = no_body (body_at o) none })
      | a_data_sm e m r found is ↦ absurd (let differ = sym s ∙ is in cc)
      | undecodable_data_sm e none is ↦ inr (record { command = e; none = no_data_sm_body (body_at o) none })
      | a_response e is ↦ absurd (let differ = sym s ∙ is in cc)
      | another x is ↦ absurd (let differ = sym s ∙ is in cc)
    ]

-- a submit_sm, deliver_sm or data_sm whose body is one of its command is decodable
decodable : (o : List ℕ) → AreOctets o → IsUndecodable o → (m : Mandatory) (r : List ℕ) → mandatory_at (body_at o) ≡ Some (m, r)
    → (command_at o ≡ submit_sm) ⊎ (command_at o ≡ deliver_sm) → ⊥
decodable o h (inl u) m r found e = u.none m (tlvs_of r) (rest_of r) (body_stands (body_at o) r m (body_octets o h) found)
decodable o h (inr u) m r found (inl e) = let differ = sym e ∙ u.command in omega arith
decodable o h (inr u) m r found (inr e) = let differ = sym e ∙ u.command in omega arith

decodable_data_sm : (o : List ℕ) → AreOctets o → IsUndecodable o → (m : DataSmFields) (r : List ℕ)
    → data_sm_fields_at (body_at o) ≡ Some (m, r) → command_at o ≡ data_sm → ⊥
decodable_data_sm o h (inl u) m r found e = elim u.command [
  | inl c ↦ let differ = sym e ∙ c in omega arith
  | inr c ↦ let differ = sym e ∙ c in omega arith
]
decodable_data_sm o h (inr u) m r found e = u.none m (tlvs_of r) (rest_of r) (data_sm_stands (body_at o) r m (body_octets o h) found)

undecodable_is : (o : List ℕ) → IsUndecodable o
    → (command_at o ≡ submit_sm) ⊎ (command_at o ≡ deliver_sm) ⊎ (command_at o ≡ data_sm)
undecodable_is o (inl u) = elim u.command [ inl c ↦ inl c | inr c ↦ inr (inl c) ]
undecodable_is o (inr u) = inr (inr u.command)

-- a command that can be undecodable gives no id
no_response : (c : ℕ) → GivesId c → (c ≡ submit_sm) ⊎ (c ≡ deliver_sm) ⊎ (c ≡ data_sm) → ⊥
no_response c (inl e) (inl k) = let differ = sym e ∙ k in omega arith
no_response c (inl e) (inr (inl k)) = let differ = sym e ∙ k in omega arith
no_response c (inl e) (inr (inr k)) = let differ = sym e ∙ k in omega arith
no_response c (inr e) (inl k) = let differ = sym e ∙ k in omega arith
no_response c (inr e) (inr (inl k)) = let differ = sym e ∙ k in omega arith
no_response c (inr e) (inr (inr k)) = let differ = sym e ∙ k in omega arith

pub undecodable_says : (o : List ℕ) → AreOctets o → IsUndecodable o → said o ≡ UndecodableBody
undecodable_says o h u =
    elim (read_of o) [
      | a_submit e m r found is ↦ absurd (decodable o h u m r found (inl e))
      | a_deliver e m r found is ↦ absurd (decodable o h u m r found (inr e))
      | undecodable e none is ↦ is
      | a_data_sm e m r found is ↦ absurd (decodable_data_sm o h u m r found e)
      | undecodable_data_sm e none is ↦ is
      | a_response e is ↦ absurd (no_response (command_at o) e (undecodable_is o u))
      | another x is ↦ elim (undecodable_is o u) [
        | inl c ↦ absurd (x.no_submit c)
        | inr c ↦ elim c [ inl d ↦ absurd (x.no_deliver d) | inr d ↦ absurd (x.no_data_sm d) ]
      ]
    ]

pub says_other : (o : List ℕ) → said o ≡ OtherBody → IsOther o
says_other o s =
    elim (read_of o) [
      | a_submit e m r found is ↦ absurd (let differ = sym s ∙ is in cc)
      | a_deliver e m r found is ↦ absurd (let differ = sym s ∙ is in cc)
      | undecodable e none is ↦ absurd (let differ = sym s ∙ is in cc)
      | a_data_sm e m r found is ↦ absurd (let differ = sym s ∙ is in cc)
      | undecodable_data_sm e none is ↦ absurd (let differ = sym s ∙ is in cc)
      | a_response e is ↦ absurd (let differ = sym s ∙ is in cc)
      | another x is ↦ x
    ]

pub other_says : (o : List ℕ) → IsOther o → said o ≡ OtherBody
other_says o h = of_other (command_at o) (body_at o) h.no_submit h.no_submit_resp h.no_data_sm_resp h.no_deliver h.no_data_sm

response_command : (o : List ℕ) (id : Option (List ℕ)) → said o ≡ SubmitAnswerBody id → GivesId (command_at o) × (id_of (body_at o) ≡ id)
response_command o id s =
    elim (read_of o) [
      | a_submit e m r found is ↦ absurd (let differ = sym s ∙ is in cc)
      | a_deliver e m r found is ↦ absurd (let differ = sym s ∙ is in cc)
      | undecodable e none is ↦ absurd (let differ = sym s ∙ is in cc)
      | a_data_sm e m r found is ↦ absurd (let differ = sym s ∙ is in cc)
      | undecodable_data_sm e none is ↦ absurd (let differ = sym s ∙ is in cc)
      | a_response e is ↦ (e, let same = sym s ∙ is in cc)
      | another x is ↦ absurd (let differ = sym s ∙ is in cc)
    ]

pub says_response : (o id : List ℕ) → said o ≡ SubmitAnswerBody (Some id) → IsSubmitResponse o id
says_response o id s =
    let is = response_command o (Some id) s in
    elim (id_cases (body_at o)) [
      | inl found ↦
          let same : before_zero (body_at o) ≡ id = some_is (before_zero (body_at o)) id (sym found.0 ∙ is.1) in
          record { command = is.0; of_body = subst (IsMessageId (body_at o)) same found.1 }
      | inr none ↦ absurd (let differ = sym none ∙ is.1 in cc)
    ]

pub response_says : (o id : List ℕ) → IsSubmitResponse o id → said o ≡ SubmitAnswerBody (Some id)
response_says o id h = of_response (command_at o) (body_at o) h.command ∙ ap SubmitAnswerBody (id_again (body_at o) id h.of_body)

pub says_no_id : (o : List ℕ) → said o ≡ SubmitAnswerBody None → IsSubmitResponseWithoutId o
says_no_id o s =
    let is = response_command o None s in
    record { command = is.0; none = λ id h. let differ = sym is.1 ∙ id_again (body_at o) id h in cc }

pub no_id_says : (o : List ℕ) → IsSubmitResponseWithoutId o → said o ≡ SubmitAnswerBody None
no_id_says o h =
    elim (id_cases (body_at o)) [
      | inl found ↦ absurd (h.none (before_zero (body_at o)) found.1)
      | inr none ↦ of_response (command_at o) (body_at o) h.command ∙ ap SubmitAnswerBody none
    ]
