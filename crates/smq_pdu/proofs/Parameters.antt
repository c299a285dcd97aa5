-- The parameters that are read are the parameters that are spelled.
use Rattle.std.proofs.Common.{◌≡◌, ◌≢◌, ℕ, zero, suc, ◌+◌, ◌-◌, ◌<◌, ◌≤◌, ◌^◌, inl, inr, true, false, cond, ltb, List, [], ◌∷◌, ◌++◌, length, get_or, take, drop, Option, Some, None, refl, sym, ap, subst, ◌∙◌, arith, append_assoc}
use Rattle.std.specs.Prelude.{◌==◌, ◌↔◌}
use Rattle.std.specs.Int.{w16, to_be_bytes, from_be_bytes}
use Rattle.std.specs.List.{flat_map}
use Rattle.std.proofs.lemmas.Bool.{ltb-false, le-ltb, eq-eqb, ne_eqb, cases_lt}
use Rattle.std.proofs.lemmas.List.{take-append-drop, length-append, length-drop, length-take-le}
use Rattle.std.proofs.lemmas.Nat.{be_bytes_2, from_be_bytes-to_be_bytes_2}
use Rattle.smq_frame.specs.Framing.{AreOctets}
use Rattle.smq_frame.proofs.Octets.{octets_right, octet_at_place, octets_parts}
use Rattle.smq_pdu.specs.Parameters.{Tlv, IsTlv, tlv_spelling, stated_length, BeginsWithNoTlv, AreParameters, first_value}
use Rattle.smq_pdu.specs.Readers.{octets_at, number_at, tlv_at, tlvs_within, rest_within, tlvs_of, rest_of}
use Rattle.smq_pdu.proofs.Mandatory.{bind_some, pair_is, some_is, octets_found, octets_again}

-- ---- a number of two octets

number_some : (o : List ℕ) → 2 ≤ length o → number_at o ≡ Some (from_be_bytes w16 (take 2 o), drop 2 o)
unfolding number_at
number_some o h = let long : ltb (length o) 2 ≡ false = le-ltb _ _ h in rw long refl

number_again : (n : ℕ) (s : List ℕ) → n < 2 ^ 16 → number_at (to_be_bytes w16 n ++ s) ≡ Some (n, s)
number_again n s h =
    let long : 2 ≤ length (to_be_bytes w16 n ++ s) = omega arith in
    number_some (to_be_bytes w16 n ++ s) long ∙ ap (λ (k : ℕ). Some (k, s)) (from_be_bytes-to_be_bytes_2 n h)

pub record NumberIs (o : List ℕ) (n : ℕ) (r : List ℕ) : Type 0 where
  pub long : 2 ≤ length o
  pub value : n ≡ from_be_bytes w16 (take 2 o)
  pub rest : r ≡ drop 2 o

number_found : (o : List ℕ) (n : ℕ) (r : List ℕ) → number_at o ≡ Some (n, r) → NumberIs o n r
unfolding number_at
number_found o n r e =
    elim (ltb (length o) 2) as (λ b. ltb (length o) 2 ≡ b → cond b None (some_pair (from_be_bytes w16 (take 2 o)) (drop 2 o))
    ≡ some_pair n r → NumberIs o n r) [
      | true ↦ λ z h. absurd cc
      | false ↦ λ z h.
          let q = pair_is (from_be_bytes w16 (take 2 o), drop 2 o) (n, r) h in
          record { long = ltb-false (length o) 2 z; value = sym q.0; rest = sym q.1 }
    ] refl e
  where
    some_pair : ℕ → List ℕ → Option (ℕ × List ℕ)
    some_pair k s = Some (k, s)

-- a number of two octets is spelled by them
number_spelled : (o r : List ℕ) (n : ℕ) → AreOctets o → NumberIs o n r → (n < 2 ^ 16) × (o ≡ to_be_bytes w16 n ++ r)
number_spelled o r n h is =
    let parts = octets_parts 2 o h in
    let len : length (take 2 o) ≡ 2 = length-take-le 2 o is.long in
    let each : (i : ℕ) → get_or (take 2 o) i 0 < 256 = octet_at_place (take 2 o) parts.0 in
    let fits : n < 2 ^ 16 = omega (arith, is.value, each 0, each 1) in
    let front : to_be_bytes w16 n ≡ take 2 o = be_bytes_2 (take 2 o) n len each is.value in
    (fits, sym (take-append-drop 2 o) ∙ (λ i. sym front i ++ sym is.rest i))

-- ---- so many octets

octets_some : (n : ℕ) (o : List ℕ) → n ≤ length o → octets_at n o ≡ Some (take n o, drop n o)
unfolding octets_at
octets_some n o h = let long : ltb (length o) n ≡ false = le-ltb _ _ h in rw long refl

-- ---- a parameter

-- the steps by which a parameter is read
record Steps (o : List ℕ) (t : Tlv) (r : List ℕ) : Type 0 where
  after_tag : List ℕ
  after_len : List ℕ
  tag : NumberIs o t.tag after_tag
  len : NumberIs after_tag (length t.value) after_len
  parts : after_len ≡ t.value ++ r

steps_of : (o r : List ℕ) (t : Tlv) → tlv_at o ≡ Some (t, r) → Steps o t r
unfolding tlv_at
steps_of o r t e =
    let tag = bind_some (number_at o) _ (t, r) e in
    let len = bind_some (number_at tag.0.1) _ (t, r) tag.2 in
    let value = bind_some (octets_at len.0.0 len.0.1) _ (t, r) len.2 in
    let is = octets_found len.0.0 len.0.1 value.0.0 value.0.1 value.1 in
    let read : Tlv = record { tag = tag.0.0; value = value.0.0 } in
    let first = number_found o tag.0.0 tag.0.1 tag.1 in
    let second : NumberIs tag.0.1 (length value.0.0) len.0.1 =
    subst (λ (n : ℕ). NumberIs tag.0.1 n len.0.1) (sym is.1) (number_found tag.0.1 len.0.0 len.0.1 len.1) in
    let steps : Steps o read value.0.1 = record { after_tag = tag.0.1; after_len = len.0.1; tag = first; len = second; parts = is.0 } in
    subst (λ (p : Tlv × List ℕ). Steps o p.0 p.1) (some_is (read, value.0.1) (t, r) value.2) steps

pub record TlvIs (o : List ℕ) (t : Tlv) (r : List ℕ) : Type 0 where
  pub len : length o ≡ 4 + (length t.value + length r)
  pub stated : length t.value ≡ stated_length o

tlv_found : (o r : List ℕ) (t : Tlv) → tlv_at o ≡ Some (t, r) → TlvIs o t r
unfolding stated_length
tlv_found o r t e =
    let s = steps_of o r t e in
    let tag : s.after_tag ≡ drop 2 o = s.tag.rest in
    let one : length s.after_tag ≡ length o - 2 = ap length tag ∙ length-drop 2 o in
    let two : length s.after_len ≡ length s.after_tag - 2 = ap length s.len.rest ∙ length-drop 2 s.after_tag in
    let three : length s.after_len ≡ length t.value + length r = ap length s.parts ∙ length-append t.value r in
    let long = s.tag.long in
    let longer = s.len.long in
    record {
      len = omega arith;
      stated = s.len.value ∙ ap (λ (a : List ℕ). from_be_bytes w16 (take 2 a)) tag;
    }

tlv_spelled : (o r : List ℕ) (t : Tlv) → AreOctets o → tlv_at o ≡ Some (t, r) → IsTlv t × (o ≡ tlv_spelling t ++ r)
tlv_spelled o r t h e =
    let s = steps_of o r t e in
    let tag = number_spelled o s.after_tag t.tag h s.tag in
    let after : AreOctets s.after_tag = rw s.tag.rest ((octets_parts 2 o h).1) in
    let len = number_spelled s.after_tag s.after_len (length t.value) after s.len in
    let parts : o ≡ tlv_spelling t ++ r =
    tag.1 ∙ ap (λ (a : List ℕ). to_be_bytes w16 t.tag ++ a) (len.1 ∙ ap (λ (a : List ℕ). to_be_bytes w16 (length t.value) ++ a) s.parts) in
    (record { tag_fits = tag.0; length_fits = len.0 }, parts)

tlv_again : (t : Tlv) (r : List ℕ) → IsTlv t → tlv_at (tlv_spelling t ++ r) ≡ Some (t, r)
unfolding tlv_at
tlv_again t r is =
    let tag = number_again t.tag (to_be_bytes w16 (length t.value) ++ (t.value ++ r)) is.tag_fits in
    let len = number_again (length t.value) (t.value ++ r) is.length_fits in
    rw (tag, len, octets_again t.value r) refl

tlv_some : (o : List ℕ) → 4 ≤ length o → 4 + stated_length o ≤ length o → (t : Tlv) × (r : List ℕ) × (tlv_at o ≡ Some (t, r))
unfolding tlv_at stated_length
tlv_some o h k =
    let tag = number_some o (omega arith) in
    let left : length (drop 2 o) ≡ length o - 2 = length-drop 2 o in
    let last : length (drop 2 (drop 2 o)) ≡ length o - 4 = omega (arith, length-drop 2 (drop 2 o)) in
    let len = number_some (drop 2 o) (omega arith) in
    let n : ℕ = from_be_bytes w16 (take 2 (drop 2 o)) in
    let value = octets_some n (drop 2 (drop 2 o)) (omega arith) in
    (record { tag = from_be_bytes w16 (take 2 o); value = take n (drop 2 (drop 2 o)) }, drop n (drop 2 (drop 2 o)), rw (tag, len, value) refl)

-- no whole parameter stands at the front just where none is read
pub tlv_none : (o : List ℕ) → BeginsWithNoTlv o → tlv_at o ≡ None
tlv_none o h = none_at (tlv_at o) refl
  where
    none_at : (f : Option (Tlv × List ℕ)) → tlv_at o ≡ f → f ≡ None
    none_at None e = refl
    none_at (Some p) e =
        let is = tlv_found o p.1 p.0 e in
        elim h [ inl short ↦ absurd (omega (arith, is.len)) | inr cut ↦ absurd (omega (arith, is.len, is.stated, cut.1)) ]

pub none_begins : (o : List ℕ) → tlv_at o ≡ None → BeginsWithNoTlv o
none_begins o e =
    elim (cases_lt (length o) 4) [
      | inl short ↦ inl short
      | inr long ↦ elim (cases_lt (length o) (4 + stated_length o)) [
        | inl cut ↦ inr (long, cut)
        | inr whole ↦ let t = tlv_some o long whole in absurd (let same = sym e ∙ t.2 in cc)
      ]
    ]

-- ---- all parameters

within-some : (n : ℕ) (o r : List ℕ) (t : Tlv) → tlv_at o ≡ Some (t, r) → (tlvs_within (suc n) o ≡ t ∷ tlvs_within n r)
    × (rest_within (suc n) o ≡ rest_within n r)
unfolding tlvs_within rest_within
within-some n o r t e = (rw (e, tlvs_within) refl, rw (e, rest_within) refl)

within-none : (n : ℕ) (o : List ℕ) → tlv_at o ≡ None → (tlvs_within n o ≡ []) × (rest_within n o ≡ o)
unfolding tlvs_within rest_within
within-none zero o e = (refl, refl)
within-none (suc n) o e = (rw (e, tlvs_within) refl, rw (e, rest_within) refl)

none_left : (o : List ℕ) → length o ≤ 0 → tlv_at o ≡ None
none_left o h = tlv_none o (inl (omega arith))

enough_at : (n m : ℕ) (o : List ℕ) (f : Option (Tlv × List ℕ)) → tlv_at o ≡ f
    → ((r : List ℕ) → length r ≤ n → length r ≤ m → tlvs_within n r ≡ tlvs_within m r) → length o ≤ suc n → length o ≤ suc m
    → tlvs_within (suc n) o ≡ tlvs_within (suc m) o
enough_at n m o None e again h k = (within-none (suc n) o e).0 ∙ sym (within-none (suc m) o e).0
enough_at n m o (Some p) e again h k =
    let is = tlv_found o p.1 p.0 e in
    let same = again p.1 (omega (arith, is.len)) (omega (arith, is.len)) in
    (within-some n o p.1 p.0 e).0 ∙ ap (λ (ts : List Tlv). p.0 ∷ ts) same ∙ sym (within-some m o p.1 p.0 e).0

-- more steps than octets change nothing
within_enough : (n m : ℕ) (o : List ℕ) → length o ≤ n → length o ≤ m → tlvs_within n o ≡ tlvs_within m o
within_enough zero m o h k = let e = none_left o h in (within-none zero o e).0 ∙ sym (within-none m o e).0
within_enough (suc n) zero o h k = let e = none_left o k in (within-none (suc n) o e).0 ∙ sym (within-none zero o e).0
within_enough (suc n) (suc m) o h k = enough_at n m o (tlv_at o) refl (λ r. within_enough n m r) h k

pub tlvs_of-step : (o r : List ℕ) (t : Tlv) → tlv_at o ≡ Some (t, r) → tlvs_of o ≡ t ∷ tlvs_of r
unfolding tlvs_of
tlvs_of-step o r t e =
    let is = tlv_found o r t e in
    let n : ℕ = 3 + (length t.value + length r) in
    let more : length o ≡ suc n = omega (arith, is.len) in
    ap (λ (k : ℕ). tlvs_within k o) more ∙ (within-some n o r t e).0
    ∙ ap (λ (ts : List Tlv). t ∷ ts) (within_enough n (length r) r (omega arith) (omega arith))

pub tlvs_of-none : (o : List ℕ) → tlv_at o ≡ None → tlvs_of o ≡ []
unfolding tlvs_of
tlvs_of-none o e = (within-none (length o) o e).0

-- ---- the first value of a tag

pub tlv-shorter : (o r : List ℕ) (t : Tlv) → tlv_at o ≡ Some (t, r) → length r < length o
tlv-shorter o r t e = let is = tlv_found o r t e in omega (arith, is.len)

pub first_value-here : (tag : ℕ) (o r : List ℕ) (t : Tlv) → tlv_at o ≡ Some (t, r) → t.tag ≡ tag → first_value tag (tlvs_of o) ≡ Some t.value
first_value-here tag o r t e same = let test : (t.tag == tag) ≡ true = eq-eqb t.tag tag same in rw (tlvs_of-step o r t e, test) refl

pub first_value-other : (tag : ℕ) (o r : List ℕ) (t : Tlv) → tlv_at o ≡ Some (t, r) → t.tag ≢ tag → first_value tag (tlvs_of o)
    ≡ first_value tag (tlvs_of r)
first_value-other tag o r t e other = let test : (t.tag == tag) ≡ false = ne_eqb t.tag tag other in rw (tlvs_of-step o r t e, test) refl

pub first_value-none : (tag : ℕ) (o : List ℕ) → tlv_at o ≡ None → first_value tag (tlvs_of o) ≡ None
first_value-none tag o e = rw (tlvs_of-none o e) refl

-- ---- the relation

none_stands : (n : ℕ) (o : List ℕ) → tlv_at o ≡ None → AreParameters o (tlvs_within n o) (rest_within n o)
none_stands n o e =
    let none = within-none n o e in
    rw (none.0, none.1) (record { parts = refl; each = tt; ends = none_begins o e })

some_stands : (n : ℕ) (o r : List ℕ) (t : Tlv) → tlv_at o ≡ Some (t, r) → AreOctets o
    → AreParameters r (tlvs_within n r) (rest_within n r) → AreParameters o (tlvs_within (suc n) o) (rest_within (suc n) o)
some_stands n o r t e h later =
    let some = within-some n o r t e in
    let is = tlv_spelled o r t h e in
    let parts : o ≡ flat_map tlv_spelling (t ∷ tlvs_within n r) ++ rest_within n r =
    is.1 ∙ ap (λ (a : List ℕ). tlv_spelling t ++ a) later.parts
    ∙ sym (append_assoc (tlv_spelling t) (flat_map tlv_spelling (tlvs_within n r)) (rest_within n r)) in
    rw (some.0, some.1) (record { parts = parts; each = (is.0, later.each); ends = later.ends })

stands_at : (n : ℕ) (o : List ℕ) (f : Option (Tlv × List ℕ)) → tlv_at o ≡ f
    → ((r : List ℕ) → length r ≤ n → AreOctets r → AreParameters r (tlvs_within n r) (rest_within n r)) → length o ≤ suc n
    → AreOctets o → AreParameters o (tlvs_within (suc n) o) (rest_within (suc n) o)
stands_at n o None e later k h = none_stands (suc n) o e
stands_at n o (Some p) e later k h =
    let len = tlv_found o p.1 p.0 e in
    let is = tlv_spelled o p.1 p.0 h e in
    let after : AreOctets p.1 = octets_right (tlv_spelling p.0) p.1 (subst AreOctets is.1 h) in
    some_stands n o p.1 p.0 e h (later p.1 (omega (arith, len.len)) after)

within_stand : (n : ℕ) (o : List ℕ) → length o ≤ n → AreOctets o → AreParameters o (tlvs_within n o) (rest_within n o)
within_stand zero o k h = none_stands zero o (none_left o k)
within_stand (suc n) o k h = stands_at n o (tlv_at o) refl (λ r. within_stand n r) k h

within_again : (tlvs : List Tlv) (n : ℕ) (o rest : List ℕ) → length o ≤ n → AreParameters o tlvs rest
    → (tlvs ≡ tlvs_within n o) × (rest ≡ rest_within n o)
within_again [] n o rest k h =
    let none = within-none n o (tlv_none o (subst BeginsWithNoTlv (sym h.parts) h.ends)) in
    (sym none.0, sym h.parts ∙ sym none.1)
within_again (t ∷ tlvs) n o rest k h =
    let after : List ℕ = flat_map tlv_spelling tlvs ++ rest in
    let whole : o ≡ tlv_spelling t ++ after = h.parts ∙ append_assoc (tlv_spelling t) (flat_map tlv_spelling tlvs) rest in
    let e : tlv_at o ≡ Some (t, after) = ap tlv_at whole ∙ tlv_again t after h.each.0 in
    again_at n k e (λ m j. within_again tlvs m after rest j (record { parts = refl; each = h.each.1; ends = h.ends }))
  where
    again_at : (n : ℕ) → length o ≤ n → tlv_at o ≡ Some (t, flat_map tlv_spelling tlvs ++ rest)
        → ((m : ℕ) → length (flat_map tlv_spelling tlvs ++ rest) ≤ m → (tlvs ≡ tlvs_within m (flat_map tlv_spelling tlvs ++ rest))
        × (rest ≡ rest_within m (flat_map tlv_spelling tlvs ++ rest)))
        → ((t ∷ tlvs) ≡ tlvs_within n o) × (rest ≡ rest_within n o)
    again_at zero k e later = let short = tlv-shorter o (flat_map tlv_spelling tlvs ++ rest) t e in absurd (omega arith)
    again_at (suc m) k e later =
        let short = tlv-shorter o (flat_map tlv_spelling tlvs ++ rest) t e in
        let some = within-some m o (flat_map tlv_spelling tlvs ++ rest) t e in
        let same = later m (omega arith) in
        (ap (λ (ts : List Tlv). t ∷ ts) same.0 ∙ sym some.0, same.1 ∙ sym some.1)

pub parameters_stand : (octets : List ℕ) → AreOctets octets → AreParameters octets (tlvs_of octets) (rest_of octets)
unfolding tlvs_of rest_of
parameters_stand octets h = within_stand (length octets) octets (omega arith) h

pub parameters_again : (octets rest : List ℕ) (tlvs : List Tlv) → AreParameters octets tlvs rest → (tlvs ≡ tlvs_of octets) × (rest ≡ rest_of octets)
unfolding tlvs_of rest_of
parameters_again octets rest tlvs h = within_again tlvs (length octets) octets rest (omega arith) h

-- octets that begin with no whole parameter are not a parameter and what follows it
pub no_tlv : (octets : List ℕ) → AreOctets octets → BeginsWithNoTlv octets
    ↔ ((tlv : Tlv) (rest : List ℕ) → IsTlv tlv → octets ≡ tlv_spelling tlv ++ rest → ⊥)
no_tlv o h = (
  λ none t r is e. let differ : None ≡ Some (t, r) = sym (tlv_none o none) ∙ ap tlv_at e ∙ tlv_again t r is in cc,
  λ never. at_front (tlv_at o) refl never,
)
  where
    at_front : (f : Option (Tlv × List ℕ)) → tlv_at o ≡ f → ((tlv : Tlv) (rest : List ℕ) → IsTlv tlv → o ≡ tlv_spelling tlv ++ rest
        → ⊥) → BeginsWithNoTlv o
    at_front None e never = none_begins o e
    at_front (Some p) e never = let is = tlv_spelled o p.1 p.0 h e in absurd (never p.0 p.1 is.0 is.1)
