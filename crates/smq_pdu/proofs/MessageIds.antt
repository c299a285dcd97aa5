-- The first text of a body, and the message id that it may be.
use Rattle.std.proofs.Common.{◌≡◌, ℕ, suc, ◌<◌, ◌≤◌, ◌⊎◌, inl, inr, Bool, true, false, cond, ltb, List, [], ◌∷◌, ◌++◌, length, take, drop, Option, Some, None, refl, sym, ap, subst, ◌∙◌, arith}
use Rattle.std.specs.Prelude.{option_map, ◌==◌, nat_le}
use Rattle.std.proofs.lemmas.Bool.{cases_lt, eqb-false, ltb-false}
use Rattle.std.proofs.lemmas.Bool.Decides.{nat_tests}
use Rattle.std.proofs.lemmas.List.{take_all}
use Rattle.smq_pdu.specs.Fields.{IsText}
use Rattle.smq_pdu.specs.Bodies.{IsFirstText, IsMessageId}
use Rattle.smq_pdu.specs.Readers.{c_octet_at}
use Rattle.smq_pdu.specs.Pdu.{before_zero, id_of}
use Rattle.smq_pdu.proofs.Mandatory.{pair_is, put, text_again, text_found}
use Rattle.smq_pdu.proofs.Texts.{chosen, zero_at, c_octet_by}

-- a text that ends in a zero octet, or all the octets
read_cases : (o : List ℕ) → ((r : List ℕ) × (c_octet_at o ≡ Some (before_zero o, r))) ⊎ ((c_octet_at o ≡ None) × (before_zero o ≡ o))
read_cases o = by_test (ltb (zero_at o) (length o)) refl
  where
    by_test : (b : Bool) → ltb (zero_at o) (length o) ≡ b → ((r : List ℕ) × (c_octet_at o ≡ Some (before_zero o, r)))
        ⊎ ((c_octet_at o ≡ None) × (before_zero o ≡ o))
    by_test true e = inl (drop (suc (zero_at o)) o, c_octet_by o ∙ ap (λ b. chosen b (take (zero_at o) o, drop (suc (zero_at o)) o)) e)
    by_test false e = inr (
      c_octet_by o ∙ ap (λ b. chosen b (take (zero_at o) o, drop (suc (zero_at o)) o)) e,
      take_all (zero_at o)
          o (ltb-false (zero_at o) (length o) e),
    )

put_none : (x : ℕ) (f : Option (List ℕ × List ℕ)) → option_map (put x) f ≡ None → f ≡ None
put_none x None e = refl
put_none x (Some p) e = absurd cc

-- octets in which no text ends have no zero
no_zero : (o : List ℕ) → c_octet_at o ≡ None → IsText o
unfolding c_octet_at
no_zero [] e = tt
no_zero (x ∷ o) e =
    elim (x == 0) as (λ b. (x == 0) ≡ b → cond b (Some ([], o)) (option_map (put x) (c_octet_at o)) ≡ None → IsText (x ∷ o)) [
      | true ↦ λ z h. absurd cc
      | false ↦ λ z h. (eqb-false x 0 z, no_zero o (put_none x (c_octet_at o) h))
    ] refl e

-- a text that ends has a zero after it
ended : (t r : List ℕ) → IsText (t ++ 0 ∷ r) → ⊥
ended [] r h = h.0 refl
ended (x ∷ t) r h = ended t r h.1

pub first_stands : (o : List ℕ) → IsFirstText o (before_zero o)
first_stands o =
    elim (read_cases o) [
      | inl found ↦ let is = text_found o (before_zero o) found.0 found.1 in record { parts = inl (found.0, is.parts); no_zero = is.text }
      | inr all ↦ record { parts = inr (sym all.1); no_zero = subst IsText (sym all.1) (no_zero o all.0) }
    ]

pub first_again : (o t : List ℕ) → IsFirstText o t → t ≡ before_zero o
first_again o t h =
    elim (read_cases o) [
      | inl found ↦ elim h.parts [
        | inl ends ↦
            let again : c_octet_at o ≡ Some (t, ends.0) = ap c_octet_at ends.1 ∙ text_again t ends.0 h.no_zero in
            let same = pair_is (t, ends.0) (before_zero o, found.0) (sym again ∙ found.1) in
            same.0
        | inr all ↦
            let is = text_found o (before_zero o) found.0 found.1 in
            absurd (ended (before_zero o) found.0 (subst IsText is.parts (subst IsText (sym all) h.no_zero)))
      ]
      | inr none ↦ elim h.parts [
        | inl ends ↦ absurd (let again : c_octet_at o ≡ Some (t, ends.0) = ap c_octet_at ends.1 ∙ text_again t ends.0 h.no_zero in
            let differ = sym none.0 ∙ again in cc)
        | inr all ↦ sym all ∙ sym none.1
      ]
    ]

-- ---- the id

id_some : (o : List ℕ) → 1 ≤ length (before_zero o) → length (before_zero o) ≤ 64 → id_of o ≡ Some (before_zero o)
unfolding id_of
id_some o low high =
    let a : nat_le 1 (length (before_zero o)) ≡ true = grind (arith, nat_tests) in
    let b : nat_le (length (before_zero o)) 64 ≡ true = grind (arith, nat_tests) in
    rw (a, b) refl

id_short : (o : List ℕ) → length (before_zero o) < 1 → id_of o ≡ None
unfolding id_of
id_short o short = let a : nat_le 1 (length (before_zero o)) ≡ false = grind (arith, nat_tests) in rw a refl

id_long : (o : List ℕ) → 64 < length (before_zero o) → id_of o ≡ None
unfolding id_of
id_long o long =
    let a : nat_le 1 (length (before_zero o)) ≡ true = grind (arith, nat_tests) in
    let b : nat_le (length (before_zero o)) 64 ≡ false = grind (arith, nat_tests) in
    rw (a, b) refl

pub id_again : (o id : List ℕ) → IsMessageId o id → id_of o ≡ Some id
id_again o id h =
    let same = first_again o id h.first in
    id_some o (subst (λ (t : List ℕ). 1 ≤ length t) same h.not_empty) (subst (λ (t : List ℕ). length t ≤ 64) same h.in_range)
    ∙ ap (λ (t : List ℕ). Some t) (sym same)

-- there is an id, or none
pub id_cases : (o : List ℕ) → ((id_of o ≡ Some (before_zero o)) × IsMessageId o (before_zero o)) ⊎ (id_of o ≡ None)
id_cases o =
    elim (cases_lt (length (before_zero o)) 1) [
      | inl short ↦ inr (id_short o short)
      | inr low ↦ elim (cases_lt 64 (length (before_zero o))) [
        | inl long ↦ inr (id_long o long)
        | inr high ↦ inl (id_some o low high, record { first = first_stands o; not_empty = low; in_range = high })
      ]
    ]
