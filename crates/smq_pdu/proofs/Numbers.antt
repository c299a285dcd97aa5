-- The number of an address by its relation, and as it is found.
use Rattle.std.proofs.Common.{◌≡◌, ℕ, zero, suc, ◌<◌, ◌≤◌, ◌⊎◌, inl, inr, true, false, List, [], ◌∷◌, length, Option, Some, None, refl, sym, ap, subst, ◌∙◌, arith}
use Rattle.std.specs.Prelude.{◌==◌, ◌&&◌, nat_le}
use Rattle.std.specs.List.{list_all}
use Rattle.std.specs.Char.{is_ascii_digit}
use Rattle.std.proofs.lemmas.Bool.{cases_Bool, cases_lt, eqb-true}
use Rattle.std.proofs.lemmas.Bool.Decides.{nat_tests}
use Rattle.std.proofs.lemmas.List.Sums.{AllPass-from_list_all, list_all-from_AllPass}
use Rattle.smq_kit.specs.Numbers.{IsDigits}
use Rattle.smq_pdu.specs.Fields.{Address}
use Rattle.smq_pdu.proofs.Mandatory.{some_is}
use Rattle.smq_pdu.specs.Numbers.{IsNumberOf, HasNumber, without_plus, digits_of, number_of, plus}

pub digits_of-some : (text : List ℕ) → IsDigits text → digits_of text ≡ Some text
unfolding digits_of
digits_of-some text h =
    let low : nat_le 1 (length text) ≡ true = let some = h.not_empty in grind (arith, nat_tests) in
    let high : nat_le (length text) 15 ≡ true = let most = h.in_range in grind (arith, nat_tests) in
    rw (low, high, list_all-from_AllPass is_ascii_digit text h.digits) refl

-- there are digits, or none
pub digits_cases : (text : List ℕ) → ((digits_of text ≡ Some text) × IsDigits text) ⊎ (digits_of text ≡ None)
unfolding digits_of
digits_cases text =
    elim (cases_lt (length text) 1) [
      | inl short ↦ inr (let low : nat_le 1 (length text) ≡ false = grind (arith, nat_tests) in rw low refl)
      | inr some ↦
          let low : nat_le 1 (length text) ≡ true = grind (arith, nat_tests) in
          elim (cases_lt 15 (length text)) [
            | inl long ↦ inr (let high : nat_le (length text) 15 ≡ false = grind (arith, nat_tests) in rw (low, high) refl)
            | inr most ↦
                let high : nat_le (length text) 15 ≡ true = grind (arith, nat_tests) in
                elim (cases_Bool (list_all is_ascii_digit text)) [
                  | inl all ↦ inl (
                    rw (low, high, all) refl,
                    record {
                      not_empty = some;
                      in_range = most;
                      digits =
                          AllPass-from_list_all is_ascii_digit text all;
                    },
                  )
                  | inr other ↦ inr (rw (low, high, other) refl)
                ]
          ]
    ]

pub digits_of-none : (text : List ℕ) → (IsDigits text → ⊥) → digits_of text ≡ None
digits_of-none text other =
    elim (digits_cases text) [
      | inl found ↦ absurd (other found.1)
      | inr none ↦ none
    ]

pub ruleset digits_facts = (digits_of-some, digits_of-none)

-- ---- one leading `+`

-- a text is what is left without one `+`, or that with one before it
text_cases : (text : List ℕ) → (text ≡ without_plus text) ⊎ (text ≡ plus ∷ without_plus text)
text_cases [] = inl refl
text_cases (x ∷ rest) =
    elim (cases_Bool (x == plus)) [
      | inl is ↦ inr (rw is (ap (λ (y : ℕ). y ∷ rest) (eqb-true x plus is)))
      | inr other ↦ inl (rw other refl)
    ]

-- digits begin with no `+`
plain : (number : List ℕ) → list_all is_ascii_digit number ≡ true → without_plus number ≡ number
plain [] e = refl
plain (x ∷ rest) e =
    elim (cases_Bool (x == plus)) [
      | inl is ↦ absurd (let digit : (is_ascii_digit plus && list_all is_ascii_digit rest) ≡ true =
          subst (λ (y : ℕ). (is_ascii_digit y && list_all is_ascii_digit rest) ≡ true) (eqb-true x plus is)
          e in cc)
      | inr other ↦ rw other refl
    ]

number_in : (text number : List ℕ) → IsDigits number → (text ≡ number) ⊎ (text ≡ plus ∷ number) → without_plus text ≡ number
number_in text number h (inl same) = ap without_plus same ∙ plain number (list_all-from_AllPass is_ascii_digit number h.digits)
number_in text number h (inr with_plus) = ap without_plus with_plus

-- ---- the number of an address

of_kind : (a : Address) → a.ton ≤ 1 → number_of a ≡ digits_of (without_plus a.text)
unfolding number_of
of_kind a low = let test : nat_le a.ton 1 ≡ true = grind (arith, nat_tests) in rw test refl

of_other_kind : (a : Address) → 1 < a.ton → number_of a ≡ None
unfolding number_of
of_other_kind a high = let test : nat_le a.ton 1 ≡ false = grind (arith, nat_tests) in rw test refl

kinds : (n : ℕ) → n ≤ 1 → (n ≡ 0) ⊎ (n ≡ 1)
kinds zero low = inl refl
kinds (suc zero) low = inr refl
kinds (suc (suc n)) low = absurd (omega (arith, low))

pub number_again : (a : Address) (number : List ℕ) → IsNumberOf a number → number_of a ≡ Some number
number_again a number h =
    let low : a.ton ≤ 1 = elim h.ton [ inl e ↦ omega (arith, e) | inr e ↦ omega (arith, e) ] in
    of_kind a low ∙ ap digits_of (number_in a.text number h.digits h.text) ∙ digits_of-some number h.digits

-- an address names a number, or none
number_cases : (a : Address) → ((number : List ℕ) × (number_of a ≡ Some number) × IsNumberOf a number) ⊎ (number_of a ≡ None)
number_cases a =
    elim (cases_lt 1 a.ton) [
      | inl high ↦ inr (of_other_kind a high)
      | inr low ↦ elim (digits_cases (without_plus a.text)) [
        | inl found ↦ inl (without_plus a.text, of_kind a low ∙ found.0, record { ton = kinds a.ton low; text = text_cases a.text; digits = found.1 })
        | inr none ↦ inr (of_kind a low ∙ none)
      ]
    ]

pub number_found : (a : Address) (number : List ℕ) → number_of a ≡ Some number → IsNumberOf a number
number_found a number e =
    elim (number_cases a) [
      | inl found ↦ subst (IsNumberOf a) (some_is found.0 number (sym found.1 ∙ e)) found.2
      | inr none ↦ absurd (let differ = sym none ∙ e in cc)
    ]

pub no_number : (a : Address) → number_of a ≡ None → HasNumber a None
no_number a e = λ number h. let differ = sym e ∙ number_again a number h in cc

pub none_again : (a : Address) → HasNumber a None → number_of a ≡ None
none_again a none =
    elim (number_cases a) [
      | inl found ↦ absurd (none found.0 found.2)
      | inr is ↦ is
    ]

pub numbers_unique : (a : Address) (one other : List ℕ) → IsNumberOf a one → IsNumberOf a other → one ≡ other
numbers_unique a one other h k = some_is one other (sym (number_again a one h) ∙ number_again a other k)

-- ---- a number, or none

pub has_again : (a : Address) (number : Option (List ℕ)) → HasNumber a number → number_of a ≡ number
has_again a None h = none_again a h
has_again a (Some number) h = number_again a number h

pub has_found : (a : Address) (number : Option (List ℕ)) → number_of a ≡ number → HasNumber a number
has_found a None e = no_number a e
has_found a (Some number) e = number_found a number e
