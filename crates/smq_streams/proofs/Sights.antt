-- What is seen among octets, as others are passed over or follow.
use Rattle.std.proofs.Common.{◌≡◌, ℕ, ◌+◌, ◌-◌, ◌<◌, ◌≤◌, ◌⊎◌, inl, inr, Bool, true, false, List, [], ◌∷◌, ◌++◌, length, drop, refl, sym, ap, subst, ◌∙◌, arith, length-append, length-drop}
use Rattle.std.proofs.lemmas.Bool.{cases_lt}
use Rattle.std.proofs.lemmas.List.{drop-append-le}
use Rattle.smq_streams.specs.Header.{AreHeader, IsHeaderAt, IsPartAt, number_at}
use Rattle.smq_streams.specs.Sight.{IsSeen, IsUnclear, behind}
use Rattle.smq_streams.proofs.Framing.{number-front}
use Rattle.smq_streams.proofs.Octets.{drop-drop}

-- ---- behind some octets

number-drop : (n k : ℕ) (o : List ℕ) → number_at (n + k) o ≡ number_at k (drop n o)
unfolding number_at
number-drop n k o = ap (λ (x : List ℕ). number_at 0 x) (sym (drop-drop n k o))

number-drop-at : (n k place : ℕ) (o : List ℕ) → place ≡ n + k → number_at place o ≡ number_at k (drop n o)
number-drop-at n k place o e = ap (λ (p : ℕ). number_at p o) e ∙ number-drop n k o

same_numbers : (a b c d e f : ℕ) → a ≡ d → b ≡ e → c ≡ f → AreHeader a b c → AreHeader d e f
same_numbers a b c d e f p q r h = rw (← p, ← q, ← r) h

header-drop : (n k place : ℕ) (o : List ℕ) → place ≡ n + k → IsHeaderAt o place → IsHeaderAt (drop n o) k
header-drop n k place o e h =
    let w = h.whole in
    record {
      whole = omega (arith, length-drop n o);
      numbers = same_numbers _ _ _ _ _ _ (number-drop-at n k place o e) (number-drop-at n (k + 4) (place + 4) o (omega arith))
          (number-drop-at n (k + 8) (place + 8) o (omega arith)) h.numbers;
    }

part-drop : (n k place : ℕ) (o : List ℕ) → place ≡ n + k → n ≤ length o → IsPartAt o place → IsPartAt (drop n o) k
part-drop n k place o e l h =
    let p = h.part in
    record {
      part = omega (arith, length-drop n o);
      may = record {
        size = h.may.size;
        command = h.may.command;
        status = h.may.status;
        numbers = h.may.numbers;
        same_size = λ w. h.may.same_size (omega (arith, length-drop n o)) ∙ number-drop-at n k place o e;
        same_command = λ w. h.may.same_command (omega (arith, length-drop n o)) ∙ number-drop-at n (k + 4) (place + 4) o (omega arith);
        same_status = λ w. h.may.same_status (omega (arith, length-drop n o)) ∙ number-drop-at n (k + 8) (place + 8) o (omega arith);
      };
    }

-- what is seen at a place is seen at the front of the octets from there on
pub seen-drop : (n : ℕ) (o : List ℕ) (b : Bool) → IsSeen o n b → IsSeen (drop n o) 0 b
seen-drop n o b s =
    let w = s.header.whole in
    let start : n ≡ n + 0 = omega arith in
    let e : behind o n ≡ n + behind (drop n o) 0 = omega (arith, number-drop-at n 0 n o start) in
    record {
      header = header-drop n 0 n o start s.header;
      next = elim s.next [
        | inl h ↦ inl (header-drop n (behind (drop n o) 0) (behind o n) o e h)
        | inr p ↦ inr (p.0, part-drop n (behind (drop n o) 0) (behind o n) o e (omega arith) p.1)
      ];
    }

-- ---- before others

number-before : (n : ℕ) (o more : List ℕ) → n + 4 ≤ length o → number_at n (o ++ more) ≡ number_at n o
number-before n o more h =
    let start : n ≡ n + 0 = omega arith in
    number-drop-at n 0 n (o ++ more) start
    ∙ ap (λ (x : List ℕ). number_at 0 x) (drop-append-le n o more (omega arith))
    ∙ number-front (drop n o) more (omega (arith, length-drop n o))
    ∙ sym (number-drop-at n 0 n o start)

header-before : (k : ℕ) (o more : List ℕ) → k + 16 ≤ length o → IsHeaderAt (o ++ more) k → IsHeaderAt o k
header-before k o more w h =
    record {
      whole = w;
      numbers = same_numbers _ _ _ _ _ _ (number-before k o more (omega arith)) (number-before (k + 4) o more (omega arith))
          (number-before (k + 8) o more (omega arith)) h.numbers;
    }

part_of_header : (k : ℕ) (o more : List ℕ) → length o < k + 16 → IsHeaderAt (o ++ more) k → IsPartAt o k
part_of_header k o more w h =
    record {
      part = w;
      may = record {
        size = number_at k (o ++ more);
        command = number_at (k + 4) (o ++ more);
        status = number_at (k + 8) (o ++ more);
        numbers = h.numbers;
        same_size = λ l. number-before k o more l;
        same_command = λ l. number-before (k + 4) o more (omega arith);
        same_status = λ l. number-before (k + 8) o more (omega arith);
      };
    }

part_of_part : (k : ℕ) (o more : List ℕ) → IsPartAt (o ++ more) k → IsPartAt o k
part_of_part k o more h =
    let p = h.part in
    record {
      part = omega (arith, length-append o more);
      may = record {
        size = h.may.size;
        command = h.may.command;
        status = h.may.status;
        numbers = h.may.numbers;
        same_size = λ l. h.may.same_size (omega (arith, length-append o more)) ∙ number-before k o more l;
        same_command = λ l. h.may.same_command (omega (arith, length-append o more)) ∙ number-before (k + 4) o more (omega arith);
        same_status = λ l. h.may.same_status (omega (arith, length-append o more)) ∙ number-before (k + 8) o more (omega arith);
      };
    }

-- where a part of a header stands behind a PDU, one is seen or what follows decides
undecided : (o : List ℕ) (b : Bool) → (IsSeen o 0 b → ⊥) → (IsUnclear o 0 b → ⊥) → IsHeaderAt o 0 → IsPartAt o (behind o 0) → ⊥
undecided o true ns nu h p = ns (record { header = h; next = inr (refl, p) })
undecided o false ns nu h p = nu (inr (h, refl, p))

-- what is neither seen nor unclear is not seen, whatever follows
pub not-later : (o more : List ℕ) (b : Bool) → (IsSeen o 0 b → ⊥) → (IsUnclear o 0 b → ⊥) → IsSeen (o ++ more) 0 b → ⊥
not-later o more b ns nu s =
    elim (cases_lt (length o) 16) [
      | inl l ↦ nu (inl (part_of_header 0 o more l s.header))
      | inr l ↦
          let h : IsHeaderAt o 0 = header-before 0 o more l s.header in
          let e : behind (o ++ more) 0 ≡ behind o 0 = ap (λ (n : ℕ). 0 + n) (number-before 0 o more (omega arith)) in
          elim s.next [
            | inl f ↦
                let g : IsHeaderAt (o ++ more) (behind o 0) = subst (λ (k : ℕ). IsHeaderAt (o ++ more) k) e f in
                elim (cases_lt (length o) (behind o 0 + 16)) [
                  | inl w ↦ undecided o b ns nu h (part_of_header (behind o 0) o more w g)
                  | inr w ↦ ns (record { header = h; next = inl (header-before (behind o 0) o more w g) })
                ]
            | inr p ↦
                let g : IsPartAt (o ++ more) (behind o 0) = subst (λ (k : ℕ). IsPartAt (o ++ more) k) e p.1 in
                undecided o b ns nu h (part_of_part (behind o 0) o more g)
          ]
    ]
