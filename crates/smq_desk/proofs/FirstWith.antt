-- The first seat that has a call of a number, one seat at a time.
use Rattle.std.proofs.Common.{◌≡◌, ℕ, ◌+◌, ◌<◌, ◌==◌, Bool, true, false, List, ◌∷◌, Some, sym, ◌∙◌, ap, length, drop, get_or, if◌then◌else◌}
use Rattle.std.specs.List.{list_any}
use Rattle.std.proofs.lemmas.List.{at_drop_more}
use Rattle.smq_desk.specs.declared.entry.Call.{Call}
use Rattle.smq_desk.specs.Seats.{SeatValue}
use Rattle.smq_desk.specs.Closing.{first_with}

-- whether a seat has a call of a number
abbrev has : ℕ → SeatValue → Bool
has n s = list_any (λ (c : Call). c.number == n) s.calls

of_next : (n : ℕ) (s : SeatValue) (rest : List SeatValue) (b : Bool) → has n s ≡ b → first_with n (s ∷ rest) ≡ (if b then Some s.number else first_with n rest)
of_next n s rest b e = ap (λ (x : Bool). if x then Some s.number else first_with n rest) e

at_next : (n : ℕ) (seats : List SeatValue) (i : ℕ) (s : SeatValue) → i < length seats → s ≡ get_or seats i s → first_with n (drop i seats) ≡ first_with n (s ∷ drop (i + 1) seats)
at_next n seats i s lt at =
    at_drop_more (first_with n) seats i s lt ∙ ap (λ (x : SeatValue). first_with n (x ∷ drop (i + 1) seats)) (sym at)

-- one that has none
pub without : (n : ℕ) (seats : List SeatValue) (i : ℕ) (s : SeatValue) → i < length seats → s ≡ get_or seats i s → has n s ≡ false
    → first_with n (drop i seats) ≡ first_with n seats → first_with n (drop (i + 1) seats) ≡ first_with n seats
without n seats i s lt at none so_far = sym (at_next n seats i s lt at ∙ of_next n s (drop (i + 1) seats) false none) ∙ so_far

-- one that has one
pub with_one : (n : ℕ) (seats : List SeatValue) (i : ℕ) (s : SeatValue) → i < length seats → s ≡ get_or seats i s → has n s ≡ true
    → first_with n (drop i seats) ≡ first_with n seats → first_with n seats ≡ Some s.number
with_one n seats i s lt at one so_far = sym so_far ∙ at_next n seats i s lt at ∙ of_next n s (drop (i + 1) seats) true one
