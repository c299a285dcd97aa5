-- Where no entry has the first number at which seats and a history differ, some seat has a call of it.
use Rattle.std.proofs.Common.{◌≡◌, ℕ, ◌+◌, ◌-◌, ◌<◌, ◌≤◌, ◌==◌, ◌⊎◌, inl, inr, ◌||◌, Bool, true, false, List, [], ◌∷◌, ◌++◌, Option, Some, None, IfSome, refl, sym, ◌∙◌, ap, subst, length, take, get_or, slice_get, arith, All, eq-eqb, if◌then◌else◌}
use Rattle.std.specs.List.{list_any}
use Rattle.std.proofs.lemmas.List.{take_all}
use Rattle.std.proofs.lemmas.List.Elements.{All-nil, All-cons}
use Rattle.smq_desk.specs.declared.entry.Call.{Call}
use Rattle.smq_desk.specs.declared.entry.Entry.{Entry}
use Rattle.smq_desk.specs.Seats.{SeatValue, calls_in, HasOneSeat}
use Rattle.smq_desk.specs.Closing.{AgreesUpTo, AgreeUpTo, FailsFirstAt, IsToldOf, first_with}
use Rattle.smq_desk.proofs.Agreement.{All-right}

-- a call of another number
abbrev IsOther : ℕ → Call → Type 0
IsOther n c = (c.number == n) ≡ false

neither : (a b : Bool) → (a || b) ≡ false → (a ≡ false) × (b ≡ false)
neither true b e = absurd cc
neither false b e = (refl, e)

none_numbered : (n : ℕ) (calls : List Call) → list_any (λ (c : Call). c.number == n) calls ≡ false → All (IsOther n) calls
none_numbered n [] e = All-nil (IsOther n)
none_numbered n (c ∷ calls) e =
    let both = neither (c.number == n) (list_any (λ (x : Call). x.number == n) calls) e in
    All-cons (IsOther n) c calls both.0 (none_numbered n calls both.1)

-- a seat without a call of a number
abbrev HasNone : ℕ → SeatValue → Type 0
HasNone n s = list_any (λ (c : Call). c.number == n) s.calls ≡ false

none_has : (n : ℕ) (seats : List SeatValue) → first_with n seats ≡ None → All (HasNone n) seats
none_has n [] e = All-nil (HasNone n)
none_has n (s ∷ seats) e = by (list_any (λ (c : Call). c.number == n) s.calls) refl (λ rest. none_has n seats rest)
  where
    by : (b : Bool) → list_any (λ (c : Call). c.number == n) s.calls ≡ b → (first_with n seats ≡ None → All (HasNone n) seats) → All (HasNone n) (s ∷ seats)
    by true is later =
        let found : Some s.number ≡ None = sym (ap (λ (b : Bool). if b then Some s.number else first_with n seats) is) ∙ e in
        absurd cc
    by false is later =
        let rest : first_with n seats ≡ None = sym (ap (λ (b : Bool). if b then Some s.number else first_with n seats) is) ∙ e in
        All-cons (HasNone n) s seats is (later rest)

strict : (a b : ℕ) → b ≤ a → (a ≡ b → ⊥) → b < a
strict a b le differ = omega (arith, differ)

above : (n : ℕ) (calls : List Call) → All (λ (c : Call). n ≤ c.number) calls → All (IsOther n) calls → All (λ (c : Call). n < c.number) calls
above n calls least other k d lt = by (get_or calls k d) (least k d lt) (other k d lt)
  where
    by : (c : Call) → n ≤ c.number → (c.number == n) ≡ false → n < c.number
    by c le other_number = strict c.number n le (λ (same : c.number ≡ n). let yes : (c.number == n) ≡ true = eq-eqb c.number n same in absurd cc)

-- a seat that has no call of a number, and whose calls after its entries up to there have that number at least
no_less : (entries : List Entry) (n : ℕ) (s : SeatValue) (later : List Call) → s.calls ≡ calls_in (take n entries) s.number ++ later
    → All (λ (c : Call). n ≤ c.number) later → HasNone n s → AgreesUpTo entries n s
no_less entries n s later is least none =
    let other : All (IsOther n) s.calls = none_numbered n s.calls none in
    let others : All (IsOther n) later = All-right (IsOther n) (calls_in (take n entries) s.number) later (subst (All (IsOther n)) is other) in
    record { later = later; agreed = is; greater = above n later least others }

zero_agrees : (entries : List Entry) (s : SeatValue) → HasNone 0 s → AgreesUpTo entries 0 s
zero_agrees entries s none = no_less entries 0 s s.calls refl (λ i c less. omega arith) none

from_zero : (entries : List Entry) (seats : List SeatValue) → All (HasNone 0) seats → AgreeUpTo seats entries 0
from_zero entries seats none = record {
  each_seat = λ k d lt. zero_agrees entries (get_or seats k d) (none k d lt);
  each_entry = All-nil (HasOneSeat seats);
}

from_last : (entries : List Entry) (seats : List SeatValue) (n : ℕ) → length entries ≤ n → AgreeUpTo seats entries n → All (HasNone (n + 1)) seats → AgreeUpTo seats entries (n + 1)
from_last entries seats n long agree none =
    let same : take n entries ≡ take (n + 1) entries = take_all n entries long ∙ sym (take_all (n + 1) entries (omega arith)) in
    record {
      each_seat = λ k d lt. by (get_or seats k d) (agree.each_seat k d lt) (none k d lt);
      each_entry = subst (All (HasOneSeat seats)) same agree.each_entry;
    }
  where
    by : (s : SeatValue) → AgreesUpTo entries n s → HasNone (n + 1) s → AgreesUpTo entries (n + 1) s
    by s a has_none =
        let same : take n entries ≡ take (n + 1) entries = take_all n entries long ∙ sym (take_all (n + 1) entries (omega arith)) in
        no_less entries (n + 1) s a.later (a.agreed ∙ ap (λ (es : List Entry). calls_in es s.number ++ a.later) same)
        (λ k d lt. let more = a.greater k d lt in omega (arith, more)) has_none

some_has : (entries : List Entry) (seats : List SeatValue) (n : ℕ) → FailsFirstAt (AgreeUpTo seats entries) n → (n ≡ 0) ⊎ (length entries < n) → first_with n seats ≡ None → ⊥
some_has entries seats n fails (inl zero_is) none =
    let all = none_has n seats none in
    fails.here (subst (λ (m : ℕ). AgreeUpTo seats entries m) (sym zero_is) (from_zero entries seats (subst (λ (m : ℕ). All (HasNone m) seats) zero_is all)))
some_has entries seats n fails (inr less) none =
    let all = none_has n seats none in
    let next : n ≡ (n - 1) + 1 = omega arith in
    let before = fails.below (n - 1) (omega arith) in
    fails.here (subst (λ (m : ℕ). AgreeUpTo seats entries m) (sym next)
    (from_last entries seats (n - 1) (omega arith) before (subst (λ (m : ℕ). All (HasNone m) seats) next all)))

-- so the first of them is told
told : (entries : List Entry) (seats : List SeatValue) (n k : ℕ) → FailsFirstAt (AgreeUpTo seats entries) n → (n ≡ 0) ⊎ (length entries < n)
    → IfSome (first_with n seats) (λ (s : ℕ). k ≡ s) → first_with n seats ≡ Some k
told entries seats n k fails past found = by (first_with n seats) refl found
  where
    by : (o : Option ℕ) → first_with n seats ≡ o → IfSome o (λ (s : ℕ). k ≡ s) → first_with n seats ≡ Some k
    by None is h = absurd (some_has entries seats n fails past is)
    by (Some s) is h = is ∙ ap Some (sym h)

-- the seat of the entry of a number
pub of_entry : (entries : List Entry) (seats : List SeatValue) (n : ℕ) (e : Entry) → 0 < n → n ≤ length entries → slice_get entries (n - 1) ≡ Some e → IsToldOf entries seats n e.seat
of_entry entries seats n e positive within at = record {
  entry = λ d p q is. let same : e ≡ d = cc in ap (λ (x : Entry). x.seat) same;
  call = λ past. absurd (by past);
}
  where
    by : (n ≡ 0) ⊎ (length entries < n) → ⊥
    by (inl zero_is) = absurd (omega arith)
    by (inr beyond) = absurd (omega arith)

-- the first seat with a call of a number that no entry has
pub of_call : (entries : List Entry) (seats : List SeatValue) (n k : ℕ) → FailsFirstAt (AgreeUpTo seats entries) n → (n ≡ 0) ⊎ (length entries < n)
    → IfSome (first_with n seats) (λ (s : ℕ). k ≡ s) → IsToldOf entries seats n k
of_call entries seats n k fails past found = record {
  entry = λ e positive within at. absurd (by past positive within);
  call = λ beyond. told entries seats n k fails beyond found;
}
  where
    by : (n ≡ 0) ⊎ (length entries < n) → 0 < n → n ≤ length entries → ⊥
    by (inl zero_is) positive within = absurd (omega arith)
    by (inr beyond) positive within = absurd (omega arith)
