-- Each entry is of one seat, so that seats have as many calls as there are entries.
use Rattle.std.proofs.Common.{◌≡◌, ℕ, ◌+◌, ◌==◌, Bool, true, false, cond, List, [], ◌∷◌, refl, sym, ap, ◌∙◌, length, arith, All, sum_by, eq-eqb, ne_eqb}
use Rattle.std.proofs.lemmas.Bool.{eqb-true}
use Rattle.std.proofs.lemmas.List.Sums.{sum_by-cons}
use Rattle.std.proofs.lemmas.List.Elements.{All-head, All-tail}
use Rattle.smq_desk.specs.declared.entry.Entry.{Entry}
use Rattle.smq_desk.specs.Seats.{SeatValue, calls_from, holders, HasItsCalls, HasOneSeat, AreCallsOf}

-- how many calls a seat has of entries that are numbered from a number on
abbrev calls_of : ℕ → List Entry → SeatValue → ℕ
calls_of f es s = length (calls_from f s.number es)

abbrev holds : Entry → SeatValue → ℕ
holds e s = cond (s.number == e.seat) 1 0

flip : (a b : ℕ) (t : Bool) → (b == a) ≡ t → (a == b) ≡ t
flip a b true e = eq-eqb a b (sym (eqb-true b a e))
flip a b false e = ne_eqb a b (λ (same : a ≡ b). let yes : (b == a) ≡ true = eq-eqb b a (sym same) in absurd cc)

one_entry : (f : ℕ) (e : Entry) (es : List Entry) (s : SeatValue) → calls_of f (e ∷ es) s ≡ holds e s + calls_of (f + 1) es s
one_entry f e es s = by (s.number == e.seat) refl
  where
    by : (b : Bool) → (s.number == e.seat) ≡ b → calls_of f (e ∷ es) s ≡ holds e s + calls_of (f + 1) es s
    by true is = rw (flip e.seat s.number true is, is) (omega arith)
    by false is = rw (flip e.seat s.number false is, is) (omega arith)

all_seats : (f : ℕ) (e : Entry) (es : List Entry) (seats : List SeatValue) → sum_by (calls_of f (e ∷ es)) seats ≡ sum_by (holds e) seats + sum_by (calls_of (f + 1) es) seats
all_seats f e es [] = refl
all_seats f e es (s ∷ seats) =
    let a = sum_by-cons (calls_of f (e ∷ es)) s seats in
    let b = sum_by-cons (holds e) s seats in
    let c = sum_by-cons (calls_of (f + 1) es) s seats in
    let d = one_entry f e es s in
    let rest = all_seats f e es seats in
    omega arith

no_entries : (f : ℕ) (seats : List SeatValue) → sum_by (calls_of f []) seats ≡ 0
no_entries f [] = refl
no_entries f (s ∷ seats) =
    let a = sum_by-cons (calls_of f []) s seats in
    let none : calls_of f [] s ≡ 0 = refl in
    let rest = no_entries f seats in
    omega arith

one_holder : (seats : List SeatValue) (e : Entry) → HasOneSeat seats e → sum_by (holds e) seats ≡ 1
unfolding holders
one_holder seats e h = h

counted : (f : ℕ) (seats : List SeatValue) (es : List Entry) → All (HasOneSeat seats) es → sum_by (calls_of f es) seats ≡ length es
counted f seats [] h = no_entries f seats
counted f seats (e ∷ es) h =
    let one = one_holder seats e (All-head (HasOneSeat seats) e es h) in
    let rest = counted (f + 1) seats es (All-tail (HasOneSeat seats) e es h) in
    let split = all_seats f e es seats in
    omega arith

own_calls : (entries : List Entry) (seats : List SeatValue) → All (HasItsCalls entries) seats → sum_by (λ (s : SeatValue). length s.calls) seats ≡ sum_by (calls_of 1 entries) seats
own_calls entries [] h = refl
own_calls entries (s ∷ seats) h =
    let a = sum_by-cons (λ (x : SeatValue). length x.calls) s seats in
    let b = sum_by-cons (calls_of 1 entries) s seats in
    let c = ap length (All-head (HasItsCalls entries) s seats h) in
    let rest = own_calls entries seats (All-tail (HasItsCalls entries) s seats h) in
    omega arith

pub as_many_calls : (seats : List SeatValue) (entries : List Entry) → AreCallsOf seats entries → sum_by (λ (s : SeatValue). length s.calls) seats ≡ length entries
as_many_calls seats entries h = own_calls entries seats h.each_seat ∙ counted 1 seats entries h.each_entry
