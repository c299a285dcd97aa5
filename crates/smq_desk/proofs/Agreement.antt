-- Up to which number seats agree with a history.
use Rattle.std.proofs.Common.{◌≡◌, ℕ, ◌+◌, ◌==◌, ◌<◌, ◌≤◌, ◌⊎◌, inl, inr, true, false, List, [], ◌∷◌, ◌++◌, refl, sym, ◌∙◌, ap, subst, length, take, drop, get_or, arith, All, append-nil, append_assoc}
use Rattle.std.proofs.lemmas.List.{append_cancel_left, take-take, take_all, take_more, length-take-le}
use Rattle.std.proofs.lemmas.List.Elements.{All-append, All-weaker, All-tail, All-same}
use Rattle.smq_desk.specs.declared.entry.Entry.{Entry}
use Rattle.smq_desk.specs.declared.entry.Call.{Call}
use Rattle.smq_desk.specs.Seats.{SeatValue, call_of, calls_from, calls_in, HasItsCalls}
use Rattle.smq_desk.specs.Closing.{AgreesUpTo, FailsFirstAt}
use Rattle.smq_desk.specs.within.Least.{IsLeastOf}
use Rattle.smq_desk.proofs.CallsIn.{calls_from-split, calls_from-append, calls_from-numbers, calls_from-own, calls_from-other}

-- calls with a greater number than this
abbrev Above : ℕ → Call → Type 0
Above n c = n < c.number

pub All-right : {X : Type 0} (P : X → Type 0) (xs ys : List X) → All P (xs ++ ys) → All P ys
All-right P [] ys h = h
All-right P (x ∷ xs) ys h = All-right P xs ys (All-tail P x (xs ++ ys) h)

-- the calls of entries after a number
later_above : (k n : ℕ) (es : List Entry) → All (Above n) (calls_from (1 + n) k es)
later_above k n es = All-weaker (λ (c : Call). 1 + n ≤ c.number) (Above n) (λ (c : Call) (h : 1 + n ≤ c.number). omega arith) (calls_from (1 + n) k es) (calls_from-numbers (1 + n) k es)

-- a seat whose calls are those of the entries seen, and others
halves : (entries seen : List Entry) (calls rest : List Call) (k n : ℕ) → take n entries ≡ take n seen → calls ≡ calls_in seen k ++ rest
    → calls ≡ calls_in (take n entries) k ++ (calls_from (1 + n) k (drop n seen) ++ rest)
halves entries seen calls rest k n same is =
    is
    ∙ ap (λ (cs : List Call). cs ++ rest) (calls_from-split 1 k n seen)
    ∙ append_assoc (calls_in (take n seen) k) (calls_from (1 + n) k (drop n seen)) rest
    ∙ ap (λ (es : List Entry). calls_in es k ++ (calls_from (1 + n) k (drop n seen) ++ rest)) (sym same)

pub agrees_below : (entries seen : List Entry) (seat : SeatValue) (rest : List Call) (n : ℕ) → take n entries ≡ take n seen
    → seat.calls ≡ calls_in seen seat.number ++ rest → All (Above n) rest → AgreesUpTo entries n seat
agrees_below entries seen seat rest n same is above = record {
  later = calls_from (1 + n) seat.number (drop n seen) ++ rest;
  agreed = halves entries seen seat.calls rest seat.number n same is;
  greater = All-append (Above n) (calls_from (1 + n) seat.number (drop n seen)) rest (later_above seat.number n (drop n seen)) above;
}

rest_above : (entries seen : List Entry) (seat : SeatValue) (rest : List Call) (n : ℕ) → take n entries ≡ take n seen
    → seat.calls ≡ calls_in seen seat.number ++ rest → AgreesUpTo entries n seat → All (Above n) rest
rest_above entries seen seat rest n same is a =
    let more = calls_from (1 + n) seat.number (drop n seen) ++ rest in
    let later : more ≡ a.later = append_cancel_left (calls_in (take n entries) seat.number) more a.later (sym (halves entries seen seat.calls rest seat.number n same is) ∙ a.agreed) in
    All-right (Above n) (calls_from (1 + n) seat.number (drop n seen)) rest (All-same (Above n) more a.later later a.greater)

all_above : (n m : ℕ) (rest : List Call) → n < m → All (λ (c : Call). m ≤ c.number) rest → All (Above n) rest
all_above n m rest lt h = All-weaker (λ (c : Call). m ≤ c.number) (Above n) (λ (c : Call) (le : m ≤ c.number). omega arith) rest h

-- a seat that has its calls agrees up to every number
pub whole_agrees : (entries : List Entry) (seat : SeatValue) → HasItsCalls entries seat → (n : ℕ) → AgreesUpTo entries n seat
whole_agrees entries seat h n =
    agrees_below entries entries seat [] n refl (h ∙ sym (append-nil _)) (λ k d lt. absurd (omega arith))

-- where calls are left when the entries end, or where an entry isn't the next call
pub ended_early : (entries : List Entry) (seat : SeatValue) (rest : List Call) (number m : ℕ) → seat.calls ≡ calls_in entries seat.number ++ rest
    → (All (Above number) rest → ⊥) → IsLeastOf number rest m → FailsFirstAt (λ n. AgreesUpTo entries n seat) m
ended_early entries seat rest number m is left least = record {
  below = λ n lt. agrees_below entries entries seat rest n refl is (all_above n m rest lt least.each);
  here = λ a.
      let above : All (Above m) rest = rest_above entries entries seat rest m refl is a in
      left (subst (λ (x : ℕ). All (Above x) rest) (least.there above) above);
}

next_call : (entries : List Entry) (seat : SeatValue) (i : ℕ) (e : Entry) (rest : List Call) → i < length entries → e ≡ get_or entries i e → (e.seat == seat.number) ≡ true
    → seat.calls ≡ calls_in (take i entries) seat.number ++ rest → (a : AgreesUpTo entries (i + 1) seat) → rest ≡ call_of (i + 1) e.edit e.reply ∷ a.later
next_call entries seat i e rest lt at own is a =
    let seen = take i entries in
    let k = seat.number in
    let call = call_of (i + 1) e.edit e.reply in
    let long : 1 + length seen ≡ i + 1 = omega (arith, length-take-le i entries (omega arith)) in
    let taken : take (i + 1) entries ≡ seen ++ e ∷ [] = take_more entries i e lt ∙ ap (λ (x : Entry). seen ++ x ∷ []) (sym at) in
    let calls : calls_in (take (i + 1) entries) k ≡ calls_in seen k ++ call ∷ [] =
    ap (λ (es : List Entry). calls_in es k) taken
    ∙ calls_from-append 1 k seen (e ∷ [])
    ∙ ap (λ (f : ℕ). calls_in seen k ++ calls_from f k (e ∷ [])) long
    ∙ ap (λ (cs : List Call). calls_in seen k ++ cs) (calls_from-own (i + 1) k e own) in
    append_cancel_left (calls_in seen k) rest (call ∷ a.later)
    (sym is ∙ a.agreed ∙ ap (λ (cs : List Call). cs ++ a.later) calls ∙ append_assoc (calls_in seen k) (call ∷ []) a.later)

at_or_below : (m n : ℕ) → m ≤ n + 1 → (m ≤ n) ⊎ (m ≡ n + 1)
at_or_below m n le = grind arith

pub differs : (entries : List Entry) (seat : SeatValue) (i : ℕ) (e : Entry) (rest : List Call) (m : ℕ) → i < length entries → e ≡ get_or entries i e → (e.seat == seat.number) ≡ true
    → seat.calls ≡ calls_in (take i entries) seat.number ++ rest
    → ((later : List Call) → rest ≡ call_of (i + 1) e.edit e.reply ∷ later → ⊥)
    → IsLeastOf (i + 1) rest m → FailsFirstAt (λ n. AgreesUpTo entries n seat) m
differs entries seat i e rest m lt at own is other least =
    let up = least.up_to in
    record {
      below = λ n less. agrees_below entries (take i entries) seat rest n (sym (take-take n i entries (omega arith))) is (all_above n m rest less least.each);
      here = λ a. by a (at_or_below m i up);
    }
  where
    by : AgreesUpTo entries m seat → (m ≤ i) ⊎ (m ≡ i + 1) → ⊥
    by a (inl le) =
        let above : All (Above m) rest = rest_above entries (take i entries) seat rest m (sym (take-take m i entries le)) is a in
        let same : m ≡ i + 1 = least.there above in
        absurd (omega arith)
    by a (inr same) = let b : AgreesUpTo entries (i + 1) seat = subst (λ (n : ℕ). AgreesUpTo entries n seat) same a in other b.later (next_call entries seat i e rest lt at own is b)

-- one entry more, of this seat or of another
pub calls_in-next : (entries : List Entry) (k i : ℕ) (e : Entry) → i < length entries → e ≡ get_or entries i e
    → calls_in (take (i + 1) entries) k ≡ calls_in (take i entries) k ++ calls_from (i + 1) k (e ∷ [])
calls_in-next entries k i e lt at =
    let seen = take i entries in
    let long : 1 + length seen ≡ i + 1 = omega (arith, length-take-le i entries (omega arith)) in
    let taken : take (i + 1) entries ≡ seen ++ e ∷ [] = take_more entries i e lt ∙ ap (λ (x : Entry). seen ++ x ∷ []) (sym at) in
    ap (λ (es : List Entry). calls_in es k) taken
    ∙ calls_from-append 1 k seen (e ∷ [])
    ∙ ap (λ (f : ℕ). calls_in seen k ++ calls_from f k (e ∷ [])) long

-- an entry of the seat is the next call
pub goes_on : (entries : List Entry) (calls rest later : List Call) (k i : ℕ) (e : Entry) → i < length entries → e ≡ get_or entries i e → (e.seat == k) ≡ true
    → calls ≡ calls_in (take i entries) k ++ rest → rest ≡ call_of (i + 1) e.edit e.reply ∷ later → calls ≡ calls_in (take (i + 1) entries) k ++ later
goes_on entries calls rest later k i e lt at own is next =
    let call = call_of (i + 1) e.edit e.reply in
    let seen = calls_in (take i entries) k in
    let more : calls_in (take (i + 1) entries) k ≡ seen ++ call ∷ [] =
    calls_in-next entries k i e lt at ∙ ap (λ (cs : List Call). seen ++ cs) (calls_from-own (i + 1) k e own) in
    is
    ∙ ap (λ (cs : List Call). seen ++ cs) next
    ∙ sym (append_assoc seen (call ∷ []) later)
    ∙ ap (λ (cs : List Call). cs ++ later) (sym more)

-- an entry of another seat is none of its calls
pub passes_by : (entries : List Entry) (calls rest : List Call) (k i : ℕ) (e : Entry) → i < length entries → e ≡ get_or entries i e → (e.seat == k) ≡ false
    → calls ≡ calls_in (take i entries) k ++ rest → calls ≡ calls_in (take (i + 1) entries) k ++ rest
passes_by entries calls rest k i e lt at other is =
    let seen = calls_in (take i entries) k in
    let same : calls_in (take (i + 1) entries) k ≡ seen =
    calls_in-next entries k i e lt at ∙ ap (λ (cs : List Call). seen ++ cs) (calls_from-other (i + 1) k e other) ∙ append-nil seen in
    is ∙ ap (λ (cs : List Call). cs ++ rest) (sym same)

-- the first of some calls has no greater number than its own
pub head_not_above : (rest : List Call) (c : Call) → c ≡ get_or rest 0 c → 1 ≤ length rest → All (Above c.number) rest → ⊥
head_not_above rest c at some above =
    let more : c.number < (get_or rest 0 c).number = above 0 c (omega arith) in
    let self : c.number < c.number = subst (λ (d : Call). c.number < d.number) (sym at) more in
    absurd (omega arith)

no_calls : (rest : List Call) → length rest < 1 → rest ≡ []
no_calls [] lt = refl
no_calls (c ∷ rest) lt = absurd (omega arith)

-- where all entries were seen and no call is left, a seat has its calls
pub whole_seat : (entries : List Entry) (seat : SeatValue) (rest : List Call) (i : ℕ) → length entries ≤ i → length rest < 1
    → seat.calls ≡ calls_in (take i entries) seat.number ++ rest → HasItsCalls entries seat
whole_seat entries seat rest i end none is =
    is
    ∙ ap (λ (cs : List Call). calls_in (take i entries) seat.number ++ cs) (no_calls rest none)
    ∙ append-nil (calls_in (take i entries) seat.number)
    ∙ ap (λ (es : List Entry). calls_in es seat.number) (take_all i entries end)
