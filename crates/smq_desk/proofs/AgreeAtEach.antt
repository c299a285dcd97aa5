-- Seats agree with a history up to a number exactly where they agree at each number up to it.
use Rattle.std.proofs.Common.{◌≡◌, ℕ, zero, suc, ◌+◌, ◌-◌, ◌==◌, ◌<◌, ◌≤◌, ◌⊎◌, inl, inr, Bool, true, false, List, [], ◌∷◌, ◌++◌, Some, refl, sym, ◌∙◌, ap, subst, take, drop, slice_get, arith, All, append-nil, append_assoc, if◌then◌else◌, add-zero, cond}
use Rattle.std.specs.Prelude.{◌≢◌, ◌↔◌, filter}
use Rattle.std.proofs.lemmas.Bool.{ne_eqb, eqb-false, eq-eqb}
use Rattle.std.proofs.lemmas.List.{append_cancel_left}
use Rattle.std.proofs.lemmas.List.Elements.{All-nil, All-cons, All-head, All-tail, All-append, All-weaker, filter-append}
use Rattle.smq_desk.specs.declared.entry.Entry.{Entry}
use Rattle.smq_desk.specs.declared.entry.Call.{Call}
use Rattle.smq_desk.specs.Seats.{SeatValue, call_of, calls_from, calls_in, HasOneSeat}
use Rattle.smq_desk.specs.Closing.{AgreesUpTo, AgreeUpTo, AgreesAt, AgreeAt, NoneAfterGreater, FailsFirstAt}
use Rattle.smq_desk.proofs.CallsIn.{calls_from-split, calls_from-numbers}

abbrev Above : ℕ → Call → Type 0
Above m c = m < c.number

abbrev IsOther : ℕ → Call → Type 0
IsOther m c = c.number ≢ m

abbrev with_number : ℕ → List Call → List Call
with_number m cs = filter (λ c. c.number == m) cs

others_from_above : (m : ℕ) (cs : List Call) → All (Above m) cs → All (IsOther m) cs
others_from_above m cs h = All-weaker (Above m) (IsOther m) (λ (c : Call) (lt : m < c.number). λ e. omega (arith, lt, e)) cs h

-- ---- the calls with a number

none_with : (m : ℕ) (cs : List Call) → All (IsOther m) cs → with_number m cs ≡ []
none_with m [] h = refl
none_with m (c ∷ cs) h =
    let other : (c.number == m) ≡ false = ne_eqb c.number m (All-head (IsOther m) c cs h) in
    rw other (none_with m cs (All-tail (IsOther m) c cs h))

others_where_none : (m : ℕ) (cs : List Call) → with_number m cs ≡ [] → All (IsOther m) cs
others_where_none m [] e = All-nil (IsOther m)
others_where_none m (c ∷ cs) e = by (c.number == m) refl (others_where_none m cs)
  where
    by : (b : Bool) → (c.number == m) ≡ b → (with_number m cs ≡ [] → All (IsOther m) cs) → All (IsOther m) (c ∷ cs)
    by true is later =
        let some : c ∷ with_number m cs ≡ [] = sym (ap (λ (b : Bool). cond b (c ∷ with_number m cs) (with_number m cs)) is) ∙ e in
        absurd cc
    by false is later =
        let rest : with_number m cs ≡ [] = sym (ap (λ (b : Bool). cond b (c ∷ with_number m cs) (with_number m cs)) is) ∙ e in
        All-cons (IsOther m) c cs (eqb-false c.number m is) (later rest)

-- ---- no call of a number after one of a greater number

none_after-above : (m : ℕ) (cs : List Call) → All (Above m) cs → NoneAfterGreater m cs
none_after-above m [] h = tt
none_after-above m (c ∷ cs) h =
    let later = All-tail (Above m) c cs h in
    (λ _. others_from_above m cs later, none_after-above m cs later)

none_after-append : (m : ℕ) (xs ys : List Call) → NoneAfterGreater m xs → All (Above m) ys → NoneAfterGreater m (xs ++ ys)
none_after-append m [] ys h above = none_after-above m ys above
none_after-append m (x ∷ xs) ys h above =
    (λ lt. All-append (IsOther m) xs ys (h.0 lt) (others_from_above m ys above), none_after-append m xs ys h.1 above)

none_after-rest : (m : ℕ) (xs ys : List Call) → NoneAfterGreater m (xs ++ ys) → NoneAfterGreater m ys
none_after-rest m [] ys h = h
none_after-rest m (x ∷ xs) ys h = none_after-rest m xs ys h.1

-- entries stand in the order of their numbers
none_after-entries : (m f k : ℕ) (es : List Entry) → NoneAfterGreater m (calls_from f k es)
none_after-entries m f k [] = tt
none_after-entries m f k (e ∷ es) =
    let later = none_after-entries m (f + 1) k es in
    let others : m < f → All (IsOther m) (calls_from (f + 1) k es) =
    λ lt. All-weaker (λ (c : Call). f + 1 ≤ c.number) (IsOther m) (λ (c : Call) (le : f + 1 ≤ c.number). λ e. omega (arith, le, e, lt))
    (calls_from (f + 1) k es) (calls_from-numbers (f + 1) k es) in
    elim (e.seat == k) as
    (λ b. NoneAfterGreater m (if b then call_of f e.edit e.reply ∷ calls_from (f + 1) k es else calls_from (f + 1) k es))
    [ true ↦ (others, later) | false ↦ later ]

-- ---- one seat

entries_above : (k n : ℕ) (es : List Entry) → All (Above n) (calls_from (1 + n) k es)
entries_above k n es =
    All-weaker (λ (c : Call). 1 + n ≤ c.number) (Above n) (λ (c : Call) (h : 1 + n ≤ c.number). omega arith) (calls_from (1 + n) k es)
    (calls_from-numbers (1 + n) k es)

above_lower : (m n : ℕ) (cs : List Call) → m ≤ n → All (Above n) cs → All (Above m) cs
above_lower m n cs le h = All-weaker (Above n) (Above m) (λ (c : Call) (lt : n < c.number). omega (arith, le, lt)) cs h

-- of a front and calls above a number, those with it are the front's
front_with : (m : ℕ) (front later : List Call) → All (Above m) later → with_number m (front ++ later) ≡ with_number m front
front_with m front later h =
    filter-append (λ (c : Call). c.number == m) front later
    ∙ ap (λ (cs : List Call). with_number m front ++ cs) (none_with m later (others_from_above m later h))
    ∙ append-nil (with_number m front)

agrees_at : (entries : List Entry) (seat : SeatValue) (n m : ℕ) → AgreesUpTo entries n seat → m ≤ n → AgreesAt entries m seat
agrees_at entries seat n m a le =
    let k = seat.number in
    let front = calls_in (take n entries) k in
    let rest = calls_from (1 + n) k (drop n entries) in
    let greater = above_lower m n a.later le a.greater in
    let ours : with_number m seat.calls ≡ with_number m front = ap (with_number m) a.agreed ∙ front_with m front a.later greater in
    let theirs : with_number m (calls_in entries k) ≡ with_number m front =
    ap (with_number m) (calls_from-split 1 k n entries) ∙ front_with m front rest (above_lower m n rest le (entries_above k n (drop n entries))) in
    record {
      calls = ours ∙ sym theirs;
      in_order = subst (NoneAfterGreater m) (sym a.agreed)
          (none_after-append m front a.later (none_after-entries m 1 k (take n entries)) greater);
    }

above_others : (m : ℕ) (xs : List Call) → All (λ x. m ≤ x.number) xs → All (IsOther m) xs → All (Above m) xs
above_others m [] h o = All-nil (Above m)
above_others m (x ∷ xs) h o =
    let le : m ≤ x.number = All-head (λ x. m ≤ x.number) x xs h in
    let ne : x.number ≢ m = All-head (IsOther m) x xs o in
    All-cons (Above m) x xs (omega (arith, le, ne))
    (above_others m xs (All-tail (λ x. m ≤ x.number) x xs h) (All-tail (IsOther m) x xs o))

-- calls of which none stands after a greater one: first those with the least number, then greater ones
record Parted (m : ℕ) (cs : List Call) : Type 0 where
  rest : List Call
  is : cs ≡ with_number m cs ++ rest
  greater : All (Above m) rest

parted : (m : ℕ) (cs : List Call) → All (λ c. m ≤ c.number) cs → NoneAfterGreater m cs → Parted m cs
parted m [] least order = record { rest = []; is = refl; greater = All-nil (Above m) }
parted m (c ∷ cs) least order = by (c.number == m) refl (parted m cs (All-tail (λ c. m ≤ c.number) c cs least) order.1)
  where
    by : (b : Bool) → (c.number == m) ≡ b → Parted m cs → Parted m (c ∷ cs)
    by true is p =
        let first : with_number m (c ∷ cs) ≡ c ∷ with_number m cs = rw is refl in
        record {
          rest = p.rest;
          is = ap (λ (xs : List Call). c ∷ xs) p.is ∙ ap (λ (xs : List Call). xs ++ p.rest) (sym first);
          greater = p.greater;
        }
    by false is p =
        let other : c.number ≢ m = eqb-false c.number m is in
        let here : m ≤ c.number = All-head (λ c. m ≤ c.number) c cs least in
        let lt : m < c.number = omega (arith, here, other) in
        let others = order.0 lt in
        let none : with_number m (c ∷ cs) ≡ [] = none_with m (c ∷ cs) (All-cons (IsOther m) c cs other others) in
        record {
          rest = c ∷ cs;
          is = ap (λ (xs : List Call). xs ++ (c ∷ cs)) (sym none);
          greater = All-cons (Above m) c cs lt (above_others m cs (All-tail (λ c. m ≤ c.number) c cs least) others);
        }

-- the calls of one entry more
one_more : (f k n : ℕ) (es : List Entry)
    → calls_from f k (take (suc n) es) ≡ calls_from f k (take n es) ++ calls_from (f + n) k (take 1 (drop n es))
one_more f k zero es = rw add-zero refl
one_more f k (suc n) [] = refl
one_more f k (suc n) (e ∷ es) =
    let at : f + suc n ≡ (f + 1) + n = omega arith in
    let ih = one_more (f + 1) k n es in
    rw at (elim (e.seat == k) as
    (λ b. (if b then call_of f e.edit e.reply ∷ calls_from (f + 1) k (take (suc n) es) else calls_from (f + 1) k (take (suc n) es))
    ≡ (if b then call_of f e.edit e.reply ∷ calls_from (f + 1) k (take n es) else calls_from (f + 1) k (take n es))
    ++ calls_from ((f + 1) + n) k (take 1 (drop n es)))
    [ true ↦ ap (λ (cs : List Call). call_of f e.edit e.reply ∷ cs) ih | false ↦ ih ])

-- of the calls of entries from a number on, those with it are those of the first entry
first_with_number : (f k : ℕ) (es : List Entry) → with_number f (calls_from f k es) ≡ calls_from f k (take 1 es)
first_with_number f k [] = refl
first_with_number f k (e ∷ es) =
    let rest = calls_from (f + 1) k es in
    let above : All (Above f) rest =
    All-weaker (λ (c : Call). f + 1 ≤ c.number) (Above f) (λ (c : Call) (h : f + 1 ≤ c.number). omega arith) rest (calls_from-numbers (f + 1) k es) in
    let none : with_number f rest ≡ [] = none_with f rest (others_from_above f rest above) in
    let own : (f == f) ≡ true = eq-eqb f f refl in
    elim (e.seat == k) as
    (λ b. with_number f (if b then call_of f e.edit e.reply ∷ rest else rest) ≡ (if b then call_of f e.edit e.reply ∷ [] else []))
    [ true ↦ rw own (ap (λ (cs : List Call). call_of f e.edit e.reply ∷ cs) none) | false ↦ none ]

agrees_up_to : (entries : List Entry) (seat : SeatValue) (n : ℕ) → ((m : ℕ) → m ≤ n → AgreesAt entries m seat) → AgreesUpTo entries n seat
agrees_up_to entries seat zero h =
    let k = seat.number in
    let all : with_number 0 (calls_in entries k) ≡ [] = none_with 0 (calls_in entries k) (others_from_above 0 (calls_in entries k) (entries_above k 0 entries)) in
    let others = others_where_none 0 seat.calls ((h 0 (omega arith)).calls ∙ all) in
    record {
      later = seat.calls;
      agreed = refl;
      greater = All-weaker (IsOther 0) (Above 0) (λ (c : Call) (o : c.number ≢ 0). omega (arith, o)) seat.calls others;
    }
agrees_up_to entries seat (suc n) h =
    let k = seat.number in
    let a = agrees_up_to entries seat n (λ m le. h m (omega (arith, le))) in
    let b = h (suc n) (omega arith) in
    let front = calls_in (take n entries) k in
    let rest = calls_from (1 + n) k (drop n entries) in
    let m = suc n in
    let cut : with_number m front ++ with_number m a.later ≡ with_number m front ++ with_number m rest =
    sym (filter-append (λ (c : Call). c.number == m) front a.later)
    ∙ sym (ap (with_number m) a.agreed)
    ∙ b.calls
    ∙ ap (with_number m) (calls_from-split 1 k n entries)
    ∙ filter-append (λ (c : Call). c.number == m) front rest in
    let same : with_number m a.later ≡ with_number m rest = append_cancel_left (with_number m front) (with_number m a.later) (with_number m rest) cut in
    let next = calls_from (1 + n) k (take 1 (drop n entries)) in
    let at : 1 + n ≡ m = omega arith in
    let one : with_number m rest ≡ next = subst (λ (x : ℕ). with_number x rest ≡ next) at (first_with_number (1 + n) k (drop n entries)) in
    let least : All (λ c. m ≤ c.number) a.later =
    All-weaker (Above n) (λ c. m ≤ c.number) (λ (c : Call) (lt : n < c.number). omega (arith, lt)) a.later a.greater in
    let p = parted m a.later least (none_after-rest m front a.later (subst (NoneAfterGreater m) a.agreed b.in_order)) in
    let more : calls_in (take (suc n) entries) k ≡ front ++ next = one_more 1 k n entries in
    record {
      later = p.rest;
      agreed = a.agreed
          ∙ ap (λ (cs : List Call). front ++ cs) (p.is ∙ ap (λ (cs : List Call). cs ++ p.rest) (same ∙ one))
          ∙ sym (append_assoc front next p.rest)
          ∙ ap (λ (cs : List Call). cs ++ p.rest) (sym more);
      greater = p.greater;
    }

-- ---- all seats, and all entries

taken_at : (P : Entry → Type 0) (xs : List Entry) (n i : ℕ) (x : Entry) → i < n → slice_get xs i ≡ Some x → All P (take n xs) → P x
taken_at P [] n i x lt e h = absurd cc
taken_at P (y ∷ ys) zero i x lt e h = absurd (omega (arith, lt))
taken_at P (y ∷ ys) (suc n) zero x lt e h = let same : y ≡ x = cc in subst P same (All-head P y (take n ys) h)
taken_at P (y ∷ ys) (suc n) (suc i) x lt e h = taken_at P ys n i x (omega (arith, lt)) e (All-tail P y (take n ys) h)

taken_all : (P : Entry → Type 0) (xs : List Entry) (n : ℕ) → ((i : ℕ) (x : Entry) → i < n → slice_get xs i ≡ Some x → P x) → All P (take n xs)
taken_all P xs zero h = All-nil P
taken_all P [] (suc n) h = All-nil P
taken_all P (x ∷ xs) (suc n) h =
    All-cons P x (take n xs) (h 0 x (omega arith) refl) (taken_all P xs n (λ i y lt e. h (suc i) y (omega (arith, lt)) e))

agree_at : (seats : List SeatValue) (entries : List Entry) (n m : ℕ) → AgreeUpTo seats entries n → m ≤ n → AgreeAt seats entries m
agree_at seats entries n m a le = record {
  each_seat = All-weaker (AgreesUpTo entries n) (AgreesAt entries m) (λ s up. agrees_at entries s n m up le) seats a.each_seat;
  entry = λ e some is. taken_at (HasOneSeat seats) entries n (m - 1) e (omega (arith, le, some)) is a.each_entry;
}

all_at : (P : ℕ → SeatValue → Type 0) (n : ℕ) (seats : List SeatValue) → ((m : ℕ) → m ≤ n → All (P m) seats) → All (λ s. (m : ℕ) → m ≤ n → P m s) seats
all_at P n seats h = λ i d lt. λ m le. h m le i d lt

before : (i : ℕ) → i ≡ suc i - 1
before i = omega arith

agree_up_to : (seats : List SeatValue) (entries : List Entry) (n : ℕ) → ((m : ℕ) → m ≤ n → AgreeAt seats entries m) → AgreeUpTo seats entries n
agree_up_to seats entries n h = record {
  each_seat = All-weaker (λ s. (m : ℕ) → m ≤ n → AgreesAt entries m s) (AgreesUpTo entries n) (λ s each. agrees_up_to entries s n each) seats
      (all_at (λ m. AgreesAt entries m) n seats (λ m le. (h m le).each_seat));
  each_entry = taken_all (HasOneSeat seats) entries n (λ i e lt is. (h (suc i) (omega (arith, lt))).entry e (omega arith)
      (subst (λ (j : ℕ). slice_get entries j ≡ Some e) (before i) is));
}

pub agree_each : (seats : List SeatValue) (entries : List Entry) (n : ℕ) → AgreeUpTo seats entries n ↔ ((m : ℕ) → m ≤ n → AgreeAt seats entries m)
agree_each seats entries n = (λ a m le. agree_at seats entries n m a le, agree_up_to seats entries n)

at_or_below : (m n : ℕ) → m ≤ n → (m < n) ⊎ (m ≡ n)
at_or_below m n le = grind arith

pub torn_least : (seats : List SeatValue) (entries : List Entry) (n : ℕ)
    → FailsFirstAt (AgreeUpTo seats entries) n ↔ (((m : ℕ) → m < n → AgreeAt seats entries m) × (AgreeAt seats entries n → ⊥))
torn_least seats entries n = (
  λ first. (λ m lt. agree_at seats entries m m (first.below m lt) (omega arith), λ a. first.here (up (λ m lt. agree_at seats entries m m (first.below m lt) (omega arith)) a)),
  λ both. record {
    below = λ m lt. agree_up_to seats entries m (λ i le. both.0 i (omega (arith, lt, le)));
    here = λ a. both.1 (agree_at seats entries n n a (omega arith));
  },
)
  where
    by : ((m : ℕ) → m < n → AgreeAt seats entries m) → AgreeAt seats entries n → (m : ℕ) → (m < n) ⊎ (m ≡ n) → AgreeAt seats entries m
    by below a m (inl lt) = below m lt
    by below a m (inr e) = subst (AgreeAt seats entries) (sym e) a

    up : ((m : ℕ) → m < n → AgreeAt seats entries m) → AgreeAt seats entries n → AgreeUpTo seats entries n
    up below a = agree_up_to seats entries n (λ m le. by below a m (at_or_below m n le))
