-- What seats' calls say of the entries that they are.
use Rattle.std.proofs.Common.{◌≡◌, ◌==◌, ◌+◌, ◌<◌, ◌≤◌, ℕ, Bool, true, false, List, [], ◌∷◌, ◌++◌, filter, length, refl, ap, ◌∙◌, subst, arith, All, Contains, eq-eqb, append-nil}
use Rattle.std.specs.Prelude.{◌&&◌, nat_lt, nat_le}
use Rattle.std.specs.List.{AllZip}
use Rattle.std.proofs.lemmas.Bool.{both_ways, and_left, and_right, and_from, lt-ltb, le-ltb, le-leb, lt-leb}
use Rattle.std.proofs.lemmas.List.{length-append}
use Rattle.std.proofs.lemmas.List.Elements.{All-head, All-tail, All-map, All-contains, filter-append}
use Rattle.smq_present.specs.declared.present.batch.PieceRow.{PieceRow}
use Rattle.smq_desk.specs.declared.entry.Call.{Call}
use Rattle.smq_desk.specs.declared.entry.Entry.{Entry}
use Rattle.smq_desk.specs.Loads.{has_octets, IsEntryOf, IsCallOf, is_of_rows, AreLoadedBy, SeatLoad, calls_between, IsLoadedFrom, rows_of_loads, SeatsLoadAsOneThread}
use Rattle.smq_desk.specs.Seats.{SeatValue, call_of, calls_from, calls_in, HasItsCalls, AreCallsOf}
use Rattle.smq_desk.proofs.Loaded.{loads_are_as_of_one_thread}

-- ---- the calls of a seat that are among some entries

calls_from-append : (n seat : ℕ) (one two : List Entry)
    → calls_from n seat (one ++ two) ≡ calls_from n seat one ++ calls_from (n + length one) seat two
calls_from-append n seat [] two = ap (λ (m : ℕ). calls_from m seat two) (omega arith)
calls_from-append n seat (e ∷ one) two = by (e.seat == seat) refl (calls_from-append (n + 1) seat one two)
  where
    shifted : calls_from (n + 1 + length one) seat two ≡ calls_from (n + length (e ∷ one)) seat two
    shifted = ap (λ (m : ℕ). calls_from m seat two) (omega arith)

    by : (b : Bool) → (e.seat == seat) ≡ b
        → calls_from (n + 1) seat (one ++ two) ≡ calls_from (n + 1) seat one ++ calls_from (n + 1 + length one) seat two
        → calls_from n seat (e ∷ one ++ two) ≡ calls_from n seat (e ∷ one) ++ calls_from (n + length (e ∷ one)) seat two
    by true is ih = rw is (ap (λ (cs : List Call). call_of n e.edit e.reply ∷ cs)
        (ih ∙ ap (λ (cs : List Call). calls_from (n + 1) seat one ++ cs) shifted))
    by false is ih = rw is (ih ∙ ap (λ (cs : List Call). calls_from (n + 1) seat one ++ cs) shifted)

-- all numbers of entries pass a test, or none does
all_pass : (test : ℕ → Bool) (n seat : ℕ) (es : List Entry) → ((m : ℕ) → n ≤ m → m < n + length es → test m ≡ true)
    → filter (λ (c : Call). test c.number) (calls_from n seat es) ≡ calls_from n seat es
all_pass test n seat [] h = refl
all_pass test n seat (e ∷ es) h = by (e.seat == seat) refl
    (all_pass test (n + 1) seat es (λ m low high. h m (omega arith) (omega arith)))
  where
    by : (b : Bool) → (e.seat == seat) ≡ b → filter (λ (c : Call). test c.number) (calls_from (n + 1) seat es) ≡ calls_from (n + 1) seat es
        → filter (λ (c : Call). test c.number) (calls_from n seat (e ∷ es)) ≡ calls_from n seat (e ∷ es)
    by true is ih =
        let here : test n ≡ true = h n (omega arith) (omega arith) in
        rw (is, here) (ap (λ (cs : List Call). call_of n e.edit e.reply ∷ cs) ih)
    by false is ih = rw is ih

none_passes : (test : ℕ → Bool) (n seat : ℕ) (es : List Entry) → ((m : ℕ) → n ≤ m → m < n + length es → test m ≡ false)
    → filter (λ (c : Call). test c.number) (calls_from n seat es) ≡ []
none_passes test n seat [] h = refl
none_passes test n seat (e ∷ es) h = by (e.seat == seat) refl
    (none_passes test (n + 1) seat es (λ m low high. h m (omega arith) (omega arith)))
  where
    by : (b : Bool) → (e.seat == seat) ≡ b → filter (λ (c : Call). test c.number) (calls_from (n + 1) seat es) ≡ []
        → filter (λ (c : Call). test c.number) (calls_from n seat (e ∷ es)) ≡ []
    by true is ih = let here : test n ≡ false = h n (omega arith) (omega arith) in rw (is, here) ih
    by false is ih = rw is ih

abbrev is_between : ℕ → ℕ → ℕ → Bool
is_between first last m = nat_lt first m && nat_le m last

among : (before middle after : List Entry) (seat : ℕ)
    → calls_between (length before) (length before + length middle) (calls_in (before ++ middle ++ after) seat)
    ≡ calls_from (1 + length before) seat middle
among before middle after seat =
    let first = length before in
    let last = length before + length middle in
    let test = is_between first last in
    let keep = λ (cs : List Call). filter (λ (c : Call). test c.number) cs in
    let early : keep (calls_from 1 seat before) ≡ [] =
    none_passes test 1 seat before (λ m low high. and_left (nat_lt first m) (nat_le m last) (le-ltb first m (omega arith))) in
    let there : keep (calls_from (1 + first) seat middle) ≡ calls_from (1 + first) seat middle =
    all_pass test (1 + first) seat middle
    (λ m low high. and_from (nat_lt first m) (nat_le m last) (lt-ltb first m (omega arith)) (le-leb m last (omega arith))) in
    let late : keep (calls_from (1 + length (before ++ middle)) seat after) ≡ [] =
    none_passes test (1 + length (before ++ middle)) seat after
    (λ m low high. and_right (nat_lt first m) (nat_le m last) (lt-leb m last (omega (arith, length-append before middle)))) in
    ap keep (calls_from-append 1 seat (before ++ middle) after)
    ∙ filter-append (λ (c : Call). test c.number) (calls_from 1 seat (before ++ middle))
    (calls_from (1 + length (before ++ middle)) seat after)
    ∙ (λ i. keep (calls_from-append 1 seat before middle i) ++ late i)
    ∙ append-nil (keep (calls_from 1 seat before ++ calls_from (1 + first) seat middle))
    ∙ filter-append (λ (c : Call). test c.number) (calls_from 1 seat before) (calls_from (1 + first) seat middle)
    ∙ (λ i. early i ++ there i)

-- ---- the calls that are of rows, and the entries

as_entries : (mine : List PieceRow) (n seat : ℕ) (es : List Entry) (rows : List PieceRow)
    → AllZip IsCallOf rows (filter (λ c. is_of_rows mine c.edit) (calls_from n seat es))
    → All (λ (e : Entry). is_of_rows mine e.edit ≡ true → e.seat ≡ seat) es
    → AllZip IsEntryOf rows (filter (λ e. is_of_rows mine e.edit) es)
as_entries mine n seat [] [] z h = tt
as_entries mine n seat [] (row ∷ rows) z h = z
as_entries mine n seat (e ∷ es) rows z h =
    by (e.seat == seat) (is_of_rows mine e.edit) rows refl refl z
    (λ rest y. as_entries mine (n + 1) seat es rest y (All-tail (λ (x : Entry). is_of_rows mine x.edit ≡ true → x.seat ≡ seat) e es h))
  where
    by : (b t : Bool) (rs : List PieceRow) → (e.seat == seat) ≡ b → is_of_rows mine e.edit ≡ t
        → AllZip IsCallOf rs (filter (λ (c : Call). is_of_rows mine c.edit) (calls_from n seat (e ∷ es)))
        → ((rest : List PieceRow) → AllZip IsCallOf rest (filter (λ (c : Call). is_of_rows mine c.edit) (calls_from (n + 1) seat es))
        → AllZip IsEntryOf rest (filter (λ (x : Entry). is_of_rows mine x.edit) es))
        → AllZip IsEntryOf rs (filter (λ (x : Entry). is_of_rows mine x.edit) (e ∷ es))
    by true true [] is of y ih = absurd (rw (is, of) at y)
    by true true (row ∷ rest) is of y ih = let both = rw (is, of) at y in rw of (both.0, ih rest both.1)
    by true false rs is of y ih = rw of (ih rs (rw (is, of) at y))
    by false true rs is of y ih =
        let its = All-head (λ (x : Entry). is_of_rows mine x.edit ≡ true → x.seat ≡ seat) e es h of in
        absurd (both_ways (e.seat == seat) is (eq-eqb e.seat seat its))
    by false false rs is of y ih = rw of (ih rs (rw is at y))

loaded : (before middle after : List Entry) (load : SeatLoad) → HasItsCalls (before ++ middle ++ after) load.seat
    → IsLoadedFrom before middle load
    → AreLoadedBy middle load.rows
loaded before middle after load its from =
    let calls = ap (calls_between (length before) (length before + length middle)) its ∙ among before middle after load.seat.number in
    as_entries load.rows (1 + length before) load.seat.number middle (filter has_octets load.rows)
    (subst (λ (cs : List Call). AllZip IsCallOf (filter has_octets load.rows) (filter (λ c. is_of_rows load.rows c.edit) cs))
    calls from.calls)
    from.no_other

all_loaded : (before middle after : List Entry) (seats : List SeatValue) (loads : List SeatLoad)
    → AreCallsOf seats (before ++ middle ++ after)
    → All (λ (l : SeatLoad). Contains seats l.seat) loads → All (IsLoadedFrom before middle) loads
    → All (AreLoadedBy middle) (rows_of_loads loads)
all_loaded before middle after seats loads calls theirs from =
    All-map (AreLoadedBy middle) (λ (l : SeatLoad). l.rows) loads
    (λ k d l. loaded before middle after _
    (All-contains (HasItsCalls (before ++ middle ++ after)) seats _ calls.each_seat (theirs k d l)) (from k d l))

pub seats_load_as_one_thread : SeatsLoadAsOneThread
seats_load_as_one_thread before middle after seats loads legal calls theirs own from =
    loads_are_as_of_one_thread before middle after (rows_of_loads loads) legal own
    (all_loaded before middle after seats loads calls theirs from)
