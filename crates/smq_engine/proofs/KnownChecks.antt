-- A history that is made of known rows, and seats that haven't made them.
use Rattle.std.proofs.Common.{◌≡◌, ◌+◌, ℕ, zero, suc, true, List, [], ◌∷◌, ◌++◌, Option, Some, None, refl, ap, subst, sym, ◌∙◌, drop, flat_map, option_to_list, add-zero, arith}
use Rattle.std.specs.Prelude.{⊤, slice_get}
use Rattle.std.specs.List.{AllZip}
use Rattle.std.proofs.lemmas.List.Elements.{All-from_recursion}
use Rattle.std.proofs.lemmas.Option.{same_Some}
use Rattle.smq_kit.specs.declared.refusal.Refusal.TheVariants.{EmptyPiece}
use Rattle.smq_desk.specs.declared.entry.Call.{Call}
use Rattle.smq_desk.specs.declared.entry.Reply.TheVariants.{Done}
use Rattle.smq_desk.specs.Jobs.{IsFate, Made, Puts}
use Rattle.smq_desk.specs.Seats.{SeatValue, AreCallsOf, HasItsCalls, HasOneSeat, call_of, calls_in, holders}
use Rattle.smq_load.specs.declared.record.Row.{Row}
use Rattle.smq_engine.specs.IsCheck.{Compares}
use Rattle.smq_engine.specs.Known.{checked_history, checked_rows, checked_seats, checked_settings, clock_entries, clock_rows, first_calls, no_octets, one, put_after, seat_of, some_rows, three, turned_seats, two}
use Rattle.smq_engine.specs.Workers.{HasMade, HaveMadeRows, edits_of_calls, pieces_of_worker, plain_edits}

pub calls : AreCallsOf checked_seats checked_history
unfolding holders
calls = record {
  each_seat = All-from_recursion (HasItsCalls checked_history) checked_seats
      (refl, (refl, (refl, (refl, (refl, (refl, (refl, (refl, (refl, tt)))))))));
  each_entry = All-from_recursion (HasOneSeat checked_seats) checked_history (refl, (refl, (refl, (refl, (refl, tt)))));
}

-- each of these seats, the first of which is that of this worker
abbrev EachMade : ℕ → List Row → List SeatValue → Type 0
EachMade worker rows [] = ⊤
EachMade worker rows (seat ∷ seats) = HasMade (pieces_of_worker worker rows) seat × EachMade (suc worker) rows seats

in_turn : (worker : ℕ) (rows : List Row) (seats : List SeatValue) → EachMade worker rows seats → (k : ℕ) (seat : SeatValue)
    → slice_get seats k ≡ Some seat → HasMade (pieces_of_worker (worker + k) rows) seat
in_turn worker rows [] each k seat e = absurd cc
in_turn worker rows (s ∷ seats) each zero seat e =
    rw (add-zero worker) (subst (HasMade (pieces_of_worker worker rows)) (same_Some s seat e) each.0)
in_turn worker rows (s ∷ seats) each (suc k) seat e =
    let same : suc worker + k ≡ worker + suc k = omega arith in
    subst (λ n. HasMade (pieces_of_worker n rows) seat) same (in_turn (suc worker) rows seats each.1 k seat e)

by_worker : (rows : List Row) (seats : List SeatValue) → EachMade 0 rows seats → (worker : ℕ) (seat : SeatValue)
    → slice_get seats worker ≡ Some seat → HasMade (pieces_of_worker worker rows) seat
by_worker rows seats each worker seat e =
    let same : 0 + worker ≡ worker = omega arith in
    subst (λ n. HasMade (pieces_of_worker n rows) seat) same (in_turn 0 rows seats each worker seat e)

nothing : Made [] [] [] 0
nothing = record { fates = []; each = tt; calls = refl; count = refl }

calls_of_2 : Made (one ∷ three ∷ []) [] (call_of 2 (put_after 0 one) Done ∷ call_of 4 (put_after 0 three) Done ∷ []) 0
calls_of_2 = record {
  fates = Some (call_of 2 (put_after 0 one) Done) ∷ Some (call_of 4 (put_after 0 three) Done) ∷ [];
  each = ((refl, refl, refl, refl, refl), ((refl, refl, refl, refl, refl), tt));
  calls = refl;
  count = refl;
}

calls_of_3 : Made (no_octets ∷ two ∷ []) [] (call_of 5 (put_after 0 two) Done ∷ []) 1
calls_of_3 = record {
  fates = None ∷ Some (call_of 5 (put_after 0 two) Done) ∷ [];
  each = ((record { offset = 0; rest = []; broken = None }, EmptyPiece, refl), ((refl, refl, refl, refl, refl), tt));
  calls = refl;
  count = refl;
}

abbrev worker_seats : List SeatValue
worker_seats = drop 1 checked_seats

pub made : HaveMadeRows (checked_settings ++ checked_rows) checked_seats
made = record {
  first = record { number = 1; calls = first_calls };
  workers = worker_seats;
  all = refl;
  number = refl;
  plain = refl;
  pieces = by_worker (checked_settings ++ checked_rows) worker_seats
      ((0, nothing), ((0, nothing), ((0, calls_of_2), ((1, calls_of_3), ((0, nothing), ((0, nothing), ((0, nothing), ((0, nothing), tt))))))));
}

-- ---- what the seats haven't made

head_of : (s : SeatValue) (seats : List SeatValue) (first : SeatValue) (workers : List SeatValue) → s ∷ seats ≡ first ∷ workers
    → (s ≡ first) × (seats ≡ workers)
head_of s seats first workers e = (cc, cc)

-- the first seat's calls are of both clocks
pub not_of_the_script : HaveMadeRows checked_rows checked_seats → ⊥
not_of_the_script h =
    let first = head_of (seat_of 1 first_calls) worker_seats h.first h.workers h.all in
    let edits : edits_of_calls first_calls ≡ plain_edits checked_rows = ap (λ (s : SeatValue). edits_of_calls s.calls) first.0 ∙ h.plain in
    absurd cc

abbrev turned_calls : List Call
turned_calls = call_of 2 (put_after 0 three) Done ∷ call_of 4 (put_after 0 one) Done ∷ []

-- two calls are of both pieces, and the first isn't of the first
not_in_turn : (fates : List (Option Call)) → AllZip IsFate (one ∷ three ∷ []) fates → turned_calls ≡ [] ++ flat_map option_to_list fates → ⊥
not_in_turn [] each e = elim each [ ]
not_in_turn (f ∷ []) each e = elim each.1 [ ]
not_in_turn (None ∷ None ∷ []) each e = absurd cc
not_in_turn (None ∷ Some b ∷ []) each e = absurd cc
not_in_turn (Some a ∷ None ∷ []) each e = absurd cc
not_in_turn (Some a ∷ Some b ∷ []) each e =
    let first : a ≡ call_of 2 (put_after 0 three) Done = cc in
    let puts : Puts one (put_after 0 three) = subst (λ (call : Call). Puts one call.edit) first each.0 in
    let octets : ◌≡◌ {A = List ℕ} (9 ∷ []) (7 ∷ []) = puts.4 in
    absurd cc
not_in_turn (f ∷ g ∷ x ∷ fates) each e = elim each.1.1 [ ]

pub not_turned : HaveMadeRows (checked_settings ++ checked_rows) turned_seats → ⊥
not_turned h =
    let workers = head_of (seat_of 1 first_calls) (drop 1 turned_seats) h.first h.workers h.all in
    let there : slice_get h.workers 2 ≡ Some (seat_of 4 turned_calls) =
    ap (λ (seats : List SeatValue). slice_get seats 2) (sym workers.1) in
    let made = h.pieces 2 (seat_of 4 turned_calls) there in
    not_in_turn made.1.fates made.1.each made.1.calls

-- ---- a check of clocks, and of a piece of no octets

abbrev idle_seats : List SeatValue
idle_seats =
    seat_of 2 [] ∷ seat_of 3 [] ∷ seat_of 4 [] ∷ seat_of 5 [] ∷ seat_of 6 [] ∷ seat_of 7 [] ∷ seat_of 8 [] ∷ seat_of 9 [] ∷ []

abbrev clock_seats : List SeatValue
clock_seats = seat_of 1 (calls_in clock_entries 1) ∷ idle_seats

not_prepared : Made (pieces_of_worker 2 some_rows) [] [] 1
not_prepared = record {
  fates = None ∷ [];
  each = ((record { offset = 0; rest = []; broken = None }, EmptyPiece, refl), tt);
  calls = refl;
  count = refl;
}

pub compares : Compares clock_rows some_rows (record { same = true; entries = 6; refused = 2 })
unfolding holders
compares = record {
  entries = clock_entries;
  legal = (refl, (refl, (refl, (refl, (refl, (refl, tt))))));
  made = record {
    seats = clock_seats;
    calls = record {
      each_seat = All-from_recursion (HasItsCalls clock_entries) clock_seats
          (refl, (refl, (refl, (refl, (refl, (refl, (refl, (refl, (refl, tt)))))))));
      each_entry = All-from_recursion (HasOneSeat clock_seats) clock_entries (refl, (refl, (refl, (refl, (refl, (refl, tt))))));
    };
    made = record {
      first = seat_of 1 (calls_in clock_entries 1);
      workers = idle_seats;
      all = refl;
      number = refl;
      plain = refl;
      pieces = by_worker (clock_rows ++ some_rows) idle_seats
          ((0, nothing), ((0, nothing), ((1, not_prepared), ((0, nothing), ((0, nothing), ((0, nothing), ((0, nothing), ((0, nothing), tt))))))));
    };
  };
  counted = refl;
  same = (λ h. refl, λ h. refl);
  refused = refl;
}
