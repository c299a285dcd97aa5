-- The pieces of one session are made by one worker, so that its calls have what became of them, in order.
use Rattle.std.proofs.Common.{◌≡◌, ◌≢◌, ◌<◌, ◌+◌, ◌%◌, ◌==◌, ℕ, zero, suc, Bool, true, false, cond, List, [], ◌∷◌, ◌++◌, Option, Some, None, All, refl, sym, ap, ◌∙◌, subst, length, get_or, filter, flat_map, option_to_list, count_by, arith, eq-eqb}
use Rattle.std.specs.Prelude.{slice_get}
use Rattle.std.specs.List.{AllZip, AllByRecursion as Each}
use Rattle.std.proofs.lemmas.Bool.{eqb-true}
use Rattle.std.proofs.lemmas.List.Elements.{All-from_recursion, All-tail, filter-append, recursion_from_All}
use Rattle.std.proofs.lemmas.List.Sums.{sum_by-cons}
use Rattle.std.proofs.lemmas.Option.{same_Some}
use Rattle.smq_kit.specs.declared.names.SessionId.{SessionId}
use Rattle.smq_present.specs.declared.present.edit.Edit.{Edit}
use Rattle.smq_present.specs.declared.present.edit.Edit.TheVariants.{Append}
use Rattle.smq_present.specs.declared.present.batch.PieceRow.{PieceRow}
use Rattle.smq_present.specs.present.Steps.{is_append_to}
use Rattle.smq_desk.specs.declared.entry.Call.{Call}
use Rattle.smq_desk.specs.declared.entry.Entry.{Entry}
use Rattle.smq_desk.specs.Jobs.{IsFate, Puts}
use Rattle.smq_desk.specs.Seats.{SeatValue, AreCallsOf, HasItsCalls, HasOneSeat, call_of, calls_from, holders}
use Rattle.smq_load.specs.declared.record.Row.{Row}
use Rattle.smq_load.specs.declared.record.Row.TheVariants.{Piece, Plain}
use Rattle.smq_engine.specs.Sessions.{IsLoadedInOrder, edits_of_others, piece_of_session, pieces_of_session}
use Rattle.smq_engine.specs.Workers.{AreMadeOf, HasMade, edits_of_calls, piece_of_worker, pieces_of_worker, worker_count, worker_of}
use Rattle.smq_engine.proofs.WorkerLemmas.{all_at}

-- ---- a session's pieces are among those of its worker

abbrev is_of : SessionId → PieceRow → Bool
is_of session piece = piece.session.0 == session.0

chosen : (test : PieceRow → Bool) (piece : PieceRow) (own of_worker : Bool) → test piece ≡ own → (own ≡ true → of_worker ≡ true)
    → cond own (piece ∷ []) [] ≡ filter test (cond of_worker (piece ∷ []) [])
chosen test piece true true is then = sym (ap (λ (b : Bool). cond b (piece ∷ []) []) is)
chosen test piece true false is then = let no : false ≡ true = then refl in absurd cc
chosen test piece false true is then = sym (ap (λ (b : Bool). cond b (piece ∷ []) []) is)
chosen test piece false false is then = refl

own_row : (session : SessionId) (row : Row) → piece_of_session session row ≡ filter (is_of session) (piece_of_worker (worker_of session) row)
own_row session (Plain edit) = refl
own_row session (Piece piece) =
    chosen (is_of session) piece (piece.session.0 == session.0) (worker_of piece.session == worker_of session) refl
    (λ is. eq-eqb (worker_of piece.session) (worker_of session) (ap (λ (n : ℕ). n % worker_count) (eqb-true piece.session.0 session.0 is)))

own_pieces : (session : SessionId) (rows : List Row)
    → pieces_of_session session rows ≡ filter (is_of session) (pieces_of_worker (worker_of session) rows)
own_pieces session [] = refl
own_pieces session (row ∷ rows) =
    let first = piece_of_worker (worker_of session) row in
    ap (λ (ps : List PieceRow). ps ++ pieces_of_session session rows) (own_row session row)
    ∙ ap (λ (ps : List PieceRow). filter (is_of session) first ++ ps) (own_pieces session rows)
    ∙ sym (filter-append (is_of session) first (pieces_of_worker (worker_of session) rows))

-- ---- what became of them

puts_in : (session : SessionId) (piece : PieceRow) (edit : Edit) → Puts piece edit → is_append_to session edit ≡ is_of session piece
puts_in session piece (Append batch) h = ap (λ (s : SessionId). s.0 == session.0) h.1
puts_in session piece _ h = absurd h

-- these edits are what became of pieces
abbrev AreFates : List PieceRow → List Edit → Type 0
AreFates pieces edits =
    (fates : List (Option Call)) × AllZip IsFate pieces fates × (edits ≡ edits_of_calls (flat_map option_to_list fates))

fates_of : (session : SessionId) (pieces : List PieceRow) (fates : List (Option Call)) → AllZip IsFate pieces fates
    → AreFates (filter (is_of session) pieces) (filter (is_append_to session) (edits_of_calls (flat_map option_to_list fates)))
fates_of session [] [] h = ([], tt, refl)
fates_of session [] (f ∷ fates) h = elim h [ ]
fates_of session (p ∷ pieces) [] h = elim h [ ]
fates_of session (p ∷ pieces) (None ∷ fates) h =
    let ps = filter (is_of session) pieces in
    let es = filter (is_append_to session) (edits_of_calls (flat_map option_to_list fates)) in
    let rest : AreFates ps es = fates_of session pieces fates h.1 in
    elim (is_of session p) as (λ b. AreFates (cond b (p ∷ ps) ps) es) [ true ↦ (None ∷ rest.0, (h.0, rest.1), rest.2) | false ↦ rest ]
fates_of session (p ∷ pieces) (Some c ∷ fates) h =
    let ps = filter (is_of session) pieces in
    let es = filter (is_append_to session) (edits_of_calls (flat_map option_to_list fates)) in
    let rest : AreFates ps es = fates_of session pieces fates h.1 in
    let both : AreFates (cond (is_of session p) (p ∷ ps) ps) (cond (is_of session p) (c.edit ∷ es) es) =
    elim (is_of session p) as (λ b. AreFates (cond b (p ∷ ps) ps) (cond b (c.edit ∷ es) es)) [
      | true ↦ (Some c ∷ rest.0, (h.0, rest.1), ap (λ (edits : List Edit). c.edit ∷ edits) rest.2)
      | false ↦ rest
    ] in
    subst (λ (b : Bool). AreFates (cond (is_of session p) (p ∷ ps) ps) (cond b (c.edit ∷ es) es)) (sym (puts_in session p c.edit h.0)) both

-- ---- the entries of a seat

abbrev edits_of_seat : ℕ → List Entry → List Edit
edits_of_seat seat [] = []
edits_of_seat seat (e ∷ entries) = cond (e.seat == seat) (e.edit ∷ edits_of_seat seat entries) (edits_of_seat seat entries)

edits_in : (number seat : ℕ) (entries : List Entry) → edits_of_calls (calls_from number seat entries) ≡ edits_of_seat seat entries
edits_in number seat [] = refl
edits_in number seat (e ∷ entries) =
    let rest = edits_in (number + 1) seat entries in
    elim (e.seat == seat) as
    (λ b. edits_of_calls (cond b (call_of number e.edit e.reply ∷ calls_from (number + 1) seat entries) (calls_from (number + 1) seat entries))
    ≡ cond b (e.edit ∷ edits_of_seat seat entries) (edits_of_seat seat entries))
    [ true ↦ ap (λ (es : List Edit). e.edit ∷ es) rest | false ↦ rest ]

-- what is true of each edit of a seat, entry by entry
each_entry : (P : Edit → Type 0) (seat : ℕ) (entries : List Entry) → Each P (edits_of_seat seat entries)
    → Each (λ e. e.seat ≡ seat → P e.edit) entries
each_entry P seat [] h = tt
each_entry P seat (e ∷ entries) h = by (each_entry P seat entries) (e.seat == seat) refl h
  where
    by : (Each P (edits_of_seat seat entries) → Each (λ d. d.seat ≡ seat → P d.edit) entries) → (b : Bool) → (e.seat == seat) ≡ b
        → Each P (cond b (e.edit ∷ edits_of_seat seat entries) (edits_of_seat seat entries))
        → Each (λ d. d.seat ≡ seat → P d.edit) (e ∷ entries)
    by rest true is k = ((λ same. k.0), rest k.1)
    by rest false is k = ((λ same. let yes : (e.seat == seat) ≡ true = eq-eqb e.seat seat same in absurd cc), rest k)

-- ---- what a worker puts octets into

of_worker : (worker : ℕ) (rows : List Row) → Each (λ piece. worker_of piece.session ≡ worker) (pieces_of_worker worker rows)
of_worker worker [] = tt
of_worker worker (Plain edit ∷ rows) = of_worker worker rows
of_worker worker (Piece piece ∷ rows) = by (of_worker worker rows) (worker_of piece.session == worker) refl
  where
    by : Each (λ p. worker_of p.session ≡ worker) (pieces_of_worker worker rows) → (b : Bool) → (worker_of piece.session == worker) ≡ b
        → Each (λ p. worker_of p.session ≡ worker) (cond b (piece ∷ []) [] ++ pieces_of_worker worker rows)
    by rest true is = (eqb-true (worker_of piece.session) worker is, rest)
    by rest false is = rest

appended_by : (session : SessionId) (worker : ℕ) (pieces : List PieceRow) (fates : List (Option Call)) → AllZip IsFate pieces fates
    → Each (λ piece. worker_of piece.session ≡ worker) pieces
    → Each (λ edit. is_append_to session edit ≡ true → worker_of session ≡ worker) (edits_of_calls (flat_map option_to_list fates))
appended_by session worker [] [] h k = tt
appended_by session worker [] (f ∷ fates) h k = elim h [ ]
appended_by session worker (p ∷ pieces) [] h k = elim h [ ]
appended_by session worker (p ∷ pieces) (None ∷ fates) h k = appended_by session worker pieces fates h.1 k.1
appended_by session worker (p ∷ pieces) (Some c ∷ fates) h k = (
  (λ is.
      let same : p.session.0 ≡ session.0 = eqb-true p.session.0 session.0 (sym (puts_in session p c.edit h.0) ∙ is) in
      ap (λ (n : ℕ). n % worker_count) (sym same) ∙ k.0),
  appended_by session worker pieces fates h.1 k.1,
)

worker_entries : (session : SessionId) (rows : List Row) (entries : List Entry) (worker : ℕ) (seat : SeatValue) → HasItsCalls entries seat
    → HasMade (pieces_of_worker worker rows) seat
    → Each (λ e. e.seat ≡ seat.number → is_append_to session e.edit ≡ true → worker_of session ≡ worker) entries
worker_entries session rows entries worker seat its has =
    let made = has.1 in
    let P : Edit → Type 0 = λ edit. is_append_to session edit ≡ true → worker_of session ≡ worker in
    let edits : edits_of_calls (flat_map option_to_list made.fates) ≡ edits_of_seat seat.number entries =
    ap edits_of_calls (sym made.calls ∙ its) ∙ edits_in 1 seat.number entries in
    each_entry P seat.number entries
    (subst (Each P) edits (appended_by session worker (pieces_of_worker worker rows) made.fates made.each (of_worker worker rows)))

-- ---- whose an entry is

abbrev count_of : ℕ → List SeatValue → ℕ
count_of number seats = count_by (λ (s : SeatValue). s.number == number) seats

counts_one : (seats : List SeatValue) (e : Entry) → HasOneSeat seats e → count_of e.seat seats ≡ 1
unfolding holders
counts_one seats e h = h

abbrev counts : ℕ → SeatValue → ℕ
counts number s = cond (s.number == number) 1 0

counts_own : (number : ℕ) (s : SeatValue) → s.number ≡ number → counts number s ≡ 1
counts_own number s same = ap (λ (b : Bool). cond b 1 0) (eq-eqb s.number number same)

-- a seat of a number is found where one counts
one_counts : (number : ℕ) (seats : List SeatValue) → 0 < count_of number seats
    → (k : ℕ) × (s : SeatValue) × (slice_get seats k ≡ Some s) × (s.number ≡ number)
one_counts number [] some = absurd (omega arith)
one_counts number (s ∷ seats) some = by (one_counts number seats) (s.number == number) refl
  where
    by : (0 < count_of number seats → (k : ℕ) × (t : SeatValue) × (slice_get seats k ≡ Some t) × (t.number ≡ number))
        → (b : Bool) → (s.number == number) ≡ b
        → (k : ℕ) × (t : SeatValue) × (slice_get (s ∷ seats) k ≡ Some t) × (t.number ≡ number)
    by later true is = (zero, s, refl, eqb-true s.number number is)
    by later false is =
        let none : counts number s ≡ 0 = ap (λ (b : Bool). cond b 1 0) is in
        let all = sum_by-cons (counts number) s seats in
        let rest = later (omega arith) in
        (suc rest.0, rest.1, rest.2, rest.3)

-- and one counts where such a seat stands
stands : (number : ℕ) (seats : List SeatValue) (k : ℕ) (s : SeatValue) → slice_get seats k ≡ Some s → s.number ≡ number
    → 0 < count_of number seats
stands number [] k s at same = absurd cc
stands number (t ∷ seats) zero s at same =
    let own = counts_own number t (ap (λ (x : SeatValue). x.number) (same_Some t s at) ∙ same) in
    let all = sum_by-cons (counts number) t seats in
    omega arith
stands number (t ∷ seats) (suc k) s at same =
    let all = sum_by-cons (counts number) t seats in
    let rest = stands number seats k s at same in
    omega arith

-- an entry isn't of both seats; and one that is of neither puts no octets into the session
abbrev IsApart : SessionId → ℕ → ℕ → Entry → Type 0
IsApart session first worker e =
    (e.seat ≡ first → e.seat ≡ worker → ⊥) × (e.seat ≢ first → e.seat ≢ worker → is_append_to session e.edit ≡ false)

apart : (session : SessionId) (first own : SeatValue) (workers : List SeatValue) (e : Entry) → slice_get workers (worker_of session) ≡ Some own
    → HasOneSeat (first ∷ workers) e
    → ((k : ℕ) (s : SeatValue) → slice_get workers k ≡ Some s → e.seat ≡ s.number → is_append_to session e.edit ≡ true → worker_of session ≡ k)
    → IsApart session first.number own.number e
apart session first own workers e at one each = (
  (λ is_first is_own.
      let mine = counts_own e.seat first (sym is_first) in
      let theirs = stands e.seat workers (worker_of session) own at (sym is_own) in
      let all = sum_by-cons (counts e.seat) first workers in
      let once = counts_one (first ∷ workers) e one in
      absurd (omega arith)),
  (λ not_first not_own. by not_first not_own (is_append_to session e.edit) refl),
)
  where
    holder : e.seat ≢ first.number → (k : ℕ) × (s : SeatValue) × (slice_get workers k ≡ Some s) × (s.number ≡ e.seat)
    holder not_first =
        let once = counts_one (first ∷ workers) e one in
        let found = one_counts e.seat (first ∷ workers) (omega arith) in
        behind found.0 found.1 found.2 found.3
      where
        behind : (k : ℕ) (s : SeatValue) → slice_get (first ∷ workers) k ≡ Some s → s.number ≡ e.seat
            → (k : ℕ) × (s : SeatValue) × (slice_get workers k ≡ Some s) × (s.number ≡ e.seat)
        behind zero s there same = absurd (not_first (sym same ∙ ap (λ (x : SeatValue). x.number) (sym (same_Some first s there))))
        behind (suc k) s there same = (k, s, there, same)

    by : e.seat ≢ first.number → e.seat ≢ own.number → (b : Bool) → is_append_to session e.edit ≡ b → is_append_to session e.edit ≡ false
    by not_first not_own false is = is
    by not_first not_own true is =
        let found = holder not_first in
        let own_place : worker_of session ≡ found.0 = each found.0 found.1 found.2 (sym found.3) is in
        let same : own ≡ found.1 = same_Some own found.1 (sym at ∙ (ap (slice_get workers) own_place ∙ found.2)) in
        absurd (not_own (sym found.3 ∙ ap (λ (s : SeatValue). s.number) (sym same)))

-- the edits of other seats than the first that put octets into the session are those of its worker
others_are : (session : SessionId) (first worker : ℕ) (entries : List Entry) → Each (IsApart session first worker) entries
    → filter (is_append_to session) (edits_of_others first entries) ≡ filter (is_append_to session) (edits_of_seat worker entries)
others_are session first worker [] h = refl
others_are session first worker (e ∷ entries) h =
    by (others_are session first worker entries h.1) (e.seat == first) (e.seat == worker) refl refl
  where
    by : filter (is_append_to session) (edits_of_others first entries) ≡ filter (is_append_to session) (edits_of_seat worker entries)
        → (f w : Bool) → (e.seat == first) ≡ f → (e.seat == worker) ≡ w
        → filter (is_append_to session) (cond f (edits_of_others first entries) (e.edit ∷ edits_of_others first entries))
        ≡ filter (is_append_to session) (cond w (e.edit ∷ edits_of_seat worker entries) (edits_of_seat worker entries))
    by rest true true is_first is_own = absurd (h.0.0 (eqb-true e.seat first is_first) (eqb-true e.seat worker is_own))
    by rest true false is_first is_own = rest
    by rest false true is_first is_own = ap (λ (es : List Edit). cond (is_append_to session e.edit) (e.edit ∷ es) es) rest
    by rest false false is_first is_own =
        let no : is_append_to session e.edit ≡ false =
        h.0.1 (λ same. let yes : (e.seat == first) ≡ true = eq-eqb e.seat first same in absurd cc)
        (λ same. let yes : (e.seat == worker) ≡ true = eq-eqb e.seat worker same in absurd cc) in
        let es = filter (is_append_to session) (edits_of_others first entries) in
        ap (λ (b : Bool). cond b (e.edit ∷ es) es) no ∙ rest

-- ---- the law

there : {X : Type 0} (xs : List X) (k : ℕ) → k < length xs → (x : X) × (slice_get xs k ≡ Some x)
there [] k below = absurd (omega arith)
there (x ∷ xs) zero below = (x, refl)
there (x ∷ xs) (suc k) below = there xs k (omega arith)

pub loaded_in_order : (session : SessionId) (rows : List Row) (entries : List Entry) (made : AreMadeOf rows entries)
    → IsLoadedInOrder session rows made.made.first.number entries
loaded_in_order session rows entries made =
    let first = made.made.first in
    let workers = made.made.workers in
    let place = worker_of session in
    let eight : length workers ≡ 8 = made.made.number in
    let below : place < length workers = omega arith in
    let own = there workers place below in
    let calls : AreCallsOf (first ∷ workers) entries = subst (λ (seats : List SeatValue). AreCallsOf seats entries) made.made.all made.calls in
    let its : (k : ℕ) (s : SeatValue) → slice_get workers k ≡ Some s → HasItsCalls entries s =
    λ k s at. all_at (HasItsCalls entries) workers k s (All-tail (HasItsCalls entries) first workers calls.each_seat) at in
    let each : All (IsApart session first.number own.0.number) entries =
    λ i d inside.
    apart session first own.0 workers (get_or entries i d) own.1 (calls.each_entry i d inside)
    (λ k s at.
    All-from_recursion (λ e. e.seat ≡ s.number → is_append_to session e.edit ≡ true → worker_of session ≡ k) entries
    (worker_entries session rows entries k s (its k s at) (made.made.pieces k s at)) i d inside) in
    let has = (made.made.pieces place own.0 own.1).1 in
    let became = fates_of session (pieces_of_worker place rows) has.fates has.each in
    record {
      fates = became.0;
      each = subst (λ (ps : List PieceRow). AllZip IsFate ps became.0) (sym (own_pieces session rows)) became.1;
      edits = others_are session first.number own.0.number entries
          (recursion_from_All (IsApart session first.number own.0.number) entries each)
          ∙ ap (filter (is_append_to session))
          (sym (edits_in 1 own.0.number entries) ∙ ap edits_of_calls (sym (its place own.0 own.1) ∙ has.calls))
          ∙ became.2;
    }
