-- The known schedules, step by step.
use Rattle.std.proofs.Common.{◌≡◌, ◌≢◌, ℕ, zero, suc, cond, List, [], ◌∷◌, map, Some, None, refl, sym, ap, subst, arith, All, AllPairs}
use Rattle.std.specs.Cmp.{nat_cmp_total}
use Rattle.std.specs.FinMap as fin
use Rattle.std.specs.Ordering.{nat_cmp, eq_by_cmp}
use Rattle.std.proofs.lemmas.List.Elements.{All-nil, All-cons}
use Rattle.smq_kit.specs.declared.names.SessionId.{SessionId}
use Rattle.smq_kit.specs.declared.refusal.Refusal.TheVariants.{EmptyPiece, Backward, OutOfStep}
use Rattle.smq_frame.specs.Framing.{rest_of, rest_within}
use Rattle.smq_frame.specs.Stream.{handed_in}
use Rattle.smq_frame.specs.Tail.{tail_from}
use Rattle.smq_present.specs.declared.present.batch.PieceRow.{PieceRow}
use Rattle.smq_present.specs.declared.present.session.Session.{Session}
use Rattle.smq_present.specs.present.Present.{empty}
use Rattle.smq_present.specs.present.Stream.{last_moment}
use Rattle.smq_desk.specs.KnownLoads.{row_of, first_rows, second_rows, lists, one_by_one, in_turns, Ends, shared}
use Rattle.smq_desk.specs.Pieces.{list_replies, AreApart, HaveOwnSessions}
use Rattle.smq_desk.specs.Schedules.{Begins, World, run, starting}

none : (n : ℕ) → fin.get empty.sessions n ≡ None
none n = fin.get-empty nat_cmp n

look : (m : fin.FinMap nat_cmp Session) (k : ℕ) (v : Session) (q : ℕ)
    → fin.get (fin.insert m k v) q ≡ cond (eq_by_cmp nat_cmp q k) (Some v) (fin.get m q)
look m k v q = fin.get-insert nat_cmp_total m k v q

pub of_one_thread : list_replies empty lists ≡ (None ∷ Some (Backward 1000) ∷ []) ∷ (None ∷ Some EmptyPiece ∷ []) ∷ []
unfolding tail_from rest_of rest_within last_moment
of_one_thread = simp (none, look)

pub two_steps : (run (starting empty lists) (0 ∷ 0 ∷ [])).present ≡ empty
two_steps = refl

pub no_worker : run (starting empty lists) (2 ∷ []) ≡ starting empty lists
no_worker = refl

pub out_of_step : map (λ worker. worker.replies) (run (starting empty shared) (0 ∷ 1 ∷ 0 ∷ 1 ∷ 0 ∷ 1 ∷ [])).workers
    ≡ (None ∷ []) ∷ (Some (OutOfStep 1) ∷ []) ∷ []
unfolding tail_from rest_of rest_within last_moment
out_of_step = simp (none, look)

pub in_step : list_replies empty shared ≡ (None ∷ []) ∷ (None ∷ []) ∷ []
unfolding tail_from rest_of rest_within last_moment
in_step = simp (none, look)

pub ends_one_by_one : Ends (run (starting empty lists) one_by_one)
unfolding tail_from rest_of rest_within last_moment
ends_one_by_one = record {
  rows = simp (none, look);
  replies = simp (none, look);
  first = simp (none, look);
  second = simp (none, look);
}

-- the second schedule, halfway: each worker is done with its first row
abbrev session_with : ℕ → ℕ → Session
session_with moment octet = record { link = record { 0 = 1 }; client = handed_in moment (octet ∷ []); centre = [] }

abbrev halfway : World
halfway = record {
  present = record empty { sessions = fin.insert (fin.insert empty.sessions 20 (session_with 700 1)) 10 (session_with 1000 0) };
  workers =
      record { rows = row_of 10 999 (0 ∷ []) ∷ []; stage = Begins; replies = None ∷ [] }
      ∷ record { rows = row_of 20 700 [] ∷ []; stage = Begins; replies = None ∷ [] } ∷ [];
}

first_half : run (starting empty lists) (1 ∷ 0 ∷ 0 ∷ 1 ∷ 1 ∷ 0 ∷ []) ≡ halfway
unfolding tail_from rest_of rest_within last_moment
first_half = simp (none, look)

second_half : Ends (run halfway (0 ∷ 1 ∷ 1 ∷ 1 ∷ 0 ∷ 0 ∷ []))
unfolding tail_from rest_of rest_within last_moment
second_half = record {
  rows = simp look;
  replies = simp look;
  first = simp look;
  second = simp look;
}

pub ends_in_turns : Ends (run (starting empty lists) in_turns)
ends_in_turns = subst (λ (w : World). Ends (run w (0 ∷ 1 ∷ 1 ∷ 1 ∷ 0 ∷ 0 ∷ []))) (sym first_half) second_half

-- ---- whose sessions are whose

pairs-cons : {X : Type 0} (R : X → X → Type 0) (x : X) (xs : List X) → All (R x) xs → AllPairs R xs → AllPairs R (x ∷ xs)
pairs-cons R x xs h k zero zero d l m = absurd (omega arith)
pairs-cons R x xs h k zero (suc j) d l m = h j d (omega arith)
pairs-cons R x xs h k (suc i) zero d l m = absurd (omega arith)
pairs-cons R x xs h k (suc i) (suc j) d l m = k i j d (omega arith) (omega arith)

abbrev two_apart : PieceRow → PieceRow → Type 0
two_apart row other = row.session ≢ other.session

ten_twenty : (a b : ℕ) (s t : List ℕ) → two_apart (row_of 10 a s) (row_of 20 b t)
ten_twenty a b s t e = let same : 10 ≡ 20 = ap (λ (x : SessionId). x.0) e in absurd (omega (arith, same))

apart_from_second : (moment : ℕ) (octets : List ℕ) → All (two_apart (row_of 10 moment octets)) second_rows
apart_from_second moment octets =
    All-cons (two_apart (row_of 10 moment octets)) (row_of 20 700 (1 ∷ [])) (row_of 20 700 [] ∷ []) (ten_twenty moment 700 octets (1 ∷ []))
    (All-cons (two_apart (row_of 10 moment octets)) (row_of 20 700 []) [] (ten_twenty moment 700 octets [])
    (All-nil (two_apart (row_of 10 moment octets))))

pub of_their_own : HaveOwnSessions lists
of_their_own =
    pairs-cons AreApart first_rows (second_rows ∷ [])
    (All-cons (AreApart first_rows) second_rows []
    (All-cons (λ (row : PieceRow). All (two_apart row) second_rows) (row_of 10 1000 (0 ∷ [])) (row_of 10 999 (0 ∷ []) ∷ [])
    (apart_from_second 1000 (0 ∷ []))
    (All-cons (λ (row : PieceRow). All (two_apart row) second_rows) (row_of 10 999 (0 ∷ [])) [] (apart_from_second 999 (0 ∷ []))
    (All-nil (λ (row : PieceRow). All (two_apart row) second_rows))))
    (All-nil (AreApart first_rows)))
    (pairs-cons AreApart second_rows [] (All-nil (AreApart second_rows)) (λ i j d l m. absurd (omega arith)))
