-- A job of two rows that is written out, and what a worker makes of it.
use Rattle.std.proofs.Common.{◌≡◌, ◌≤◌, ◌↔◌, ℕ, List, [], ◌∷◌, Option, Some, None, IfSome, length, take, count_by, flat_map, option_to_list, inl, inr, refl, sym, ◌∙◌, ap, subst, arith}
use Rattle.std.specs.List.{AllZip}
use Rattle.smq_kit.specs.declared.place.Dir.TheVariants.{FromClient}
use Rattle.smq_kit.specs.declared.refusal.Refusal.{Refusal}
use Rattle.smq_kit.specs.declared.refusal.Refusal.TheVariants.{Backward, EmptyPiece, HistoryFull, Memory, NoSeat, NoSession, NoThread}
use Rattle.smq_frame.specs.Tail.{tail_of}
use Rattle.smq_present.specs.declared.present.batch.PieceRow.{PieceRow}
use Rattle.smq_desk.specs.declared.entry.Call.{Call}
use Rattle.smq_desk.specs.declared.entry.Reply.{Reply}
use Rattle.smq_desk.specs.declared.entry.Reply.TheVariants.{Done, Refused}
use Rattle.smq_desk.specs.declared.job.LinkJob.{LinkJob}
use Rattle.smq_desk.specs.Jobs.{Puts, IsFate, was_refused, Made, IsStop, Worked}
use Rattle.smq_desk.specs.KnownJobs.{row_of, put, rows, call_of_7, call_of_8, refused_call, IsJob, IsNew, KnownPuts, KnownRows, KnownJob}
use Rattle.smq_desk.specs.Seats.{SeatValue, call_of}

pub known_puts : KnownPuts
known_puts = record {
  its_own = (refl, refl, refl, refl, refl);
  another_link = λ h. let e = ap (λ l. l.0) h.0 in omega arith;
  another_session = λ h. let e = ap (λ s. s.0) h.1 in omega arith;
  another_direction = λ h. let e = h.2 in absurd cc;
  another_moment = λ h. let e = h.3 in omega arith;
  other_octets = λ h. let e = h.4 in absurd cc;
  withdrawal = λ h. h;
  clock = λ h. h;
}

-- ---- the rows

abbrev replied : Reply → Call
replied reply = call_of 5 (put 1 10 FromClient 1000 7) reply

-- a row without octets has no call of an octet
no_call : (c : Call) (reply : Reply) → IsFate (row_of []) (Some c) → replied reply ≡ c → ⊥
no_call c reply h e =
    let puts : Puts (row_of []) (put 1 10 FromClient 1000 7) = subst (λ (x : Call). Puts (row_of []) x.edit) (sym e) h in
    let none = puts.4 in
    absurd cc

-- so the one call is that of the second row
fates_are : (reply : Reply) (fates : List (Option Call)) → AllZip IsFate rows fates → replied reply ∷ [] ≡ flat_map option_to_list fates
    → count_by was_refused fates ≡ count_by was_refused (None ∷ Some (replied reply) ∷ [])
fates_are reply [] h e = elim h [ ]
fates_are reply (Some c ∷ fates) h e = absurd (no_call c reply h.0 cc)
fates_are reply (None ∷ []) h e = elim h.1 [ ]
fates_are reply (None ∷ None ∷ []) h e = absurd cc
fates_are reply (None ∷ Some c ∷ []) h e = let same : replied reply ≡ c = cc in ap (λ (x : Call). count_by was_refused (None ∷ Some x ∷ [])) (sym same)
fates_are reply (None ∷ f ∷ g ∷ fates) h e = elim h.1.1 [ ]

-- and counts so many refusals
counts : (reply : Reply) (n : ℕ) → Made rows [] (replied reply ∷ []) n → n ≡ count_by was_refused (None ∷ Some (replied reply) ∷ [])
counts reply n m = m.count ∙ fates_are reply m.fates m.each m.calls

of_8_first : (c : Call) → IsFate (row_of (7 ∷ [])) (Some c) → call_of_8 ≡ c → ⊥
of_8_first c h e =
    let puts : Puts (row_of (7 ∷ [])) (put 1 10 FromClient 1000 8) = subst (λ (x : Call). Puts (row_of (7 ∷ [])) x.edit) (sym e) h in
    let other = puts.4 in
    absurd cc

not_swapped : (fates : List (Option Call)) → AllZip IsFate (row_of (7 ∷ []) ∷ row_of (8 ∷ []) ∷ []) fates
    → call_of_8 ∷ call_of_7 ∷ [] ≡ flat_map option_to_list fates → ⊥
not_swapped [] h e = elim h [ ]
not_swapped (Some c ∷ fates) h e = of_8_first c h.0 cc
not_swapped (None ∷ []) h e = elim h.1 [ ]
not_swapped (None ∷ None ∷ []) h e = absurd cc
not_swapped (None ∷ Some c ∷ []) h e = absurd cc
not_swapped (None ∷ f ∷ g ∷ fates) h e = elim h.1.1 [ ]

fate_of_none : IsFate (row_of []) None
fate_of_none = (tail_of [], EmptyPiece, refl)

-- what the two rows made
of_7 : Made rows [] (call_of_7 ∷ []) 1
of_7 = record { fates = None ∷ Some call_of_7 ∷ []; each = (fate_of_none, (known_puts.its_own, tt)); calls = refl; count = refl }

-- what the first made
of_none : Made (take 1 rows) [] [] 1
of_none = record { fates = None ∷ []; each = (fate_of_none, tt); calls = refl; count = refl }

pub known_rows : KnownRows
known_rows = record {
  not_prepared = fate_of_none;
  made = record { fates = None ∷ Some call_of_7 ∷ []; each = (fate_of_none, (known_puts.its_own, tt)); calls = refl; count = refl };
  refused = record { fates = None ∷ Some refused_call ∷ []; each = (fate_of_none, (known_puts.its_own, tt)); calls = refl; count = refl };
  no_refusal = λ m. let e = counts Done 0 m in omega arith;
  two_refusals = λ m. let e = counts Done 2 m in omega arith;
  one_refusal = λ m. let e = counts (Refused (Backward 1200)) 1 m in omega arith;
  in_order = record {
    fates = Some call_of_7 ∷ Some call_of_8 ∷ [];
    each = (known_puts.its_own, ((refl, refl, refl, refl, refl), tt));
    calls = refl;
    count = refl;
  };
  out_of_order = λ m. not_swapped m.fates m.each m.calls;
}

-- ---- the job

-- a job with these parts is worked
worked : (job new : LinkJob) (calls : List Call) (next refused : ℕ) (stop : Option Refusal) → IsNew job → IsJob new rows calls next refused stop
    → next ≤ 2 → Made (take next rows) [] calls refused → (stop ≡ None) ↔ (next ≡ 2) → IfSome stop IsStop → Worked job new
worked job new calls next refused stop j n few made ends why =
    let long : length job.rows.items ≡ 2 = ap length j.rows in
    record {
      rows = n.rows ∙ sym j.rows;
      seat = ap (λ (s : SeatValue). s.number) n.seat ∙ sym (ap (λ (s : SeatValue). s.number) j.seat);
      done = omega (arith, n.next, long, few);
      made = rw (n.next, j.rows, n.refused, n.seat, j.seat) made;
      stop = ((λ e. n.next ∙ ends.0 (sym n.stop ∙ e) ∙ sym long), (λ e. n.stop ∙ ends.1 (sym n.next ∙ e ∙ long)));
      reason = subst (λ (o : Option Refusal). IfSome o IsStop) (sym n.stop) why;
    }

-- the parts of a job that is worked
ends_so : (job new : LinkJob) (rest : List PieceRow) (calls : List Call) (next refused : ℕ) (stop : Option Refusal) → IsNew job
    → IsJob new rest calls next refused stop → Worked job new → (stop ≡ None) ↔ (next ≡ 2)
ends_so job new rest calls next refused stop j n w =
    let long : length job.rows.items ≡ 2 = ap length j.rows in
    ((λ e. sym n.next ∙ w.stop.0 (n.stop ∙ e) ∙ long), (λ e. sym n.stop ∙ w.stop.1 (n.next ∙ e ∙ sym long)))

stopped : (job new : LinkJob) (why : Refusal) → IsNew job → IsJob new rows [] 1 1 (Some why) → IsStop why → Worked job new
stopped job new why j n is =
    worked job new [] 1 1 (Some why) j n (omega arith) of_none ((λ (e : Some why ≡ None). absurd cc), (λ (e : 1 ≡ 2). absurd (omega arith))) is

no_seat_stops : IsStop NoSeat → ⊥
no_seat_stops (inl e) = absurd cc
no_seat_stops (inr (inl e)) = absurd cc
no_seat_stops (inr (inr e)) = absurd cc

no_session : IsStop NoSession → ⊥
no_session (inl e) = absurd cc
no_session (inr (inl e)) = absurd cc
no_session (inr (inr e)) = absurd cc

pub known_job : KnownJob
known_job = record {
  fresh = λ job j. record { next = j.next; refused = j.refused; stop = j.stop };
  done = λ job new j n. worked job new (call_of_7 ∷ []) 2 1 None j n (omega arith) of_7 ((λ _. refl), (λ _. refl)) tt;
  full = λ job new j n. stopped job new HistoryFull j n (inr (inl refl));
  no_memory = λ job new j n. stopped job new Memory j n (inl refl);
  no_thread = λ job new j n. stopped job new NoThread j n (inr (inr refl));
  no_reason = λ job new j n w. no_session (subst (λ (o : Option Refusal). IfSome o IsStop) n.stop w.reason);
  no_seat = λ job new j n w. no_seat_stops (subst (λ (o : Option Refusal). IfSome o IsStop) n.stop w.reason);
  too_early = λ job new j n w. let e = (ends_so job new rows [] 1 1 None j n w).0 refl in omega arith;
  too_late = λ job new j n w. let e = (ends_so job new rows (call_of_7 ∷ []) 2 1 (Some Memory) j n w).1 refl in absurd cc;
  without_rows = λ job new j n w. let e : [] ≡ rows = sym n.rows ∙ w.rows ∙ j.rows in absurd cc;
}
