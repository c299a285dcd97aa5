-- Whatever the schedule, what one thread would still come to from here stays: only a worker that is done with a row changes what is
-- present, and that row may as well be done before the rows that the workers before it have left.
use Rattle.std.proofs.Common.{◌≡◌, ◌≢◌, ◌⊎◌, ℕ, zero, suc, List, [], ◌∷◌, ◌++◌, map, Option, Some, None, inl, inr, refl, sym, ap, ◌∙◌, subst, All, append-nil, append_assoc, slice_get, slice_set}
use Rattle.std.specs.List.{AllByRecursion}
use Rattle.std.proofs.lemmas.List.Elements.{All-head, All-tail}
use Rattle.smq_kit.specs.declared.refusal.Refusal.{Refusal}
use Rattle.smq_kit.specs.Replies.{first_of}
use Rattle.smq_frame.specs.Tail.{TailValue}
use Rattle.smq_present.specs.declared.present.edit.Edit.TheVariants.{Append}
use Rattle.smq_present.specs.declared.present.batch.PieceRow.{PieceRow}
use Rattle.smq_present.specs.present.Batch.{BatchValue, prepare_refusal}
use Rattle.smq_present.specs.present.Present.{PresentValue}
use Rattle.smq_present.specs.present.Replies.{reply}
use Rattle.smq_present.specs.present.Steps.{step_unless, step}
use Rattle.smq_desk.specs.Pieces.{batch_on, tail_for, piece_edit, piece_refusal, after_piece, after_pieces, piece_replies, after_lists, list_replies, HaveOwnSessions}
use Rattle.smq_desk.specs.Schedules.{Stage, Begins, Took, Prepared, Unprepared, Worker, World, prepared, worker_after, present_after, moved, next, run, starting, SchedulesEndAsOneThread}
use Rattle.smq_desk.proofs.PieceLemmas.{tail_same, refusal_same, piece_elsewhere, IsApartFrom, row_first, replies_kept, session_kept, Apart, Own, each, own_sessions}

-- ---- where workers stand

abbrev StandsOn : TailValue → PieceRow → Stage → Type 0
StandsOn tail row Begins = Unit {0}
StandsOn tail row (Took taken) = taken ≡ tail
StandsOn tail row (Prepared batch) = (batch ≡ batch_on tail row) × (prepare_refusal tail row.octets ≡ None)
StandsOn tail row (Unprepared refusal) = prepare_refusal tail row.octets ≡ Some refusal

abbrev Stands : PresentValue → List PieceRow → Stage → Type 0
Stands p [] stage = Unit {0}
Stands p (row ∷ rows) stage = StandsOn (tail_for p row) row stage

-- what a step does: it is done with no row, or with one, as one thread would be
record IsQuiet (p : PresentValue) (k : Worker) (q : PresentValue) (j : Worker) : Type 0 where
  present : q ≡ p
  rows : j.rows ≡ k.rows
  replies : j.replies ≡ k.replies
  stands : Stands p j.rows j.stage

record IsDone (p : PresentValue) (k : Worker) (q : PresentValue) (j : Worker) : Type 0 where
  row : PieceRow
  present : q ≡ after_piece p row
  rows : k.rows ≡ row ∷ j.rows
  replies : j.replies ≡ k.replies ++ piece_refusal p row ∷ []
  begins : j.stage ≡ Begins

stands_prepared : (tail : TailValue) (row : PieceRow) (o : Option Refusal) → prepare_refusal tail row.octets ≡ o
    → StandsOn tail row (prepared (batch_on tail row) o)
stands_prepared tail row None e = (refl, e)
stands_prepared tail row (Some r) e = e

first_of-one : (o : Option Refusal) → first_of (o ∷ []) ≡ o
first_of-one None = refl
first_of-one (Some r) = refl

refused_by_reply : (o u : Option Refusal) → o ≡ None → first_of (o ∷ u ∷ []) ≡ u
refused_by_reply o u e = rw e (first_of-one u)

refused_first : (o u : Option Refusal) (r : Refusal) → o ≡ Some r → first_of (o ∷ u ∷ []) ≡ Some r
refused_first o u r e = rw e refl

steps_so : (p : PresentValue) (k : Worker) (rows : List PieceRow) (stage : Stage) → k.rows ≡ rows → k.stage ≡ stage → Stands p rows stage
    → IsQuiet p k (present_after p rows stage) (worker_after p k rows stage)
    ⊎ IsDone p k (present_after p rows stage) (worker_after p k rows stage)
steps_so p k [] stage left at stands = inl (record {
  present = refl;
  rows = refl;
  replies = refl;
  stands = subst (λ (rows : List PieceRow). Stands p rows k.stage) (sym left) tt;
})
steps_so p k (row ∷ rows) Begins left at stands = inl (record {
  present = refl;
  rows = refl;
  replies = refl;
  stands = subst (λ (xs : List PieceRow). Stands p xs (Took (tail_for p row))) (sym left) refl;
})
steps_so p k (row ∷ rows) (Took tail) left at stands = inl (record {
  present = refl;
  rows = refl;
  replies = refl;
  stands = subst (λ (xs : List PieceRow). Stands p xs (prepared (batch_on tail row) (prepare_refusal tail row.octets))) (sym left)
      (subst (λ (t : TailValue). StandsOn (tail_for p row) row (prepared (batch_on t row) (prepare_refusal t row.octets))) (sym stands)
      (stands_prepared (tail_for p row) row (prepare_refusal (tail_for p row) row.octets) refl));
})
steps_so p k (row ∷ rows) (Prepared batch) left at stands =
    let refusal : piece_refusal p row ≡ reply p (piece_edit p row) =
    refused_by_reply (prepare_refusal (tail_for p row) row.octets) (reply p (piece_edit p row)) stands.1 in
    inr (record {
      row = row;
      present = ap (λ (b : BatchValue). step p (Append b)) stands.0
          ∙ ap (λ (o : Option Refusal). step_unless o p (piece_edit p row)) (sym refusal);
      rows = left;
      replies = ap (λ (o : Option Refusal). k.replies ++ o ∷ [])
          (ap (λ (b : BatchValue). reply p (Append b)) stands.0 ∙ sym refusal);
      begins = refl;
    })
steps_so p k (row ∷ rows) (Unprepared r) left at stands =
    let refusal : piece_refusal p row ≡ Some r =
    refused_first (prepare_refusal (tail_for p row) row.octets) (reply p (piece_edit p row)) r stands in
    inr (record {
      row = row;
      present = ap (λ (o : Option Refusal). step_unless o p (piece_edit p row)) (sym refusal);
      rows = left;
      replies = ap (λ (o : Option Refusal). k.replies ++ o ∷ []) (sym refusal);
      begins = refl;
    })

-- ---- what one thread would still come to

abbrev rows_of : List Worker → List (List PieceRow)
rows_of ws = map (λ k. k.rows) ws

abbrev replies_from : PresentValue → List Worker → List (List (Option Refusal))
replies_from p [] = []
replies_from p (k ∷ ws) = (k.replies ++ piece_replies p k.rows) ∷ replies_from (after_pieces p k.rows) ws

abbrev AllStand : PresentValue → List Worker → Type 0
AllStand p ws = AllByRecursion (λ k. Stands p k.rows k.stage) ws

record Keeps (p : PresentValue) (lists : List (List PieceRow)) (w : World) : Type 0 where
  present : after_lists w.present (rows_of w.workers) ≡ after_lists p lists
  replies : replies_from w.present w.workers ≡ list_replies p lists
  stand : AllStand w.present w.workers
  own : Own (rows_of w.workers)

-- ---- a worker among the others

there : {X : Type 0} (P : X → Type 0) (xs : List X) (n : ℕ) (x : X) → slice_get xs n ≡ Some x → AllByRecursion P xs → P x
there P [] n x e h = absurd cc
there P (y ∷ xs) zero x e h = let same : y ≡ x = cc in subst P same h.0
there P (y ∷ xs) (suc n) x e h = there P xs n x e h.1

put : {X : Type 0} (P : X → Type 0) (xs : List X) (n : ℕ) (x : X) → P x → AllByRecursion P xs → AllByRecursion P (slice_set xs n x)
put P [] n x new h = tt
put P (y ∷ xs) zero x new h = (new, h.1)
put P (y ∷ xs) (suc n) x new h = (h.0, put P xs n x new h.1)

-- the others' rows, by the workers
by_workers : (P : List PieceRow → Type 0) (ws : List Worker) → AllByRecursion P (rows_of ws) → AllByRecursion (λ (k : Worker). P k.rows) ws
by_workers P [] h = tt
by_workers P (k ∷ ws) h = (h.0, by_workers P ws h.1)

by_rows : (P : List PieceRow → Type 0) (ws : List Worker) → AllByRecursion (λ (k : Worker). P k.rows) ws → AllByRecursion P (rows_of ws)
by_rows P [] h = tt
by_rows P (k ∷ ws) h = (h.0, by_rows P ws h.1)

-- ---- a step that is done with no row

quiet_rows : (ws : List Worker) (n : ℕ) (k j : Worker) → slice_get ws n ≡ Some k → j.rows ≡ k.rows → rows_of (slice_set ws n j) ≡ rows_of ws
quiet_rows [] n k j e h = refl
quiet_rows (x ∷ ws) zero k j e h = let same : x ≡ k = cc in λ i. (h ∙ ap (λ (y : Worker). y.rows) (sym same)) i ∷ rows_of ws
quiet_rows (x ∷ ws) (suc n) k j e h = ap (λ (xs : List (List PieceRow)). x.rows ∷ xs) (quiet_rows ws n k j e h)

quiet_replies : (p : PresentValue) (ws : List Worker) (n : ℕ) (k j : Worker) → slice_get ws n ≡ Some k → j.rows ≡ k.rows
    → j.replies ≡ k.replies
    → replies_from p (slice_set ws n j) ≡ replies_from p ws
quiet_replies p [] n k j e h r = refl
quiet_replies p (x ∷ ws) zero k j e h r =
    let same : x ≡ k = cc in
    let rows : j.rows ≡ x.rows = h ∙ ap (λ (y : Worker). y.rows) (sym same) in
    let replies : j.replies ≡ x.replies = r ∙ ap (λ (y : Worker). y.replies) (sym same) in
    λ i. (replies i ++ piece_replies p (rows i)) ∷ replies_from (after_pieces p (rows i)) ws
quiet_replies p (x ∷ ws) (suc n) k j e h r =
    ap (λ (xs : List (List (Option Refusal))). (x.replies ++ piece_replies p x.rows) ∷ xs)
    (quiet_replies (after_pieces p x.rows) ws n k j e h r)

keeps_quiet : (p : PresentValue) (lists : List (List PieceRow)) (w : World) (n : ℕ) (k : Worker) (q : PresentValue) (j : Worker)
    → slice_get w.workers n ≡ Some k → IsQuiet w.present k q j → Keeps p lists w
    → Keeps p lists (record { present = q; workers = slice_set w.workers n j })
keeps_quiet p lists w n k q j e quiet keeps =
    let rows = quiet_rows w.workers n k j e quiet.rows in
    subst (λ (r : PresentValue). Keeps p lists (record { present = r; workers = slice_set w.workers n j })) (sym quiet.present) (record {
      present = ap (λ (xs : List (List PieceRow)). after_lists w.present xs) rows ∙ keeps.present;
      replies = quiet_replies w.present w.workers n k j e quiet.rows quiet.replies ∙ keeps.replies;
      stand = put (λ (x : Worker). Stands w.present x.rows x.stage) w.workers n j quiet.stands keeps.stand;
      own = subst Own (sym rows) keeps.own;
    })

-- ---- a step that is done with a row

symmetric : (row : PieceRow) (others : List PieceRow) → AllByRecursion (λ (other : PieceRow). other.session.0 ≢ row.session.0) others
    → IsApartFrom row others
symmetric row others h = each _ _ (λ other ne e. ne (sym e)) others h

-- the rows of one worker are apart from the first row of another
apart_from_first : (rows others : List PieceRow) (row : PieceRow) (later : List PieceRow) → others ≡ row ∷ later → Apart rows others
    → IsApartFrom row rows
apart_from_first rows others row later e h = symmetric row rows
    (each _ _ (λ other a. a.0) rows (subst (λ (xs : List PieceRow). Apart rows xs) e h))

done_present : (p : PresentValue) (row : PieceRow) (ws : List Worker) (n : ℕ) (k j : Worker) → slice_get ws n ≡ Some k
    → k.rows ≡ row ∷ j.rows
    → Own (rows_of ws) → after_lists (after_piece p row) (rows_of (slice_set ws n j)) ≡ after_lists p (rows_of ws)
done_present p row [] n k j e h own = absurd cc
done_present p row (x ∷ ws) zero k j e h own =
    let same : x ≡ k = cc in
    ap (λ (rows : List PieceRow). after_lists (after_pieces p rows) (rows_of ws)) (sym h ∙ ap (λ (y : Worker). y.rows) (sym same))
done_present p row (x ∷ ws) (suc n) k j e h own =
    let apart = apart_from_first x.rows k.rows row j.rows h
    (there (λ (y : Worker). Apart x.rows y.rows) ws n k e (by_workers (λ rows. Apart x.rows rows) ws own.0)) in
    ap (λ (q : PresentValue). after_lists q (rows_of (slice_set ws n j))) (row_first p row x.rows apart)
    ∙ done_present (after_pieces p x.rows) row ws n k j e h own.1

done_replies : (p : PresentValue) (row : PieceRow) (ws : List Worker) (n : ℕ) (k j : Worker) → slice_get ws n ≡ Some k
    → k.rows ≡ row ∷ j.rows
    → Own (rows_of ws) → j.replies ≡ k.replies ++ piece_refusal p row ∷ []
    → replies_from (after_piece p row) (slice_set ws n j) ≡ replies_from p ws
done_replies p row [] n k j e h own r = absurd cc
done_replies p row (x ∷ ws) zero k j e h own r =
    let same : x ≡ k = cc in
    let rows : row ∷ j.rows ≡ x.rows = sym h ∙ ap (λ (y : Worker). y.rows) (sym same) in
    let replies : j.replies ++ piece_replies (after_piece p row) j.rows ≡ x.replies ++ piece_replies p (row ∷ j.rows) =
    ap (λ (xs : List (Option Refusal)). xs ++ piece_replies (after_piece p row) j.rows) r
    ∙ append_assoc k.replies (piece_refusal p row ∷ []) (piece_replies (after_piece p row) j.rows)
    ∙ ap (λ (y : Worker). y.replies ++ piece_replies p (row ∷ j.rows)) (sym same) in
    (λ i. replies i ∷ replies_from (after_pieces p (row ∷ j.rows)) ws)
    ∙ (λ i. (x.replies ++ piece_replies p (rows i)) ∷ replies_from (after_pieces p (rows i)) ws)
done_replies p row (x ∷ ws) (suc n) k j e h own r =
    let apart = apart_from_first x.rows k.rows row j.rows h
    (there (λ (y : Worker). Apart x.rows y.rows) ws n k e (by_workers (λ rows. Apart x.rows rows) ws own.0)) in
    let same : piece_refusal p row ≡ piece_refusal (after_pieces p x.rows) row =
    refusal_same p (after_pieces p x.rows) row (sym (session_kept p row x.rows apart)) in
    let later = ap (λ (q : PresentValue). replies_from q (slice_set ws n j)) (row_first p row x.rows apart)
    ∙ done_replies (after_pieces p x.rows) row ws n k j e h own.1 (r ∙ ap (λ (o : Option Refusal). k.replies ++ o ∷ []) same) in
    λ i. (x.replies ++ replies_kept p row x.rows apart i) ∷ later i

-- rows that are left are apart from where all were
less_first : (row : PieceRow) (rows others : List PieceRow) → Apart (row ∷ rows) others → Apart rows others
less_first row rows others h = h.1

less_second : (row : PieceRow) (rows others : List PieceRow) → Apart rows (row ∷ others) → Apart rows others
less_second row rows others h = each _ _ (λ x a. a.1) rows h

done_own : (row : PieceRow) (ws : List Worker) (n : ℕ) (k j : Worker) → slice_get ws n ≡ Some k → k.rows ≡ row ∷ j.rows
    → Own (rows_of ws) → Own (rows_of (slice_set ws n j))
done_own row [] n k j e h own = tt
done_own row (x ∷ ws) zero k j e h own =
    let same : x ≡ k = cc in
    let rows : x.rows ≡ row ∷ j.rows = ap (λ (y : Worker). y.rows) same ∙ h in (
      each _ _ (λ others a. less_first row j.rows others (subst (λ (xs : List PieceRow). Apart xs others) rows a)) (rows_of ws) own.0,
      own.1,
    )
done_own row (x ∷ ws) (suc n) k j e h own =
    let by = by_workers (λ rows. Apart x.rows rows) ws own.0 in
    let here = there (λ (y : Worker). Apart x.rows y.rows) ws n k e by in (
      by_rows (λ rows. Apart x.rows rows) (slice_set ws n j) (put (λ (y : Worker). Apart x.rows y.rows) ws n j
          (less_second row x.rows j.rows (subst (λ (xs : List PieceRow). Apart x.rows xs) h here)) by),
      done_own row ws n k j e h own.1,
    )

stands_still : (p : PresentValue) (row : PieceRow) (rows : List PieceRow) (stage : Stage) → IsApartFrom row rows → Stands p rows stage
    → Stands (after_piece p row) rows stage
stands_still p row [] stage apart h = tt
stands_still p row (x ∷ rows) stage apart h =
    subst (λ (t : TailValue). StandsOn t x stage)
    (tail_same p (after_piece p row) x (sym (piece_elsewhere p row x.session (λ e. apart.0 (sym e))))) h

stands_first : (p : PresentValue) (rows : List PieceRow) → Stands p rows Begins
stands_first p [] = tt
stands_first p (row ∷ rows) = tt

others_stand : (p : PresentValue) (row : PieceRow) (ws : List Worker) → AllByRecursion (λ (k : Worker). IsApartFrom row k.rows) ws
    → AllStand p ws → AllStand (after_piece p row) ws
others_stand p row [] apart h = tt
others_stand p row (k ∷ ws) apart h = (stands_still p row k.rows k.stage apart.0 h.0, others_stand p row ws apart.1 h.1)

done_stand : (p : PresentValue) (row : PieceRow) (ws : List Worker) (n : ℕ) (k j : Worker) → slice_get ws n ≡ Some k → k.rows ≡ row ∷ j.rows
    → j.stage ≡ Begins → Own (rows_of ws) → AllStand p ws → AllStand (after_piece p row) (slice_set ws n j)
done_stand p row [] n k j e h begins own stand = tt
done_stand p row (x ∷ ws) zero k j e h begins own stand =
    let same : x ≡ k = cc in
    let rows : x.rows ≡ row ∷ j.rows = ap (λ (y : Worker). y.rows) same ∙ h in (
      subst (λ (s : Stage). Stands (after_piece p row) j.rows s) (sym begins) (stands_first (after_piece p row) j.rows),
      others_stand p row ws (each _ _ (λ (y : Worker) (a : Apart x.rows y.rows). first_apart y rows a) ws
          (by_workers (λ others. Apart x.rows others) ws own.0)) stand.1,
    )
  where
    first_apart : (y : Worker) → x.rows ≡ row ∷ j.rows → Apart x.rows y.rows → IsApartFrom row y.rows
    first_apart y is a = let b = subst (λ (xs : List PieceRow). Apart xs y.rows) is a in b.0
done_stand p row (x ∷ ws) (suc n) k j e h begins own stand =
    let apart = apart_from_first x.rows k.rows row j.rows h
    (there (λ (y : Worker). Apart x.rows y.rows) ws n k e (by_workers (λ rows. Apart x.rows rows) ws own.0)) in
    (stands_still p row x.rows x.stage apart stand.0, done_stand p row ws n k j e h begins own.1 stand.1)

keeps_done : (p : PresentValue) (lists : List (List PieceRow)) (w : World) (n : ℕ) (k : Worker) (q : PresentValue) (j : Worker)
    → slice_get w.workers n ≡ Some k → IsDone w.present k q j → Keeps p lists w
    → Keeps p lists (record { present = q; workers = slice_set w.workers n j })
keeps_done p lists w n k q j e done keeps =
    subst (λ (r : PresentValue). Keeps p lists (record { present = r; workers = slice_set w.workers n j })) (sym done.present) (record {
      present = done_present w.present done.row w.workers n k j e done.rows keeps.own ∙ keeps.present;
      replies = done_replies w.present done.row w.workers n k j e done.rows keeps.own done.replies ∙ keeps.replies;
      stand = done_stand w.present done.row w.workers n k j e done.rows done.begins keeps.own keeps.stand;
      own = done_own done.row w.workers n k j e done.rows keeps.own;
    })

-- ---- schedules

keeps_moved : (p : PresentValue) (lists : List (List PieceRow)) (w : World) (n : ℕ) (o : Option Worker) → slice_get w.workers n ≡ o
    → Keeps p lists w → Keeps p lists (moved w n o)
keeps_moved p lists w n None e keeps = keeps
keeps_moved p lists w n (Some k) e keeps =
    let stands = there (λ (x : Worker). Stands w.present x.rows x.stage) w.workers n k e keeps.stand in
    elim (steps_so w.present k k.rows k.stage refl refl stands) [
      | inl quiet ↦ keeps_quiet p lists w n k _ _ e quiet keeps
      | inr done ↦ keeps_done p lists w n k _ _ e done keeps
    ]

keeps_run : (p : PresentValue) (lists : List (List PieceRow)) (w : World) (schedule : List ℕ) → Keeps p lists w
    → Keeps p lists (run w schedule)
keeps_run p lists w [] keeps = keeps
keeps_run p lists w (n ∷ schedule) keeps =
    keeps_run p lists (next w n) schedule (keeps_moved p lists w n (slice_get w.workers n) refl keeps)

abbrev begun : List (List PieceRow) → List Worker
begun lists = map (λ rows. record { rows = rows; stage = Begins; replies = [] }) lists

begun_rows : (lists : List (List PieceRow)) → rows_of (begun lists) ≡ lists
begun_rows [] = refl
begun_rows (rows ∷ lists) = ap (λ (xs : List (List PieceRow)). rows ∷ xs) (begun_rows lists)

begun_replies : (p : PresentValue) (lists : List (List PieceRow)) → replies_from p (begun lists) ≡ list_replies p lists
begun_replies p [] = refl
begun_replies p (rows ∷ lists) =
    ap (λ (xs : List (List (Option Refusal))). piece_replies p rows ∷ xs) (begun_replies (after_pieces p rows) lists)

begun_stand : (p : PresentValue) (lists : List (List PieceRow)) → AllStand p (begun lists)
begun_stand p [] = tt
begun_stand p (rows ∷ lists) = (stands_first p rows, begun_stand p lists)

keeps_starting : (p : PresentValue) (lists : List (List PieceRow)) → HaveOwnSessions lists → Keeps p lists (starting p lists)
keeps_starting p lists h = record {
  present = ap (λ (xs : List (List PieceRow)). after_lists p xs) (begun_rows lists);
  replies = begun_replies p lists;
  stand = begun_stand p lists;
  own = subst Own (sym (begun_rows lists)) (own_sessions lists h);
}

-- ---- where all rows are done

last_present : (p : PresentValue) (ws : List Worker) → All (λ (k : Worker). k.rows ≡ []) ws → after_lists p (rows_of ws) ≡ p
last_present p [] h = refl
last_present p (k ∷ ws) h =
    ap (λ (rows : List PieceRow). after_lists (after_pieces p rows) (rows_of ws)) (All-head (λ (x : Worker). x.rows ≡ []) k ws h)
    ∙ last_present p ws (All-tail (λ (x : Worker). x.rows ≡ []) k ws h)

last_replies : (p : PresentValue) (ws : List Worker) → All (λ (k : Worker). k.rows ≡ []) ws
    → replies_from p ws ≡ map (λ (k : Worker). k.replies) ws
last_replies p [] h = refl
last_replies p (k ∷ ws) h =
    let none = All-head (λ (x : Worker). x.rows ≡ []) k ws h in
    (λ i. (k.replies ++ piece_replies p (none i)) ∷ replies_from (after_pieces p (none i)) ws)
    ∙ (λ i. append-nil k.replies i ∷ last_replies p ws (All-tail (λ (x : Worker). x.rows ≡ []) k ws h) i)

pub schedules_end : SchedulesEndAsOneThread
schedules_end p lists schedule own complete =
    let w = run (starting p lists) schedule in
    let keeps = keeps_run p lists (starting p lists) schedule (keeps_starting p lists own) in
    record {
      present = sym (last_present w.present w.workers complete) ∙ keeps.present;
      replies = sym (last_replies w.present w.workers complete) ∙ keeps.replies;
    }
