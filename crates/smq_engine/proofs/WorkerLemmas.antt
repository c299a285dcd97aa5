-- The pieces that workers have, and what becomes of their jobs.
use Rattle.std.proofs.Common.{◌≡◌, ◌≢◌, ◌+◌, ◌⊎◌, ℕ, zero, suc, Bool, List, [], ◌∷◌, ◌++◌, Option, Some, All, inl, inr, refl, sym, ap, ◌∙◌, subst, length, take, set, map, flat_map, option_to_list, append-nil, append_assoc, cond, arith, eq-eqb, ne_eqb}
use Rattle.std.specs.Prelude.{slice_get}
use Rattle.std.specs.List.{AllZip}
use Rattle.std.proofs.lemmas.List.{take_all, length-map}
use Rattle.std.proofs.lemmas.List.Concat.{flat_map-append}
use Rattle.std.proofs.lemmas.List.Elements.{All-nil, All-cons, All-weaker, length_all_zip}
use Rattle.std.proofs.lemmas.List.Sums.{sum_by-append}
use Rattle.std.proofs.lemmas.Option.{same_Some, slice_get_within, get_or_from_slice_get}
use Rattle.smq_present.specs.declared.present.edit.Edit.{Edit}
use Rattle.smq_present.specs.declared.present.batch.PieceRow.{PieceRow}
use Rattle.smq_desk.specs.declared.entry.Call.{Call}
use Rattle.smq_desk.specs.declared.job.LinkJob.{LinkJob}
use Rattle.smq_desk.specs.Jobs.{IsFate, IsFresh, Made, Worked, was_refused}
use Rattle.smq_desk.specs.Seats.{SeatValue}
use Rattle.smq_load.specs.declared.record.Row.{Row}
use Rattle.smq_load.specs.declared.record.Row.TheVariants.{Piece, Plain}
use Rattle.smq_engine.specs.Workers.{HasMade, HaveMadeRows, edits_of_calls, piece_of_worker, pieces_of_worker, plain_edit, plain_edits, worker_count, worker_of}
use Rattle.smq_engine.specs.within.Jobs.{AreJobsOf, AreReady, IsDone, IsJobOf, IsNew, IsRenewed}

-- ---- lists

-- what stands at a place of a list in which one element was set
written_at : {X : Type 0} (xs : List X) (i k : ℕ) (y z : X) → slice_get (set xs i y) k ≡ Some z
    → ((k ≡ i) × (z ≡ y)) ⊎ ((k ≢ i) × (slice_get xs k ≡ Some z))
written_at [] i k y z e = absurd cc
written_at (x ∷ xs) zero zero y z e = inl (refl, same_Some z y (sym e))
written_at (x ∷ xs) zero (suc k) y z e = inr ((λ (same : suc k ≡ zero). absurd (omega arith)), e)
written_at (x ∷ xs) (suc i) zero y z e = inr ((λ (same : zero ≡ suc i). absurd (omega arith)), e)
written_at (x ∷ xs) (suc i) (suc k) y z e =
    elim (written_at xs i k y z e) [
      | inl h ↦ inl (ap suc h.0, h.1)
      | inr h ↦ inr ((λ (same : suc k ≡ suc i). h.0 (omega arith)), h.1)
    ]

-- what stands at a place of the second of two lists that agree
zip_at : {A B : Type 0} (R : A → B → Type 0) (xs : List A) (ys : List B) → AllZip R xs ys
    → (k : ℕ) (y : B) → slice_get ys k ≡ Some y → (x : A) × (slice_get xs k ≡ Some x) × R x y
zip_at R [] [] h k y e = absurd cc
zip_at R [] (b ∷ ys) h k y e = elim h [ ]
zip_at R (x ∷ xs) [] h k y e = elim h [ ]
zip_at R (x ∷ xs) (b ∷ ys) h zero y e = (x, refl, subst (R x) (same_Some b y e) h.0)
zip_at R (x ∷ xs) (b ∷ ys) h (suc k) y e = zip_at R xs ys h.1 k y e

zip_append : {A B : Type 0} (R : A → B → Type 0) (xs us : List A) (ys vs : List B) → AllZip R xs ys → AllZip R us vs
    → AllZip R (xs ++ us) (ys ++ vs)
zip_append R [] us [] vs h k = k
zip_append R [] us (y ∷ ys) vs h k = elim h [ ]
zip_append R (x ∷ xs) us [] vs h k = elim h [ ]
zip_append R (x ∷ xs) us (y ∷ ys) vs h k = (h.0, zip_append R xs us ys vs h.1 k)

-- what is true of each element of the second of two lists that agree
all_of_zip : {A B : Type 0} (R : A → B → Type 0) (P : B → Type 0) → ((x : A) (y : B) → R x y → P y)
    → (xs : List A) (ys : List B) → AllZip R xs ys → All P ys
all_of_zip R P each [] [] h = All-nil P
all_of_zip R P each [] (y ∷ ys) h = elim h [ ]
all_of_zip R P each (x ∷ xs) [] h = elim h [ ]
all_of_zip R P each (x ∷ xs) (y ∷ ys) h = All-cons P y ys (each x y h.0) (all_of_zip R P each xs ys h.1)

pub all_at : {X : Type 0} (P : X → Type 0) (xs : List X) (k : ℕ) (x : X) → All P xs → slice_get xs k ≡ Some x → P x
all_at P xs k x h e = subst P (get_or_from_slice_get xs k x x e) (h k x (slice_get_within xs k x e))

mapped_at : {X Y : Type 0} (f : X → Y) (xs : List X) (k : ℕ) (y : Y) → slice_get (map f xs) k ≡ Some y
    → (x : X) × (slice_get xs k ≡ Some x) × (f x ≡ y)
mapped_at f [] k y e = absurd cc
mapped_at f (x ∷ xs) zero y e = (x, refl, same_Some (f x) y e)
mapped_at f (x ∷ xs) (suc k) y e = mapped_at f xs k y e

-- ---- what pieces made

-- pieces, and then more pieces
made_then : (rows more : List PieceRow) (calls later : List Call) (n m : ℕ) → Made rows [] calls n → Made more calls later m
    → Made (rows ++ more) [] later (n + m)
made_then rows more calls later n m h g = record {
  fates = h.fates ++ g.fates;
  each = zip_append IsFate rows more h.fates g.fates h.each g.each;
  calls = g.calls ∙ ap (λ (cs : List Call). cs ++ flat_map option_to_list g.fates) h.calls
      ∙ sym (flat_map-append option_to_list h.fates g.fates);
  count = omega (arith, h.count, g.count, sum_by-append (λ (fate : Option Call). cond (was_refused fate) 1 0) h.fates g.fates);
}

made_nothing : (seat : SeatValue) → seat.calls ≡ [] → HasMade [] seat
made_nothing seat none = (0, record { fates = []; each = tt; calls = none; count = refl })

-- one row more, among a worker's pieces
pieces_more : (worker : ℕ) (rows : List Row) (row : Row)
    → pieces_of_worker worker (rows ++ row ∷ []) ≡ pieces_of_worker worker rows ++ piece_of_worker worker row
pieces_more worker rows row =
    flat_map-append (piece_of_worker worker) rows (row ∷ [])
    ∙ ap (λ (ps : List PieceRow). pieces_of_worker worker rows ++ ps) (append-nil (piece_of_worker worker row))

plain_more : (rows : List Row) (row : Row) → plain_edits (rows ++ row ∷ []) ≡ plain_edits rows ++ plain_edit row
plain_more rows row =
    flat_map-append plain_edit rows (row ∷ []) ∙ ap (λ (es : List Edit). plain_edits rows ++ es) (append-nil (plain_edit row))

-- what the first seat has made of one row more
pub plain_taken : (edits now new : List Edit) (taken : List Row) (row : Row) → new ≡ now ++ plain_edit row → now ≡ edits ++ plain_edits taken
    → new ≡ edits ++ plain_edits (taken ++ row ∷ [])
plain_taken edits now new taken row last before =
    last ∙ ap (λ (es : List Edit). es ++ plain_edit row) before ∙ append_assoc edits (plain_edits taken) (plain_edit row)
    ∙ ap (λ (es : List Edit). edits ++ es) (sym (plain_more taken row))

own_piece : (worker : ℕ) (piece : PieceRow) → worker ≡ worker_of piece.session → piece_of_worker worker (Piece piece) ≡ piece ∷ []
own_piece worker piece own =
    ap (λ (b : Bool). cond b (piece ∷ []) []) (eq-eqb (worker_of piece.session) worker (sym own))

other_piece : (worker : ℕ) (piece : PieceRow) → worker ≢ worker_of piece.session → piece_of_worker worker (Piece piece) ≡ []
other_piece worker piece other =
    ap (λ (b : Bool). cond b (piece ∷ []) []) (ne_eqb (worker_of piece.session) worker (λ same. other (sym same)))

-- ---- jobs while rows are taken

pub new_ready : (jobs : List LinkJob) → length jobs ≡ worker_count → All IsNew jobs → AreReady jobs
new_ready jobs number new = record {
  number = number;
  fresh = All-weaker IsNew IsFresh (λ job h. h.fresh) jobs new;
}

pub new_of_nothing : (jobs : List LinkJob) → All IsNew jobs → AreJobsOf [] jobs
new_of_nothing jobs new worker job e =
    let h = all_at IsNew jobs worker job new e in
    record { first = []; made = made_nothing job.seat h.calls; others = sym h.done }

-- a job of pieces is one of equal pieces
same_pieces : (pieces others : List PieceRow) (job : LinkJob) → others ≡ pieces → IsJobOf pieces job → IsJobOf others job
same_pieces pieces others job same h = record { first = h.first; made = h.made; others = same ∙ h.others }

-- a piece is put into its worker's job
pub handed_over : (rows : List Row) (jobs : List LinkJob) (i : ℕ) (old new : LinkJob) (piece : PieceRow) → AreJobsOf rows jobs
    → slice_get jobs i ≡ Some old → i ≡ worker_of piece.session → new.seat ≡ old.seat → new.rows.items ≡ old.rows.items ++ piece ∷ []
    → AreJobsOf (rows ++ Piece piece ∷ []) (set jobs i new)
handed_over rows jobs i old new piece jobs_of at own seat added worker job e =
    elim (written_at jobs i worker new job e) [
      | inl h ↦
          let before : IsJobOf (pieces_of_worker worker rows) old = jobs_of worker old (ap (slice_get jobs) h.0 ∙ at) in
          let with_new : IsJobOf (pieces_of_worker worker (rows ++ Piece piece ∷ [])) new = record {
            first = before.first;
            made = subst (HasMade before.first) (sym seat) before.made;
            others = pieces_more worker rows (Piece piece)
                ∙ ap (λ (ps : List PieceRow). pieces_of_worker worker rows ++ ps) (own_piece worker piece (h.0 ∙ own))
                ∙ ap (λ (ps : List PieceRow). ps ++ piece ∷ []) before.others
                ∙ append_assoc before.first old.rows.items (piece ∷ [])
                ∙ ap (λ (ps : List PieceRow). before.first ++ ps) (sym added);
          } in
          subst (IsJobOf (pieces_of_worker worker (rows ++ Piece piece ∷ []))) (sym h.1) with_new
      | inr h ↦
          same_pieces (pieces_of_worker worker rows) (pieces_of_worker worker (rows ++ Piece piece ∷ [])) job
          (pieces_more worker rows (Piece piece)
          ∙ ap (λ (ps : List PieceRow). pieces_of_worker worker rows ++ ps) (other_piece worker piece (λ same. h.0 (same ∙ sym own)))
          ∙ append-nil (pieces_of_worker worker rows))
          (jobs_of worker job h.1)
    ]

-- a row that is no piece changes no job
pub passed_by : (rows : List Row) (edit : Edit) (jobs : List LinkJob) → AreJobsOf rows jobs → AreJobsOf (rows ++ Plain edit ∷ []) jobs
passed_by rows edit jobs jobs_of worker job e =
    same_pieces (pieces_of_worker worker rows) (pieces_of_worker worker (rows ++ Plain edit ∷ [])) job
    (pieces_more worker rows (Plain edit) ∙ append-nil (pieces_of_worker worker rows))
    (jobs_of worker job e)

-- a job that is done, and renewed
renewed_job : (pieces : List PieceRow) (job worked new : LinkJob) → IsJobOf pieces job → Worked job worked → IsRenewed worked new → IsJobOf pieces new
renewed_job pieces job worked new before w r =
    let n = before.made.0 in
    let all : take worked.next job.rows.items ≡ job.rows.items =
    take_all worked.next job.rows.items (let at_end : worked.next ≡ length job.rows.items = w.stop.0 r.ended in omega arith) in
    let made : Made job.rows.items job.seat.calls worked.seat.calls worked.refused =
    subst (λ (rows : List PieceRow). Made rows job.seat.calls worked.seat.calls worked.refused) all w.made in
    let whole : HasMade (before.first ++ job.rows.items) worked.seat =
    (n + worked.refused, made_then before.first job.rows.items job.seat.calls worked.seat.calls n worked.refused before.made.1 made) in
    record {
      first = pieces;
      made = subst (HasMade pieces) (sym r.seat) (subst (λ (ps : List PieceRow). HasMade ps worked.seat) (sym before.others) whole);
      others = sym (ap (λ (ps : List PieceRow). pieces ++ ps) r.done ∙ append-nil pieces);
    }

pub renewed_jobs : (rows : List Row) (jobs worked fresh : List LinkJob) → AllZip Worked jobs worked → AllZip IsRenewed worked fresh
    → AreJobsOf rows jobs → AreJobsOf rows fresh
renewed_jobs rows jobs worked fresh w r jobs_of worker new e =
    let ended = zip_at IsRenewed worked fresh r worker new e in
    let begun = zip_at Worked jobs worked w worker ended.0 ended.1 in
    renewed_job (pieces_of_worker worker rows) begun.0 ended.0 new (jobs_of worker begun.0 begun.1) begun.2 ended.2

pub renewed_ready : (jobs worked fresh : List LinkJob) → AllZip Worked jobs worked → AllZip IsRenewed worked fresh → AreReady jobs → AreReady fresh
renewed_ready jobs worked fresh w r ready = record {
  number = sym (length_all_zip IsRenewed worked fresh r) ∙ sym (length_all_zip Worked jobs worked w) ∙ ready.number;
  fresh = all_of_zip IsRenewed IsFresh (λ old new h. h.fresh) worked fresh r;
}

pub renewed_done : (worked fresh : List LinkJob) → AllZip IsRenewed worked fresh → All IsDone fresh
renewed_done worked fresh r = all_of_zip IsRenewed IsDone (λ old new h. h.done) worked fresh r

-- ---- the seats at the end

have_made : (rows : List Row) (first : SeatValue) (jobs : List LinkJob) → AreReady jobs → AreJobsOf rows jobs → All IsDone jobs
    → edits_of_calls first.calls ≡ plain_edits rows → HaveMadeRows rows (first ∷ map (λ (job : LinkJob). job.seat) jobs)
have_made rows first jobs ready jobs_of done plain = record {
  first = first;
  workers = map (λ (job : LinkJob). job.seat) jobs;
  all = refl;
  number = length-map jobs (λ (job : LinkJob). job.seat) ∙ ready.number;
  plain = plain;
  pieces = λ worker seat e.
      let at = mapped_at (λ (job : LinkJob). job.seat) jobs worker seat e in
      let job = jobs_of worker at.0 at.1 in
      let all : pieces_of_worker worker rows ≡ job.first =
      job.others ∙ ap (λ (ps : List PieceRow). job.first ++ ps) (all_at IsDone jobs worker at.0 done at.1) ∙ append-nil job.first in
      subst (HasMade (pieces_of_worker worker rows)) at.2 (subst (λ (ps : List PieceRow). HasMade ps at.0.seat) (sym all) job.made);
}

-- the same of rows that were taken in two parts
pub have_made_both : (rows more : List Row) (first last : SeatValue) (seats : List SeatValue) (jobs : List LinkJob) → first.calls ≡ []
    → (middle : SeatValue) → edits_of_calls middle.calls ≡ edits_of_calls first.calls ++ plain_edits rows
    → edits_of_calls last.calls ≡ edits_of_calls middle.calls ++ plain_edits more → AreReady jobs → AreJobsOf (rows ++ more) jobs
    → All IsDone jobs → seats ≡ last ∷ map (λ (job : LinkJob). job.seat) jobs → HaveMadeRows (rows ++ more) seats
have_made_both rows more first last seats jobs none middle plain more_plain ready jobs_of done are =
    let edits : edits_of_calls last.calls ≡ plain_edits (rows ++ more) =
    more_plain ∙ ap (λ (es : List Edit). es ++ plain_edits more) (plain ∙ ap (λ (cs : List Call). edits_of_calls cs ++ plain_edits rows) none)
    ∙ sym (flat_map-append plain_edit rows more) in
    subst (HaveMadeRows (rows ++ more)) (sym are) (have_made (rows ++ more) last jobs ready jobs_of done edits)
