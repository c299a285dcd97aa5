-- What the rows of a job have made, row by row.
use Rattle.std.proofs.Common.{◌≡◌, ◌<◌, ◌+◌, ◌⊎◌, ℕ, Bool, true, false, cond, List, [], ◌∷◌, ◌++◌, Option, Some, None, Result, Ok, Err, inl, inr, refl, sym, ◌∙◌, ap, subst, length, take, get_or, option_to_list, MatchOption, MatchBool, IfOk, IfErr, arith}
use Rattle.std.specs.Prelude.{◌≢◌}
use Rattle.std.specs.List.{AllZip}
use Rattle.std.proofs.lemmas.List.{take_more, flat_map_more}
use Rattle.std.proofs.lemmas.List.Sums.{sum_by_push}
use Rattle.smq_kit.specs.declared.refusal.Refusal.{Refusal}
use Rattle.smq_kit.specs.declared.refusal.Refusal.TheVariants.{Memory, HistoryFull}
use Rattle.smq_frame.specs.Tail.{TailValue}
use Rattle.smq_present.specs.declared.present.edit.Edit.{Edit}
use Rattle.smq_present.specs.declared.present.batch.PieceRow.{PieceRow}
use Rattle.smq_present.specs.declared.present.edit.Edit.TheVariants.{Append}
use Rattle.smq_present.specs.present.Batch.{BatchValue, batch_of, prepare_refusal}
use Rattle.smq_desk.specs.declared.entry.Call.{Call}
use Rattle.smq_desk.specs.declared.entry.Reply.TheVariants.{Refused}
use Rattle.smq_desk.specs.declared.job.RowEnd.{RowEnd}
use Rattle.smq_desk.specs.declared.job.RowEnd.TheVariants as row_end
use Rattle.smq_desk.specs.Jobs.{Puts, IsFate, Made, was_refused}
use Rattle.smq_desk.specs.Seats.{SeatValue, call_of, with_call, is_own, IsRefused}
use Rattle.smq_desk.specs.within.Rows.{Calls, Commits, Comes, Ends}

-- ---- one row

unprepared : (row : PieceRow) (tail : TailValue) (octets : List ℕ) (made : Result BatchValue Refusal) (why : Refusal) → octets ≡ row.octets → made ≡ Err why
    → MatchOption (prepare_refusal tail octets) (IfErr made (λ refusal. refusal ≡ Memory)) (λ refusal. made ≡ Err refusal)
    → (why ≡ Memory) ⊎ IsFate row None
unprepared row tail octets made why same is h = by (prepare_refusal tail octets) refl h
  where
    by : (o : Option Refusal) → prepare_refusal tail octets ≡ o
        → MatchOption o (IfErr made (λ refusal. refusal ≡ Memory)) (λ refusal. made ≡ Err refusal) → (why ≡ Memory) ⊎ IsFate row None
    by None at k = inl (subst (λ (r : Result BatchValue Refusal). IfErr r (λ refusal. refusal ≡ Memory)) is k)
    by (Some refusal) at k = inr (tail, refusal, ap (prepare_refusal tail) (sym same) ∙ at)

-- what preparing a row's octets on a tail comes to
pub prepared : (row : PieceRow) (tail : TailValue) (octets : List ℕ) (made : Result BatchValue Refusal) → octets ≡ row.octets
    → IfOk made (λ batch. batch ≡ batch_of row.link row.session row.dir tail row.moment octets)
    → MatchOption (prepare_refusal tail octets) (IfErr made (λ refusal. refusal ≡ Memory)) (λ refusal. made ≡ Err refusal)
    → IfOk made (λ batch. Puts row (Append batch)) × IfErr made (λ refusal. (refusal ≡ Memory) ⊎ IsFate row None)
prepared row tail octets (Ok batch) same value refused = (
  (
    ap (λ (b : BatchValue). b.link) value,
    ap (λ (b : BatchValue). b.session) value,
    ap (λ (b : BatchValue). b.dir) value,
    ap (λ (b : BatchValue). b.moment) value,
    ap (λ (b : BatchValue). b.octets) value ∙ same,
  ),
  tt,
)
prepared row tail octets (Err why) same value refused = (tt, unprepared row tail octets (Err why) why same refl refused)

not_own : (refusal : Refusal) → refusal ≢ Memory → refusal ≢ HistoryFull → is_own refusal ≡ false
not_own Memory memory full = absurd (memory refl)
not_own HistoryFull memory full = absurd (full refl)
not_own _ memory full = refl

-- a refusal that isn't the desk's own is that of a call
pub refused_call : (old new : SeatValue) (edit : Edit) (refusal : Refusal) → refusal ≢ Memory → refusal ≢ HistoryFull → IsRefused old new edit refusal
    → Calls edit old new true
refused_call old new edit refusal memory full h =
    let call : (number : ℕ) × (new ≡ with_call old (call_of number edit (Refused refusal))) =
    subst (λ (b : Bool). MatchBool b (new ≡ old) ((number : ℕ) × (new ≡ with_call old (call_of number edit (Refused refusal))))) (not_own refusal memory full) h in
    record { number = call.0; reply = Refused refusal; added = call.1; is = refl }

-- the call of a row's edit is what the row comes to
pub comes_by_call : (row : PieceRow) (edit : Edit) (old new : SeatValue) (refused : Bool) → Puts row edit → Calls edit old new refused → Comes row old new refused
comes_by_call row edit old new refused puts call = record {
  fate = Some (call_of call.number edit call.reply);
  is = puts;
  added = call.added;
  counts = call.is;
}

-- a row comes to what the commit of its edit comes to
pub ends_by_commit : (row : PieceRow) (edit : Edit) (old new : SeatValue) (end : RowEnd) → Puts row edit → Commits edit old new end → Ends row old new end
ends_by_commit row edit old new row_end.Done puts h = comes_by_call row edit old new false puts h
ends_by_commit row edit old new row_end.Refused puts h = comes_by_call row edit old new true puts h
ends_by_commit row edit old new (row_end.Stopped why) puts h = h

-- ---- rows one after another

zip_push : (rows : List PieceRow) (fates : List (Option Call)) (row : PieceRow) (fate : Option Call) → AllZip IsFate rows fates → IsFate row fate
    → AllZip IsFate (rows ++ row ∷ []) (fates ++ fate ∷ [])
zip_push [] [] row fate h is = (is, tt)
zip_push [] (f ∷ fates) row fate h is = elim h [ ]
zip_push (r ∷ rows) [] row fate h is = elim h [ ]
zip_push (r ∷ rows) (f ∷ fates) row fate h is = (h.0, zip_push rows fates row fate h.1 is)

made_more : (rows : List PieceRow) (row : PieceRow) (old : List Call) (now new : SeatValue) (n : ℕ) (refused : Bool)
    → Comes row now new refused → Made rows old now.calls n → Made (rows ++ row ∷ []) old new.calls (n + cond refused 1 0)
made_more rows row old now new n refused c m = record {
  fates = m.fates ++ c.fate ∷ [];
  each = zip_push rows m.fates row c.fate m.each c.is;
  calls = ap (λ (s : SeatValue). s.calls) c.added
      ∙ (ap (λ (calls : List Call). calls ++ option_to_list c.fate) m.calls ∙ flat_map_more option_to_list old m.fates c.fate);
  count = omega (arith, m.count, sum_by_push (λ fate. cond (was_refused fate) 1 0) m.fates c.fate, ap {B = ℕ} (λ (b : Bool). cond b 1 0) c.counts);
}

-- the same at a place of a job's rows, by a worker that came to an end of the row
abbrev Counts : RowEnd → ℕ → ℕ → Type 0
Counts row_end.Done n k = k ≡ n
Counts row_end.Refused n k = k ≡ n + 1
Counts (row_end.Stopped why) n k = ⊥

come : (row : PieceRow) (now new : SeatValue) (end : RowEnd) (n k : ℕ) → Ends row now new end → Counts end n k
    → (refused : Bool) × Comes row now new refused × (k ≡ n + cond refused 1 0)
come row now new row_end.Done n k h is = (false, h, omega arith)
come row now new row_end.Refused n k h is = (true, h, is)
come row now new (row_end.Stopped why) n k h is = absurd is

pub made_at : (rows items : List PieceRow) (i : ℕ) (row : PieceRow) (old : List Call) (now new : SeatValue) (n k : ℕ) (end : RowEnd)
    → items ≡ rows → i < length items → row ≡ get_or items i row → Ends row now new end → Counts end n k
    → Made (take i rows) old now.calls n → Made (take (i + 1) rows) old new.calls k × (new.number ≡ now.number)
made_at rows items i row old now new n k end same lt at h is m =
    let place : take (i + 1) items ≡ take i items ++ row ∷ [] = take_more items i row lt ∙ ap (λ (r : PieceRow). take i items ++ r ∷ []) (sym at) in
    let here : take (i + 1) rows ≡ take i rows ++ row ∷ [] = subst (λ (rs : List PieceRow). take (i + 1) rs ≡ take i rs ++ row ∷ []) same place in
    let c = come row now new end n k h is in (
      rw (here, c.2) (made_more (take i rows) row old now new n c.0 c.1 m),
      ap (λ (s : SeatValue). s.number) c.1.added,
    )
