-- Rows that were loaded among other edits may as well be done last, one list after the other: each list's calls are edits of its
-- own sessions, so they are moved to the front, where they do what the rows do, and the rows then behind all other edits.
use Rattle.std.proofs.Common.{◌≡◌, ◌==◌, ℕ, Bool, true, false, cond, not, List, [], ◌∷◌, ◌++◌, filter, length, Option, Some, None, inl, inr, refl, sym, ap, ◌∙◌, subst, ne_eqb}
use Rattle.std.specs.Prelude.{◌||◌}
use Rattle.std.specs.List.{list_any, AllZip, AllByRecursion}
use Rattle.std.proofs.lemmas.Bool.{both_ways, eqb-true, cases_Bool}
use Rattle.std.proofs.lemmas.Grind.{fold-append}
use Rattle.std.proofs.lemmas.List.Elements.{recursion_from_All}
use Rattle.smq_kit.specs.declared.names.SessionId.{SessionId}
use Rattle.smq_kit.specs.declared.refusal.Refusal.{Refusal}
use Rattle.smq_kit.specs.declared.refusal.Refusal.TheVariants.{OutOfStep}
use Rattle.smq_kit.specs.Replies.{first_of, refused_if}
use Rattle.smq_frame.specs.Tail.{TailValue, tails_equal}
use Rattle.smq_frame.proofs.TailTests.{tails_equal-true}
use Rattle.smq_present.specs.declared.present.edit.Edit.{Edit}
use Rattle.smq_present.specs.declared.present.edit.Edit.TheVariants.{Append, Withdraw, SetForm, SetWindow, AddRoute, EndRoute, CorrectRoute, Advance}
use Rattle.smq_present.specs.declared.present.batch.PieceRow.{PieceRow}
use Rattle.smq_present.specs.declared.present.session.Session.{Session}
use Rattle.smq_present.specs.present.Batch.{prepare_refusal}
use Rattle.smq_present.specs.present.Present.{PresentValue, empty, session_of, octets_of}
use Rattle.smq_present.specs.present.Replies.{other_link, out_of_step, backward, reply}
use Rattle.smq_present.specs.present.Steps.{step_unless, step, steps, is_of_session}
use Rattle.smq_present.proofs.lemmas.present.Changes.{step-refused}
use Rattle.smq_desk.specs.declared.entry.Entry.{Entry}
use Rattle.smq_desk.specs.History.{reply_by, reply_to, edits_of, replay_from, replay, IsLegalFrom}
use Rattle.smq_desk.specs.Interleaving.{is_of_settings}
use Rattle.smq_desk.specs.Loads.{has_octets, IsEntryOf, is_of_rows, is_of_lists, AreLoadedBy, edits_beside, LoadsAreAsOfOneThread}
use Rattle.smq_desk.specs.Pieces.{batch_on, tail_for, piece_edit, piece_refusal, after_piece, after_pieces, after_lists}
use Rattle.smq_desk.proofs.FilterLemmas.{filter_within, filter_apart, filter_both, filter_all, map-filter}
use Rattle.smq_desk.proofs.Interleaved.{IsWhole, parted, exchanged, interleavings_agree}
use Rattle.smq_desk.proofs.PieceLemmas.{IsApartFrom, Apart, Own, own_sessions}
use Rattle.smq_desk.proofs.Scopes.{is_within, Agree, agree_back, legal_within, unchanged}

-- ---- a call, and its row

refused_later : (q : PresentValue) (edit : Edit) (o u : Option Refusal) (r : Refusal) → u ≡ Some r
    → step_unless (first_of (o ∷ u ∷ [])) q edit ≡ q
refused_later q edit None u r e = rw e refl
refused_later q edit (Some x) u r e = refl

first_of-one : (o : Option Refusal) → first_of (o ∷ []) ≡ o
first_of-one None = refl
first_of-one (Some r) = refl

link_refuses : (o : Option Session) (tail other : TailValue) (row : PieceRow)
    → other_link o (batch_on tail row) ≡ other_link o (batch_on other row)
link_refuses None tail other row = refl
link_refuses (Some s) tail other row = refl

-- the tail is the present one
on_the_tail : (q : PresentValue) (row : PieceRow) (tail : TailValue) → tail ≡ tail_for q row → prepare_refusal tail row.octets ≡ None
    → step q (Append (batch_on tail row)) ≡ after_piece q row
on_the_tail q row tail is none =
    let as_prepared : piece_refusal q row ≡ reply q (piece_edit q row) =
    ap (λ (o : Option Refusal). first_of (o ∷ reply q (piece_edit q row) ∷ []))
    (ap (λ (t : TailValue). prepare_refusal t row.octets) (sym is) ∙ none)
    ∙ first_of-one (reply q (piece_edit q row)) in
    ap (λ (t : TailValue). step q (Append (batch_on t row))) is
    ∙ ap (λ (o : Option Refusal). step_unless o q (piece_edit q row)) (sym as_prepared)

-- the session is of another link
of_other_link : (q : PresentValue) (row : PieceRow) (tail : TailValue) (r : Refusal)
    → other_link (session_of q row.session.0) (batch_on tail row) ≡ Some r
    → step q (Append (batch_on tail row)) ≡ after_piece q row
of_other_link q row tail r is =
    let b = batch_on tail row in
    let octets = octets_of q row.session.0 row.dir in
    let now = batch_on (tail_for q row) row in
    let call : reply q (Append b) ≡ Some r =
    ap (λ (o : Option Refusal). first_of (o ∷ out_of_step octets b ∷ backward octets b ∷ [])) is in
    let row_too : reply q (piece_edit q row) ≡ Some r =
    ap (λ (o : Option Refusal). first_of (o ∷ out_of_step octets now ∷ backward octets now ∷ []))
    (link_refuses (session_of q row.session.0) (tail_for q row) tail row ∙ is) in
    step-refused q (Append b) r call
    ∙ sym (refused_later q (piece_edit q row) (prepare_refusal (tail_for q row) row.octets) (reply q (piece_edit q row)) r row_too)

-- the reply to a batch that is of no other link and on another tail
stale : (q : PresentValue) (row : PieceRow) (tail : TailValue)
    → other_link (session_of q row.session.0) (batch_on tail row) ≡ None → tails_equal tail (tail_for q row) ≡ false
    → reply q (Append (batch_on tail row)) ≡ Some (OutOfStep (length (octets_of q row.session.0 row.dir)))
stale q row tail link other =
    let octets = octets_of q row.session.0 row.dir in
    let b = batch_on tail row in
    ap (λ (o : Option Refusal). first_of (o ∷ out_of_step octets b ∷ backward octets b ∷ [])) link
    ∙ ap (λ (t : Bool). first_of (refused_if (not t) (OutOfStep (length octets)) ∷ backward octets b ∷ [])) other

call_does : (q : PresentValue) (row : PieceRow) (e : Entry) → IsEntryOf row e → e.reply ≡ reply_to q e.edit
    → step q e.edit ≡ after_piece q row
call_does q row e call answer =
    ap (λ (edit : Edit). step q edit) call.appends
    ∙ by (other_link (session_of q row.session.0) (batch_on call.tail row)) (tails_equal call.tail (tail_for q row)) refl refl
  where
    by : (o : Option Refusal) (t : Bool) → other_link (session_of q row.session.0) (batch_on call.tail row) ≡ o
        → tails_equal call.tail (tail_for q row) ≡ t → step q (Append (batch_on call.tail row)) ≡ after_piece q row
    by (Some r) t link same = of_other_link q row call.tail r link
    by None true link same = on_the_tail q row call.tail (tails_equal-true call.tail (tail_for q row) same) call.prepared
    by None false link same = absurd (call.in_step (length (octets_of q row.session.0 row.dir))
        (answer ∙ ap (λ (edit : Edit). reply_to q edit) call.appends ∙ ap reply_by (stale q row call.tail link same)))

no_octets : (b : Bool) → not b ≡ false → b ≡ true
no_octets true e = refl
no_octets false e = absurd cc

empty_row : (q : PresentValue) (row : PieceRow) → has_octets row ≡ false → after_piece q row ≡ q
empty_row q row e =
    let none : (length row.octets == 0) ≡ true = no_octets (length row.octets == 0) e in
    rw none refl

calls_do : (rows : List PieceRow) (entries : List Entry) (q : PresentValue) → IsLegalFrom q entries
    → AllZip IsEntryOf (filter has_octets rows) entries → replay_from q entries ≡ after_pieces q rows
calls_do [] [] q legal calls = refl
calls_do [] (e ∷ entries) q legal calls = absurd calls
calls_do (row ∷ rows) entries q legal calls = by (has_octets row) entries refl legal calls (calls_do rows)
  where
    by : (b : Bool) (es : List Entry) → has_octets row ≡ b → IsLegalFrom q es
        → AllZip IsEntryOf (cond b (row ∷ filter has_octets rows) (filter has_octets rows)) es
        → ((fs : List Entry) (r : PresentValue) → IsLegalFrom r fs → AllZip IsEntryOf (filter has_octets rows) fs
        → replay_from r fs ≡ after_pieces r rows)
        → replay_from q es ≡ after_pieces q (row ∷ rows)
    by true [] is l c ih = absurd c
    by true (e ∷ es) is l c ih =
        let first = call_does q row e c.0 l.0 in
        ih es (step q e.edit) l.1 c.1 ∙ ap (λ (p : PresentValue). after_pieces p rows) first
    by false es is l c ih = ih es q l c ∙ ap (λ (p : PresentValue). after_pieces p rows) (sym (empty_row q row is))

-- ---- the edits of the sessions of rows

abbrev has : List PieceRow → SessionId → Bool
has rows s = list_any (λ row. s.0 == row.session.0) rows

none_of : (rows : List PieceRow) → list_any (λ (row : PieceRow). false) rows ≡ false
none_of [] = refl
none_of (row ∷ rows) = none_of rows

of_rows : (rows : List PieceRow) (e : Edit) → is_within (has rows) false e ≡ is_of_rows rows e
of_rows rows (Append b) = refl
of_rows rows (Withdraw s) = refl
of_rows rows (SetForm link response receipt) = sym (none_of rows)
of_rows rows (SetWindow link window) = sym (none_of rows)
of_rows rows (AddRoute prefix from route network) = sym (none_of rows)
of_rows rows (EndRoute prefix from until) = sym (none_of rows)
of_rows rows (CorrectRoute prefix from route network) = sym (none_of rows)
of_rows rows (Advance clock) = sym (none_of rows)

of_others : (rows : List PieceRow) (e : Edit) → is_within (λ s. not (has rows s)) true e ≡ not (is_of_rows rows e)
of_others rows (Append b) = refl
of_others rows (Withdraw s) = refl
of_others rows (SetForm link response receipt) = ap not (sym (none_of rows))
of_others rows (SetWindow link window) = ap not (sym (none_of rows))
of_others rows (AddRoute prefix from route network) = ap not (sym (none_of rows))
of_others rows (EndRoute prefix from until) = ap not (sym (none_of rows))
of_others rows (CorrectRoute prefix from route network) = ap not (sym (none_of rows))
of_others rows (Advance clock) = ap not (sym (none_of rows))

settings_not : (rows : List PieceRow) (e : Edit) → is_of_settings e ≡ true → is_of_rows rows e ≡ false
settings_not rows (Append b) h = absurd cc
settings_not rows (Withdraw s) h = absurd cc
settings_not rows (SetForm link response receipt) h = none_of rows
settings_not rows (SetWindow link window) h = none_of rows
settings_not rows (AddRoute prefix from route network) h = none_of rows
settings_not rows (EndRoute prefix from until) h = none_of rows
settings_not rows (CorrectRoute prefix from route network) h = none_of rows
settings_not rows (Advance clock) h = none_of rows

at_number : (rows : List PieceRow) (m n : ℕ) → (m == n) ≡ true
    → list_any (λ (row : PieceRow). m == row.session.0) rows ≡ list_any (λ (row : PieceRow). n == row.session.0) rows
at_number rows m n h = ap (λ (k : ℕ). list_any (λ (row : PieceRow). k == row.session.0) rows) (eqb-true m n h)

its_rows : (rows : List PieceRow) (s : SessionId) (e : Edit) → is_of_session s e ≡ true → is_of_rows rows e ≡ has rows s
its_rows rows s (Append b) h = at_number rows b.session.0 s.0 h
its_rows rows s (Withdraw t) h = at_number rows t.0 s.0 h
its_rows rows s (SetForm link response receipt) h = absurd cc
its_rows rows s (SetWindow link window) h = absurd cc
its_rows rows s (AddRoute prefix from route network) h = absurd cc
its_rows rows s (EndRoute prefix from until) h = absurd cc
its_rows rows s (CorrectRoute prefix from route network) h = absurd cc
its_rows rows s (Advance clock) h = absurd cc

is_whole : (rows : List PieceRow) → IsWhole (is_of_rows rows)
is_whole rows = record {
  sessions = λ s. elim (cases_Bool (has rows s)) [
    | inl holds ↦ inl (λ e h. its_rows rows s e h ∙ holds)
    | inr fails ↦ inr (λ e h. its_rows rows s e h ∙ fails)
  ];
  settings = settings_not rows;
}

-- ---- rows of other sessions

not_among : (n : ℕ) (row : PieceRow) (others : List PieceRow) → IsApartFrom row others → n ≡ row.session.0
    → list_any (λ (other : PieceRow). n == other.session.0) others ≡ false
not_among n row [] h e = refl
not_among n row (x ∷ others) h e =
    let first : (n == x.session.0) ≡ false = ne_eqb n x.session.0 (λ is. h.0 (sym e ∙ is)) in
    rw first (not_among n row others h.1 e)

apart_at : (rows others : List PieceRow) (n : ℕ) → Apart rows others → list_any (λ (other : PieceRow). n == other.session.0) others ≡ true
    → list_any (λ (row : PieceRow). n == row.session.0) rows ≡ false
apart_at [] others n h holds = refl
apart_at (row ∷ rows) others n h holds = by (n == row.session.0) refl (apart_at rows others n h.1 holds)
  where
    by : (b : Bool) → (n == row.session.0) ≡ b → list_any (λ (x : PieceRow). n == x.session.0) rows ≡ false
        → list_any (λ (x : PieceRow). n == x.session.0) (row ∷ rows) ≡ false
    by true is ih = absurd (both_ways _ (not_among n row others h.0 (eqb-true n row.session.0 is)) holds)
    by false is ih = rw is ih

apart_edits : (rows others : List PieceRow) (e : Edit) → Apart rows others → is_of_rows others e ≡ true → is_of_rows rows e ≡ false
apart_edits rows others (Append b) h holds = apart_at rows others b.session.0 h holds
apart_edits rows others (Withdraw s) h holds = apart_at rows others s.0 h holds
apart_edits rows others (SetForm link response receipt) h holds = none_of rows
apart_edits rows others (SetWindow link window) h holds = none_of rows
apart_edits rows others (AddRoute prefix from route network) h holds = none_of rows
apart_edits rows others (EndRoute prefix from until) h holds = none_of rows
apart_edits rows others (CorrectRoute prefix from route network) h holds = none_of rows
apart_edits rows others (Advance clock) h holds = none_of rows

still_loaded : (entries : List Entry) (rows others : List PieceRow) → Apart rows others → AreLoadedBy entries others
    → AreLoadedBy (filter (λ e. not (is_of_rows rows e.edit)) entries) others
still_loaded entries rows others apart loaded =
    let same = filter_within (λ (e : Entry). is_of_rows others e.edit) (λ (e : Entry). not (is_of_rows rows e.edit))
    (λ e h. ap not (apart_edits rows others e.edit apart h)) entries in
    subst (λ (es : List Entry). AllZip IsEntryOf (filter has_octets others) es) (sym same) loaded

all_still_loaded : (entries : List Entry) (rows : List PieceRow) (lists : List (List PieceRow))
    → AllByRecursion (λ others. Apart rows others) lists
    → AllByRecursion (AreLoadedBy entries) lists
    → AllByRecursion (AreLoadedBy (filter (λ e. not (is_of_rows rows e.edit)) entries)) lists
all_still_loaded entries rows [] apart h = tt
all_still_loaded entries rows (others ∷ lists) apart h =
    (still_loaded entries rows others apart.0 h.0, all_still_loaded entries rows lists apart.1 h.1)

-- ---- one list after the other

steps-append : (p : PresentValue) (one two : List Edit) → steps p (one ++ two) ≡ steps (steps p one) two
steps-append p one two = fold-append step p one two

-- the calls are made first
calls_first : (p : PresentValue) (entries : List Entry) (rows : List PieceRow)
    → replay_from p entries
    ≡ replay_from (replay_from p (filter (λ e. is_of_rows rows e.edit) entries)) (filter (λ e. not (is_of_rows rows e.edit)) entries)
calls_first p entries rows =
    let mine = λ (e : Edit). is_of_rows rows e in
    let rest = λ (e : Edit). not (is_of_rows rows e) in
    let edits = edits_of entries in
    (interleavings_agree p edits (filter mine edits ++ filter rest edits) (parted mine edits (is_whole rows))).left
    ∙ steps-append p (filter mine edits) (filter rest edits)
    ∙ (λ i. steps (steps p (sym (map-filter (λ (e : Entry). e.edit) mine entries) i))
    (sym (map-filter (λ (e : Entry). e.edit) rest entries) i))

neither : (a b : Bool) → not (a || b) ≡ cond (not a) (not b) false
neither true b = refl
neither false b = refl

not_first : (a b : Bool) → not (a || b) ≡ true → a ≡ false
not_first true b h = absurd cc
not_first false b h = refl

-- the edits beside the others' lists and beside this one
beside_both : (entries : List Entry) (rows : List PieceRow) (lists : List (List PieceRow))
    → edits_beside lists (filter (λ e. not (is_of_rows rows e.edit)) entries) ≡ edits_beside (rows ∷ lists) entries
beside_both entries rows lists =
    let beside = λ (e : Edit). not (is_of_lists lists e) in
    let rest = λ (e : Edit). not (is_of_rows rows e) in
    ap (λ (es : List Edit). filter beside es) (map-filter (λ (e : Entry). e.edit) rest entries)
    ∙ filter_both beside rest (λ e. not (is_of_lists (rows ∷ lists) e)) (λ e. neither (is_of_rows rows e) (is_of_lists lists e))
    (edits_of entries)

-- the calls do what the rows do after the edits beside
rows_last : (p : PresentValue) (entries : List Entry) (rows : List PieceRow) (lists : List (List PieceRow)) → IsLegalFrom p entries
    → AreLoadedBy entries rows
    → steps (replay_from p (filter (λ e. is_of_rows rows e.edit) entries)) (edits_beside (rows ∷ lists) entries)
    ≡ after_pieces (steps p (edits_beside (rows ∷ lists) entries)) rows
rows_last p entries rows lists legal loaded =
    let mine = λ (e : Edit). is_of_rows rows e in
    let beside = λ (e : Edit). not (is_of_lists (rows ∷ lists) e) in
    let edits = edits_of entries in
    let others = filter beside edits in
    let q = steps p others in
    let calls = filter (λ (e : Entry). is_of_rows rows e.edit) entries in
    let apart = λ (e : Edit) (h : beside e ≡ true). not_first (is_of_rows rows e) (is_of_lists lists e) h in
    let its_calls : edits_of calls ≡ filter mine edits = map-filter (λ (e : Entry). e.edit) mine entries in
    let turned : steps (steps p (filter mine edits)) others ≡ steps q (filter mine edits) =
    sym (steps-append p (filter mine edits) others)
    ∙ (interleavings_agree p (filter mine edits ++ others) (others ++ filter mine edits)
    (exchanged mine beside edits edits (is_whole rows) apart)).left
    ∙ steps-append p others (filter mine edits) in
    let none : filter mine others ≡ [] = filter_apart mine beside (λ e h. not_beside e h) edits in
    let same : Agree (has rows) false p q =
    agree_back (has rows) false q p (unchanged (has rows) false mine (of_rows rows) others p none) in
    let legal_there : IsLegalFrom q calls = legal_within (has rows) false mine (of_rows rows) entries p q same legal in
    ap (λ (es : List Edit). steps (steps p es) others) its_calls ∙ turned
    ∙ ap (λ (es : List Edit). steps q es) (sym its_calls)
    ∙ calls_do rows calls q legal_there loaded
  where
    not_beside : (e : Edit) → is_of_rows rows e ≡ true → not (is_of_lists (rows ∷ lists) e) ≡ false
    not_beside e h = rw h refl

one_by_one : (lists : List (List PieceRow)) (p : PresentValue) (entries : List Entry) → IsLegalFrom p entries → Own lists
    → AllByRecursion (AreLoadedBy entries) lists
    → replay_from p entries ≡ after_lists (steps p (edits_beside lists entries)) lists
one_by_one [] p entries legal own loaded =
    ap (λ (es : List Edit). steps p es) (sym (filter_all (λ (e : Edit). not (is_of_lists [] e)) (λ e. refl) (edits_of entries)))
one_by_one (rows ∷ lists) p entries legal own loaded =
    let calls = filter (λ (e : Entry). is_of_rows rows e.edit) entries in
    let rest = filter (λ (e : Entry). not (is_of_rows rows e.edit)) entries in
    let q = replay_from p calls in
    let none : filter (λ (e : Edit). not (is_of_rows rows e)) (edits_of calls) ≡ [] =
    ap (λ (es : List Edit). filter (λ (e : Edit). not (is_of_rows rows e)) es)
    (map-filter (λ (e : Entry). e.edit) (is_of_rows rows) entries)
    ∙ filter_apart (λ (e : Edit). not (is_of_rows rows e)) (is_of_rows rows) (λ e h. rest_not (is_of_rows rows e) h) (edits_of entries) in
    let same : Agree (λ s. not (has rows s)) true p q =
    agree_back (λ s. not (has rows s)) true q p
    (unchanged (λ s. not (has rows s)) true (λ e. not (is_of_rows rows e)) (of_others rows) (edits_of calls) p none) in
    let legal_rest : IsLegalFrom q rest =
    legal_within (λ s. not (has rows s)) true (λ e. not (is_of_rows rows e)) (of_others rows) entries p q same legal in
    calls_first p entries rows
    ∙ one_by_one lists q rest legal_rest own.1 (all_still_loaded entries rows lists own.0 loaded.1)
    ∙ ap (λ (es : List Edit). after_lists (steps q es) lists) (beside_both entries rows lists)
    ∙ ap (λ (r : PresentValue). after_lists r lists) (rows_last p entries rows lists legal loaded.0)
  where
    rest_not : (b : Bool) → not b ≡ true → b ≡ false
    rest_not true h = absurd cc
    rest_not false h = refl

-- ---- in a history

replay_from-append : (p : PresentValue) (one two : List Entry) → replay_from p (one ++ two) ≡ replay_from (replay_from p one) two
replay_from-append p [] two = refl
replay_from-append p (e ∷ one) two = replay_from-append (step p e.edit) one two

legal-first : (p : PresentValue) (one two : List Entry) → IsLegalFrom p (one ++ two) → IsLegalFrom p one
legal-first p [] two h = tt
legal-first p (e ∷ one) two h = (h.0, legal-first (step p e.edit) one two h.1)

legal-second : (p : PresentValue) (one two : List Entry) → IsLegalFrom p (one ++ two) → IsLegalFrom (replay_from p one) two
legal-second p [] two h = h
legal-second p (e ∷ one) two h = legal-second (step p e.edit) one two h.1

pub loads_are_as_of_one_thread : LoadsAreAsOfOneThread
loads_are_as_of_one_thread before middle after lists legal own loaded =
    let up_to = legal-first empty (before ++ middle) after legal in
    let left : replay (before ++ middle) ≡ after_lists (steps (replay before) (edits_beside lists middle)) lists =
    replay_from-append empty before middle
    ∙ one_by_one lists (replay before) middle (legal-second empty before middle up_to) (own_sessions lists own)
    (recursion_from_All (AreLoadedBy middle) lists loaded) in
    record {
      left = left;
      in_the_end = replay_from-append empty (before ++ middle) after ∙ ap (λ (r : PresentValue). replay_from r after) left;
    }
