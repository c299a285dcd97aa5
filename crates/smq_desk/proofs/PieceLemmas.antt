-- A row reads and changes its session alone, so that rows of different sessions may be done in either order.
use Rattle.std.proofs.Common.{◌≡◌, ◌≢◌, ℕ, suc, List, [], ◌∷◌, Option, inl, inr, refl, sym, ap, ◌∙◌, subst, arith, All, AllPairs}
use Rattle.std.specs.List.{AllByRecursion}
use Rattle.std.proofs.lemmas.Bool.{cases_eq}
use Rattle.std.proofs.lemmas.List.Elements.{recursion_from_All}
use Rattle.smq_kit.specs.declared.names.SessionId.{SessionId}
use Rattle.smq_kit.specs.declared.refusal.Refusal.{Refusal}
use Rattle.smq_kit.specs.Replies.{first_of}
use Rattle.smq_frame.specs.Stream.{values}
use Rattle.smq_frame.specs.Tail.{tail_of}
use Rattle.smq_present.specs.declared.present.edit.Edit.TheVariants.{Append}
use Rattle.smq_present.specs.declared.present.batch.PieceRow.{PieceRow}
use Rattle.smq_present.specs.declared.present.session.Session.{Session}
use Rattle.smq_present.specs.present.Batch.{prepare_refusal}
use Rattle.smq_present.specs.present.Present.{PresentValue, session_of, octets_in}
use Rattle.smq_present.specs.present.Replies.{append_refusals}
use Rattle.smq_present.specs.present.Steps.{step_unless}
use Rattle.smq_desk.specs.Pieces.{batch_on, tail_for, piece_refusal, after_piece, after_pieces, piece_replies, AreApart, HaveOwnSessions}
use Rattle.smq_desk.proofs.Scopes.{same_present, append-here, append-elsewhere, append-settings}

-- ---- what a row reads

pub tail_same : (p r : PresentValue) (row : PieceRow) → session_of p row.session.0 ≡ session_of r row.session.0
    → tail_for p row ≡ tail_for r row
tail_same p r row e = ap (λ (o : Option Session). tail_of (values (octets_in row.dir o))) e

-- what refuses a row, by the session that is there
abbrev refusal_at : PieceRow → Option Session → Option Refusal
refusal_at row o =
    let tail = tail_of (values (octets_in row.dir o)) in
    first_of (prepare_refusal tail row.octets ∷ first_of (append_refusals o (batch_on tail row)) ∷ [])

pub refusal_same : (p r : PresentValue) (row : PieceRow) → session_of p row.session.0 ≡ session_of r row.session.0
    → piece_refusal p row ≡ piece_refusal r row
refusal_same p r row e = ap (refusal_at row) e

-- ---- what it changes

pub piece_here : (p r : PresentValue) (row : PieceRow) → session_of p row.session.0 ≡ session_of r row.session.0
    → session_of (after_piece p row) row.session.0 ≡ session_of (after_piece r row) row.session.0
piece_here p r row e =
    append-here (piece_refusal p row) p r (batch_on (tail_for p row) row) e
    ∙ (λ i. session_of (step_unless (refusal_same p r row e i) r (Append (batch_on (tail_same p r row e i) row))) row.session.0)

pub piece_elsewhere : (p : PresentValue) (row : PieceRow) (s : SessionId) → s.0 ≢ row.session.0
    → session_of (after_piece p row) s.0 ≡ session_of p s.0
piece_elsewhere p row s ne = append-elsewhere (piece_refusal p row) p (batch_on (tail_for p row) row) s ne

piece_settings : (p : PresentValue) (row : PieceRow) → (after_piece p row).settings ≡ p.settings
piece_settings p row = append-settings (piece_refusal p row) p (batch_on (tail_for p row) row)

-- ---- two rows

two_at : (p : PresentValue) (one two : PieceRow) → one.session.0 ≢ two.session.0
    → session_of (after_piece (after_piece p one) two) two.session.0 ≡ session_of (after_piece (after_piece p two) one) two.session.0
two_at p one two ne =
    piece_here (after_piece p one) p two (piece_elsewhere p one two.session (λ e. ne (sym e)))
    ∙ sym (piece_elsewhere (after_piece p two) one two.session (λ e. ne (sym e)))

pub either_order : (p : PresentValue) (one two : PieceRow) → one.session.0 ≢ two.session.0
    → after_piece (after_piece p one) two ≡ after_piece (after_piece p two) one
either_order p one two ne =
    let first = after_piece (after_piece p one) two in
    let second = after_piece (after_piece p two) one in
    same_present first second
    (λ s. elim (cases_eq s.0 one.session.0) [
      | inl at ↦ subst (λ (n : ℕ). session_of first n ≡ session_of second n) (sym at) (sym (two_at p two one (λ e. ne (sym e))))
      | inr far ↦ elim (cases_eq s.0 two.session.0) [
        | inl at ↦ subst (λ (n : ℕ). session_of first n ≡ session_of second n) (sym at) (two_at p one two ne)
        | inr away ↦ piece_elsewhere (after_piece p one) two s away ∙ piece_elsewhere p one s far
            ∙ sym (piece_elsewhere (after_piece p two) one s far ∙ piece_elsewhere p two s away)
      ]
    ])
    (piece_settings (after_piece p one) two ∙ piece_settings p one
    ∙ sym (piece_settings (after_piece p two) one ∙ piece_settings p two))

-- ---- a row and a list of rows of other sessions

abbrev pub IsApartFrom : PieceRow → List PieceRow → Type 0
IsApartFrom row others = AllByRecursion (λ other. row.session.0 ≢ other.session.0) others

pub row_first : (p : PresentValue) (row : PieceRow) (rows : List PieceRow) → IsApartFrom row rows
    → after_pieces (after_piece p row) rows ≡ after_piece (after_pieces p rows) row
row_first p row [] h = refl
row_first p row (x ∷ rows) h =
    ap (λ (q : PresentValue). after_pieces q rows) (either_order p row x h.0) ∙ row_first (after_piece p x) row rows h.1

pub replies_kept : (p : PresentValue) (row : PieceRow) (rows : List PieceRow) → IsApartFrom row rows
    → piece_replies (after_piece p row) rows ≡ piece_replies p rows
replies_kept p row [] h = refl
replies_kept p row (x ∷ rows) h =
    let first = refusal_same (after_piece p row) p x (piece_elsewhere p row x.session (λ e. h.0 (sym e))) in
    let later = ap (λ (q : PresentValue). piece_replies q rows) (either_order p row x h.0) ∙ replies_kept (after_piece p x) row rows h.1 in
    λ i. first i ∷ later i

pub session_kept : (p : PresentValue) (row : PieceRow) (rows : List PieceRow) → IsApartFrom row rows
    → session_of (after_pieces p rows) row.session.0 ≡ session_of p row.session.0
session_kept p row [] h = refl
session_kept p row (x ∷ rows) h = session_kept (after_piece p x) row rows h.1 ∙ piece_elsewhere p x row.session h.0

-- ---- lists of rows that have their own sessions

abbrev pub Apart : List PieceRow → List PieceRow → Type 0
Apart rows others = AllByRecursion (λ row. IsApartFrom row others) rows

abbrev pub Own : List (List PieceRow) → Type 0
Own [] = Unit {0}
Own (rows ∷ lists) = AllByRecursion (λ others. Apart rows others) lists × Own lists

pub each : {X : Type 0} (P Q : X → Type 0) → ((x : X) → P x → Q x) → (xs : List X) → AllByRecursion P xs → AllByRecursion Q xs
each P Q f [] h = tt
each P Q f (x ∷ xs) h = (f x h.0, each P Q f xs h.1)

apart_ids : (row other : PieceRow) → row.session ≢ other.session → row.session.0 ≢ other.session.0
apart_ids row other ne e = ne (λ i. record { 0 = e i })

row_apart_from : (row : PieceRow) (others : List PieceRow) → All (λ (other : PieceRow). row.session ≢ other.session) others
    → IsApartFrom row others
row_apart_from row others h =
    each (λ (other : PieceRow). row.session ≢ other.session) (λ other. row.session.0 ≢ other.session.0) (apart_ids row) others
    (recursion_from_All (λ (other : PieceRow). row.session ≢ other.session) others h)

apart_from : (rows others : List PieceRow) → AreApart rows others → Apart rows others
apart_from rows others h =
    each (λ (row : PieceRow). All (λ (other : PieceRow). row.session ≢ other.session) others) (λ row. IsApartFrom row others)
    (λ row k. row_apart_from row others k) rows
    (recursion_from_All (λ (row : PieceRow). All (λ (other : PieceRow). row.session ≢ other.session) others) rows h)

pairs-head : {X : Type 0} (R : X → X → Type 0) (x : X) (xs : List X) → AllPairs R (x ∷ xs) → All (R x) xs
pairs-head R x xs h = λ k d l. h 0 (suc k) d (omega arith) (omega arith)

pairs-tail : {X : Type 0} (R : X → X → Type 0) (x : X) (xs : List X) → AllPairs R (x ∷ xs) → AllPairs R xs
pairs-tail R x xs h = λ i j d l m. h (suc i) (suc j) d (omega arith) (omega arith)

pub own_sessions : (lists : List (List PieceRow)) → HaveOwnSessions lists → Own lists
own_sessions [] h = tt
own_sessions (rows ∷ lists) h = (
  each (AreApart rows) (λ others. Apart rows others) (apart_from rows) lists
      (recursion_from_All (AreApart rows) lists (pairs-head AreApart rows lists h)),
  own_sessions lists (pairs-tail AreApart rows lists h),
)
