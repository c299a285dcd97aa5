-- Octets that are a beginning of the stream of pieces, as others come and some are let go.
use Rattle.std.proofs.Common.{◌≡◌, ℕ, zero, suc, ◌+◌, ◌-◌, ◌<◌, ◌≤◌, List, [], ◌∷◌, ◌++◌, length, take, refl, sym, ap, ◌∙◌, arith, inl, inr, length-take}
use Rattle.std.specs.Prelude.{slice_get, Option, Some, None}
use Rattle.std.specs.Option.{option_or}
use Rattle.std.proofs.lemmas.Bool.{cases_lt}
use Rattle.std.proofs.lemmas.Option.{none-some}
use Rattle.std.proofs.Math.Seq.{take-append_seam}
use Rattle.smq_reassembly.specs.declared.packet.Packet.{Packet}
use Rattle.smq_reassembly.specs.Octet.{Octet}
use Rattle.smq_reassembly.specs.Moment.{Start, before_first, given_after, last_after, later, moment_before}
use Rattle.smq_reassembly.specs.Piece.{Piece, first_octet, octet_in}
use Rattle.smq_reassembly.specs.State.{Follows, State}
use Rattle.smq_reassembly.proofs.Pieces.{first-push, octet-after, octet-before, octet-is, or-some}
use Rattle.smq_streams.specs.Calls.{IsBeginning, piece_before, pieces_before}

got : {X : Type 0} (xs : List X) (i : ℕ) → i < length xs → (x : X) × (slice_get xs i ≡ Some x)
got [] i h = absurd (omega arith)
got (x ∷ xs) zero h = (x, refl)
got (x ∷ xs) (suc i) h = let l : i < length xs = omega arith in got xs i l

get-take : {X : Type 0} (k : ℕ) (xs : List X) (i : ℕ) → i < k → slice_get (take k xs) i ≡ slice_get xs i
get-take zero xs i h = absurd (omega arith)
get-take (suc k) [] i h = refl
get-take (suc k) (x ∷ xs) zero h = refl
get-take (suc k) (x ∷ xs) (suc i) h = let l : i < k = omega arith in get-take k xs i l

-- pieces that have each octet of others
abbrev pub HaveAll : List Piece → List Piece → Type 0
HaveAll pieces more = (n : ℕ) (o : Octet) → first_octet pieces n ≡ Some o → first_octet more n ≡ Some o

-- a piece that comes changes no octet of those before
pub comes : (pieces : List Piece) (piece : Piece) → HaveAll pieces (pieces ++ piece ∷ [])
comes pieces piece n o h = first-push pieces piece n ∙ or-some (first_octet pieces n) (octet_in piece n) o h

pub widen : (pieces more : List Piece) (start : Start) (octets : List Octet) → HaveAll pieces more → IsBeginning pieces start octets
    → IsBeginning more start octets
widen pieces more start octets all b =
    record {
      text = b.text;
      each = λ n h. let g = got b.text n h in g.1 ∙ sym (all (start.place + n) g.0 (sym (b.each n h) ∙ g.1));
      moments = b.moments;
    }

given-take : (last : Packet) (k : ℕ) (os : List Octet) → given_after last (take k os) ≡ take k (given_after last os)
given-take last zero os = refl
given-take last (suc k) [] = refl
given-take last (suc k) (o ∷ os) =
    ap (λ (t : List Octet). (record o { packet = later last o.packet }) ∷ t) (given-take (later last o.packet) k os)

-- what was given, before what is held
pub of-follows : (pieces : List Piece) (start : Start) (given held : List Octet) (s : State) → Follows pieces start (given ++ held) s
    → IsBeginning pieces start given
of-follows pieces start given held s f =
    record {
      text = take (length given) f.text;
      each = λ n h.
          let few : n < length given = omega (arith, h, length-take (length given) f.text) in
          let within : n < length f.text = omega (arith, h, length-take (length given) f.text) in
          get-take (length given) f.text n few ∙ f.each n within;
      moments =
          sym (take-append_seam given held) ∙ ap (λ (os : List Octet). take (length given) os) f.moments
          ∙ sym (given-take (before_first start) (length given) f.text);
    }

-- the moment of the last octet that was given
pub last-moment : (last : Packet) (os : List Octet)
    → moment_before last.moment (given_after last os) (length (given_after last os)) ≡ (last_after last os).moment
last-moment last [] = refl
last-moment last (o ∷ os) = last-moment (later last o.packet) os

-- of no pieces nothing is given
pub none-of-none : (start : Start) (given : List Octet) (s : State) → Follows [] start given s → given ≡ []
none-of-none start given s f =
    elim (cases_lt 0 (length f.text)) [
      | inl some ↦ let g = got f.text 0 some in absurd (none-some g.0 (sym (f.each 0 some) ∙ g.1))
      | inr none ↦
          let is : f.text ≡ [] = empty f.text none in
          f.moments ∙ ap (λ (os : List Octet). given_after (before_first start) os) is
    ]
  where
    empty : (os : List Octet) → length os ≤ 0 → os ≡ []
    empty [] h = refl
    empty (o ∷ os) h = absurd (omega arith)

-- ---- what stands before a place

cut-low : (place n : ℕ) (p : Piece) → n < place → octet_in (piece_before place p) n ≡ octet_in p n
cut-low place n p h =
    elim (cases_lt n p.at) [
      | inl less ↦ octet-before (piece_before place p) n less ∙ sym (octet-before p n less)
      | inr more ↦
          let within : n - p.at < place - p.at = omega arith in
          octet-is (piece_before place p) n more ∙ get-take (place - p.at) p.octets (n - p.at) within ∙ sym (octet-is p n more)
    ]

cut-high : (place n : ℕ) (p : Piece) → place ≤ n → octet_in (piece_before place p) n ≡ None
cut-high place n p h =
    elim (cases_lt n p.at) [
      | inl less ↦ octet-before (piece_before place p) n less
      | inr more ↦ octet-after (piece_before place p) n (omega (arith, length-take (place - p.at) p.octets))
    ]

pub low : (place n : ℕ) (ps : List Piece) → n < place → first_octet (pieces_before place ps) n ≡ first_octet ps n
low place n [] h = refl
low place n (p ∷ ps) h =
    ap (λ (o : Option Octet). option_or o (first_octet (pieces_before place ps) n)) (cut-low place n p h)
    ∙ ap (λ (o : Option Octet). option_or (octet_in p n) o) (low place n ps h)

pub high : (place n : ℕ) (ps : List Piece) → place ≤ n → first_octet (pieces_before place ps) n ≡ None
high place n [] h = refl
high place n (p ∷ ps) h =
    ap (λ (o : Option Octet). option_or o (first_octet (pieces_before place ps) n)) (cut-high place n p h) ∙ high place n ps h

-- they have no octets but those of the pieces
pub cut-all : (place : ℕ) (ps : List Piece) → HaveAll (pieces_before place ps) ps
cut-all place ps n o h =
    elim (cases_lt n place) [
      | inl less ↦ sym (low place n ps less) ∙ h
      | inr more ↦ absurd (none-some o (sym (high place n ps more) ∙ h))
    ]

-- what waits is let go
pub let-go : (pieces : List Piece) (start : Start) (given : List Octet) (s : State) → Follows pieces start given s
    → Follows (pieces_before s.next pieces) start given (record s { waiting = [] })
let-go pieces start given s f =
    record {
      text = f.text;
      place = f.place;
      each = λ n h. f.each n h ∙ sym (low s.next (start.place + n) pieces (omega (arith, f.place, h)));
      moments = f.moments;
      last = f.last;
      waits = λ n h. sym (high s.next n pieces h);
    }
