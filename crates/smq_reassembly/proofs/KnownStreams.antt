-- What the definitions give for some known segments.
use Rattle.std.proofs.Common.{◌≡◌, ℕ, zero, suc, ◌+◌, ◌<◌, ◌≤◌, List, [], ◌∷◌, ◌++◌, length, refl, sym, ap, ◌∙◌, arith, inl, inr, true, false, lit<, lit≤}
use Rattle.std.specs.Prelude.{slice_get, Option, Some, None}
use Rattle.std.proofs.lemmas.Bool.{cases_lt}
use Rattle.std.proofs.lemmas.Option.{none-some}
use Rattle.smq_reassembly.specs.Octet.{Octet, octets_of}
use Rattle.smq_reassembly.specs.Piece.{Piece, first_octet}
use Rattle.smq_reassembly.specs.Stream.{IsStream}
use Rattle.smq_reassembly.specs.Known.{KnownStreams, packet, front, behind}

-- the first copies at so many places
abbrev firsts : List Piece → ℕ → List Octet → Type 0
firsts pieces place [] = first_octet pieces place ≡ None
firsts pieces place (o ∷ os) = (first_octet pieces place ≡ Some o) × firsts pieces (place + 1) os

each : (pieces : List Piece) (place : ℕ) (text : List Octet) → firsts pieces place text → (n : ℕ) → n < length text
    → slice_get text n ≡ first_octet pieces (place + n)
each pieces place [] f n h = absurd (omega arith)
each pieces place (o ∷ os) f zero h = let e : place + 0 ≡ place = omega arith in rw e (sym f.0)
each pieces place (o ∷ os) f (suc n) h =
    let e : place + 1 + n ≡ place + suc n = omega arith in
    each pieces (place + 1) os f.1 n (omega arith) ∙ ap (λ (k : ℕ). first_octet pieces k) e

ends : (pieces : List Piece) (place : ℕ) (text : List Octet) → firsts pieces place text → first_octet pieces (place + length text) ≡ None
ends pieces place [] f = let e : place + 0 ≡ place = omega arith in rw e f
ends pieces place (o ∷ os) f =
    let e : place + 1 + length os ≡ place + suc (length os) = omega arith in
    ap (λ (k : ℕ). first_octet pieces k) (sym e) ∙ ends pieces (place + 1) os f.1

stream : (pieces : List Piece) (place : ℕ) (text : List Octet) → firsts pieces place text → IsStream pieces place text
stream pieces place text f = record { each = each pieces place text f; ends = ends pieces place text f }

none_between : (n : ℕ) → 3 ≤ n → n < 5 → first_octet (front ∷ behind ∷ []) n ≡ None
none_between n low high =
    elim (cases_lt n 4) [
      | inl h ↦ let e : n ≡ 3 = omega arith in rw e refl
      | inr h ↦ let e : n ≡ 4 = omega arith in rw e refl
    ]

-- the value of an octet, or 0
value_or : Option Octet → ℕ
value_or None = 0
value_or (Some o) = o.value

pub known_streams : KnownStreams
unfolding value_or
known_streams = record {
  before_gap = record {
    text = octets_of (packet 1 100) true (10 ∷ 11 ∷ 12 ∷ []);
    stream = stream _ _ _ (refl, (refl, (refl, refl)));
    moments = refl;
  };
  gap = record { order = lit≤ tt; none = none_between; some = refl };
  filled = record {
    text = octets_of (packet 1 100) true (10 ∷ 11 ∷ 12 ∷ []) ++ octets_of (packet 3 150) false (13 ∷ 14 ∷ [])
        ++ octets_of (packet 2 200) true (15 ∷ 16 ∷ []);
    stream = stream _ _ _ (refl, (refl, (refl, (refl, (refl, (refl, (refl, refl)))))));
    moments = refl;
  };
  set_back = record {
    text = octets_of (packet 1 100) true (10 ∷ 11 ∷ 12 ∷ []) ++ octets_of (packet 3 150) false (13 ∷ 14 ∷ [])
        ++ octets_of (packet 2 200) true (15 ∷ 16 ∷ []) ++ octets_of (packet 4 90) true (17 ∷ []);
    stream = stream _ _ _ (refl, (refl, (refl, (refl, (refl, (refl, (refl, (refl, refl))))))));
    moments = refl;
  };
  anew = record {
    text = octets_of (packet 2 200) true (15 ∷ 16 ∷ []);
    stream = stream _ _ _ (refl, (refl, refl));
    moments = refl;
  };
  no_last_copy = λ s. let e = s.each 2 (lit< tt) in let v : 92 ≡ 12 = ap value_or e in omega arith;
  no_less = λ s. none-some _ (sym s.ends);
  wraps = record { near = lit< tt; same = refl };
  beyond = record { near = lit< tt; same = refl };
  before = record { some = lit< tt; near = lit≤ tt; same = refl };
  half = record { some = lit< tt; near = lit≤ tt; same = refl };
  not_half = λ p. let n = p.near in omega arith;
  early = refl;
  ahead = refl;
  window = λ h. omega arith;
  beyond_window = lit< tt;
  last_place = λ h. omega arith;
  beyond_places = lit< tt;
  touch = (lit≤ tt, lit< tt, (lit≤ tt, lit< tt, tt));
  share = λ h. let low = h.2.0 in omega arith;
  count = refl;
}
