-- What the definitions give for known numbers and segments.
use Rattle.std.proofs.Common.{◌≡◌, ℕ, ◌+◌, ◌^◌, ◌<◌, ◌≤◌, refl, inl, inr, arith, lit≤, lit<}
use Rattle.smq_capture.specs.Ended.{StandsAmong}
use Rattle.smq_capture.specs.Known.{KnowsConnections, KnowsNumbers, ten}
use Rattle.smq_capture.specs.Numbers.{AreNear, Reaches, number_behind}

by : (from sequence most n : ℕ) → n ≤ most → sequence ≡ number_behind from n → Reaches from sequence most
by from sequence most n p q = record { far = n; within = p; same = q }

not_near : AreNear 0 16777217 → ⊥
not_near (inl r) = omega (arith, r.within, r.same)
not_near (inr r) = omega (arith, r.within, r.same)

not_far : AreNear 500 500000000 → ⊥
not_far (inl r) = omega (arith, r.within, r.same)
not_far (inr r) = omega (arith, r.within, r.same)

pub known_numbers : KnowsNumbers
known_numbers = record {
  wraps = refl;
  same = by 7 7 0 0 (lit≤ tt) refl;
  ahead = by 0xFFFF_FFFF 1 2 2 (lit≤ tt) refl;
  no_further = λ r. omega (arith, r.within, r.same);
  no_back = λ r. omega (arith, r.within, r.same);
  near = inr (by 0 16777216 16777216 16777216 (lit≤ tt) refl);
  near_back = inl (by 0 16777216 16777216 16777216 (lit≤ tt) refl);
  far = not_near;
}

among : (sequence length n : ℕ) → n < 2 ^ 32 → number_behind sequence 1 ≡ number_behind 100 n → n + length ≤ 12
    → StandsAmong ten sequence length
among sequence length n p q r = record { far = n; near = p; same = q; within = r }

pub known_connections : KnowsConnections
known_connections = record {
  acknowledged = (by 110 110 16777216 0 (lit≤ tt) refl, inl (by 500 500 16777216 0 (lit≤ tt) refl));
  next = (by 110 113 16777216 3 (lit≤ tt) refl, inr (by 500 520 16777216 20 (lit≤ tt) refl));
  less = λ r. let w = r.0.within in let s = r.0.same in omega (arith, w, s);
  other = λ r. not_far r.1;
  answers = by 100 100 0 0 (lit≤ tt) refl;
  octets = by 100 102 2 2 (lit≤ tt) refl;
  no_octet = λ r. omega (arith, r.within, r.same);
  not_yet = λ r. omega (arith, r.within, r.same);
  confirmed = (by 100 100 16777216 0 (lit≤ tt) refl, by 500 500 16777216 0 (lit≤ tt) refl);
  unconfirmed = λ r. let w = r.1.within in let s = r.1.same in omega (arith, w, s);
  syn = refl;
  no_syn = λ e. omega (arith, e);
  probe = among 99 1 0 (lit< tt) refl (lit≤ tt);
  fin = among 110 0 11 (lit< tt) refl (lit≤ tt);
  behind_fin = λ r. omega (arith, r.near, r.same, r.within);
  before = λ r. omega (arith, r.near, r.same, r.within);
  aside = record { missing = lit< tt; had = lit< tt };
  no_gap = λ r. omega (arith, r.missing);
  not_had = λ r. omega (arith, r.had);
  ended = (refl, refl);
  waits = λ r. let e = r.1 in absurd cc;
  no_fin = λ r. let e = r.0 in absurd cc;
  first = refl;
  alone = refl;
}
