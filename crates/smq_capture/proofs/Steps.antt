-- A number is so far ahead of another as what is left of it, modulo 2^32.
use Rattle.std.proofs.Common.{◌≡◌, ℕ, ◌+◌, ◌-◌, ◌%◌, ◌^◌, ◌<◌, ◌≤◌, ◌∙◌, sym, arith}
use Rattle.smq_capture.specs.declared.ended.Span.{Span}
use Rattle.smq_capture.specs.Ended.{StandsAmong}
use Rattle.smq_capture.specs.Numbers.{Reaches, number_behind}

-- by how many steps a number is ahead of another
abbrev pub left : ℕ → ℕ → ℕ
left from sequence = (sequence + (4294967296 - from)) % 4294967296

same_behind : (from sequence : ℕ) → from < 2 ^ 32 → sequence < 2 ^ 32 → sequence ≡ number_behind from (left from sequence)
same_behind from sequence p q = omega arith

least_behind : (from sequence n : ℕ) → from < 2 ^ 32 → sequence ≡ number_behind from n → left from sequence ≤ n
least_behind from sequence n p e = omega arith

pub to_reaches : (from sequence most : ℕ) → from < 2 ^ 32 → sequence < 2 ^ 32 → left from sequence ≤ most → Reaches from sequence most
to_reaches from sequence most p q h = record { far = left from sequence; within = h; same = same_behind from sequence p q }

pub of_reaches : (from sequence most : ℕ) → from < 2 ^ 32 → Reaches from sequence most → left from sequence ≤ most
of_reaches from sequence most p r =
    let least = least_behind from sequence r.far p r.same in let within = r.within in omega arith

pub to_among : (span : Span) (sequence length second : ℕ) → span.first < 2 ^ 32 → second < 2 ^ 32 → second ≡ number_behind sequence 1
    → left span.first second + length ≤ span.length + 2 → StandsAmong span sequence length
to_among span sequence length second p q e h = record {
  far = left span.first second;
  near = omega arith;
  same = sym e ∙ same_behind span.first second p q;
  within = h;
}

pub of_among : (span : Span) (sequence length second : ℕ) → span.first < 2 ^ 32 → second ≡ number_behind sequence 1
    → StandsAmong span sequence length → left span.first second + length ≤ span.length + 2
of_among span sequence length second p e r =
    let least = least_behind span.first second r.far p (e ∙ r.same) in let within = r.within in omega arith
