-- The least of a number and those of calls, one call at a time.
use Rattle.std.proofs.Common.{◌≡◌, ℕ, ◌+◌, ◌<◌, ◌≤◌, inl, inr, List, [], refl, sym, subst, length, take, get_or, arith}
use Rattle.std.proofs.lemmas.List.Elements.{All-nil, All-weaker}
use Rattle.smq_desk.specs.declared.entry.Call.{Call}
use Rattle.smq_desk.specs.within.Least.{IsLeastOf, IsLesser}
use Rattle.smq_desk.proofs.FirstFaults.{one_more, but_one}

pub least-none : (number : ℕ) → IsLeastOf number [] number
least-none number = record { up_to = omega arith; each = All-nil (λ (c : Call). number ≤ c.number); there = λ h. refl }

-- a call with a lesser number
least-less : (number : ℕ) (calls : List Call) (i : ℕ) (c : Call) (least : ℕ) → i < length calls → c ≡ get_or calls i c → c.number < least
    → IsLeastOf number (take i calls) least → IsLeastOf number (take (i + 1) calls) c.number
least-less number calls i c least lt at less h =
    let up = h.up_to in
    record {
      up_to = omega arith;
      each = one_more (λ (d : Call). c.number ≤ d.number) calls i c lt at
          (All-weaker (λ (d : Call). least ≤ d.number) (λ (d : Call). c.number ≤ d.number) (λ (d : Call) (le : least ≤ d.number). omega arith) (take i calls) h.each) (omega arith);
      there = λ above. let self : c.number < c.number = (but_one (λ (d : Call). c.number < d.number) calls i c lt at above).1 in absurd (omega arith);
    }

-- another call
least-kept : (number : ℕ) (calls : List Call) (i : ℕ) (c : Call) (least : ℕ) → i < length calls → c ≡ get_or calls i c → least ≤ c.number
    → IsLeastOf number (take i calls) least → IsLeastOf number (take (i + 1) calls) least
least-kept number calls i c least lt at more h = record {
  up_to = h.up_to;
  each = one_more (λ (d : Call). least ≤ d.number) calls i c lt at h.each more;
  there = λ above. h.there (but_one (λ (d : Call). least < d.number) calls i c lt at above).0;
}

-- one call more
pub least-next : (number : ℕ) (calls : List Call) (i : ℕ) (c : Call) (least new : ℕ) → i < length calls → c ≡ get_or calls i c → IsLesser least c.number new
    → IsLeastOf number (take i calls) least → IsLeastOf number (take (i + 1) calls) new
least-next number calls i c least new lt at (inl kept) h = subst (λ (n : ℕ). IsLeastOf number (take (i + 1) calls) n) (sym kept.0) (least-kept number calls i c least lt at kept.1 h)
least-next number calls i c least new lt at (inr less) h = subst (λ (n : ℕ). IsLeastOf number (take (i + 1) calls) n) (sym less.0) (least-less number calls i c least lt at less.1 h)
