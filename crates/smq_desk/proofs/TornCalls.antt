-- The first call of a seat that isn't a history's entry, one call at a time.
use Rattle.std.proofs.Common.{◌≡◌, ℕ, ◌+◌, ◌<◌, List, sym, length, take, get_or, arith, All, Option, Some, None, MatchOption}
use Rattle.std.proofs.lemmas.List.Elements.{All-weaker}
use Rattle.smq_desk.specs.declared.entry.Call.{Call}
use Rattle.smq_desk.specs.declared.entry.Entry.{Entry}
use Rattle.smq_desk.specs.Publishing.{HasCall}
use Rattle.smq_desk.specs.within.Least.{earlier}
use Rattle.smq_desk.proofs.FirstFaults.{First, first_of_both, one_more, but_one}

-- a call of this number is in the history
abbrev At : List Entry → ℕ → ℕ → Call → Type 0
At entries seat number call = call.number ≡ number → HasCall entries seat call

-- what is known of the calls so far
abbrev pub SoFar : List Entry → ℕ → List Call → Option ℕ → Type 0
SoFar entries seat calls found = First (All (HasCall entries seat) calls) (λ n. All (At entries seat n) calls) found

-- what is known of one call
of_one : (entries : List Entry) (seat : ℕ) (call : Call) (found : Option ℕ)
    → MatchOption found (HasCall entries seat call) (λ n. (n ≡ call.number) × (HasCall entries seat call → ⊥))
    → First (HasCall entries seat call) (λ n. At entries seat n call) found
of_one entries seat call None h = h
of_one entries seat call (Some n) h = record {
  below = λ m less same. let is = h.0 in absurd (omega (arith, is, same, less));
  here = λ there. h.1 (there (sym h.0));
}

pub next_call : (entries : List Entry) (seat : ℕ) (calls : List Call) (i : ℕ) (call : Call) (found one : Option ℕ) → i < length calls → call ≡ get_or calls i call
    → SoFar entries seat (take i calls) found
    → MatchOption one (HasCall entries seat call) (λ n. (n ≡ call.number) × (HasCall entries seat call → ⊥))
    → SoFar entries seat (take (i + 1) calls) (earlier found one)
next_call entries seat calls i call found one lt at f g =
    first_of_both _ _ _ (λ n. All (At entries seat n) (take i calls)) (λ n. At entries seat n call) (λ n. All (At entries seat n) (take (i + 1) calls))
    (record {
      whole = λ w v. one_more (HasCall entries seat) calls i call lt at w v;
      one = λ w n. All-weaker (HasCall entries seat) (At entries seat n) (λ (c : Call) h same. h) (take i calls) w;
      other = λ v n same. v;
      both = λ n a b. one_more (At entries seat n) calls i call lt at a b;
      each = λ n c. but_one (At entries seat n) calls i call lt at c;
    })
    found one f (of_one entries seat call one g)
