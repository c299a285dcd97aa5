-- What a call that can be refused comes to.
use Rattle.std.specs.Prelude.{◌≡◌, Bool, if◌then◌else◌, List, [], ◌∷◌, Option, Some, None, Result, Ok, Err}
use Rattle.smq_kit.specs.declared.refusal.Refusal.{Refusal}
use Rattle.smq_kit.specs.declared.refusal.Refusal.TheVariants.{Memory}

-- a refusal where a test holds
abbrev pub refused_if : Bool → Refusal → Option Refusal
refused_if test refusal = if test then Some refusal else None

-- the first refusal that holds
abbrev pub first_of : List (Option Refusal) → Option Refusal
first_of [] = None
first_of (Some refusal ∷ later) = Some refusal
first_of (None ∷ later) = first_of later

-- What has a refusal is refused so. Anything else is made, or refused for lack of memory. A refusal changes nothing.
abbrev pub IsReply : {T : Type 0} → Option Refusal → Result T Refusal → Type 0 → Type 0 → Type 0
IsReply None (Ok x) Made Unchanged = Made
IsReply None (Err e) Made Unchanged = (e ≡ Memory) × Unchanged
IsReply (Some refusal) (Ok x) Made Unchanged = ⊥
IsReply (Some refusal) (Err e) Made Unchanged = (e ≡ refusal) × Unchanged

-- The same of a call that takes no memory: anything else is made.
abbrev pub IsReplyInPlace : {T : Type 0} → Option Refusal → Result T Refusal → Type 0 → Type 0 → Type 0
IsReplyInPlace None (Ok x) Made Unchanged = Made
IsReplyInPlace None (Err e) Made Unchanged = ⊥
IsReplyInPlace (Some refusal) (Ok x) Made Unchanged = ⊥
IsReplyInPlace (Some refusal) (Err e) Made Unchanged = (e ≡ refusal) × Unchanged
