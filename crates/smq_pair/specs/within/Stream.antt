-- The PDUs of a direction, as a list keeps them by offset, and how a log takes changes back.
use Rattle.std.specs.Prelude.{◌<◌, ◌≤◌, ℕ, if◌then◌else◌, List, [], ◌∷◌, ◌++◌, length, nat_lt, slice_set, take}
use Rattle.std.specs.List.{All}
use Rattle.std.specs.List.Sorted.{IsStrictlySortedBy}
use Rattle.std.specs.Map.{keys_of}
use Rattle.std.specs.Ordering.{nat_cmp}
use Rattle.smq_pair.specs.declared.paired_pdu.PairedPdu.{PairedPdu}

-- an entry at its offset
abbrev pub Held : Type 0
Held = ℕ × PairedPdu

-- what contracts see of them: those that are there, those that `undo` brings back, and for how many more there is room
pub record StreamValue : Type 0 where
  pub content : List Held
  pub settled : List Held
  pub room : ℕ

-- offsets ascend
abbrev pub Ascend : List Held → Type 0
Ascend es = IsStrictlySortedBy nat_cmp (keys_of es)

-- the entries before the changes of a log, the last of which is the newest: each has an index, and what stood there
abbrev pub undone : List (ℕ × Held) → List Held → List Held
undone [] es = es
undone (c ∷ cs) es = slice_set (undone cs es) c.0 c.1

-- a log, after what stands at an index, if that was settled
abbrev pub logged : ℕ → ℕ → Held → List (ℕ × Held) → List (ℕ × Held)
logged settled i e log = if nat_lt i settled then log ++ (i, e) ∷ [] else log

-- So many of the entries were settled, a log has the changes of these alone, and offsets ascend, now and before them.
pub record IsUndoable (es : List Held) (settled : ℕ) (log : List (ℕ × Held)) : Type 0 where
  pub ascend : Ascend es
  pub ascended : Ascend (undone log (take settled es))
  pub within : settled ≤ length es
  pub logged : All (λ c. c.0 < settled) log
