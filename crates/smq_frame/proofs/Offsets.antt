-- The offsets of a stream's frames ascend.
use Rattle.std.proofs.Common.{◌≡◌, ℕ, ◌+◌, ◌≤◌, List, [], ◌∷◌, length, sym, subst, arith}
use Rattle.std.specs.Prelude.{All, AllPairs, map}
use Rattle.std.specs.List.{AllByRecursion}
use Rattle.std.proofs.lemmas.List.Elements.{All-nil, All-cons}
use Rattle.std.proofs.lemmas.List.Kept.{AllPairs-cons}
use Rattle.smq_frame.specs.Framing.{IsFrame, frames_of}
use Rattle.smq_frame.specs.Frame.{FrameValue}
use Rattle.smq_frame.specs.Stream.{Octet, values, stamped, stream_frames, EndsBefore}
use Rattle.smq_frame.proofs.Splits.{split_stands}

-- ---- for callers: strictly, by recursion, and of what is made of frames

-- the offsets of these ascend strictly from a bound on
abbrev pub Ascends : {X : Type 0} → (X → ℕ) → ℕ → List X → Type 0
Ascends offset_of low [] = Unit {0}
Ascends offset_of low (x ∷ xs) = (low ≤ offset_of x) × Ascends offset_of (offset_of x + 1) xs

-- what is made of each keeps its offset
pub ascends-map : {X Y : Type 0} (offset_of : X → ℕ) (offset_in : Y → ℕ) (f : X → Y) → ((x : X) → offset_in (f x) ≡ offset_of x)
    → (low : ℕ) (xs : List X) → Ascends offset_of low xs → Ascends offset_in low (map f xs)
ascends-map offset_of offset_in f same low [] h = tt
ascends-map offset_of offset_in f same low (x ∷ xs) h = (
  subst (λ n. low ≤ n) (sym (same x)) h.0,
  subst (λ n. Ascends offset_in (n + 1) (map f xs)) (sym (same x)) (ascends-map offset_of offset_in f same (offset_of x + 1) xs h.1),
)

pub stamped-ascends : (stream : List Octet) (low offset : ℕ) (frames : List (List ℕ)) → low ≤ offset → AllByRecursion IsFrame frames
    → Ascends (λ f. f.offset) low (stamped stream offset frames)
unfolding stamped
stamped-ascends stream low offset [] h each = tt
stamped-ascends stream low offset (f ∷ fs) h each =
    let good = each.0.good in
    let long : 16 ≤ length f = good.low in
    (h, stamped-ascends stream (offset + 1) (offset + length f) fs (omega arith) each.1)

-- the offsets of a stream's frames ascend strictly
pub stream_frames-ascend : (stream : List Octet) → Ascends (λ f. f.offset) 0 (stream_frames stream)
stream_frames-ascend stream = let split = split_stands (values stream) in
    stamped-ascends stream 0 0 (frames_of (values stream)) (omega arith) split.each

-- ---- each pair

begin-past : (stream : List Octet) (low offset : ℕ) (frames : List (List ℕ)) → low ≤ offset
    → All (λ (g : FrameValue). low ≤ g.offset) (stamped stream offset frames)
unfolding stamped
begin-past stream low offset [] h = All-nil (λ (g : FrameValue). low ≤ g.offset)
begin-past stream low offset (f ∷ fs) h =
    All-cons (λ (g : FrameValue). low ≤ g.offset) _ _ h (begin-past stream low (offset + length f) fs (omega arith))

stamped-follow : (stream : List Octet) (offset : ℕ) (frames : List (List ℕ)) → AllPairs EndsBefore (stamped stream offset frames)
unfolding stamped
stamped-follow stream offset [] = λ i j d before within. absurd (omega arith)
stamped-follow stream offset (f ∷ fs) = AllPairs-cons EndsBefore _ _ (begin-past stream (offset + length f) (offset + length f) fs
    (omega arith)) (stamped-follow stream (offset + length f) fs)

abbrev IsApart : FrameValue → FrameValue → Type 0
IsApart f g = f.offset + 16 ≤ g.offset

stamped-apart : (stream : List Octet) (offset : ℕ) (frames : List (List ℕ)) → AllByRecursion IsFrame frames
    → AllPairs IsApart (stamped stream offset frames)
unfolding stamped
stamped-apart stream offset [] each = λ i j d before within. absurd (omega arith)
stamped-apart stream offset (f ∷ fs) each =
    let good = each.0.good in
    let long : 16 ≤ length f = good.low in
    AllPairs-cons IsApart _ _ (begin-past stream (offset + 16) (offset + length f) fs (omega arith))
    (stamped-apart stream (offset + length f) fs each.1)

pub frames_follow : (stream : List Octet) → AllPairs EndsBefore (stream_frames stream)
frames_follow stream = stamped-follow stream 0 (frames_of (values stream))

pub frames_apart : (stream : List Octet) → AllPairs (λ f g. f.offset + 16 ≤ g.offset) (stream_frames stream)
frames_apart stream = let split = split_stands (values stream) in stamped-apart stream 0 (frames_of (values stream)) split.each
