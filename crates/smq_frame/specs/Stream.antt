-- Frames at their places in a stream of octets and moments.
use Rattle.std.specs.Prelude.{◌≡◌, ℕ, ◌+◌, ◌-◌, ◌≤◌, if◌then◌else◌, List, [], ◌∷◌, ◌++◌, length, map, take, drop, slice_index, slice_get, Some, is_some}
use Rattle.std.specs.List.{AllByRecursion}
use Rattle.smq_frame.specs.Framing.{AreOctets, frames_of}
use Rattle.smq_frame.specs.Tail.{TailValue, tail_of, tail_after}
use Rattle.smq_frame.specs.Frame.{FrameValue}

-- an octet and the moment with which it was handed in
pub record Octet : Type 0 where
  pub value : ℕ
  pub moment : ℕ

-- the octets of a stream without their moments
abbrev pub values : List Octet → List ℕ
values stream = map (λ o. o.value) stream

-- the moments of a stream's octets
abbrev pub moments : List Octet → List ℕ
moments stream = map (λ o. o.moment) stream

-- octets that were handed in at one moment
abbrev pub handed_in : ℕ → List ℕ → List Octet
handed_in moment octets = map (λ v. record { value = v; moment = moment }) octets

-- these frames one after the other from an offset on, each with the moment of its last octet
unfoldable pub stamped : List Octet → ℕ → List (List ℕ) → List FrameValue
stamped stream offset [] = []
stamped stream offset (f ∷ fs) =
    record {
      offset = offset;
      moment = slice_index (moments stream) (offset + length f - 1);
      octets = f;
    } ∷ stamped stream (offset + length f) fs

-- the frames of a stream
abbrev pub stream_frames : List Octet → List FrameValue
stream_frames stream = stamped stream 0 (frames_of (values stream))

-- a frame lies in a stream where its octets stand there at its offset, and its moment is that of
-- its last octet
pub record LiesIn (stream : List Octet) (frame : FrameValue) : Type 0 where
  pub octets : take (length frame.octets) (drop frame.offset (values stream)) ≡ frame.octets
  pub moment :
      slice_get (moments stream) (frame.offset + length frame.octets - 1) ≡ Some frame.moment

-- each frame of a stream lies in it
abbrev pub FramesLie : List Octet → Type 0
FramesLie stream = AllByRecursion (LiesIn stream) (stream_frames stream)

-- a frame ends where another begins, or before
abbrev pub EndsBefore : FrameValue → FrameValue → Type 0
EndsBefore f g = f.offset + length f.octets ≤ g.offset

-- the numbers of each frame of a stream are octets
abbrev pub FramesAreOctets : List Octet → Type 0
FramesAreOctets stream = AllByRecursion (λ f. AreOctets f.octets) (stream_frames stream)

-- these frames one after the other from an offset on, all with one moment
unfoldable pub placed : ℕ → ℕ → List (List ℕ) → List FrameValue
placed moment offset [] = []
placed moment offset (f ∷ fs) =
    record { offset = offset; moment = moment; octets = f } ∷ placed moment (offset + length f) fs

-- the frames that a piece completes
unfoldable pub frames_after : TailValue → ℕ → List ℕ → List FrameValue
frames_after t moment piece =
    if is_some t.broken
    then []
    else placed moment (t.offset - length t.rest) (frames_of (t.rest ++ piece))

-- a piece puts its frames after the stream's earlier ones, and its tail is the stream's
pub record StreamGrows (stream : List Octet) (moment : ℕ) (piece : List ℕ) : Type 0 where
  pub frames :
      stream_frames (stream ++ handed_in moment piece)
      ≡ stream_frames stream ++ frames_after (tail_of (values stream)) moment piece
  pub tail :
      tail_of (values (stream ++ handed_in moment piece))
      ≡ tail_after (tail_of (values stream)) piece

-- two pieces at one moment are the same as one
pub record PiecesJoin (t : TailValue) (moment : ℕ) (first second : List ℕ) : Type 0 where
  pub frames :
      frames_after t moment (first ++ second)
      ≡ frames_after t moment first ++ frames_after (tail_after t first) moment second
  pub tail : tail_after t (first ++ second) ≡ tail_after (tail_after t first) second
