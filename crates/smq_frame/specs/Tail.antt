-- What is kept of a stream between its pieces, and what a piece adds.
use Rattle.std.specs.Prelude.{◌≡◌, ℕ, ◌+◌, ◌-◌, ◌≤◌, Bool, if◌then◌else◌, List, [], ◌++◌, length, Option, Some, None, is_some, IsSome, nat_eq, ◌==◌, ◌&&◌}
use Rattle.std.specs.Cmp.Lexicographic.{pointwise}
use Rattle.std.specs.Option.{option_eq}
use Rattle.smq_frame.specs.Framing.{IsWaiting, IsBad, is_bad, rest_of}

-- a tail: the number of octets taken so far, the last of them that are not framed yet, and the
-- offset of a bad length
pub record TailValue : Type 0 where
  pub offset : ℕ
  pub rest : List ℕ
  pub broken : Option ℕ

-- whether two tails are one
abbrev pub tails_equal : TailValue → TailValue → Bool
tails_equal t u =
    t.offset == u.offset && pointwise nat_eq t.rest u.rest && option_eq nat_eq t.broken u.broken

-- the rest waits and is among the octets taken; so is a bad length, and then there is no rest
pub record IsTail (t : TailValue) : Type 0 where
  pub within : length t.rest ≤ t.offset
  pub waits : IsWaiting t.rest
  pub none : IsSome t.broken → t.rest ≡ []
  pub before : (at : ℕ) → t.broken ≡ Some at → at + 4 ≤ t.offset

-- the tail where so many octets were taken and these are left after the frames
abbrev pub tail_with : ℕ → List ℕ → TailValue
tail_with offset rest =
    if is_bad rest
    then (record { offset = offset; rest = []; broken = Some (offset - length rest) })
    else (record { offset = offset; rest = rest; broken = None })

-- the tail of octets the first of which stands at this offset
unfoldable pub tail_from : ℕ → List ℕ → TailValue
tail_from start octets = tail_with (start + length octets) (rest_of octets)

-- the tail of a whole stream
abbrev pub tail_of : List ℕ → TailValue
tail_of octets = tail_from 0 octets

-- the tail after a piece
unfoldable pub tail_after : TailValue → List ℕ → TailValue
tail_after t piece =
    if is_some t.broken
    then (record { offset = t.offset + length piece; rest = []; broken = t.broken })
    else tail_from (t.offset - length t.rest) (t.rest ++ piece)

-- the tail of octets that are frames and this rest: it waits, or the stream is broken where the
-- rest begins
pub record TailFollows (octets rest : List ℕ) : Type 0 where
  pub waits :
      IsWaiting rest →
      tail_of octets ≡ (record { offset = length octets; rest = rest; broken = None })
  pub breaks :
      IsBad rest →
      tail_of octets
      ≡ (record { offset = length octets; rest = []; broken = Some (length octets - length rest) })
