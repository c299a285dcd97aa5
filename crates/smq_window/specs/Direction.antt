-- What is kept of one direction of a connection.
use Rattle.std.specs.Prelude.{ℕ, ◌-◌, List, [], ◌++◌, length, take, drop, Option, Some, None}
use Rattle.smq_frame.specs.Tail.{TailValue, tail_after}
use Rattle.smq_window.specs.declared.direction.Direction.{Direction}

-- a direction before its first octet
abbrev pub empty_direction : Direction
empty_direction =
    record { last = 0; tail = record { offset = 0; rest = []; broken = None }; broken = None; written = None }

-- the four octets at an offset of a stream, among those that waited and a piece
abbrev pub octets_at : TailValue → List ℕ → ℕ → List ℕ
octets_at tail piece at = take 4 (drop (at - (tail.offset - length tail.rest)) (tail.rest ++ piece))

-- the four octets of a length that can't be, after a piece, where one is met
abbrev pub broken_by : Option (List ℕ) → Option ℕ → TailValue → List ℕ → Option ℕ → Option (List ℕ)
broken_by before (Some at) tail piece after = before
broken_by before None tail piece None = before
broken_by before None tail piece (Some at) = Some (octets_at tail piece at)

-- a direction after a piece
abbrev pub after_piece : Direction → ℕ → List ℕ → Direction
after_piece d moment piece =
    record {
      last = moment;
      tail = tail_after d.tail piece;
      broken = broken_by d.broken d.tail.broken d.tail piece (tail_after d.tail piece).broken;
      written = d.written;
    }
