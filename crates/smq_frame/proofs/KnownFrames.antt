-- The definitions computed on known octets.
use Rattle.std.proofs.Common.{refl}
use Rattle.smq_frame.specs.Framing.{stated_length, frames_of, frames_within, rest_of, rest_within}
use Rattle.smq_frame.specs.Known.{KnownFrames}
use Rattle.smq_frame.specs.Stream.{stamped, placed, frames_after}
use Rattle.smq_frame.specs.Tail.{tail_from, tail_after}

pub known_frames : KnownFrames
unfolding stated_length frames_of frames_within rest_of rest_within stamped placed frames_after tail_from tail_after
known_frames = record {
  shortest = refl;
  shortest_tail = refl;
  shortest_waits = refl;
  too_short = refl;
  weights = refl;
  longest = refl;
  longest_waits = refl;
  too_long = refl;
  three_wait = refl;
  two_frames = refl;
  three_left = refl;
  completed = refl;
  one_before = refl;
  all_after = refl;
  broken_there = refl;
  broken_for_good = refl;
  none_after = refl;
}
