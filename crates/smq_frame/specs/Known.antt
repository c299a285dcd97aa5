-- What the definitions give for some known octets.
use Rattle.std.specs.Prelude.{◌≡◌, ℕ, List, [], ◌∷◌, ◌++◌, take, drop, Some, None}
use Rattle.smq_frame.specs.Framing.{stated_length, frames_of, rest_of}
use Rattle.smq_frame.specs.Stream.{Octet, handed_in, values, stream_frames, frames_after}
use Rattle.smq_frame.specs.Tail.{tail_of, tail_after}

-- an enquire_link of a sequence_number below 256, a header of 16 octets (SMPP 3.4, section 4.11.1)
abbrev pub enquire_link : ℕ → List ℕ
enquire_link n =
    0 ∷ 0 ∷ 0 ∷ 16 ∷ 0 ∷ 0 ∷ 0 ∷ 21 ∷ 0 ∷ 0 ∷ 0 ∷ 0 ∷ 0 ∷ 0 ∷ 0 ∷ n ∷ []

-- two enquire_link PDUs and three octets of a third
abbrev pub two_and_more : List ℕ
two_and_more = enquire_link 1 ++ enquire_link 2 ++ take 3 (enquire_link 3)

-- the same, of which 15 octets came at moment 1,000, 2 at 2,000 and 18 at 9,000
abbrev pub in_three_pieces : List Octet
in_three_pieces =
    handed_in 1000 (take 15 two_and_more)
    ++ handed_in 2000 (take 2 (drop 15 two_and_more))
    ++ handed_in 9000 (drop 17 two_and_more)

-- a length of 15 between two enquire_link PDUs
abbrev pub broken_between : List ℕ
broken_between = enquire_link 1 ++ 0 ∷ 0 ∷ 0 ∷ 15 ∷ enquire_link 2

-- what the definitions give for some known octets
pub record KnownFrames : Type 0 where
  -- a header that states 16 is one frame
  pub shortest : frames_of (enquire_link 1) ≡ enquire_link 1 ∷ []
  pub shortest_tail :
      tail_of (enquire_link 1) ≡ (record { offset = 16; rest = []; broken = None })
  -- a length of 16 waits, and 15 is bad at once
  pub shortest_waits :
      tail_of (0 ∷ 0 ∷ 0 ∷ 16 ∷ [])
      ≡ (record { offset = 4; rest = 0 ∷ 0 ∷ 0 ∷ 16 ∷ []; broken = None })
  pub too_short :
      tail_of (0 ∷ 0 ∷ 0 ∷ 15 ∷ []) ≡ (record { offset = 4; rest = []; broken = Some 0 })
  -- the first octet of a length counts most
  pub weights : stated_length (1 ∷ 2 ∷ 3 ∷ 4 ∷ []) ≡ 0x0102_0304
  -- a length of 131,072 waits, and one more is bad at once
  pub longest : stated_length (0 ∷ 2 ∷ 0 ∷ 0 ∷ []) ≡ 131072
  pub longest_waits :
      tail_of (0 ∷ 2 ∷ 0 ∷ 0 ∷ [])
      ≡ (record { offset = 4; rest = 0 ∷ 2 ∷ 0 ∷ 0 ∷ []; broken = None })
  pub too_long : tail_of (0 ∷ 2 ∷ 0 ∷ 1 ∷ []) ≡ (record { offset = 4; rest = []; broken = Some 0 })
  -- three octets wait, whatever they are
  pub three_wait :
      tail_of (255 ∷ 255 ∷ 255 ∷ [])
      ≡ (record { offset = 3; rest = 255 ∷ 255 ∷ 255 ∷ []; broken = None })
  -- two PDUs and three octets of a third, each PDU with the moment of its last octet
  pub two_frames :
      stream_frames in_three_pieces
      ≡ (record { offset = 0; moment = 2000; octets = enquire_link 1 })
      ∷ (record { offset = 16; moment = 9000; octets = enquire_link 2 })
      ∷ []
  pub three_left :
      tail_of (values in_three_pieces)
      ≡ (record { offset = 35; rest = 0 ∷ 0 ∷ 0 ∷ []; broken = None })
  -- the last 4 octets of a PDU complete it, and give it their moment
  pub completed :
      frames_after (tail_of (take 12 (enquire_link 1))) 9000 (drop 12 (enquire_link 1))
      ≡ (record { offset = 0; moment = 9000; octets = enquire_link 1 }) ∷ []
  -- nothing is framed after a bad length, whatever stands there
  pub one_before : frames_of broken_between ≡ enquire_link 1 ∷ []
  pub all_after : rest_of broken_between ≡ drop 16 broken_between
  pub broken_there :
      tail_of broken_between ≡ (record { offset = 36; rest = []; broken = Some 16 })
  pub broken_for_good :
      tail_after (tail_of broken_between) (enquire_link 3)
      ≡ (record { offset = 52; rest = []; broken = Some 16 })
  pub none_after : frames_after (tail_of broken_between) 9000 (enquire_link 3) ≡ []
