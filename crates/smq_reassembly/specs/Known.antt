-- What the definitions give for some known segments.
use Rattle.std.specs.Prelude.{◌≡◌, ℕ, ◌^◌, ◌-◌, true, false, List, [], ◌∷◌, ◌++◌}
use Rattle.smq_reassembly.specs.declared.packet.Packet.{Packet}
use Rattle.smq_reassembly.specs.declared.sequence.Place.TheVariants.{Ahead, Behind}
use Rattle.smq_reassembly.specs.Octet.{octets_of}
use Rattle.smq_reassembly.specs.Piece.{Piece, octets_in, AreApart}
use Rattle.smq_reassembly.specs.Stream.{IsStream, IsGap}
use Rattle.smq_reassembly.specs.Moment.{Start, IsGiven}
use Rattle.smq_reassembly.specs.Segment.{IsTooFarAhead, piece_of}
use Rattle.smq_reassembly.specs.Sequence.{IsPlace}

-- a packet by its number and its moment
abbrev pub packet : ℕ → ℕ → Packet
packet number moment = record { number = number; moment = moment }

-- octets of a packet at a place
abbrev pub at : ℕ → Packet → List ℕ → Piece
at place p values = record { at = place; octets = octets_of p true values }

-- three octets, two behind a gap of two, and a packet between them that brings others of their octets again
abbrev pub front : Piece
front = at 0 (packet 1 100) (10 ∷ 11 ∷ 12 ∷ [])

abbrev pub behind : Piece
behind = at 5 (packet 2 200) (15 ∷ 16 ∷ [])

abbrev pub between : Piece
between = at 2 (packet 3 150) (92 ∷ 13 ∷ 14 ∷ 95 ∷ [])

-- one octet more, when the clock had been set back
abbrev pub last : Piece
last = at 7 (packet 4 90) (17 ∷ [])

-- the first octet of a capture
abbrev pub beginning : Start
beginning = record { place = 0; moment = 0 }

-- what the definitions say of them
pub record KnownStreams : Type 0 where
  -- up to the gap nothing but the first packet counts
  pub before_gap :
      IsGiven (front ∷ behind ∷ []) beginning (octets_of (packet 1 100) true (10 ∷ 11 ∷ 12 ∷ []))
  pub gap : IsGap (front ∷ behind ∷ []) 3 5
  -- of octets that come twice the first copy counts; what waited is given with the packet that fills the gap
  pub filled :
      IsGiven (front ∷ behind ∷ between ∷ []) beginning
      (octets_of (packet 1 100) true (10 ∷ 11 ∷ 12 ∷ [])
      ++ octets_of (packet 3 150) false (13 ∷ 14 ∷ [])
      ++ octets_of (packet 3 150) true (15 ∷ 16 ∷ []))
  -- a moment never falls
  pub set_back :
      IsGiven (front ∷ behind ∷ between ∷ last ∷ []) beginning
      (octets_of (packet 1 100) true (10 ∷ 11 ∷ 12 ∷ [])
      ++ octets_of (packet 3 150) false (13 ∷ 14 ∷ [])
      ++ octets_of (packet 3 150) true (15 ∷ 16 ∷ [])
      ++ octets_of (packet 4 150) true (17 ∷ []))
  -- behind a gap that is given up the stream begins anew: no octet of it is given before its own packet
  pub anew :
      IsGiven (front ∷ behind ∷ []) (record { place = 5; moment = 100 })
      (octets_of (packet 2 200) true (15 ∷ 16 ∷ []))
  -- the last copy isn't the stream, nor is what ends before an octet that came
  pub no_last_copy :
      IsStream (front ∷ behind ∷ between ∷ []) 0
      (octets_of (packet 1 100) true (10 ∷ 11 ∷ []) ++ octets_of (packet 3 150) true (92 ∷ 13 ∷ 14 ∷ 95 ∷ [])
      ++ octets_of (packet 2 200) false (16 ∷ []))
      → ⊥
  pub no_less :
      IsStream (front ∷ behind ∷ between ∷ []) 0 (octets_of (packet 1 100) true (10 ∷ 11 ∷ 12 ∷ [])) → ⊥
  -- numbers wrap at 2^32, and places don't (RFC 9293, 3.4)
  pub wraps : IsPlace 0xFFFF_FFFE 0 1 (Ahead 3)
  pub beyond : IsPlace 5 0x1_0000_000A 18 (Ahead 3)
  pub before : IsPlace 5 0x1_0000_000A 14 (Behind 1)
  pub half : IsPlace 0 0 0x8000_0000 (Behind 0x8000_0000)
  pub not_half : IsPlace 0 0 0x8000_0000 (Ahead 0x8000_0000) → ⊥
  -- what stands before the first octet of a direction is no part of it
  pub early :
      piece_of (Behind 2) 1 (packet 1 100) (1 ∷ 2 ∷ 3 ∷ [])
      ≡ (record { at = 0; octets = octets_of (packet 1 100) false (2 ∷ 3 ∷ []) })
  pub ahead :
      piece_of (Ahead 2) 1 (packet 1 100) (1 ∷ 2 ∷ [])
      ≡ (record { at = 3; octets = octets_of (packet 1 100) true (1 ∷ 2 ∷ []) })
  -- the last octet of the window is within it, and the next isn't; so it is with the last place
  pub window : IsTooFarAhead 0 (at 16777215 (packet 1 100) (1 ∷ [])) → ⊥
  pub beyond_window : IsTooFarAhead 0 (at 16777216 (packet 1 100) (1 ∷ []))
  pub last_place : IsTooFarAhead (2 ^ 60 - 1) (at (2 ^ 60 - 1) (packet 1 100) (1 ∷ [])) → ⊥
  pub beyond_places : IsTooFarAhead (2 ^ 60 - 1) (at (2 ^ 60) (packet 1 100) (1 ∷ []))
  -- pieces that touch are apart, and pieces that share an octet aren't
  pub touch : AreApart 3 (at 3 (packet 1 100) (1 ∷ 2 ∷ []) ∷ at 5 (packet 2 200) (3 ∷ []) ∷ [])
  pub share : AreApart 3 (at 3 (packet 1 100) (1 ∷ 2 ∷ []) ∷ at 4 (packet 2 200) (3 ∷ []) ∷ []) → ⊥
  pub count : octets_in (front ∷ behind ∷ []) ≡ 5
