-- The PDUs of a stream at their places.
use Rattle.std.specs.Prelude.{ℕ, List, map}
use Rattle.smq_frame.specs.Frame.{FrameValue}
use Rattle.smq_frame.specs.Stream.{Octet, stream_frames}
use Rattle.smq_pdu.specs.Pdu.{PduValue, pdu_of}

-- a PDU of a stream; offset is the number of octets before it, moment that of its last octet, in ms since 1970 in UTC
pub record PlacedPdu : Type 0 where
  pub offset : ℕ
  pub moment : ℕ
  pub pdu : PduValue

-- what a frame says, at its place
abbrev pub placed_pdu : FrameValue → PlacedPdu
placed_pdu f = record { offset = f.offset; moment = f.moment; pdu = pdu_of f.octets }

-- the PDUs of a stream, in its order
abbrev pub stream_pdus : List Octet → List PlacedPdu
stream_pdus stream = map placed_pdu (stream_frames stream)
