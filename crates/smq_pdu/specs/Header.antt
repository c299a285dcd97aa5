-- The header of a PDU (SMPP 3.4, section 3.2). Its command_length is the frame's.
use Rattle.std.specs.Prelude.{ℕ, List, take, drop}
use Rattle.std.specs.Int.{w32, from_be_bytes}

-- command_id, command_status and sequence_number
pub record Header : Type 0 where
  pub command : ℕ
  pub status : ℕ
  pub seq : ℕ

-- the big-endian 32-bit word at a place
unfoldable pub word_at : ℕ → List ℕ → ℕ
word_at place octets = from_be_bytes w32 (take 4 (drop place octets))

-- the header at the front of a frame
abbrev pub header_at : List ℕ → Header
header_at octets = record { command = word_at 4 octets; status = word_at 8 octets; seq = word_at 12 octets }

-- a header with this command_id, where status and sequence number don't matter
abbrev pub header_with : ℕ → Header
header_with command = record { command = command; status = 0; seq = 0 }
