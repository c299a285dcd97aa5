-- The source address that is read of a message (SMPP 3.4, 5.2.8).
use Rattle.std.specs.Prelude.{ℕ, List, length, Option, Some, None, nat_le, ◌&&◌, if◌then◌else◌}

-- the octets of source_addr, where these are 1 to 20, as many as a submit_sm may have (4.4.1)
unfoldable pub source_in : List ℕ → Option (List ℕ)
source_in text = if nat_le 1 (length text) && nat_le (length text) 20 then Some text else None
