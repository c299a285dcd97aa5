-- A probe that keeps a connection alive has the number before the next one, and may have one octet, which is garbage (RFC 9293, 3.8.4). So
-- the other end has acknowledged the octet of that number before.
use Rattle.std.specs.Prelude.{ℕ, ◌<◌}

-- the octet at a place may be one's: octets between all captured ones and it are missing, and the other end has it
pub record MayBeProbe (place top acknowledged : ℕ) : Type 0 where
  pub missing : top < place
  pub had : place < acknowledged
