-- What a contract sees of a frame.
use Rattle.std.specs.Prelude.{ℕ, List}

-- a frame: the number of octets before it, the moment of its last octet, and its octets
pub record FrameValue : Type 0 where
  pub offset : ℕ
  pub moment : ℕ
  pub octets : List ℕ
