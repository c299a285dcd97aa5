-- Addresses of either version.
use Rattle.std.specs.Prelude.{Bool, false, ◌==◌, ◌&&◌}
use Rattle.smq_packets.specs.declared.layer.Address.{Address}
use Rattle.smq_packets.specs.declared.layer.Address.TheVariants.{V4, V6}

-- whether two addresses are the same
abbrev pub is_same_address : Address → Address → Bool
is_same_address (V4 a) (V4 b) = a == b
is_same_address (V6 a b) (V6 c d) = a == c && b == d
is_same_address _ _ = false
