-- Heads that stand one behind the other in a frame.
use Rattle.std.specs.Prelude.{◌≡◌, ℕ, ◌+◌, nat_lt, if◌then◌else◌, List, length, Option, Some, None}
use Rattle.std.specs.Prelude.{Result, Ok, Err}
use Rattle.smq_packets.specs.declared.layer.Layer.{Layer}
use Rattle.smq_packets.specs.declared.layer.Head.{Head}
use Rattle.smq_packets.specs.declared.layer.Unread.{Unread}
use Rattle.smq_packets.specs.declared.layer.Unread.TheVariants.{OtherProtocol, CutOff, Malformed}

-- what follows from a value, where there is one
abbrev pub onward : {X Y E : Type 0} → Result X E → (X → Result Y E) → Result Y E
onward (Ok x) f = f x
onward (Err why) f = Err why

-- A head is malformed where it doesn't fit into what it stands in, and cut off where not all of it was captured.
abbrev pub whole_at : List ℕ → Layer → ℕ → Result (Unit {0}) Unread
whole_at frame layer size =
    if nat_lt layer.until (layer.start + size) then Err Malformed
    else if nat_lt (length frame) (layer.start + size) then Err CutOff
    else Ok tt

-- the layer behind a head of so many octets, in the same datagram
abbrev pub led_to : Layer → ℕ → Option Head → Result Layer Unread
led_to layer size None = Err OtherProtocol
led_to layer size (Some head) = Ok (record layer { head = head; start = layer.start + size })
