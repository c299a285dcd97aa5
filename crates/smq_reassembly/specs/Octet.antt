-- An octet of a direction, with the packet that brought it.
use Rattle.std.specs.Prelude.{ℕ, Bool, false, List, [], ◌∷◌}
use Rattle.smq_reassembly.specs.declared.packet.Packet.{Packet}

-- an octet: its value, its packet, and whether it is the first of its segment
pub record Octet : Type 0 where
  pub value : ℕ
  pub packet : Packet
  pub begins : Bool

-- the octets of one packet, one after the other, of which the first may begin their segment
abbrev pub octets_of : Packet → Bool → List ℕ → List Octet
octets_of packet begins [] = []
octets_of packet begins (value ∷ values) =
    record { value = value; packet = packet; begins = begins } ∷ octets_of packet false values
