-- GRE (RFC 2784, 2; RFC 2890, 2), and VXLAN over UDP (RFC 768; RFC 7348, 5).
use Rattle.std.specs.Prelude.{◌≡◌, ℕ, ◌+◌, ◌*◌, ◌/◌, ◌%◌, ◌==◌, ◌||◌, not, if◌then◌else◌, List, slice_index, Some}
use Rattle.std.specs.Prelude.{Result, Err}
use Rattle.smq_packets.specs.Numbers.{number}
use Rattle.smq_packets.specs.Layers.{onward, whole_at, led_to}
use Rattle.smq_packets.specs.Links.{head_of_type}
use Rattle.smq_packets.specs.declared.layer.Layer.{Layer}
use Rattle.smq_packets.specs.declared.layer.Head.TheVariants.{Ethernet}
use Rattle.smq_packets.specs.declared.layer.Unread.{Unread}
use Rattle.smq_packets.specs.declared.layer.Unread.TheVariants.{OtherProtocol, Malformed}

-- flags and version
abbrev pub flags_of : List ℕ → Layer → ℕ
flags_of frame l = number 2 l.start frame

-- how many octets the head has: 4, and 4 more for each of checksum, key and sequence number
abbrev pub size_of_gre : List ℕ → Layer → ℕ
size_of_gre frame l =
    (1 + flags_of frame l / 0x8000 + flags_of frame l / 0x2000 % 2 + flags_of frame l / 0x1000 % 2) * 4

-- behind GRE of version 0, in which bits 1, 4 and 5 are 0
abbrev pub behind_gre : List ℕ → Layer → Result Layer Unread
behind_gre frame l =
    onward (whole_at frame l 4) (λ _.
    if not (flags_of frame l % 8 == 0) || not (flags_of frame l / 0x0400 % 4 == 0)
    || not (flags_of frame l / 0x4000 % 2 == 0)
    then Err OtherProtocol
    else onward (whole_at frame l (size_of_gre frame l)) (λ _.
    led_to l (size_of_gre frame l) (head_of_type (number 2 (l.start + 2) frame))))

-- behind UDP to port 4789, and VXLAN's own head of 8 octets, in which the flag I is 1
abbrev pub behind_udp : List ℕ → Layer → Result Layer Unread
behind_udp frame l =
    onward (whole_at frame l 8) (λ _.
    if not (number 2 (l.start + 2) frame == 4789) then Err OtherProtocol
    else onward (whole_at frame l 16) (λ _.
    if slice_index frame (l.start + 8) / 8 % 2 == 0 then Err Malformed
    else led_to l 16 (Some Ethernet)))
