-- IP datagrams (RFC 791, 3.1; RFC 8200, 3 and 4; RFC 4302, 2).
use Rattle.std.specs.Prelude.{◌≡◌, ℕ, ◌+◌, ◌*◌, ◌/◌, ◌%◌, Bool, ◌==◌, ◌||◌, not, nat_lt, min, if◌then◌else◌, List, length, slice_index, Option, Some, None}
use Rattle.std.specs.Prelude.{Result, Ok, Err}
use Rattle.smq_packets.specs.Numbers.{number}
use Rattle.smq_packets.specs.Layers.{onward, whole_at, led_to}
use Rattle.smq_packets.specs.declared.datagram.Fragment.{Fragment}
use Rattle.smq_packets.specs.declared.layer.Address.{Address}
use Rattle.smq_packets.specs.declared.layer.Address.TheVariants.{V4, V6}
use Rattle.smq_packets.specs.declared.layer.Layer.{Layer}
use Rattle.smq_packets.specs.declared.layer.Head.{Head}
use Rattle.smq_packets.specs.declared.layer.Head.TheVariants as h
use Rattle.smq_packets.specs.declared.layer.Unread.{Unread}
use Rattle.smq_packets.specs.declared.layer.Unread.TheVariants as u

-- what a protocol's number names: TCP, IP in IP, GRE, UDP
abbrev pub head_of_protocol : ℕ → Option Head
head_of_protocol n =
    if n == 6 then Some h.Tcp
    else if n == 4 || n == 41 then Some h.Ip
    else if n == 47 then Some h.Gre
    else if n == 17 then Some h.Udp
    else None

-- what a next header's number names: an extension header, or what a protocol's number does
abbrev pub head_of_next : ℕ → Option Head
head_of_next n =
    if n == 0 || n == 43 || n == 60 || n == 135 || n == 139 || n == 140 then Some h.Extension
    else if n == 51 then Some h.Authentication
    else if n == 44 then Some h.Part
    else head_of_protocol n

-- where a datagram of so many octets ends: a length of 0 is of one that the network card was to cut, and ends with what was captured
abbrev pub end_of : List ℕ → Layer → ℕ → ℕ
end_of frame l total = if total == 0 then min l.until (length frame) else l.start + total

-- ---- version 4

-- how many octets its head has
abbrev pub size_4 : List ℕ → Layer → ℕ
size_4 frame l = slice_index frame l.start % 16 * 4

-- its content, between its ends
abbrev pub content_4 : List ℕ → Layer → Layer
content_4 frame l = record l {
  until = end_of frame l (number 2 (l.start + 2) frame);
  source = V4 (number 4 (l.start + 12) frame);
  destination = V4 (number 4 (l.start + 16) frame);
}

-- flags and fragment offset, of which 14 bits are 0 in a whole datagram
abbrev pub pieces_4 : List ℕ → Layer → ℕ
pieces_4 frame l = number 2 (l.start + 6) frame

-- a part of a datagram, in units of 8 octets
abbrev pub fragment_4 : List ℕ → Layer → Fragment
fragment_4 frame l = record {
  source = V4 (number 4 (l.start + 12) frame);
  destination = V4 (number 4 (l.start + 16) frame);
  protocol = slice_index frame (l.start + 9);
  identification = number 2 (l.start + 4) frame;
  offset = pieces_4 frame l % 0x2000 * 8;
  is_followed = pieces_4 frame l / 0x2000 % 2 == 1;
  start = l.start + size_4 frame l;
  until = end_of frame l (number 2 (l.start + 2) frame);
}

-- behind a head of at least 20 octets, in a datagram that fits into what carries it
abbrev pub behind_4 : List ℕ → Layer → Result Layer Unread
behind_4 frame l =
    onward (whole_at frame l 20) (λ _.
    if nat_lt (size_4 frame l) 20 || nat_lt l.until (end_of frame l (number 2 (l.start + 2) frame))
    then Err u.Malformed
    else onward (whole_at frame (content_4 frame l) (size_4 frame l)) (λ _.
    if not (pieces_4 frame l % 0x4000 == 0) then Err (u.Fragment (fragment_4 frame l))
    else led_to (content_4 frame l) (size_4 frame l) (head_of_protocol (slice_index frame (l.start + 9)))))

-- ---- version 6

-- how many octets its head and its payload have: a payload of 0 is one that isn't told
abbrev pub total_6 : List ℕ → Layer → ℕ
total_6 frame l = if number 2 (l.start + 4) frame == 0 then 0 else 40 + number 2 (l.start + 4) frame

-- its payload, between its ends
abbrev pub content_6 : List ℕ → Layer → Layer
content_6 frame l = record l {
  until = end_of frame l (total_6 frame l);
  source = V6 (number 8 (l.start + 8) frame) (number 8 (l.start + 16) frame);
  destination = V6 (number 8 (l.start + 24) frame) (number 8 (l.start + 32) frame);
}

-- behind a head of 40 octets, in a datagram that fits into what carries it
abbrev pub behind_6 : List ℕ → Layer → Result Layer Unread
behind_6 frame l =
    onward (whole_at frame l 40) (λ _.
    if nat_lt l.until (end_of frame l (total_6 frame l)) then Err u.Malformed
    else led_to (content_6 frame l) 40 (head_of_next (slice_index frame (l.start + 6))))

-- behind an extension header of at least 8 octets, whose second octet counts units beyond the first so many
abbrev pub behind_extension : ℕ → ℕ → List ℕ → Layer → Result Layer Unread
behind_extension first unit frame l =
    onward (whole_at frame l 8) (λ _.
    onward (whole_at frame l ((slice_index frame (l.start + 1) + first) * unit)) (λ _.
    led_to l ((slice_index frame (l.start + 1) + first) * unit) (head_of_next (slice_index frame l.start))))

-- a part of a datagram: 13 bits of an offset in units of 8 octets, and whether more follow in the lowest bit
abbrev pub fragment_6 : List ℕ → Layer → Fragment
fragment_6 frame l = record {
  source = l.source;
  destination = l.destination;
  protocol = slice_index frame l.start;
  identification = number 4 (l.start + 4) frame;
  offset = number 2 (l.start + 2) frame / 8 * 8;
  is_followed = number 2 (l.start + 2) frame % 2 == 1;
  start = l.start + 8;
  until = l.until;
}

-- behind a fragment header: one that says neither is of a whole datagram
abbrev pub behind_part : List ℕ → Layer → Result Layer Unread
behind_part frame l =
    onward (whole_at frame l 8) (λ _.
    if not (number 2 (l.start + 2) frame / 8 == 0) || not (number 2 (l.start + 2) frame % 2 == 0)
    then Err (u.Fragment (fragment_6 frame l))
    else led_to l 8 (head_of_next (slice_index frame l.start)))

-- ---- either version

-- behind a datagram, by its version
abbrev pub behind_ip : List ℕ → Layer → Result Layer Unread
behind_ip frame l =
    onward (whole_at frame l 1) (λ _.
    if slice_index frame l.start / 16 == 4 then behind_4 frame l
    else if slice_index frame l.start / 16 == 6 then behind_6 frame l
    else Err u.OtherProtocol)
