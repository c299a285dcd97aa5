-- The heads of link types, tags, labels and PPPoE sessions (IEEE 802.3, 3.2; 802.1Q, 9.6; RFC 3032, 2.1; RFC 2516, 4 and 6).
use Rattle.std.specs.Prelude.{◌≡◌, ℕ, Bool, ◌+◌, ◌%◌, ◌==◌, ◌&&◌, ◌||◌, not, nat_lt, if◌then◌else◌, List, slice_index, Option, Some, None}
use Rattle.std.specs.Prelude.{Result, Ok, Err}
use Rattle.smq_packets.specs.Numbers.{number, low_number}
use Rattle.smq_packets.specs.Layers.{onward, whole_at, led_to}
use Rattle.smq_packets.specs.declared.link.LinkType.{LinkType}
use Rattle.smq_packets.specs.declared.link.LinkType.TheVariants as t
use Rattle.smq_packets.specs.declared.layer.Layer.{Layer}
use Rattle.smq_packets.specs.declared.layer.Head.{Head}
use Rattle.smq_packets.specs.declared.layer.Head.TheVariants as h
use Rattle.smq_packets.specs.declared.layer.Unread.{Unread}
use Rattle.smq_packets.specs.declared.layer.Unread.TheVariants.{Malformed}

-- the link types of tcpdump.org that are read
abbrev pub link_type_of : ℕ → Option LinkType
link_type_of n =
    if n == 1 then Some t.Ethernet
    else if n == 113 then Some t.Cooked
    else if n == 276 then Some t.Cooked2
    else if n == 0 || n == 108 then Some t.Loopback
    else if n == 12 || n == 14 || n == 101 || n == 228 || n == 229 then Some t.Raw
    else None

-- the first head of a link type's frames
abbrev pub head_of_link : LinkType → Head
head_of_link t.Ethernet = h.Ethernet
head_of_link t.Cooked = h.Cooked
head_of_link t.Cooked2 = h.Cooked2
head_of_link t.Loopback = h.Loopback
head_of_link t.Raw = h.Ip

-- what an EtherType names: IP of either version, a VLAN's tag, a label, a PPPoE session, an Ethernet frame
abbrev pub head_of_type : ℕ → Option Head
head_of_type n =
    if n == 0x0800 || n == 0x86DD then Some h.Ip
    else if n == 0x8100 || n == 0x88A8 || n == 0x9100 || n == 0x9200 then Some h.Tag
    else if n == 0x8847 || n == 0x8848 then Some h.Label
    else if n == 0x8864 then Some h.Session
    else if n == 0x6558 then Some h.Ethernet
    else None

-- behind a head of so many octets whose EtherType stands at a place
abbrev pub behind_type : ℕ → ℕ → List ℕ → Layer → Result Layer Unread
behind_type size at frame l =
    onward (whole_at frame l size) (λ _. led_to l size (head_of_type (number 2 (l.start + at) frame)))

-- AF_INET, and AF_INET6 of Linux, NetBSD, FreeBSD and macOS
abbrev pub is_family_of_ip : ℕ → Bool
is_family_of_ip n = n == 2 || n == 10 || n == 24 || n == 28 || n == 30

-- behind a family of addresses, in either order
abbrev pub behind_family : List ℕ → Layer → Result Layer Unread
behind_family frame l =
    onward (whole_at frame l 4) (λ _. led_to l 4 (
    if is_family_of_ip (number 4 l.start frame) || is_family_of_ip (low_number 4 l.start frame)
    then Some h.Ip else None))

-- behind an entry of a stack of labels: the lowest bit of its third octet marks the last
abbrev pub behind_label : List ℕ → Layer → Result Layer Unread
behind_label frame l =
    onward (whole_at frame l 4) (λ _. led_to l 4 (Some (
    if slice_index frame (l.start + 2) % 2 == 1 then h.Ip else h.Label)))

-- where the content of a PPPoE session ends, whose length counts the octets of PPP's protocol, too
abbrev pub end_of_session : List ℕ → Layer → ℕ
end_of_session frame l = l.start + 6 + number 2 (l.start + 4) frame

-- behind the head of a PPPoE session: version 1, type 1, code 0, and PPP's protocol for IP of version 4 or 6
abbrev pub behind_session : List ℕ → Layer → Result Layer Unread
behind_session frame l =
    onward (whole_at frame l 8) (λ _.
    if not (slice_index frame l.start == 0x11 && slice_index frame (l.start + 1) == 0)
    || nat_lt l.until (end_of_session frame l) || nat_lt (end_of_session frame l) (l.start + 8)
    then Err Malformed
    else led_to (record l { until = end_of_session frame l }) 8 (
    if number 2 (l.start + 6) frame == 0x0021 || number 2 (l.start + 6) frame == 0x0057
    then Some h.Ip else None))
