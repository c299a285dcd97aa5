-- What the definitions give for frames, records and blocks that are written out from the layouts of their standards.
use Rattle.std.specs.Prelude.{◌≡◌, ℕ, zero, suc, ◌^◌, Bool, true, false, List, [], ◌∷◌, ◌++◌, map, take, replicate, Some, None, Result, Ok, Err}
use Rattle.smq_packets.specs.Blocks.{OtherValue, PacketValue, StatisticsValue, SectionValue, block_of, section_after, shortest_of}
use Rattle.smq_packets.specs.Fragments.{IsPartOf, is_full_at, is_overlapped, is_repeated, is_unusable_in, joined_of, segment_of_whole}
use Rattle.smq_packets.specs.Interfaces.{moment_with, units_of}
use Rattle.smq_packets.specs.Links.{link_type_of}
use Rattle.smq_packets.specs.Records.{head_of_file, packet_of_record, record_of}
use Rattle.smq_packets.specs.Segments.{SegmentValue, segment_of}
use Rattle.smq_packets.specs.declared.block.Kind.TheVariants as k
use Rattle.smq_packets.specs.declared.block.NoBlock.TheVariants.{More, NoCapture, Broken}
use Rattle.smq_packets.specs.declared.datagram.Fragment.{Fragment}
use Rattle.smq_packets.specs.declared.file.FileHead.{FileHead}
use Rattle.smq_packets.specs.declared.file.HeadFault.TheVariants as f
use Rattle.smq_packets.specs.declared.fragments.Whole.{Whole}
use Rattle.smq_packets.specs.declared.interface.Interface.{Interface}
use Rattle.smq_packets.specs.declared.layer.Address.TheVariants.{V4, V6}
use Rattle.smq_packets.specs.declared.layer.Unread.{Unread}
use Rattle.smq_packets.specs.declared.layer.Unread.TheVariants as u
use Rattle.smq_packets.specs.declared.link.LinkType.TheVariants as t
use Rattle.smq_packets.specs.declared.part.Part.{Part}

-- ---- heads

-- two addresses of Ethernet
abbrev pub stations : List ℕ
stations = 2 ∷ 0 ∷ 0 ∷ 0 ∷ 0 ∷ 1 ∷ 2 ∷ 0 ∷ 0 ∷ 0 ∷ 0 ∷ 2 ∷ []

-- a head of TCP with this data offset and these flags, from port 40000 to port 2775 (RFC 9293, 3.1)
abbrev pub tcp : ℕ → ℕ → List ℕ
tcp offset flags =
    0x9C ∷ 0x40 ∷ 0x0A ∷ 0xD7 ∷ 1 ∷ 2 ∷ 3 ∷ 4 ∷ 5 ∷ 6 ∷ 7 ∷ 8 ∷ offset ∷ flags ∷ 0xFF ∷ 0xFF ∷ 0 ∷ 0 ∷ 0 ∷ 0 ∷ []

-- a head of IP of version 4 with this first octet, total length, flags and fragment offset, and protocol, from 10.0.0.1 to 10.0.0.2
-- (RFC 791, 3.1)
abbrev pub ip4 : ℕ → ℕ → ℕ → ℕ → ℕ → List ℕ
ip4 first total flags offset protocol =
    first ∷ 0 ∷ 0 ∷ total ∷ 0x12 ∷ 0x34 ∷ flags ∷ offset ∷ 64 ∷ protocol ∷ 0 ∷ 0 ∷ 10 ∷ 0 ∷ 0 ∷ 1 ∷ 10 ∷ 0 ∷ 0 ∷ 2 ∷ []

-- a head of IP of version 6 with this payload length and next header, from 2001:db8::1 to 2001:db8::2 (RFC 8200, 3)
abbrev pub ip6 : ℕ → ℕ → List ℕ
ip6 payload next =
    0x60 ∷ 0 ∷ 0 ∷ 0 ∷ 0 ∷ payload ∷ next ∷ 64
    ∷ 0x20 ∷ 1 ∷ 0x0D ∷ 0xB8 ∷ 0 ∷ 0 ∷ 0 ∷ 0 ∷ 0 ∷ 0 ∷ 0 ∷ 0 ∷ 0 ∷ 0 ∷ 0 ∷ 1
    ∷ 0x20 ∷ 1 ∷ 0x0D ∷ 0xB8 ∷ 0 ∷ 0 ∷ 0 ∷ 0 ∷ 0 ∷ 0 ∷ 0 ∷ 0 ∷ 0 ∷ 0 ∷ 0 ∷ 2 ∷ []

-- the text "abcd"
abbrev pub abcd : List ℕ
abcd = 97 ∷ 98 ∷ 99 ∷ 100 ∷ []

-- a segment of four octets, and a datagram of either version that carries it
abbrev pub segment : List ℕ
segment = tcp 0x50 0x18 ++ abcd

abbrev pub datagram_4 : List ℕ
datagram_4 = ip4 0x45 44 0 0 6 ++ segment

abbrev pub datagram_6 : List ℕ
datagram_6 = ip6 24 6 ++ segment

-- ---- what is read of them

-- from one end to the other, with these octets
abbrev pub between_4 : ℕ → List ℕ → ℕ → SegmentValue
between_4 flags octets length = record {
  source = record { address = V4 0x0A000001; port = 40000 };
  destination = record { address = V4 0x0A000002; port = 2775 };
  flags = flags;
  sequence = 0x01020304;
  acknowledged = 0x05060708;
  octets = octets;
  length = length;
}

abbrev pub said_4 : Result SegmentValue Unread
said_4 = Ok (between_4 0x18 abcd 4)

abbrev pub said_6 : Result SegmentValue Unread
said_6 = Ok (record (between_4 0x18 abcd 4) {
  source = record { address = V6 0x20010DB800000000 1; port = 40000 };
  destination = record { address = V6 0x20010DB800000000 2; port = 2775 };
})

-- a part of a datagram between these ends
abbrev pub part_4 : ℕ → Bool → ℕ → ℕ → Fragment
part_4 offset is_followed start until = record {
  source = V4 0x0A000001;
  destination = V4 0x0A000002;
  protocol = 6;
  identification = 0x1234;
  offset = offset;
  is_followed = is_followed;
  start = start;
  until = until;
}

abbrev pub part_6 : ℕ → Bool → Fragment
part_6 offset is_followed = record {
  source = V6 0x20010DB800000000 1;
  destination = V6 0x20010DB800000000 2;
  protocol = 6;
  identification = 9;
  offset = offset;
  is_followed = is_followed;
  start = 48;
  until = 72;
}

-- so many tags of a VLAN, and IP behind them
abbrev pub tags : ℕ → List ℕ
tags zero = 0x08 ∷ 0x00 ∷ []
tags (suc more) = 0x81 ∷ 0x00 ∷ 0 ∷ 7 ∷ tags more

-- link types, tags, labels, sessions and tunnels in which the same segment is read
pub record KnownSegments : Type 0 where
  pub ethernet : segment_of t.Ethernet (stations ++ 0x08 ∷ 0x00 ∷ datagram_4) ≡ said_4
  pub ethernet_6 : segment_of t.Ethernet (stations ++ 0x86 ∷ 0xDD ∷ datagram_6) ≡ said_6
  -- what pads a frame is none of the stream
  pub padded : segment_of t.Ethernet (stations ++ 0x08 ∷ 0x00 ∷ datagram_4 ++ 0 ∷ 0 ∷ []) ≡ said_4
  pub cooked : segment_of t.Cooked (replicate 14 0 ++ 0x08 ∷ 0x00 ∷ datagram_4) ≡ said_4
  pub cooked_2 : segment_of t.Cooked2 (0x08 ∷ 0x00 ∷ replicate 18 0 ++ datagram_4) ≡ said_4
  pub loopback : segment_of t.Loopback (2 ∷ 0 ∷ 0 ∷ 0 ∷ datagram_4) ≡ said_4
  pub loopback_big : segment_of t.Loopback (0 ∷ 0 ∷ 0 ∷ 30 ∷ datagram_6) ≡ said_6
  -- AF_INET6 of Linux, NetBSD and FreeBSD
  pub loopback_10 : segment_of t.Loopback (10 ∷ 0 ∷ 0 ∷ 0 ∷ datagram_6) ≡ said_6
  pub loopback_24 : segment_of t.Loopback (24 ∷ 0 ∷ 0 ∷ 0 ∷ datagram_6) ≡ said_6
  pub loopback_28 : segment_of t.Loopback (28 ∷ 0 ∷ 0 ∷ 0 ∷ datagram_6) ≡ said_6
  pub raw : segment_of t.Raw datagram_6 ≡ said_6
  pub two_tags : segment_of t.Ethernet (stations ++ 0x88 ∷ 0xA8 ∷ 0 ∷ 1 ∷ 0x81 ∷ 0x00 ∷ 0 ∷ 2 ∷ 0x08 ∷ 0x00 ∷ datagram_4) ≡ said_4
  pub other_tags : segment_of t.Ethernet (stations ++ 0x91 ∷ 0x00 ∷ 0 ∷ 1 ∷ 0x92 ∷ 0x00 ∷ 0 ∷ 2 ∷ 0x08 ∷ 0x00 ∷ datagram_4) ≡ said_4
  -- labels 16 and 17, the second of which is the last
  pub labels : segment_of t.Ethernet (stations ++ 0x88 ∷ 0x47 ∷ 0 ∷ 1 ∷ 0 ∷ 64 ∷ 0 ∷ 1 ∷ 0x11 ∷ 64 ∷ datagram_4) ≡ said_4
  pub session : segment_of t.Ethernet (stations ++ 0x88 ∷ 0x64 ∷ 0x11 ∷ 0 ∷ 0 ∷ 1 ∷ 0 ∷ 46 ∷ 0x00 ∷ 0x21 ∷ datagram_4 ++ 0 ∷ []) ≡ said_4
  pub multicast_label : segment_of t.Ethernet (stations ++ 0x88 ∷ 0x48 ∷ 0 ∷ 1 ∷ 0x11 ∷ 64 ∷ datagram_4) ≡ said_4
  pub session_6 : segment_of t.Ethernet (stations ++ 0x88 ∷ 0x64 ∷ 0x11 ∷ 0 ∷ 0 ∷ 1 ∷ 0 ∷ 66 ∷ 0x00 ∷ 0x57 ∷ datagram_6) ≡ said_6
  pub ip_in_ip : segment_of t.Raw (ip4 0x45 64 0 0 4 ++ datagram_4) ≡ said_4
  pub version_6_in_4 : segment_of t.Raw (ip4 0x45 84 0 0 41 ++ datagram_6) ≡ said_6
  pub version_4_in_6 : segment_of t.Raw (ip6 44 4 ++ datagram_4) ≡ said_4
  pub gre : segment_of t.Raw (ip4 0x45 68 0 0 47 ++ 0 ∷ 0 ∷ 0x08 ∷ 0x00 ∷ datagram_4) ≡ said_4
  -- with checksum, key and sequence number, around an Ethernet frame
  pub gre_with_all : segment_of t.Raw (ip4 0x45 94 0 0 47 ++ 0xB0 ∷ 0 ∷ 0x65 ∷ 0x58 ∷ replicate 12 9 ++ stations ++ 0x08 ∷ 0x00 ∷ datagram_4) ≡ said_4
  pub vxlan : segment_of t.Raw (ip4 0x45 94 0 0 17 ++ 0xC0 ∷ 0 ∷ 0x12 ∷ 0xB5 ∷ 0 ∷ 74 ∷ 0 ∷ 0 ∷ 8 ∷ 0 ∷ 0 ∷ 0 ∷ 0 ∷ 0 ∷ 5 ∷ 0 ∷ stations ++ 0x08 ∷ 0x00 ∷ datagram_4) ≡ said_4
  -- hop-by-hop options of 16 octets, destination options of 8
  pub extensions : segment_of t.Raw (ip6 48 0 ++ 60 ∷ 1 ∷ replicate 14 0 ++ 6 ∷ 0 ∷ replicate 6 0 ++ segment) ≡ said_6
  -- headers of routing, Mobile IPv6, HIP and Shim6, of 8 octets each
  pub other_extensions : segment_of t.Raw (ip6 56 43 ++ 135 ∷ replicate 7 0 ++ 139 ∷ replicate 7 0 ++ 140 ∷ replicate 7 0 ++ 6 ∷ replicate 7 0 ++ segment) ≡ said_6
  -- an authentication header of 6 words
  pub authentication : segment_of t.Raw (ip6 48 51 ++ 6 ∷ 4 ∷ replicate 22 0 ++ segment) ≡ said_6
  -- a fragment header of a datagram in one piece
  pub one_piece : segment_of t.Raw (ip6 32 44 ++ 6 ∷ 0 ∷ 0 ∷ 0 ∷ 0 ∷ 0 ∷ 0 ∷ 9 ∷ segment) ≡ said_6
  -- options of IP and of TCP stand before the octets
  pub options : segment_of t.Raw (ip4 0x46 52 0 0 6 ++ 1 ∷ 1 ∷ 1 ∷ 1 ∷ tcp 0x60 0x18 ++ 1 ∷ 1 ∷ 1 ∷ 1 ∷ abcd) ≡ said_4
  -- of what wasn't captured the length is known
  pub two_captured : segment_of t.Raw (take 42 datagram_4) ≡ Ok (between_4 0x18 (97 ∷ 98 ∷ []) 4)
  pub head_alone : segment_of t.Raw (take 34 datagram_4) ≡ Ok (between_4 0x18 [] 4)
  -- what comes with a reset is none of the stream
  pub reset : segment_of t.Raw (ip4 0x45 44 0 0 6 ++ tcp 0x50 0x04 ++ abcd) ≡ Ok (between_4 0x04 [] 0)
  -- a datagram that the network card was to cut ends with what was captured
  pub uncut : segment_of t.Raw (ip4 0x45 0 0 0 6 ++ segment) ≡ said_4
  pub uncut_6 : segment_of t.Raw (ip6 0 6 ++ segment) ≡ said_6
  -- 32 heads are read: a frame's, those of 29 tags, of IP and of TCP
  pub deepest : segment_of t.Ethernet (stations ++ tags 29 ++ datagram_4) ≡ said_4

-- frames in which none is read, each for its reason
pub record KnownRefusals : Type 0 where
  -- a head length of 4 words, a total length of 19 octets, a data offset of 4 words, and one of 7 in 24 octets
  pub short_ip : segment_of t.Raw (ip4 0x44 44 0 0 6 ++ segment) ≡ Err u.Malformed
  pub short_total : segment_of t.Raw (ip4 0x45 19 0 0 6 ++ segment) ≡ Err u.Malformed
  pub short_tcp : segment_of t.Raw (ip4 0x45 44 0 0 6 ++ tcp 0x40 0x18 ++ abcd) ≡ Err u.Malformed
  pub long_tcp : segment_of t.Raw (ip4 0x45 44 0 0 6 ++ tcp 0x70 0x18 ++ abcd) ≡ Err u.Malformed
  -- a datagram longer than what carries it
  pub too_long : segment_of t.Raw (ip4 0x45 64 0 0 4 ++ ip4 0x45 45 0 0 6 ++ segment ++ 0 ∷ []) ≡ Err u.Malformed
  -- extension headers that end behind their datagram
  pub long_extension : segment_of t.Raw (ip6 32 0 ++ 6 ∷ 4 ∷ replicate 38 0 ++ segment) ≡ Err u.Malformed
  pub no_session : segment_of t.Ethernet (stations ++ 0x88 ∷ 0x64 ∷ 0x11 ∷ 0x09 ∷ 0 ∷ 1 ∷ 0 ∷ 46 ∷ 0x00 ∷ 0x21 ∷ datagram_4) ≡ Err u.Malformed
  pub no_network : segment_of t.Raw (ip4 0x45 94 0 0 17 ++ 0xC0 ∷ 0 ∷ 0x12 ∷ 0xB5 ∷ 0 ∷ 74 ∷ 0 ∷ 0 ∷ 0 ∷ 0 ∷ 0 ∷ 0 ∷ 0 ∷ 0 ∷ 5 ∷ 0 ∷ stations ++ 0x08 ∷ 0x00 ∷ datagram_4) ≡ Err u.Malformed
  -- the last octet of a head wasn't captured
  pub cut_ethernet : segment_of t.Ethernet (stations ++ 0x08 ∷ []) ≡ Err u.CutOff
  pub cut_ip : segment_of t.Raw (take 19 datagram_4) ≡ Err u.CutOff
  pub cut_options : segment_of t.Raw (take 23 (ip4 0x46 48 0 0 6 ++ 1 ∷ 1 ∷ 1 ∷ 1 ∷ segment)) ≡ Err u.CutOff
  pub cut_ip_6 : segment_of t.Raw (take 39 datagram_6) ≡ Err u.CutOff
  pub cut_tcp : segment_of t.Raw (take 33 datagram_4) ≡ Err u.CutOff
  -- ARP, UDP to port 53, ICMP, PPTP's GRE, and IP of version 5
  pub arp : segment_of t.Ethernet (stations ++ 0x08 ∷ 0x06 ∷ replicate 28 0) ≡ Err u.OtherProtocol
  pub dns : segment_of t.Raw (ip4 0x45 28 0 0 17 ++ 0xC0 ∷ 0 ∷ 0 ∷ 53 ∷ 0 ∷ 8 ∷ 0 ∷ 0 ∷ []) ≡ Err u.OtherProtocol
  pub icmp : segment_of t.Raw (ip4 0x45 28 0 0 1 ++ replicate 8 0) ≡ Err u.OtherProtocol
  pub pptp : segment_of t.Raw (ip4 0x45 68 0 0 47 ++ 0x20 ∷ 1 ∷ 0x88 ∷ 0x0B ∷ datagram_4) ≡ Err u.OtherProtocol
  -- GRE's routing, strict source route and recursion of RFC 1701
  pub gre_routing : segment_of t.Raw (ip4 0x45 68 0 0 47 ++ 0x40 ∷ 0 ∷ 0x08 ∷ 0x00 ∷ datagram_4) ≡ Err u.OtherProtocol
  pub gre_strict : segment_of t.Raw (ip4 0x45 68 0 0 47 ++ 0x08 ∷ 0 ∷ 0x08 ∷ 0x00 ∷ datagram_4) ≡ Err u.OtherProtocol
  pub gre_recursion : segment_of t.Raw (ip4 0x45 68 0 0 47 ++ 0x04 ∷ 0 ∷ 0x08 ∷ 0x00 ∷ datagram_4) ≡ Err u.OtherProtocol
  pub version_5 : segment_of t.Raw (0x55 ∷ []) ≡ Err u.OtherProtocol
  -- parts of a datagram: the first, a later one, and the last, in units of 8 octets
  pub first_part : segment_of t.Raw (ip4 0x45 44 0x20 0 6 ++ segment) ≡ Err (u.Fragment (part_4 0 true 20 44))
  pub later_part : segment_of t.Raw (ip4 0x45 44 0x20 3 6 ++ segment) ≡ Err (u.Fragment (part_4 24 true 20 44))
  pub last_part : segment_of t.Raw (ip4 0x45 44 0x1F 0xFF 6 ++ segment) ≡ Err (u.Fragment (part_4 65528 false 20 44))
  pub part_of_6 : segment_of t.Raw (ip6 32 44 ++ 6 ∷ 0 ∷ 0 ∷ 0x19 ∷ 0 ∷ 0 ∷ 0 ∷ 9 ∷ segment) ≡ Err (u.Fragment (part_6 24 true))
  pub last_part_of_6 : segment_of t.Raw (ip6 32 44 ++ 6 ∷ 0 ∷ 0xFF ∷ 0xF8 ∷ 0 ∷ 0 ∷ 0 ∷ 9 ∷ segment) ≡ Err (u.Fragment (part_6 65528 false))
  -- 33 heads
  pub too_deep : segment_of t.Ethernet (stations ++ tags 30 ++ datagram_4) ≡ Err u.TooDeep

-- ---- files

-- the head of a pcap file behind its magic number: version 2.4, no correction, snap length 65,535, and a link type
abbrev pub head_behind_big : ℕ → ℕ → List ℕ
head_behind_big upper link = 0 ∷ 2 ∷ 0 ∷ 4 ∷ 0 ∷ 0 ∷ 0 ∷ 0 ∷ 0 ∷ 0 ∷ 0 ∷ 0 ∷ 0 ∷ 0 ∷ 0xFF ∷ 0xFF ∷ upper ∷ 0 ∷ 0 ∷ link ∷ []

abbrev pub head_behind_little : ℕ → List ℕ
head_behind_little link = 2 ∷ 0 ∷ 4 ∷ 0 ∷ 0 ∷ 0 ∷ 0 ∷ 0 ∷ 0 ∷ 0 ∷ 0 ∷ 0 ∷ 0xFF ∷ 0xFF ∷ 0 ∷ 0 ∷ link ∷ 0 ∷ 0 ∷ 0 ∷ []

abbrev pub big_head : FileHead
big_head = record { is_big = true; is_nano = false; link_type = t.Ethernet }

abbrev pub little_head : FileHead
little_head = record { is_big = false; is_nano = true; link_type = t.Raw }

-- records of two octets at 1.0025 s
abbrev pub big_record : List ℕ
big_record = 0 ∷ 0 ∷ 0 ∷ 1 ∷ 0 ∷ 0 ∷ 9 ∷ 0xC4 ∷ 0 ∷ 0 ∷ 0 ∷ 2 ∷ 0 ∷ 0 ∷ 0 ∷ 9 ∷ 97 ∷ 98 ∷ []

abbrev pub little_record : List ℕ
little_record = 1 ∷ 0 ∷ 0 ∷ 0 ∷ 0xA0 ∷ 0x25 ∷ 0x26 ∷ 0 ∷ 2 ∷ 0 ∷ 0 ∷ 0 ∷ 9 ∷ 0 ∷ 0 ∷ 0 ∷ 97 ∷ 98 ∷ []

pub record KnownRecords : Type 0 where
  pub big : head_of_file (0xA1 ∷ 0xB2 ∷ 0xC3 ∷ 0xD4 ∷ head_behind_big 0 1) ≡ Ok big_head
  pub big_nano : head_of_file (0xA1 ∷ 0xB2 ∷ 0x3C ∷ 0x4D ∷ head_behind_big 0 1) ≡ Ok (record big_head { is_nano = true })
  pub little : head_of_file (0xD4 ∷ 0xC3 ∷ 0xB2 ∷ 0xA1 ∷ head_behind_little 101) ≡ Ok (record little_head { is_nano = false })
  pub little_nano : head_of_file (0x4D ∷ 0x3C ∷ 0xB2 ∷ 0xA1 ∷ head_behind_little 101) ≡ Ok little_head
  -- a checksum of 4 octets behind each frame
  pub with_checksum : head_of_file (0xA1 ∷ 0xB2 ∷ 0xC3 ∷ 0xD4 ∷ head_behind_big 0x24 1) ≡ Ok big_head
  pub link_types : map link_type_of (1 ∷ 113 ∷ 276 ∷ 0 ∷ 108 ∷ []) ≡ Some t.Ethernet ∷ Some t.Cooked ∷ Some t.Cooked2 ∷ Some t.Loopback ∷ Some t.Loopback ∷ []
  pub raw_link_types : map link_type_of (12 ∷ 14 ∷ 101 ∷ 228 ∷ 229 ∷ []) ≡ replicate 5 (Some t.Raw)
  pub other_link : head_of_file (0xA1 ∷ 0xB2 ∷ 0xC3 ∷ 0xD4 ∷ head_behind_big 0 105) ≡ Err (f.LinkType 105)
  pub other_magic : head_of_file (0xA1 ∷ 0xB2 ∷ 0xCD ∷ 0x34 ∷ head_behind_big 0 1) ≡ Err f.NoCapture
  pub short : head_of_file (take 23 (0xA1 ∷ 0xB2 ∷ 0xC3 ∷ 0xD4 ∷ head_behind_big 0 1)) ≡ Err f.NoCapture
  pub a_packet : packet_of_record big_head (big_record ++ 99 ∷ []) ≡ Ok (PacketValue 18 (Ok t.Ethernet) (Some 1002) (97 ∷ 98 ∷ []))
  pub a_little_packet : packet_of_record little_head little_record ≡ Ok (PacketValue 18 (Ok t.Raw) (Some 1002) (97 ∷ 98 ∷ []))
  -- what its head says beside: it had 9 octets
  pub says : record_of big_head big_record ≡ record { moment = 1002; captured = 2; length = 9 }
  pub no_head : packet_of_record big_head (take 15 big_record) ≡ Err More
  pub not_whole : packet_of_record big_head (take 17 big_record) ≡ Err More
  -- 262,144 octets, which aren't there, and 262,145
  pub longest : packet_of_record big_head (replicate 8 0 ++ 0 ∷ 4 ∷ 0 ∷ 0 ∷ 0 ∷ 4 ∷ 0 ∷ 0 ∷ []) ≡ Err More
  pub too_long : packet_of_record big_head (replicate 8 0 ++ 0 ∷ 4 ∷ 0 ∷ 1 ∷ 0 ∷ 4 ∷ 0 ∷ 1 ∷ []) ≡ Err (Broken 8)

-- ---- blocks

-- a section of version 1.0 of unknown length, in either order
abbrev pub big_section : List ℕ
big_section =
    0x0A ∷ 0x0D ∷ 0x0D ∷ 0x0A ∷ 0 ∷ 0 ∷ 0 ∷ 28 ∷ 0x1A ∷ 0x2B ∷ 0x3C ∷ 0x4D ∷ 0 ∷ 1 ∷ 0 ∷ 0 ∷ replicate 8 255 ++ 0 ∷ 0 ∷ 0 ∷ 28 ∷ []

abbrev pub little_section : ℕ → List ℕ
little_section version =
    0x0A ∷ 0x0D ∷ 0x0D ∷ 0x0A ∷ 28 ∷ 0 ∷ 0 ∷ 0 ∷ 0x4D ∷ 0x3C ∷ 0x2B ∷ 0x1A ∷ version ∷ 0 ∷ 0 ∷ 0 ∷ replicate 8 255 ++ 28 ∷ 0 ∷ 0 ∷ 0 ∷ []

-- an interface of Ethernet that captures 3 octets, with a name, if_tsresol 3 (ms) and if_tsoffset 10 s
abbrev pub an_interface : List ℕ
an_interface =
    1 ∷ 0 ∷ 0 ∷ 0 ∷ 48 ∷ 0 ∷ 0 ∷ 0 ∷ 1 ∷ 0 ∷ 0 ∷ 0 ∷ 3 ∷ 0 ∷ 0 ∷ 0
    ∷ 2 ∷ 0 ∷ 1 ∷ 0 ∷ 97 ∷ 0 ∷ 0 ∷ 0
    ∷ 9 ∷ 0 ∷ 1 ∷ 0 ∷ 3 ∷ 0 ∷ 0 ∷ 0
    ∷ 14 ∷ 0 ∷ 8 ∷ 0 ∷ 10 ∷ 0 ∷ 0 ∷ 0 ∷ 0 ∷ 0 ∷ 0 ∷ 0
    ∷ 48 ∷ 0 ∷ 0 ∷ 0 ∷ []

abbrev pub known_interface : Interface
known_interface = record { link_type = Ok t.Ethernet; snap_length = 3; units = Some 1000; offset = 10 }

abbrev pub known_section : SectionValue
known_section = record { is_big = false; interfaces = known_interface ∷ [] }

-- packets of the interface so many: with a moment at so many ms, and without one; what they captured is 3 of 9 octets
abbrev pub a_packet : ℕ → ℕ → List ℕ
a_packet interface captured =
    6 ∷ 0 ∷ 0 ∷ 0 ∷ 36 ∷ 0 ∷ 0 ∷ 0 ∷ interface ∷ 0 ∷ 0 ∷ 0 ∷ 0 ∷ 0 ∷ 0 ∷ 0 ∷ 0xC4 ∷ 9 ∷ 0 ∷ 0 ∷ captured ∷ 0 ∷ 0 ∷ 0 ∷ 9 ∷ 0 ∷ 0 ∷ 0
    ∷ 97 ∷ 98 ∷ 99 ∷ 0 ∷ 36 ∷ 0 ∷ 0 ∷ 0 ∷ []

abbrev pub an_old_packet : List ℕ
an_old_packet =
    2 ∷ 0 ∷ 0 ∷ 0 ∷ 36 ∷ 0 ∷ 0 ∷ 0 ∷ 0 ∷ 0 ∷ 255 ∷ 255 ∷ 0 ∷ 0 ∷ 0 ∷ 0 ∷ 0xC4 ∷ 9 ∷ 0 ∷ 0 ∷ 3 ∷ 0 ∷ 0 ∷ 0 ∷ 9 ∷ 0 ∷ 0 ∷ 0
    ∷ 97 ∷ 98 ∷ 99 ∷ 0 ∷ 36 ∷ 0 ∷ 0 ∷ 0 ∷ []

abbrev pub a_simple_packet : List ℕ
a_simple_packet = 3 ∷ 0 ∷ 0 ∷ 0 ∷ 20 ∷ 0 ∷ 0 ∷ 0 ∷ 9 ∷ 0 ∷ 0 ∷ 0 ∷ 97 ∷ 98 ∷ 99 ∷ 0 ∷ 20 ∷ 0 ∷ 0 ∷ 0 ∷ []

-- the same at 4,294,969,796 ms
abbrev pub a_late_packet : List ℕ
a_late_packet =
    6 ∷ 0 ∷ 0 ∷ 0 ∷ 32 ∷ 0 ∷ 0 ∷ 0 ∷ 0 ∷ 0 ∷ 0 ∷ 0 ∷ 1 ∷ 0 ∷ 0 ∷ 0 ∷ 0xC4 ∷ 9 ∷ 0 ∷ 0 ∷ 0 ∷ 0 ∷ 0 ∷ 0 ∷ 9 ∷ 0 ∷ 0 ∷ 0 ∷ 32 ∷ 0 ∷ 0 ∷ 0 ∷ []

-- a packet without a moment that had these octets
abbrev pub a_short_packet : ℕ → List ℕ
a_short_packet count = 3 ∷ 0 ∷ 0 ∷ 0 ∷ 20 ∷ 0 ∷ 0 ∷ 0 ∷ count ∷ 0 ∷ 0 ∷ 0 ∷ 97 ∷ 98 ∷ 99 ∷ 100 ∷ 20 ∷ 0 ∷ 0 ∷ 0 ∷ []

-- an interface of link type 105 that captures all; behind the end of its options stands an if_tsresol
abbrev pub a_plain_interface : List ℕ
a_plain_interface =
    1 ∷ 0 ∷ 0 ∷ 0 ∷ 32 ∷ 0 ∷ 0 ∷ 0 ∷ 105 ∷ 0 ∷ 0 ∷ 0 ∷ 0 ∷ 0 ∷ 0 ∷ 0
    ∷ 0 ∷ 0 ∷ 0 ∷ 0
    ∷ 9 ∷ 0 ∷ 1 ∷ 0 ∷ 3 ∷ 0 ∷ 0 ∷ 0
    ∷ 32 ∷ 0 ∷ 0 ∷ 0 ∷ []

abbrev pub plain_section : SectionValue
plain_section = record {
  is_big = false;
  interfaces = record { link_type = Err 105; snap_length = 0; units = Some 1000000; offset = 0 } ∷ [];
}

-- statistics: 9 received, 7 dropped by the interface, 500 by the system
abbrev pub some_statistics : List ℕ
some_statistics =
    5 ∷ 0 ∷ 0 ∷ 0 ∷ 64 ∷ 0 ∷ 0 ∷ 0 ∷ 0 ∷ 0 ∷ 0 ∷ 0 ∷ replicate 8 0
    ++ 4 ∷ 0 ∷ 8 ∷ 0 ∷ 9 ∷ 0 ∷ 0 ∷ 0 ∷ 0 ∷ 0 ∷ 0 ∷ 0
    ∷ 5 ∷ 0 ∷ 8 ∷ 0 ∷ 7 ∷ 0 ∷ 0 ∷ 0 ∷ 0 ∷ 0 ∷ 0 ∷ 0
    ∷ 7 ∷ 0 ∷ 8 ∷ 0 ∷ 0xF4 ∷ 1 ∷ 0 ∷ 0 ∷ 0 ∷ 0 ∷ 0 ∷ 0
    ∷ 0 ∷ 0 ∷ 0 ∷ 0 ∷ 64 ∷ 0 ∷ 0 ∷ 0 ∷ []

-- statistics of the interface 5 that say nothing
abbrev pub bare_statistics : List ℕ
bare_statistics = 5 ∷ 0 ∷ 0 ∷ 0 ∷ 24 ∷ 0 ∷ 0 ∷ 0 ∷ 5 ∷ 0 ∷ 0 ∷ 0 ∷ replicate 8 0 ++ 24 ∷ 0 ∷ 0 ∷ 0 ∷ []

-- before the first section
abbrev pub no_section : SectionValue
no_section = record { is_big = false; interfaces = [] }

pub record KnownBlocks : Type 0 where
  pub big : section_after no_section big_section ≡ record { is_big = true; interfaces = [] }
  pub little : section_after known_section (little_section 1) ≡ no_section
  pub sections : block_of no_section big_section ≡ Ok (OtherValue 28)
  pub version_2 : block_of no_section (little_section 2) ≡ Err NoCapture
  pub no_magic : block_of no_section (take 8 big_section ++ replicate 20 0) ≡ Err NoCapture
  pub interface : section_after no_section an_interface ≡ known_section
  pub interface_block : block_of no_section an_interface ≡ Ok (OtherValue 48)
  pub plain_interface : section_after no_section a_plain_interface ≡ plain_section
  pub packet : block_of known_section (a_packet 0 3) ≡ Ok (PacketValue 36 (Ok t.Ethernet) (Some 12500) (97 ∷ 98 ∷ 99 ∷ []))
  pub late_packet : block_of known_section a_late_packet ≡ Ok (PacketValue 32 (Ok t.Ethernet) (Some 4294979796) [])
  pub same_section : section_after known_section (a_packet 0 3) ≡ known_section
  pub old_packet : block_of known_section an_old_packet ≡ Ok (PacketValue 36 (Ok t.Ethernet) (Some 12500) (97 ∷ 98 ∷ 99 ∷ []))
  pub simple_packet : block_of known_section a_simple_packet ≡ Ok (PacketValue 20 (Ok t.Ethernet) None (97 ∷ 98 ∷ 99 ∷ []))
  pub all_captured : block_of plain_section (a_short_packet 4) ≡ Ok (PacketValue 20 (Err 105) None (97 ∷ 98 ∷ 99 ∷ 100 ∷ []))
  pub statistics : block_of known_section some_statistics ≡ Ok (StatisticsValue 64 0 (Some 7) (Some 500))
  pub no_statistics : block_of known_section bare_statistics ≡ Ok (StatisticsValue 24 5 None None)
  -- 10^-r s, or 2^-r s with the highest bit, in 128 bits
  pub units : map units_of (0 ∷ 6 ∷ 9 ∷ 38 ∷ 39 ∷ 128 ∷ 138 ∷ 255 ∷ [])
      ≡ Some 1 ∷ Some 1000000 ∷ Some 1000000000 ∷ Some (10 ^ 38) ∷ None ∷ Some 1 ∷ Some 1024 ∷ Some (2 ^ 127) ∷ []
  -- 1536 parts of 1024; and 2500 ms behind 1 s and behind 3 s before 1970
  pub parts : moment_with (Some 1024) 0 1536 ≡ Some 1500
  pub from_before : moment_with (Some 1000) 0xFFFFFFFFFFFFFFFF 2500 ≡ Some 1500
  pub before : moment_with (Some 1000) 0xFFFFFFFFFFFFFFFD 2500 ≡ None
  -- a block that isn't read is told by its head alone
  pub other : block_of known_section (4 ∷ 0 ∷ 0 ∷ 0 ∷ 0 ∷ 0 ∷ 16 ∷ 0 ∷ 9 ∷ 9 ∷ 9 ∷ 9 ∷ []) ≡ Ok (OtherValue 1048576)
  pub no_head : block_of known_section (take 11 (a_packet 0 3)) ≡ Err More
  pub not_whole : block_of known_section (take 35 (a_packet 0 3)) ≡ Err More
  -- the fewest octets
  pub shortest : map shortest_of (k.Section ∷ k.Interface ∷ k.Packet ∷ k.OldPacket ∷ k.SimplePacket ∷ k.Statistics ∷ k.Other ∷ [])
      ≡ 28 ∷ 20 ∷ 32 ∷ 32 ∷ 16 ∷ 24 ∷ 12 ∷ []
  -- a length of 13, and of 12, 327,684 octets of a packet, and another length at its end
  pub no_words : block_of known_section (4 ∷ 0 ∷ 0 ∷ 0 ∷ 13 ∷ 0 ∷ 0 ∷ 0 ∷ replicate 5 0) ≡ Err (Broken 4)
  pub short : block_of known_section (6 ∷ 0 ∷ 0 ∷ 0 ∷ 12 ∷ 0 ∷ 0 ∷ 0 ∷ 12 ∷ 0 ∷ 0 ∷ 0 ∷ []) ≡ Err (Broken 4)
  pub long : block_of known_section (6 ∷ 0 ∷ 0 ∷ 0 ∷ 4 ∷ 0 ∷ 5 ∷ 0 ∷ replicate 4 0) ≡ Err (Broken 4)
  pub other_end : block_of known_section (take 32 (a_packet 0 3) ++ 40 ∷ 0 ∷ 0 ∷ 0 ∷ []) ≡ Err (Broken 32)
  -- an interface that isn't described, and more octets than the block has
  pub no_interface : block_of known_section (a_packet 1 3) ≡ Err (Broken 8)
  pub more_octets : block_of known_section (a_packet 0 5) ≡ Err (Broken 20)
  pub no_first_interface : block_of no_section a_simple_packet ≡ Err (Broken 0)
  pub more_simple_octets : block_of plain_section (a_short_packet 5) ≡ Err (Broken 8)

-- ---- fragments

-- the first eight octets of a datagram, and the four behind them
abbrev pub a_first_part : Fragment
a_first_part = part_4 0 true 20 28

abbrev pub a_last_part : Fragment
a_last_part = part_4 8 false 20 24

-- what the first carries, and a frame that carries octets
abbrev pub eight : List ℕ
eight = 1 ∷ 2 ∷ 3 ∷ 4 ∷ 5 ∷ 6 ∷ 7 ∷ 8 ∷ []

abbrev pub a_frame : List ℕ → List ℕ
a_frame octets = replicate 20 0 ++ octets

pub record KnownFragments : Type 0 where
  -- in a frame of 44 octets: 24, 23 at the end, 23 and 20 where others follow, 25, none, and those up to the 65,535th and the 65,536th
  pub whole : is_unusable_in (replicate 44 0) (part_4 0 true 20 44) ≡ false
  pub odd_last : is_unusable_in (replicate 44 0) (part_4 0 false 20 43) ≡ false
  pub odd : is_unusable_in (replicate 44 0) (part_4 0 true 20 43) ≡ true
  pub by_four : is_unusable_in (replicate 44 0) (part_4 0 true 20 40) ≡ true
  pub cut : is_unusable_in (replicate 44 0) (part_4 0 false 20 45) ≡ true
  pub empty : is_unusable_in (replicate 44 0) (part_4 0 false 20 20) ≡ true
  pub highest : is_unusable_in (replicate 44 0) (part_4 65512 false 20 43) ≡ false
  pub too_high : is_unusable_in (replicate 44 0) (part_4 65512 false 20 44) ≡ true
  -- parts in either order; a gap, no last one, and one that overlapped
  pub joined : (a b : Part) → IsPartOf a a_first_part 0 (a_frame eight) false → IsPartOf b a_last_part 5 (a_frame abcd) false →
      joined_of (b ∷ a ∷ []) a_last_part ≡ Some (eight ++ abcd)
  pub gap : (b : Part) → IsPartOf b a_last_part 5 (a_frame abcd) false → joined_of (b ∷ []) a_last_part ≡ None
  pub no_last : (a : Part) → IsPartOf a a_first_part 0 (a_frame eight) false → joined_of (a ∷ []) a_first_part ≡ None
  pub overlapping : (a b : Part) → IsPartOf a a_first_part 0 (a_frame eight) false → IsPartOf b a_last_part 5 (a_frame abcd) true →
      joined_of (a ∷ b ∷ []) a_last_part ≡ None
  -- the same identification of the other protocol is of another datagram
  pub other : (a b : Part) → IsPartOf a (record a_first_part { protocol = 17 }) 0 (a_frame eight) false →
      IsPartOf b a_last_part 5 (a_frame abcd) false → joined_of (a ∷ b ∷ []) a_last_part ≡ None
  -- a part that comes again, one that goes on, and one that has an octet in common
  pub again : (a : Part) → IsPartOf a a_first_part 0 (a_frame eight) false → is_repeated a_first_part (a ∷ []) ≡ true
  pub longer : (a : Part) → IsPartOf a a_first_part 0 (a_frame eight) false → is_repeated (part_4 0 true 20 36) (a ∷ []) ≡ false
  pub next : (a : Part) → IsPartOf a a_first_part 0 (a_frame eight) false → is_overlapped a_last_part (a ∷ []) ≡ false
  pub common : (a : Part) → IsPartOf a a_first_part 0 (a_frame eight) false → is_overlapped (part_4 7 false 20 24) (a ∷ []) ≡ true
  -- at 60,000 ms it is kept, and behind them not; 127 of them have room for one more, and 128 not
  pub kept : (a : Part) → IsPartOf a a_first_part 0 (a_frame eight) false → is_full_at 60000 (a ∷ []) ≡ false
  pub old : (a : Part) → IsPartOf a a_first_part 0 (a_frame eight) false → is_full_at 60001 (a ∷ []) ≡ true
  pub room : (a : Part) → IsPartOf a a_first_part 0 (a_frame eight) false → is_full_at 0 (replicate 127 a) ≡ false
  pub full : (a : Part) → IsPartOf a a_first_part 0 (a_frame eight) false → is_full_at 0 (replicate 128 a) ≡ true
  -- behind a datagram put together stands what its protocol names, of version 6 a next header
  pub carries : (w : Whole) → w.source ≡ V4 0x0A000001 → w.destination ≡ V4 0x0A000002 → w.protocol ≡ 6 → w.octets.items ≡ segment →
      segment_of_whole w ≡ said_4
  pub carries_no_extension : (w : Whole) → w.source ≡ V4 0x0A000001 → w.protocol ≡ 60 → segment_of_whole w ≡ Err u.OtherProtocol
  pub carries_extensions : (w : Whole) → w.source ≡ V6 0x20010DB800000000 1 → w.destination ≡ V6 0x20010DB800000000 2 →
      w.protocol ≡ 60 → w.octets.items ≡ 6 ∷ replicate 7 0 ++ segment → segment_of_whole w ≡ said_6
