-- The TCP segment of a frame (RFC 9293, 3.1).
use Rattle.std.specs.Prelude.{◌≡◌, ℕ, zero, suc, ◌+◌, ◌*◌, ◌/◌, ◌-◌, ◌^◌, Bool, true, false, ◌==◌, ◌||◌, nat_lt, bit_and, if◌then◌else◌, List, slice_index}
use Rattle.std.specs.Prelude.{Result, Ok, Err}
use Rattle.smq_packets.specs.Numbers.{number, between}
use Rattle.smq_packets.specs.Layers.{onward, whole_at}
use Rattle.smq_packets.specs.Links.{head_of_link, behind_type, behind_family, behind_label, behind_session}
use Rattle.smq_packets.specs.Datagrams.{behind_ip, behind_extension, behind_part}
use Rattle.smq_packets.specs.Tunnels.{behind_gre, behind_udp}
use Rattle.smq_packets.specs.declared.layer.Address.TheVariants.{V4}
use Rattle.smq_packets.specs.declared.layer.Layer.{Layer}
use Rattle.smq_packets.specs.declared.layer.Head.{Head}
use Rattle.smq_packets.specs.declared.layer.Head.TheVariants as h
use Rattle.smq_packets.specs.declared.layer.Unread.{Unread}
use Rattle.smq_packets.specs.declared.layer.Unread.TheVariants.{OtherProtocol, Malformed, TooDeep}
use Rattle.smq_packets.specs.declared.link.LinkType.{LinkType}
use Rattle.smq_packets.specs.declared.segment.End.{End}
use Rattle.smq_packets.specs.declared.segment.Segment.{Segment}

-- a segment, of whose own octets those are there that were captured
pub record SegmentValue : Type 0 where
  pub source : End
  pub destination : End
  pub flags : ℕ
  pub sequence : ℕ
  pub acknowledged : ℕ
  pub octets : List ℕ
  -- how many it had
  pub length : ℕ

-- what a segment is, wherever its octets are
abbrev pub value_of : Segment → SegmentValue
value_of s = record {
  source = s.source;
  destination = s.destination;
  flags = s.flags;
  sequence = s.sequence;
  acknowledged = s.acknowledged;
  octets = s.octets.now;
  length = s.length;
}

-- ---- the head of TCP

-- where the data begins, by the data offset
abbrev pub data_of : List ℕ → Layer → ℕ
data_of frame l = l.start + slice_index frame (l.start + 12) / 16 * 4

-- where it ends: what comes with a reset is none of the stream
abbrev pub end_of_data : List ℕ → Layer → ℕ
end_of_data frame l =
    if bit_and (slice_index frame (l.start + 13)) 4 == 0 then l.until else data_of frame l

-- the segment
abbrev pub segment_at : List ℕ → Layer → SegmentValue
segment_at frame l = record {
  source = record { address = l.source; port = number 2 l.start frame };
  destination = record { address = l.destination; port = number 2 (l.start + 2) frame };
  flags = slice_index frame (l.start + 13);
  sequence = number 4 (l.start + 4) frame;
  acknowledged = number 4 (l.start + 8) frame;
  octets = between (data_of frame l) (end_of_data frame l) frame;
  length = end_of_data frame l - data_of frame l;
}

-- It is cut off where its first 14 octets weren't captured, which say all but its options, and malformed where its head says less than
-- 20 octets, or more than its datagram has.
abbrev pub tcp_of : List ℕ → Layer → Result SegmentValue Unread
tcp_of frame l =
    onward (whole_at frame l 14) (λ _.
    if nat_lt (data_of frame l) (l.start + 20) || nat_lt l.until (data_of frame l) then Err Malformed
    else Ok (segment_at frame l))

-- ---- the heads before it

-- what stands behind each head
abbrev pub behind_head : Head → List ℕ → Layer → Result Layer Unread
behind_head h.Ethernet frame l = behind_type 14 12 frame l
behind_head h.Cooked frame l = behind_type 16 14 frame l
behind_head h.Cooked2 frame l = behind_type 20 0 frame l
behind_head h.Tag frame l = behind_type 4 2 frame l
behind_head h.Loopback frame l = behind_family frame l
behind_head h.Label frame l = behind_label frame l
behind_head h.Session frame l = behind_session frame l
behind_head h.Ip frame l = behind_ip frame l
behind_head h.Extension frame l = behind_extension 1 8 frame l
behind_head h.Authentication frame l = behind_extension 2 4 frame l
behind_head h.Part frame l = behind_part frame l
behind_head h.Gre frame l = behind_gre frame l
behind_head h.Udp frame l = behind_udp frame l
behind_head h.Tcp frame l = Err OtherProtocol

unfoldable pub behind_of : List ℕ → Layer → Result Layer Unread
behind_of frame l = behind_head l.head frame l

-- whether a head is TCP's
abbrev pub is_tcp : Head → Bool
is_tcp h.Tcp = true
is_tcp _ = false

-- the segment behind at most so many heads
unfoldable pub carried_by : ℕ → List ℕ → Layer → Result SegmentValue Unread
carried_by zero frame l = Err TooDeep
carried_by (suc more) frame l =
    if is_tcp l.head then tcp_of frame l
    else onward (behind_of frame l) (λ behind. carried_by more frame behind)

-- a frame as its link type begins: its own length isn't told
abbrev pub first_layer : LinkType → Layer
first_layer link_type = record {
  head = head_of_link link_type;
  start = 0;
  until = 2 ^ 64 - 1;
  source = V4 0;
  destination = V4 0;
}

-- the segment of a frame, behind at most 32 heads
abbrev pub segment_of : LinkType → List ℕ → Result SegmentValue Unread
segment_of link_type frame = carried_by 32 frame (first_layer link_type)
