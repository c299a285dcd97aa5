-- Blocks of a pcapng file (draft-ietf-opsawg-pcapng, 3 and 4), and packets of either kind of file.
use Rattle.std.specs.Prelude.{◌≡◌, ℕ, ◌+◌, ◌*◌, ◌-◌, ◌%◌, Bool, true, false, ◌==◌, ◌&&◌, ◌||◌, not, nat_lt, min, if◌then◌else◌, List, [], ◌∷◌, ◌++◌, length, Option, Some, None, Result, Ok, Err, slice_get}
use Rattle.smq_packets.specs.Interfaces.{interface_of, moment_of}
use Rattle.smq_packets.specs.Layers.{onward}
use Rattle.smq_packets.specs.Numbers.{number, low_number, ordered_number, between}
use Rattle.smq_packets.specs.Options.{number_of_option}
use Rattle.smq_packets.specs.declared.block.Block.{Block}
use Rattle.smq_packets.specs.declared.block.Block.TheVariants as b
use Rattle.smq_packets.specs.declared.block.BlockHead.{BlockHead}
use Rattle.smq_packets.specs.declared.block.Kind.{Kind}
use Rattle.smq_packets.specs.declared.block.Kind.TheVariants as k
use Rattle.smq_packets.specs.declared.block.NoBlock.{NoBlock}
use Rattle.smq_packets.specs.declared.block.NoBlock.TheVariants.{More, NoCapture, Broken}
use Rattle.smq_packets.specs.declared.interface.Interface.{Interface}
use Rattle.smq_packets.specs.declared.link.LinkType.{LinkType}

-- a section: the order of its numbers, and its interfaces so far
pub record SectionValue : Type 0 where
  pub is_big : Bool
  pub interfaces : List Interface

-- a block, and how many octets it has
pub data BlockValue : Type 0 where
  OtherValue : (size : ℕ) → BlockValue
  PacketValue : (size : ℕ) (link_type : Result LinkType ℕ) (moment : Option ℕ) (frame : List ℕ) → BlockValue
  StatisticsValue : (size interface : ℕ) (dropped_by_interface dropped_by_system : Option ℕ) → BlockValue

-- what a block is, wherever its octets are
abbrev pub value_of_block : Block → BlockValue
value_of_block (b.Other size) = OtherValue size
value_of_block (b.Packet size link_type moment frame) = PacketValue size link_type moment frame.now
value_of_block (b.Statistics size interface dropped_by_interface dropped_by_system) =
    StatisticsValue size interface dropped_by_interface dropped_by_system

-- what a block of a type holds
abbrev pub kind_of : ℕ → Kind
kind_of n =
    if n == 0x0A0D0D0A then k.Section
    else if n == 1 then k.Interface
    else if n == 2 then k.OldPacket
    else if n == 3 then k.SimplePacket
    else if n == 5 then k.Statistics
    else if n == 6 then k.Packet
    else k.Other

-- the fewest octets of a block: its fields, and its length at either end
abbrev pub shortest_of : Kind → ℕ
shortest_of k.Section = 28
shortest_of k.Interface = 20
shortest_of k.Packet = 32
shortest_of k.OldPacket = 32
shortest_of k.SimplePacket = 16
shortest_of k.Statistics = 24
shortest_of k.Other = 12

abbrev pub is_kind_read : Kind → Bool
is_kind_read k.Other = false
is_kind_read _ = true

-- the order of a block's numbers: a section's magic number tells it, which stands at 8
abbrev pub order_of : Bool → List ℕ → Result Bool NoBlock
order_of is_big octets =
    if not (number 4 0 octets == 0x0A0D0D0A) then Ok is_big
    else if number 4 8 octets == 0x1A2B3C4D then Ok true
    else if low_number 4 8 octets == 0x1A2B3C4D then Ok false
    else Err NoCapture

-- a length is a multiple of 4, not below the fewest octets, and of a block that is read at most 327,680
abbrev pub is_bad_size : Kind → ℕ → Bool
is_bad_size kind size =
    not (size % 4 == 0) || nat_lt size (shortest_of kind) || is_kind_read kind && nat_lt 327680 size

abbrev pub sized_head : Bool → Kind → ℕ → Result BlockHead NoBlock
sized_head is_big kind size =
    if is_bad_size kind size then Err (Broken 4)
    else Ok (record { kind = kind; size = size; is_big = is_big })

-- the head of the block at the front: its type at 0, its length at 4
abbrev pub head_of_block : Bool → List ℕ → Result BlockHead NoBlock
head_of_block is_big octets =
    if nat_lt (length octets) 12 then Err More
    else onward (order_of is_big octets) (λ order.
    sized_head order (kind_of (ordered_number order 4 0 octets)) (ordered_number order 4 4 octets))

-- a block that is read is there as a whole, and says its length again at its end
abbrev pub ends_block : BlockHead → List ℕ → Result (Unit {0}) NoBlock
ends_block head octets =
    if not (is_kind_read head.kind) then Ok tt
    else if nat_lt (length octets) head.size then Err More
    else if not (ordered_number head.is_big 4 (head.size - 4) octets == head.size) then Err (Broken (head.size - 4))
    else Ok tt

-- a packet with a moment (4.3, and appendix A): of an interface, the count of its units at 12, and how many octets were captured at 20
abbrev pub timed_packet_of : BlockHead → Option Interface → List ℕ → Result BlockValue NoBlock
timed_packet_of head None octets = Err (Broken 8)
timed_packet_of head (Some interface) octets =
    let captured = ordered_number head.is_big 4 20 octets in
    if nat_lt 262144 captured || nat_lt (head.size - 32) captured then Err (Broken 20)
    else Ok (PacketValue head.size interface.link_type
    (moment_of interface (ordered_number head.is_big 4 12 octets * 0x100000000 + ordered_number head.is_big 4 16 octets))
    (between 28 (28 + captured) octets))

-- how many octets of a packet were captured, of which an interface captures at most so many (0: all)
abbrev pub captured_within : ℕ → ℕ → ℕ
captured_within limit n = if limit == 0 then n else min n limit

-- a packet without a moment (4.4), of the first interface: how many octets it had at 8
abbrev pub simple_packet_of : BlockHead → Option Interface → List ℕ → Result BlockValue NoBlock
simple_packet_of head None octets = Err (Broken 0)
simple_packet_of head (Some interface) octets =
    let captured = captured_within interface.snap_length (ordered_number head.is_big 4 8 octets) in
    if nat_lt 262144 captured || nat_lt (head.size - 16) captured then Err (Broken 8)
    else Ok (PacketValue head.size interface.link_type None (between 12 (12 + captured) octets))

-- statistics (4.6): isb_ifdrop (5) and isb_osdrop (7)
abbrev pub statistics_of : BlockHead → List ℕ → BlockValue
statistics_of head octets =
    StatisticsValue head.size (ordered_number head.is_big 4 8 octets)
    (number_of_option head.is_big 5 (between 20 (head.size - 4) octets))
    (number_of_option head.is_big 7 (between 20 (head.size - 4) octets))

-- what a block holds, in a section with these interfaces: one of version 1 begins, or at most 65,536 interfaces are described
abbrev pub content_of : Kind → BlockHead → List Interface → List ℕ → Result BlockValue NoBlock
content_of k.Section head interfaces octets =
    if not (ordered_number head.is_big 2 12 octets == 1) then Err NoCapture else Ok (OtherValue head.size)
content_of k.Interface head interfaces octets =
    if nat_lt (length interfaces) 65536 then Ok (OtherValue head.size) else Err (Broken 0)
content_of k.Packet head interfaces octets =
    timed_packet_of head (slice_get interfaces (ordered_number head.is_big 4 8 octets)) octets
content_of k.OldPacket head interfaces octets =
    timed_packet_of head (slice_get interfaces (ordered_number head.is_big 2 8 octets)) octets
content_of k.SimplePacket head interfaces octets = simple_packet_of head (slice_get interfaces 0) octets
content_of k.Statistics head interfaces octets = Ok (statistics_of head octets)
content_of k.Other head interfaces octets = Ok (OtherValue head.size)

-- the block at the front of octets, in a section
unfoldable pub block_of : SectionValue → List ℕ → Result BlockValue NoBlock
block_of section octets =
    onward (head_of_block section.is_big octets) (λ head.
    onward (ends_block head octets) (λ _. content_of head.kind head section.interfaces octets))

-- whether an interface is described there: memory is wanted for no other block
abbrev pub is_interface : Kind → Bool
is_interface k.Interface = true
is_interface _ = false

abbrev pub begins_interface : Result BlockHead NoBlock → Bool
begins_interface (Ok head) = is_interface head.kind
begins_interface (Err why) = false

unfoldable pub describes_interface : SectionValue → List ℕ → Bool
describes_interface section octets = begins_interface (head_of_block section.is_big octets)

-- the section after a block
abbrev pub section_behind : Kind → BlockHead → SectionValue → List ℕ → SectionValue
section_behind k.Section head section octets = record { is_big = head.is_big; interfaces = [] }
section_behind k.Interface head section octets =
    record section { interfaces = section.interfaces ++ interface_of head octets ∷ [] }
section_behind _ head section octets = section

abbrev pub section_with : Result BlockHead NoBlock → SectionValue → List ℕ → SectionValue
section_with (Ok head) section octets = section_behind head.kind head section octets
section_with (Err why) section octets = section

unfoldable pub section_after : SectionValue → List ℕ → SectionValue
section_after section octets = section_with (head_of_block section.is_big octets) section octets
