-- The head of a pcap file, and its records (draft-ietf-opsawg-pcap, 4 and 5).
use Rattle.std.specs.Prelude.{ℕ, ◌+◌, ◌*◌, ◌/◌, ◌%◌, Bool, true, false, ◌==◌, nat_lt, if◌then◌else◌, List, length, Option, Some, None, Result, Ok, Err}
use Rattle.smq_packets.specs.Blocks.{BlockValue, PacketValue}
use Rattle.smq_packets.specs.Links.{link_type_of}
use Rattle.smq_packets.specs.Numbers.{number, low_number, ordered_number, between}
use Rattle.smq_packets.specs.declared.block.NoBlock.{NoBlock}
use Rattle.smq_packets.specs.declared.block.NoBlock.TheVariants.{More, Broken}
use Rattle.smq_packets.specs.declared.file.FileHead.{FileHead}
use Rattle.smq_packets.specs.declared.file.HeadFault.{HeadFault}
use Rattle.smq_packets.specs.declared.file.HeadFault.TheVariants as f
use Rattle.smq_packets.specs.declared.file.RecordHead.{RecordHead}
use Rattle.smq_packets.specs.declared.link.LinkType.{LinkType}

-- how a file is read whose packets are of a link type, by its number
abbrev pub head_with : Bool → Bool → ℕ → Option LinkType → Result FileHead HeadFault
head_with is_big is_nano n None = Err (f.LinkType n)
head_with is_big is_nano n (Some link_type) =
    Ok (record { is_big = is_big; is_nano = is_nano; link_type = link_type })

-- the link type stands at 20, in the lower 16 bits
abbrev pub head_in_order : Bool → Bool → List ℕ → Result FileHead HeadFault
head_in_order is_big is_nano octets =
    head_with is_big is_nano (ordered_number is_big 4 20 octets % 65536)
    (link_type_of (ordered_number is_big 4 20 octets % 65536))

-- The magic number of a file stands in the order of its numbers, and tells what fractions of a second are.
abbrev pub head_of_file : List ℕ → Result FileHead HeadFault
head_of_file octets =
    if nat_lt (length octets) 24 then Err f.NoCapture
    else if number 4 0 octets == 0xA1B2C3D4 then head_in_order true false octets
    else if low_number 4 0 octets == 0xA1B2C3D4 then head_in_order false false octets
    else if number 4 0 octets == 0xA1B23C4D then head_in_order true true octets
    else if low_number 4 0 octets == 0xA1B23C4D then head_in_order false true octets
    else Err f.NoCapture

-- the head of a record: seconds and parts of one, how many octets of the packet are there, and how many it had
abbrev pub record_of : FileHead → List ℕ → RecordHead
record_of head octets = record {
  moment = ordered_number head.is_big 4 0 octets * 1000
      + ordered_number head.is_big 4 4 octets / (if head.is_nano then 1000000 else 1000);
  captured = ordered_number head.is_big 4 8 octets;
  length = ordered_number head.is_big 4 12 octets;
}

-- how many octets a record has
abbrev pub size_of_record : FileHead → List ℕ → ℕ
size_of_record head octets = 16 + (record_of head octets).captured

-- the packet of the record at the front: one of more than 262,144 octets can't be
abbrev pub packet_of_record : FileHead → List ℕ → Result BlockValue NoBlock
packet_of_record head octets =
    if nat_lt (length octets) 16 then Err More
    else if nat_lt 262144 (record_of head octets).captured then Err (Broken 8)
    else if nat_lt (length octets) (size_of_record head octets) then Err More
    else Ok (PacketValue (size_of_record head octets) (Ok head.link_type) (Some (record_of head octets).moment)
    (between 16 (size_of_record head octets) octets))
