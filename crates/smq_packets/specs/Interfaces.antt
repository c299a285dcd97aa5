-- Interfaces of a section (draft-ietf-opsawg-pcapng, 4.2).
use Rattle.std.specs.Prelude.{ℕ, ◌+◌, ◌*◌, ◌/◌, ◌-◌, ◌^◌, ◌==◌, nat_lt, if◌then◌else◌, List, Option, Some, None, unwrap_or, ok_or}
use Rattle.smq_packets.specs.Links.{link_type_of}
use Rattle.smq_packets.specs.Numbers.{ordered_number, between}
use Rattle.smq_packets.specs.Options.{number_of_option, octet_of_option}
use Rattle.smq_packets.specs.declared.block.BlockHead.{BlockHead}
use Rattle.smq_packets.specs.declared.interface.Interface.{Interface}

-- a number, where it is below a limit
abbrev pub if_below : ℕ → ℕ → Option ℕ
if_below limit n = if nat_lt n limit then Some n else None

-- how many parts a second has: a power of 10, or with the highest bit a power of 2, of less than 128 bits
abbrev pub units_of : ℕ → Option ℕ
units_of resolution = if_below (2 ^ 128) (if nat_lt resolution 128 then 10 ^ resolution else 2 ^ (resolution - 128))

-- the moment of so many parts of a second behind an offset of seconds, in two's complement, in ms since 1970: none before 1970
abbrev pub moment_with : Option ℕ → ℕ → ℕ → Option ℕ
moment_with None offset count = None
moment_with (Some units) offset count =
    if units == 0 then None
    else if nat_lt offset (2 ^ 63) then if_below (2 ^ 64) (count * 1000 / units + offset * 1000)
    else if nat_lt (count * 1000 / units) ((2 ^ 64 - offset) * 1000) then None
    else if_below (2 ^ 64) (count * 1000 / units - (2 ^ 64 - offset) * 1000)

abbrev pub moment_of : Interface → ℕ → Option ℕ
moment_of interface count = moment_with interface.units interface.offset count

-- the options of the block that describes an interface
abbrev pub options_of_interface : BlockHead → List ℕ → List ℕ
options_of_interface head octets = between 16 (head.size - 4) octets

-- its link type, the most octets of a frame, and its if_tsresol (9) and if_tsoffset (14); 10^-6 s and 0 where it has none
abbrev pub interface_of : BlockHead → List ℕ → Interface
interface_of head octets = record {
  link_type = ok_or (link_type_of (ordered_number head.is_big 2 8 octets)) (ordered_number head.is_big 2 8 octets);
  snap_length = ordered_number head.is_big 4 12 octets;
  units = units_of (unwrap_or (octet_of_option head.is_big 9 (options_of_interface head octets)) 6);
  offset = unwrap_or (number_of_option head.is_big 14 (options_of_interface head octets)) 0;
}
