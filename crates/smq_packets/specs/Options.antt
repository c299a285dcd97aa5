-- Options of a block (draft-ietf-opsawg-pcapng, 3.5).
use Rattle.std.specs.Prelude.{ℕ, zero, suc, ◌+◌, ◌*◌, ◌/◌, Bool, ◌==◌, ◌||◌, nat_lt, if◌then◌else◌, List, length, drop, slice_index, Option, Some, None}
use Rattle.smq_packets.specs.Numbers.{ordered_number, between}

-- where the next option begins: a value is filled up to 4 octets
abbrev pub next_option : Bool → List ℕ → ℕ
next_option is_big rest = 4 + (ordered_number is_big 2 2 rest + 3) / 4 * 4

-- the value of the first of at most so many options that has a code: code, length, value; code 0 ends them
unfoldable pub option_within : ℕ → Bool → ℕ → List ℕ → Option (List ℕ)
option_within zero is_big code rest = None
option_within (suc more) is_big code rest =
    if nat_lt (length rest) 4 || ordered_number is_big 2 0 rest == 0 then None
    else if ordered_number is_big 2 0 rest == code then Some (between 4 (4 + ordered_number is_big 2 2 rest) rest)
    else option_within more is_big code (between (next_option is_big rest) (length rest) rest)

-- the value of the first option with a code
abbrev pub option_of : Bool → ℕ → List ℕ → Option (List ℕ)
option_of is_big code options = option_within (length options) is_big code options

-- a value as a number of eight octets, and as an octet
abbrev pub number_of_value : Bool → Option (List ℕ) → Option ℕ
number_of_value is_big None = None
number_of_value is_big (Some value) = if length value == 8 then Some (ordered_number is_big 8 0 value) else None

abbrev pub octet_of_value : Option (List ℕ) → Option ℕ
octet_of_value None = None
octet_of_value (Some value) = if length value == 1 then Some (slice_index value 0) else None

-- the number, and the octet, in the first option with a code
abbrev pub number_of_option : Bool → ℕ → List ℕ → Option ℕ
number_of_option is_big code options = number_of_value is_big (option_of is_big code options)

abbrev pub octet_of_option : Bool → ℕ → List ℕ → Option ℕ
octet_of_option is_big code options = octet_of_value (option_of is_big code options)
