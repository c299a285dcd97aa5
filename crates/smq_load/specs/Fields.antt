-- What a field of a record says.
use Rattle.std.specs.Prelude.{ℕ, if◌then◌else◌, List, codes, Option, Some, None, option_map, nat_le, ◌&&◌, length}
use Rattle.std.specs.Char.{is_ascii_digit}
use Rattle.std.specs.List.{list_all}
use Rattle.std.specs.Option.{option_or}
use Rattle.std.specs.Result.{result_ok}
use Rattle.std.specs.Str.{bytes_eq}
use Rattle.hex.specs.Hex.{decode_of}
use Rattle.smq_kit.specs.declared.message_id.Form.{Form}
use Rattle.smq_kit.specs.declared.message_id.Form.TheVariants.{Verbatim, Decimal, Hexadecimal}
use Rattle.smq_kit.specs.declared.names.LinkId.{LinkId}
use Rattle.smq_kit.specs.declared.names.RouteId.{RouteId}
use Rattle.smq_kit.specs.declared.names.SessionId.{SessionId}
use Rattle.smq_kit.specs.declared.place.Dir.{Dir}
use Rattle.smq_kit.specs.declared.place.Dir.TheVariants.{FromClient, FromCentre}
use Rattle.smq_load.specs.Decimal.{above_0, decimal_to}
use Rattle.smq_load.specs.Instant.{instant_of}

-- the link that a field names: a decimal below 2^32
abbrev pub link_of : List ℕ → Option LinkId
link_of field = option_map (λ (number : ℕ). record { 0 = number }) (decimal_to 4294967295 field)

-- the session that a field names: a decimal below 2^64
abbrev pub session_of : List ℕ → Option SessionId
session_of field = option_map (λ (number : ℕ). record { 0 = number }) (decimal_to 18446744073709551615 field)

-- the route that a field names: a decimal below 2^32
abbrev pub route_of : List ℕ → Option RouteId
route_of field = option_map (λ (number : ℕ). record { 0 = number }) (decimal_to 4294967295 field)

-- the moment that a field says in ms since 1970 in UTC: a decimal that is not above the last moment, or an instant
abbrev pub moment_of : List ℕ → Option ℕ
moment_of field = option_or (decimal_to 4102444800000 field) (instant_of field)

-- the window that a field says in ms: a decimal from 1 to the last moment
abbrev pub window_of : List ℕ → Option ℕ
window_of field = above_0 (decimal_to 4102444800000 field)

-- the direction that a field names: the client's (ESME) or the centre's (SMSC)
abbrev pub dir_of : List ℕ → Option Dir
dir_of field =
    if bytes_eq field (codes "client") then Some FromClient
    else if bytes_eq field (codes "centre") then Some FromCentre
    else None

-- the form of message ids that a text names
abbrev pub form_of : List ℕ → Option Form
form_of field =
    if bytes_eq field (codes "verbatim") then Some Verbatim
    else if bytes_eq field (codes "decimal") then Some Decimal
    else if bytes_eq field (codes "hexadecimal") then Some Hexadecimal
    else None

-- a field of so few to so many decimal digits
abbrev pub digits_of : ℕ → ℕ → List ℕ → Option (List ℕ)
digits_of least most field =
    if nat_le least (length field) && nat_le (length field) most && list_all is_ascii_digit field
    then Some field else None

-- the prefix that a field is: 1 to 15 digits (E.164, section 6)
abbrev pub prefix_of : List ℕ → Option (List ℕ)
prefix_of field = digits_of 1 15 field

-- the network that a field is: 5 or 6 digits (E.212, section 4)
abbrev pub network_of : List ℕ → Option (List ℕ)
network_of field = digits_of 5 6 field

-- the octets that a field says, two hexadecimal digits an octet
abbrev pub octets_of : List ℕ → Option (List ℕ)
octets_of field = result_ok (decode_of field)
