-- The turns of requests and responses: a series, which is the requests, or the responses, of a direction that have a
-- sequence number, and the rank in it.
use Rattle.std.specs.Prelude.{◌+◌, ℕ, Bool, if◌then◌else◌, List, take, count_by, Option, Some, None, option_map, option_and_then}
use Rattle.smq_kit.specs.declared.place.Dir.{Dir}
use Rattle.smq_pdu.specs.Header.{Header}
use Rattle.smq_pdu.specs.Pairing.{is_request, is_response, is_request_of, is_response_of, nth_index}
use Rattle.smq_pair.specs.declared.paired_pdu.Role.{Role}
use Rattle.smq_pair.specs.declared.paired_pdu.Role.TheVariants.{Request, Response}
use Rattle.smq_pair.specs.declared.paired_pdu.Series.{Series}
use Rattle.smq_pair.specs.Pairing as value

-- a series, and a rank in it: how many PDUs of the series come before
pub record Turn : Type 0 where
  pub series : Series
  pub rank : ℕ

-- the other side
abbrev pub other_side : Role → Role
other_side Request = Response
other_side Response = Request

-- whether a header is of a side, and whether it has a sequence number too
abbrev pub is_on : Role → Header → Bool
is_on Request header = is_request header
is_on Response header = is_response header

abbrev pub is_of : Role → ℕ → Header → Bool
is_of Request seq header = is_request_of seq header
is_of Response seq header = is_response_of seq header

-- the headers of a direction
abbrev pub headers_from : Dir → value.PairingValue → List Header
headers_from dir v = value.headers (value.pdus_from dir v)

-- how many PDUs a series has
abbrev pub count_in : value.PairingValue → Series → ℕ
count_in v s = count_by (is_of s.side s.seq) (headers_from s.dir v)

-- the index of the PDU of a turn in its direction
abbrev pub index_at : value.PairingValue → Turn → Option ℕ
index_at v t = nth_index (is_of t.series.side t.series.seq) (headers_from t.series.dir v) t.rank

-- the series of what makes pairs with those of this one, and the turn of what makes one with the PDU of this turn
abbrev pub partner_series : Series → Series
partner_series s = record { dir = value.opposite s.dir; side = other_side s.side; seq = s.seq }

abbrev pub partner : Turn → Turn
partner t = record { series = partner_series t.series; rank = t.rank }

-- the turn after
abbrev pub later : Turn → Turn
later t = record { series = t.series; rank = t.rank + 1 }

-- the side of a header
abbrev pub side_of : Header → Option Role
side_of header = if is_request header then Some Request else (if is_response header then Some Response else None)

-- the series of a header of a direction
abbrev pub series_of : Dir → Header → Option Series
series_of dir header = option_map (λ side. record { dir = dir; side = side; seq = header.seq }) (side_of header)

-- the turn of a series after so many headers of its direction
abbrev pub turn_after : List Header → Series → Turn
turn_after earlier s = record { series = s; rank = count_by (is_of s.side s.seq) earlier }

-- the turn of the header at an index of a direction
abbrev pub turn_of : value.PairingValue → Dir → ℕ → Header → Option Turn
turn_of v dir i header = option_map (turn_after (take i (headers_from dir v))) (series_of dir header)

-- the index of the partner of the header at an index of a direction
abbrev pub partner_of : value.PairingValue → Dir → ℕ → Header → Option ℕ
partner_of v dir i header = option_and_then (λ t. index_at v (partner t)) (turn_of v dir i header)

-- the index of the next of its series
abbrev pub next_of : value.PairingValue → Dir → ℕ → Header → Option ℕ
next_of v dir i header = option_and_then (λ t. index_at v (later t)) (turn_of v dir i header)
