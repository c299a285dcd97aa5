-- The home of a PDU: the period to which it is counted.
use Rattle.std.specs.Prelude.{ℕ, zero, suc, ◌+◌, ◌-◌, ◌==◌, ◌&&◌, nat_eq, nat_lt, if◌then◌else◌, Bool, List, [], ◌∷◌, ◌++◌, count_by, Option, Some, None, unwrap_or}
use Rattle.std.specs.List.{list_any}
use Rattle.smq_kit.specs.declared.place.Dir.{Dir}
use Rattle.smq_window.specs.declared.exchange.Exchange.{Exchange}
use Rattle.smq_window.specs.declared.exchange.Half.{Half}
use Rattle.smq_window.specs.Exchange.{exchange_of, is_half, other_half}

-- a PDU with its home: who sent it, its octets, and the period of which it is
pub record Homed : Type 0 where
  pub home : ℕ
  pub sender : Dir
  pub octets : List ℕ

-- whether a PDU has its home in a period and is this half of the exchange of an asker and a sequence_number
abbrev pub is_at_home : ℕ → Dir → ℕ → Half → Homed → Bool
is_at_home period asker number half pdu = pdu.home == period && is_half asker number half (exchange_of pdu.sender pdu.octets)

-- how many PDUs of a period are this half of such an exchange
abbrev pub halves : List Homed → ℕ → Dir → ℕ → Half → ℕ
halves pdus period asker number half = count_by (is_at_home period asker number half) pdus

-- whether the other half of a PDU waits in a period: more PDUs there are that half than are its own
abbrev pub awaits : List Homed → Exchange → ℕ → Bool
awaits pdus e period =
    nat_lt (halves pdus period e.asker e.sequence_number e.half)
    (halves pdus period e.asker e.sequence_number (other_half e.half))

-- the least of so many numbers from one on that passes a test
unfoldable pub least_from : ℕ → ℕ → (ℕ → Bool) → Option ℕ
least_from zero from test = None
least_from (suc n) from test = if test from then Some from else least_from n (from + 1) test

-- The home of a PDU that comes after these, where periods from the oldest to the present one are kept: the oldest in which its other
-- half waits; where there is none, or it is no half of an exchange, the present one.
abbrev pub home_of : List Homed → ℕ → ℕ → Option Exchange → ℕ
home_of pdus oldest present None = present
home_of pdus oldest present (Some e) = unwrap_or (least_from (present + 1 - oldest) oldest (awaits pdus e)) present

-- numbers of periods with one that may be new
abbrev pub with_period : List ℕ → ℕ → List ℕ
with_period periods period = if list_any (nat_eq period) periods then periods else periods ++ period ∷ []
