-- How far a direction was sent (RFC 9293, 3.4: a FIN has the number behind the last octet, and is acknowledged as octets are).
use Rattle.std.specs.Prelude.{ℕ, ◌+◌, max, nat_le, if◌then◌else◌, Bool, true, false, Option, Some, None}
use Rattle.smq_streams.specs.declared.extent.Extent.{Extent}

-- of two places behind numbers that were sent the later one, unless it is one number behind the other, which may be that of a FIN
abbrev pub later_but_fin : ℕ → ℕ → ℕ
later_but_fin place other = if nat_le other (place + 1) then place else other

-- the place behind the last octet that was sent
abbrev pub sent_until : Extent → ℕ
sent_until e = later_but_fin e.end e.reached

-- the place behind the last number, with one more place
abbrev pub reached_with : ℕ → Extent → ℕ
reached_with place e = if nat_le place (sent_until e + 1) then e.reached else place

-- octets up to a place were captured
abbrev pub with_captured : ℕ → Extent → Extent
with_captured place e = record e { end = max e.end place; top = max e.top place }

-- numbers up to a place, if there is one, were sent: those of octets or of a FIN, or others of which the last may be that of a FIN
abbrev pub with_sent : Option ℕ → Bool → Extent → Extent
with_sent None is_exact e = e
with_sent (Some place) true e = record e { end = max e.end place }
with_sent (Some place) false e = record e { reached = reached_with place e }
