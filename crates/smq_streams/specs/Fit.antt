-- Where a segment stands beside what was given of a direction, by its sequence number (RFC 9293, 3.10.7.4).
use Rattle.std.specs.Prelude.{ℕ, ◌+◌, ◌-◌, max, nat_le, if◌then◌else◌, Option, Some, None}
use Rattle.smq_reassembly.specs.declared.sequence.Place.{Place}
use Rattle.smq_reassembly.specs.declared.sequence.Place.TheVariants.{Ahead, Behind}
use Rattle.smq_streams.specs.declared.fit.Fit.{Fit}
use Rattle.smq_streams.specs.declared.fit.Fit.TheVariants as fit
use Rattle.smq_streams.specs.Search.{counted}

-- a segment is ahead where it begins more than a window ahead of the next octet; it is before the direction where it ends before its first
-- octet. A probe that keeps the connection alive may have the one octet right before the first (RFC 9293, 3.8.4), or none, with its number
abbrev pub fit_at : ℕ → Place → ℕ → Fit
fit_at next (Ahead far) length = if nat_le far 16777216 then fit.Within else fit.Ahead
fit_at next (Behind far) length = if nat_le far (next + max length 1) then fit.Within else fit.Before

-- the place of an octet; none where it would stand before the first
abbrev pub octet_at : ℕ → Place → Option ℕ
octet_at next (Ahead far) = Some (counted next far)
octet_at next (Behind far) = if nat_le far next then Some (next - far) else None

-- the place behind so many octets of which the first stands there
abbrev pub end_at : ℕ → Place → ℕ → ℕ
end_at next (Ahead far) length = counted (counted next far) length
end_at next (Behind far) length = counted next (length - far)

-- a place that isn't more than a window ahead of the next octet
abbrev pub in_window : ℕ → Option ℕ → Option ℕ
in_window next None = None
in_window next (Some place) = if nat_le (place - next) 16777216 then Some place else None

-- the place that a number of a segment tells of, in the same way
abbrev pub told_at : ℕ → Place → Option ℕ
told_at next place = in_window next (octet_at next place)
