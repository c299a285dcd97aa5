-- Which moments of packets are believed, in ms since 1970 in UTC.
use Rattle.std.specs.Prelude.{ℕ, ◌+◌, ◌≡◌, ◌≤◌, ◌&&◌, Bool, false, if◌then◌else◌, max, nat_le, not, Option, Some, None, is_some}
use Rattle.std.specs.Option.{option_or}

-- the last moment that a packet may have: the end of 2099
abbrev pub last_moment : ℕ
last_moment = 4102444800000

-- how far ahead of another one a moment may be
abbrev pub most_ahead : ℕ
most_ahead = 3600000

-- whether a packet may have a moment that comes after another one
abbrev pub may_follow : ℕ → ℕ → Bool
may_follow before moment = nat_le moment (before + most_ahead) && nat_le moment last_moment

-- whether a moment is believed at once: it isn't more than an hour ahead of the newest before
abbrev pub is_believed : Option ℕ → ℕ → Bool
is_believed None moment = false
is_believed (Some newest) moment = may_follow newest moment

-- the newest moment once this one is believed
abbrev pub newest_with : Option ℕ → ℕ → Option ℕ
newest_with None moment = Some moment
newest_with (Some newest) moment = Some (max newest moment)

-- the moment of the next packet, where that may be one
abbrev pub may_be : Option ℕ → Option ℕ
may_be None = None
may_be (Some next) = if nat_le next last_moment then Some next else None

-- whether a moment that wasn't believed at once is so after all: the next packet's isn't more than an hour before it, or, where there is
-- none, no packet was before it
abbrev pub is_confirmed : Option ℕ → ℕ → Option ℕ → Bool
is_confirmed newest moment (Some next) = may_follow next moment
is_confirmed newest moment None = nat_le moment last_moment && not (is_some newest)

-- the moment that such a packet has: its own, or else the newest before, or else the next packet's
abbrev pub settled : Option ℕ → ℕ → Option ℕ → Option ℕ
settled newest moment next =
    if is_confirmed newest moment (may_be next) then Some moment else option_or newest (may_be next)

-- the newest moment then
abbrev pub newest_settled : Option ℕ → ℕ → Option ℕ → Option ℕ
newest_settled newest moment next = if is_confirmed newest moment (may_be next) then Some moment else newest
