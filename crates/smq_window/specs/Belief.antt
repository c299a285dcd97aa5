-- Which moments are believed.
use Rattle.std.specs.Prelude.{ℕ, ◌+◌, ◌&&◌, not, nat_le, nat_lt, if◌then◌else◌, Bool, false, Option, Some, None}
use Rattle.smq_window.specs.declared.belief.Belief.{Belief}

-- a day, in ms
abbrev pub day : ℕ
day = 86400000

-- no moment was taken
abbrev pub no_belief : Belief
no_belief = record { newest = None; doubted = None }

-- whether a moment is more than a day ahead of the newest one that is believed
abbrev pub is_ahead : Option ℕ → ℕ → Bool
is_ahead None moment = false
is_ahead (Some newest) moment = nat_lt (newest + day) moment

-- whether a moment is no more than a day away from the one that is doubted
abbrev pub is_near : Option ℕ → ℕ → Bool
is_near None moment = false
is_near (Some doubted) moment = nat_le moment (doubted + day) && nat_le doubted (moment + day)

-- a moment that jumps ahead is doubted, unless the one before it did so, to about there
abbrev pub is_doubted : Belief → ℕ → Bool
is_doubted b moment = is_ahead b.newest moment && not (is_near b.doubted moment)

-- the later of two moments, of which the first may be missing
abbrev pub later : Option ℕ → ℕ → ℕ
later None moment = moment
later (Some newest) moment = if nat_lt newest moment then moment else newest

-- what is believed after a moment: a doubted one changes nothing else; any other forgets the doubt
abbrev pub belief_after : Belief → ℕ → Belief
belief_after b moment =
    if is_doubted b moment
    then (record { newest = b.newest; doubted = Some moment })
    else (record { newest = Some (later b.newest moment); doubted = None })

-- the moment with which a piece is taken: its own, or, where that is doubted, the newest that is believed, or the last of its direction
abbrev pub moment_taken : Belief → ℕ → ℕ → ℕ
moment_taken b moment last = if is_doubted b moment then later b.newest last else moment
