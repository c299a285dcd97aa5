-- Bands of delays.
use Rattle.std.specs.Prelude.{ℕ, ℤ, pos, List, [], ◌∷◌, if◌then◌else◌, int_lt}
use Rattle.smq_tally.specs.declared.band.Band.{Band}
use Rattle.smq_tally.specs.declared.band.Band.TheVariants as b

-- each band but the last with the delay in milliseconds below which it holds, in their order
abbrev pub band_table : List (ℤ × Band)
band_table =
    (pos 0, b.Early) ∷ (pos 5_000, b.Under5Seconds) ∷ (pos 30_000, b.Under30Seconds) ∷ (pos 300_000, b.Under5Minutes)
    ∷ (pos 3_600_000, b.Under1Hour) ∷ []

-- the band where none of the table holds
abbrev pub last_band : Band
last_band = b.Over

-- the first band that holds, or the last one
abbrev pub first_below : List (ℤ × Band) → ℤ → Band
first_below [] delay = last_band
first_below (row ∷ rows) delay = if int_lt delay row.0 then row.1 else first_below rows delay

-- the band of a delay in milliseconds
abbrev pub band_of : ℤ → Band
band_of delay = first_below band_table delay

-- how many bands come before a band
abbrev pub band_rank : Band → ℕ
band_rank b.Early = 0
band_rank b.Under5Seconds = 1
band_rank b.Under30Seconds = 2
band_rank b.Under5Minutes = 3
band_rank b.Under1Hour = 4
band_rank b.Over = 5
