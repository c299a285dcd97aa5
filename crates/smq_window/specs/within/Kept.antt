-- The periods of a connection, as they are kept.
use Rattle.std.specs.Prelude.{◌≡◌, ℕ, ◌+◌, ◌<◌, ◌≤◌, ◌==◌, ◌&&◌, nat_le, nat_lt, if◌then◌else◌, Bool, true, false, List, length, map, slice_index, slice_index_or, Option, Some, None}
use Rattle.std.specs.List.{All, AllPairs, sum_by}
use Rattle.smq_kit.specs.declared.place.Dir.{Dir}
use Rattle.smq_window.specs.declared.balance.Balance.{Balance}
use Rattle.smq_window.specs.declared.exchange.Exchange.{Exchange}
use Rattle.smq_window.specs.declared.exchange.Half.{Half}
use Rattle.smq_window.specs.declared.exchange.Half.TheVariants.{Request, Response}
use Rattle.smq_window.specs.declared.periods.Period.{Period}
use Rattle.smq_window.specs.Exchange.{is_half, other_half}
use Rattle.smq_window.specs.Homes.{Homed, halves, home_of, with_period}
use Rattle.smq_window.specs.within.Waiting.{number_of, one_if, waiting_of}

-- the numbers of periods
abbrev pub numbers : List Period → List ℕ
numbers periods = map (λ p. p.number) periods

-- how many of a half of an exchange wait in a balance
abbrev pub waiting_in : Balance → Dir → ℕ → Half → ℕ
waiting_in balance asker number half = number_of half (waiting_of balance asker number)

-- how many of a half of an exchange a period has, where it is the one of that number
abbrev pub share_of : ℕ → Dir → ℕ → Half → Period → ℕ
share_of period asker number half p = if p.number == period then waiting_in p.balance asker number half else 0

-- how many of a half of an exchange wait in the period of a number
abbrev pub waiting_at : List Period → ℕ → Dir → ℕ → Half → ℕ
waiting_at periods period asker number half = sum_by (share_of period asker number half) periods

-- whether the other half of a PDU waits in a balance
abbrev pub awaits_in : Exchange → Balance → Bool
awaits_in e balance = nat_lt 0 (waiting_in balance e.asker e.sequence_number (other_half e.half))

-- whether it waits in a period that is kept, from the oldest on
abbrev pub awaits_from : ℕ → Exchange → Period → Bool
awaits_from oldest e p = nat_le oldest p.number && awaits_in e p.balance

-- the first period, from the oldest on, in which the other half of a PDU waits has this index, or there is none
abbrev pub IsFirst : ℕ → Exchange → List Period → Option ℕ → Type 0
IsFirst oldest e periods None = All (λ p. awaits_from oldest e p ≡ false) periods
IsFirst oldest e periods (Some i) =
    (i < length periods)
    × ((d : Period) → awaits_from oldest e (slice_index_or periods i d) ≡ true)
    × ((k : ℕ) (d : Period) → k < i → awaits_from oldest e (slice_index_or periods k d) ≡ false)

-- A PDU comes into a period: what waits of its exchange there changes by it, and nothing else.
abbrev pub MovesAt : ℕ → Option Exchange → List Period → List Period → Type 0
MovesAt home exchange before after = (period : ℕ) (asker : Dir) (number : ℕ) →
    waiting_at after period asker number Request + waiting_at before period asker number Response
    + one_if (home == period && is_half asker number Response exchange)
    ≡ waiting_at after period asker number Response + waiting_at before period asker number Request
    + one_if (home == period && is_half asker number Request exchange)

-- each number is below those behind it
abbrev pub Ascend : List ℕ → Type 0
Ascend periods = AllPairs (λ a b. a < b) periods

-- What waits of each exchange in each period that is kept is what these PDUs have of one half more than of the other.
pub record IsKept (pdus : List Homed) (oldest present : ℕ) (periods : List Period) : Type 0 where
  pub order : oldest ≤ present
  pub balances : (period : ℕ) → oldest ≤ period → (asker : Dir) (number : ℕ) →
      halves pdus period asker number Request + waiting_at periods period asker number Response
      ≡ halves pdus period asker number Response + waiting_at periods period asker number Request
  pub ascend : Ascend (numbers periods)
  pub within : All (λ p. p ≤ present) (numbers periods)

-- A period of a number is there at an index: it was the last, or was put behind all others, with nothing that waits.
pub record Opens (present : ℕ) (before after : List Period) (index : ℕ) : Type 0 where
  pub at : index < length after
  pub number : slice_index (numbers after) index ≡ present
  pub waits : (period : ℕ) (asker : Dir) (number : ℕ) (half : Half) →
      waiting_at after period asker number half ≡ waiting_at before period asker number half
  pub numbers : Ascend (numbers before) → All (λ p. p ≤ present) (numbers before) →
      numbers after ≡ with_period (numbers before) present

-- A period is there at an index: the home of a PDU that comes after these.
pub record Homes (pdus : List Homed) (oldest present : ℕ) (exchange : Option Exchange) (before after : List Period) (index : ℕ) : Type 0 where
  pub kept : IsKept pdus oldest present after
  pub number : slice_index (numbers after) index ≡ home_of pdus oldest present exchange
  pub numbers : numbers after ≡ with_period (numbers before) (home_of pdus oldest present exchange)
