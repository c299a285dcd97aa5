-- How what is kept stands for what came.
use Rattle.std.specs.Prelude.{◌≡◌, ℕ, List, ◌++◌, map}
use Rattle.std.specs.Option.{option_to_list}
use Rattle.smq_window.specs.declared.connection.Connection.{Connection}
use Rattle.smq_window.specs.declared.connection.Origin.{Origin}
use Rattle.smq_window.specs.declared.direction.Direction.{Direction}
use Rattle.smq_window.specs.declared.periods.Period.{Period}
use Rattle.smq_window.specs.declared.row.Row.{Row}
use Rattle.smq_window.specs.Connection.{ConnectionValue, dealt, direction_by, direction_with, due, home_rows, homed, periods_by, periods_with, piece_row, rows_by, with_homes}
use Rattle.smq_window.specs.Homes.{Homed}
use Rattle.smq_window.specs.within.Kept.{IsKept, numbers}

-- a connection as it is kept, while periods from the oldest to the present one are
pub record Shows (c : ConnectionValue) (oldest present : ℕ) (kept : Connection) : Type 0 where
  pub link : kept.link ≡ c.link
  pub client : kept.client ≡ c.client
  pub centre : kept.centre ≡ c.centre
  pub periods : numbers kept.periods.items ≡ c.periods
  pub balances : IsKept c.pdus oldest present kept.periods.items

-- PDUs go into their homes, and a row for each behind others.
pub record Deals (pdus : List Homed) (oldest present : ℕ) (at : Origin) (octets : List (List ℕ))
    (before after : List Period) (rows made : List Row) : Type 0 where
  pub adds : made ≡ rows ++ home_rows at (homed pdus oldest present at.sender octets)
  pub kept : IsKept (pdus ++ homed pdus oldest present at.sender octets) oldest present after
  pub numbers : numbers after ≡ with_homes (numbers before) (homed pdus oldest present at.sender octets)

-- The octets of a bad length that are due go into the present period.
pub record Writes (pdus : List Homed) (oldest present : ℕ) (at : Origin) (d : Direction) (before : List Period) (rows : List Row)
    (e : Direction) (after : List Period) (made : List Row) : Type 0 where
  pub adds : made ≡ rows ++ map (piece_row at present) (option_to_list (due d (numbers before)))
  pub kept : IsKept pdus oldest present after
  pub direction : e ≡ direction_with (due d (numbers before)) present d
  pub numbers : numbers after ≡ periods_with (due d (numbers before)) present (numbers before)

-- A piece comes.
pub record Takes (pdus : List Homed) (oldest present : ℕ) (at : Origin) (octets : List ℕ) (d : Direction) (before : List Period) (rows : List Row)
    (e : Direction) (after : List Period) (made : List Row) : Type 0 where
  pub adds : made ≡ rows ++ rows_by pdus oldest present at octets d (numbers before)
  pub kept : IsKept (pdus ++ dealt pdus oldest present at octets d) oldest present after
  pub direction : e ≡ direction_by pdus oldest present at octets d (numbers before)
  pub numbers : numbers after ≡ periods_by pdus oldest present at octets d (numbers before)
