-- How a window as it is kept stands for what came.
use Rattle.std.specs.Prelude.{◌≡◌, ℕ, ◌≤◌, List, [], ◌∷◌, ◌++◌, Option, Some, None}
use Rattle.std.specs.BTreeMap.{BTreeMap, get}
use Rattle.std.specs.Ordering.{nat_cmp}
use Rattle.smq_window.specs.declared.connection.Connection.{Connection}
use Rattle.smq_window.specs.declared.made.Made.{Made}
use Rattle.smq_window.specs.declared.row.Row.{Row}
use Rattle.smq_window.specs.declared.window.Window.{Window}
use Rattle.smq_window.specs.Connection.{ConnectionValue}
use Rattle.smq_window.specs.Window.{WindowValue, known_passed, made_passed, oldest_of, present_of, rows_passed}
use Rattle.smq_window.specs.within.Shown.{Shows}

-- connections by their sessions
abbrev pub Known : Type 0
Known = ℕ → Option ConnectionValue

-- a connection, or none, as it is kept
abbrev pub MayShow : Option ConnectionValue → ℕ → ℕ → Option Connection → Type 0
MayShow None oldest present None = Unit {0}
MayShow None oldest present (Some kept) = ⊥
MayShow (Some c) oldest present None = ⊥
MayShow (Some c) oldest present (Some kept) = Shows c oldest present kept

-- the connections as they are kept
pub record AllShown (known : Known) (oldest present : ℕ) (kept : BTreeMap ℕ Connection) : Type 0 where
  pub each : (session : ℕ) → MayShow (known session) oldest present (get nat_cmp kept session)

-- the first of the sessions that were made isn't older than a period
abbrev pub IsFrom : ℕ → List Made → Type 0
IsFrom oldest [] = Unit {0}
IsFrom oldest (m ∷ ms) = oldest ≤ m.period

-- a window as it is kept
pub record IsWindow (l : ℕ × ℕ) (w : WindowValue) (kept : Window) : Type 0 where
  pub length : kept.length ≡ l
  pub belief : kept.belief ≡ w.belief
  pub made : kept.made.items ≡ w.made
  pub known : AllShown w.known (oldest_of l w.belief) (present_of l w.belief) kept.connections

-- Some of the sessions that were made left, and a row for each that was there was put behind others: what leaves of the rest leaves of all.
pub record Passes (known : Known) (oldest present : ℕ) (made : List Made) (rows : List Row)
    (kept : BTreeMap ℕ Connection) (left : List Made) (some : List Row) : Type 0 where
  pub now : Known
  pub shown : AllShown now oldest present kept
  pub adds : some ++ rows_passed oldest left now ≡ rows ++ rows_passed oldest made known
  pub passed : known_passed oldest left now ≡ known_passed oldest made known
  pub stays : made_passed oldest left ≡ made_passed oldest made
