-- What holds of the definitions, whatever comes: octets, homes, and the sessions that were made.
use Rattle.std.specs.Prelude.{◌≡◌, ℕ, ◌<◌, ◌≤◌, true, false, if◌then◌else◌, List, [], ◌∷◌, ◌++◌, Some, None}
use Rattle.std.specs.List.{AllByRecursion, flat_map}
use Rattle.smq_kit.specs.declared.names.LinkId.{LinkId}
use Rattle.smq_kit.specs.declared.place.Dir.{Dir}
use Rattle.smq_window.specs.declared.connection.Origin.{Origin}
use Rattle.smq_window.specs.declared.exchange.Exchange.{Exchange}
use Rattle.smq_window.specs.declared.made.Made.{Made}
use Rattle.smq_window.specs.Connection.{ConnectionValue, connection_after, direction_of, homed, new_connection}
use Rattle.smq_window.specs.Exchange.{same_dir}
use Rattle.smq_window.specs.Homes.{Homed, awaits, home_of}
use Rattle.smq_window.specs.Window.{WindowValue, new_window, oldest_of, present_of, window_after, window_at, window_without}

-- the octets of the PDUs of a sender, one after the other
abbrev pub given_by : Dir → List Homed → List ℕ
given_by sender pdus = flat_map (λ p. if same_dir sender p.sender then p.octets else []) pdus

-- Of each direction without a bad length the PDUs that were dealt, in order, and the octets that wait behind them are the octets that came.
pub record Conserves (c : ConnectionValue) (stream : Dir → List ℕ) : Type 0 where
  pub whole : (sender : Dir) → (direction_of sender c).tail.broken ≡ None →
      given_by sender c.pdus ++ (direction_of sender c).tail.rest ≡ stream sender

-- the octets that came, with those of a piece behind
abbrev pub with_piece : Dir → List ℕ → (Dir → List ℕ) → Dir → List ℕ
with_piece from octets stream sender =
    if same_dir sender from then stream sender ++ octets else stream sender

-- nothing came of a new connection
abbrev pub BeginsWithNone : Type 0
BeginsWithNone = (link : LinkId) → Conserves (new_connection link) (λ sender. [])

-- and a piece adds its octets, whichever periods are kept
abbrev pub ConservesEachPiece : Type 0
ConservesEachPiece = (at : Origin) (oldest present : ℕ) (octets : List ℕ) (c : ConnectionValue) (stream : Dir → List ℕ)
    → Conserves c stream → Conserves (connection_after at oldest present octets c) (with_piece at.sender octets stream)

-- ---- homes

-- where the other half of a PDU waits in a period that is kept, it waits in the home, which is the oldest such period
abbrev pub FindsItsPair : Type 0
FindsItsPair = (pdus : List Homed) (oldest present period : ℕ) (e : Exchange)
    → oldest ≤ period → period ≤ present → awaits pdus e period ≡ true
    → (awaits pdus e (home_of pdus oldest present (Some e)) ≡ true)
    × (oldest ≤ home_of pdus oldest present (Some e))
    × (home_of pdus oldest present (Some e) ≤ period)

-- where it waits in none, the home is the present period
abbrev pub WaitsItself : Type 0
WaitsItself = (pdus : List Homed) (oldest present : ℕ) (e : Exchange)
    → ((period : ℕ) → oldest ≤ period → period ≤ present → awaits pdus e period ≡ false)
    → home_of pdus oldest present (Some e) ≡ present

-- PDUs have their homes among the periods that are kept
abbrev pub HomesAreKept : Type 0
HomesAreKept = (pdus : List Homed) (oldest present : ℕ) (sender : Dir) (octets : List (List ℕ)) → oldest ≤ present
    → AllByRecursion (λ h. (oldest ≤ h.home) × (h.home ≤ present)) (homed pdus oldest present sender octets)

-- ---- sessions that were made

-- no session that was made is older than one before it
abbrev pub AreInOrder : List Made → Type 0
AreInOrder [] = Unit {0}
AreInOrder (m ∷ ms) = AllByRecursion (λ n. m.period ≤ n.period) ms × AreInOrder ms

-- the sessions that were made and didn't leave with their period are of periods that are kept
pub record AreRecent (l : ℕ × ℕ) (w : WindowValue) : Type 0 where
  pub order : AreInOrder w.made
  pub kept : AllByRecursion (λ m. (oldest_of l w.belief ≤ m.period) × (m.period ≤ present_of l w.belief)) w.made

-- so it is at first, and after each row
abbrev pub RecentAtFirst : Type 0
RecentAtFirst = (l : ℕ × ℕ) → AreRecent l new_window

abbrev pub RecentAfterTheClock : Type 0
RecentAfterTheClock = (l : ℕ × ℕ) (moment : ℕ) (w : WindowValue) → 0 < l.0 → AreRecent l w → AreRecent l (window_at l moment w)

abbrev pub RecentAfterAPiece : Type 0
RecentAfterAPiece = (l : ℕ × ℕ) (at : Origin) (octets : List ℕ) (w : WindowValue) → 0 < l.0 → AreRecent l w
    → AreRecent l (window_after l at octets w)

abbrev pub RecentWithout : Type 0
RecentWithout = (l : ℕ × ℕ) (session : ℕ) (w : WindowValue) → AreRecent l w → AreRecent l (window_without session w)
