-- What becomes of a window, and the rows that are made.
use Rattle.std.specs.Prelude.{ℕ, ◌+◌, ◌-◌, ◌/◌, ◌==◌, ◌&&◌, not, nat_eq, nat_lt, if◌then◌else◌, Bool, false, List, [], ◌∷◌, ◌++◌, length, map, drop, Option, Some, None, is_none, unwrap_or}
use Rattle.std.specs.List.{list_any}
use Rattle.smq_kit.specs.declared.names.LinkId.{LinkId}
use Rattle.smq_kit.specs.declared.refusal.Refusal.{Refusal}
use Rattle.smq_kit.specs.declared.refusal.Refusal.TheVariants.{Backward, EmptyPiece, OtherLink, StreamFull}
use Rattle.smq_kit.specs.Replies.{first_of, refused_if}
use Rattle.smq_window.specs.declared.belief.Belief.{Belief}
use Rattle.smq_window.specs.declared.connection.Origin.{Origin}
use Rattle.smq_window.specs.declared.direction.Direction.{Direction}
use Rattle.smq_window.specs.declared.made.Made.{Made}
use Rattle.smq_window.specs.declared.row.Row.{Row}
use Rattle.smq_window.specs.declared.row.Row.TheVariants.{Withdraw}
use Rattle.smq_window.specs.Belief.{belief_after, moment_taken, no_belief}
use Rattle.smq_window.specs.Connection.{ConnectionValue, connection_after, direction_of, new_connection, rows_of_piece}
use Rattle.smq_window.specs.Session.{session_number}

-- ---- periods

-- the present period: that of the newest moment that is believed, by the length of a period
abbrev pub present_by : ℕ → Option ℕ → ℕ
present_by step None = 0
present_by step (Some newest) = newest / step

-- the present period of a window whose length is that of a period and how many are kept before the present one
abbrev pub present_of : ℕ × ℕ → Belief → ℕ
present_of l belief = present_by l.0 belief.newest

-- the oldest period that is kept
abbrev pub oldest_of : ℕ × ℕ → Belief → ℕ
oldest_of l belief = present_of l belief - l.1

-- ---- sessions that leave

-- whether a period is the first of some
abbrev pub is_first : ℕ → List ℕ → Bool
is_first period [] = false
is_first period (p ∷ ps) = p == period

-- whether no octets wait in a direction, of which no length was bad
abbrev pub is_quiet : Direction → Bool
is_quiet d = (length d.tail.rest == 0) && is_none d.tail.broken

-- whether nothing is left of a connection: no period, and no octets that wait
abbrev pub is_over : ConnectionValue → Bool
is_over c = (length c.periods == 0) && is_quiet c.client && is_quiet c.centre

-- a connection, if anything is left of it
abbrev pub if_left : ConnectionValue → Option ConnectionValue
if_left c = if is_over c then None else Some c

-- a connection without its oldest period
abbrev pub without_first : ConnectionValue → ConnectionValue
without_first c = record c { periods = drop 1 c.periods }

-- whether a connection has a session for a period, which is its oldest
abbrev pub has_session : ℕ → Option ConnectionValue → Bool
has_session period None = false
has_session period (Some c) = is_first period c.periods

-- what is left of a connection without that session
abbrev pub left_of : ℕ → Option ConnectionValue → Option ConnectionValue
left_of period None = None
left_of period (Some c) = if is_first period c.periods then if_left (without_first c) else Some c

-- the row that takes the session of a period back
abbrev pub withdraw_row : ℕ → ℕ → Row
withdraw_row session period = Withdraw (record { 0 = session_number session period })

-- connections by their sessions, with one set
abbrev pub with_known : (ℕ → Option ConnectionValue) → ℕ → Option ConnectionValue → ℕ → Option ConnectionValue
with_known known session c s = if session == s then c else known s

-- the connections without a session that was made
abbrev pub known_without : Made → (ℕ → Option ConnectionValue) → ℕ → Option ConnectionValue
known_without m known = with_known known m.session (left_of m.period (known m.session))

-- the row that takes a session back, if its connection has it
abbrev pub rows_of_left : Made → Option ConnectionValue → List Row
rows_of_left m c = if has_session m.period c then withdraw_row m.session m.period ∷ [] else []

abbrev pub rows_without : Made → (ℕ → Option ConnectionValue) → List Row
rows_without m known = rows_of_left m (known m.session)

-- of the sessions that were made, in that order, those at the front that are older than the oldest period are taken back: the rows, the
-- connections then, and the sessions that stay
unfoldable pub rows_passed : ℕ → List Made → (ℕ → Option ConnectionValue) → List Row
rows_passed oldest [] known = []
rows_passed oldest (m ∷ ms) known =
    if nat_lt m.period oldest then rows_without m known ++ rows_passed oldest ms (known_without m known) else []

unfoldable pub known_passed : ℕ → List Made → (ℕ → Option ConnectionValue) → ℕ → Option ConnectionValue
known_passed oldest [] known = known
known_passed oldest (m ∷ ms) known =
    if nat_lt m.period oldest then known_passed oldest ms (known_without m known) else known

unfoldable pub made_passed : ℕ → List Made → List Made
made_passed oldest [] = []
made_passed oldest (m ∷ ms) = if nat_lt m.period oldest then made_passed oldest ms else m ∷ ms

-- ---- a window

-- a window: what is believed, the connections by their sessions, and the sessions that were made of them, in that order, up to the oldest
-- that may be kept
pub record WindowValue : Type 0 where
  pub belief : Belief
  pub known : ℕ → Option ConnectionValue
  pub made : List Made

-- a window before its first row
abbrev pub new_window : WindowValue
new_window = record { belief = no_belief; known = λ _. None; made = [] }

-- a window after a row of the clock, and the rows that it makes
abbrev pub window_at : ℕ × ℕ → ℕ → WindowValue → WindowValue
window_at l moment w =
    let belief = belief_after w.belief moment in
    record {
      belief = belief;
      known = known_passed (oldest_of l belief) w.made w.known;
      made = made_passed (oldest_of l belief) w.made;
    }

abbrev pub rows_at : ℕ × ℕ → ℕ → WindowValue → List Row
rows_at l moment w = rows_passed (oldest_of l (belief_after w.belief moment)) w.made w.known

-- the connection of a piece, which may be new
abbrev pub connection_of : Origin → (ℕ → Option ConnectionValue) → ConnectionValue
connection_of at known = unwrap_or (known at.session) (new_connection at.link)

-- where a piece comes from, with the moment with which it is taken
abbrev pub origin_taken : Belief → Origin → ConnectionValue → Origin
origin_taken belief at c =
    record at { moment = moment_taken belief at.moment (direction_of at.sender c).last }

-- a session that was made for the present period, if it wasn't there
abbrev pub made_with : List Made → ℕ → ℕ → List ℕ → List ℕ → List Made
made_with made present session before after =
    if list_any (nat_eq present) after && not (list_any (nat_eq present) before)
    then made ++ record { period = present; session = session } ∷ []
    else made

-- a window after a piece, and the rows that it makes
abbrev pub window_after : ℕ × ℕ → Origin → List ℕ → WindowValue → WindowValue
window_after l at octets w =
    let p = window_at l at.moment w in
    let c = connection_of at p.known in
    let d = connection_after (origin_taken w.belief at c) (oldest_of l p.belief) (present_of l p.belief) octets c in
    record {
      belief = p.belief;
      known = with_known p.known at.session (Some d);
      made = made_with p.made (present_of l p.belief) at.session c.periods d.periods;
    }

abbrev pub rows_after : ℕ × ℕ → Origin → List ℕ → WindowValue → List Row
rows_after l at octets w =
    let p = window_at l at.moment w in
    let c = connection_of at p.known in
    rows_at l at.moment w
    ++ rows_of_piece (origin_taken w.belief at c) (oldest_of l p.belief) (present_of l p.belief) octets c

-- what refuses a piece of a direction of a link, in order
abbrev pub refusals_in : LinkId → Direction → Origin → List ℕ → List (Option Refusal)
refusals_in link d at octets =
    refused_if (length octets == 0) EmptyPiece
    ∷ refused_if (nat_lt 281474976710656 (d.tail.offset + length octets)) StreamFull
    ∷ refused_if (not (link.0 == at.link.0)) (OtherLink link)
    ∷ refused_if (nat_lt at.moment d.last) (Backward d.last)
    ∷ []

-- what refuses a piece of a connection, in order
abbrev pub piece_refusals : Origin → List ℕ → ConnectionValue → List (Option Refusal)
piece_refusals at octets c = refusals_in c.link (direction_of at.sender c) at octets

-- the refusal of a piece
abbrev pub piece_refusal : Origin → List ℕ → WindowValue → Option Refusal
piece_refusal at octets w = first_of (piece_refusals at octets (connection_of at w.known))

-- a window without a session, and the rows that take back what was made of it
abbrev pub window_without : ℕ → WindowValue → WindowValue
window_without session w = record w { known = with_known w.known session None }

abbrev pub rows_of_session : ℕ → Option ConnectionValue → List Row
rows_of_session session None = []
rows_of_session session (Some c) = map (withdraw_row session) c.periods
