-- What becomes of a connection, and the rows that are made of its PDUs.
use Rattle.std.specs.Prelude.{ℕ, nat_eq, if◌then◌else◌, Bool, false, List, [], ◌∷◌, ◌++◌, map, Option, Some, None}
use Rattle.std.specs.Option.{option_to_list}
use Rattle.std.specs.List.{list_any}
use Rattle.smq_kit.specs.declared.names.LinkId.{LinkId}
use Rattle.smq_kit.specs.declared.place.Dir.{Dir}
use Rattle.smq_kit.specs.declared.place.Dir.TheVariants.{FromClient, FromCentre}
use Rattle.smq_frame.specs.Frame.{FrameValue}
use Rattle.smq_frame.specs.Stream.{frames_after}
use Rattle.smq_window.specs.declared.connection.Origin.{Origin}
use Rattle.smq_window.specs.declared.direction.Direction.{Direction}
use Rattle.smq_window.specs.declared.row.Row.{Row}
use Rattle.smq_window.specs.declared.row.Row.TheVariants.{Piece}
use Rattle.smq_window.specs.Direction.{after_piece, empty_direction}
use Rattle.smq_window.specs.Exchange.{exchange_of}
use Rattle.smq_window.specs.Homes.{Homed, home_of, with_period}
use Rattle.smq_window.specs.Session.{session_number}

-- a connection: its link, what is kept of both directions, all its PDUs with their homes, and the periods for which there is a session of
-- it, the oldest first
pub record ConnectionValue : Type 0 where
  pub link : LinkId
  pub client : Direction
  pub centre : Direction
  pub pdus : List Homed
  pub periods : List ℕ

-- a connection without octets
abbrev pub new_connection : LinkId → ConnectionValue
new_connection link =
    record { link = link; client = empty_direction; centre = empty_direction; pdus = []; periods = [] }

-- one of its directions
abbrev pub direction_of : Dir → ConnectionValue → Direction
direction_of FromClient c = c.client
direction_of FromCentre c = c.centre

-- the octets of frames
abbrev pub octets_of : List FrameValue → List (List ℕ)
octets_of frames = map (λ f. f.octets) frames

-- a PDU of a sender with its home, after others
abbrev pub at_home : List Homed → ℕ → ℕ → Dir → List ℕ → Homed
at_home pdus oldest present sender octets =
    record { home = home_of pdus oldest present (exchange_of sender octets); sender = sender; octets = octets }

-- PDUs of a sender with their homes, each by those before it
unfoldable pub homed : List Homed → ℕ → ℕ → Dir → List (List ℕ) → List Homed
homed pdus oldest present sender [] = []
homed pdus oldest present sender (f ∷ fs) =
    at_home pdus oldest present sender f
    ∷ homed (pdus ++ at_home pdus oldest present sender f ∷ []) oldest present sender fs

-- the periods with the homes of PDUs
unfoldable pub with_homes : List ℕ → List Homed → List ℕ
with_homes periods [] = periods
with_homes periods (h ∷ hs) = with_homes (with_period periods h.home) hs

-- the row of octets that are put into a period
abbrev pub piece_row : Origin → ℕ → List ℕ → Row
piece_row at period octets =
    Piece (record {
      link = at.link;
      session = record { 0 = session_number at.session period };
      sender = at.sender;
      moment = at.moment;
      octets = octets;
    })

-- a row for each PDU
abbrev pub home_rows : Origin → List Homed → List Row
home_rows at pdus = map (λ h. piece_row at h.home h.octets) pdus

-- whether octets that were put into a period, or not yet, are in one that is kept
abbrev pub is_written : Option ℕ → List ℕ → Bool
is_written None periods = false
is_written (Some period) periods = list_any (nat_eq period) periods

-- the four octets of a length that can't be, where no period that is kept has them
abbrev pub due : Direction → List ℕ → Option (List ℕ)
due d periods = if is_written d.written periods then None else d.broken

-- the direction, and the periods, where such octets go into the present period
abbrev pub direction_with : Option (List ℕ) → ℕ → Direction → Direction
direction_with None present d = d
direction_with (Some octets) present d = record d { written = Some present }

abbrev pub periods_with : Option (List ℕ) → ℕ → List ℕ → List ℕ
periods_with None present periods = periods
periods_with (Some octets) present periods = with_period periods present

-- the PDUs that a piece makes whole, with their homes
abbrev pub dealt : List Homed → ℕ → ℕ → Origin → List ℕ → Direction → List Homed
dealt pdus oldest present at octets d =
    homed pdus oldest present at.sender (octets_of (frames_after d.tail at.moment octets))

-- the octets of a bad length that are due after a piece
abbrev pub due_after : List Homed → ℕ → ℕ → Origin → List ℕ → Direction → List ℕ → Option (List ℕ)
due_after pdus oldest present at octets d periods =
    due (after_piece d at.moment octets) (with_homes periods (dealt pdus oldest present at octets d))

-- the rows that a piece makes: one for each PDU that is whole by then, and one for the octets that are due
abbrev pub rows_by : List Homed → ℕ → ℕ → Origin → List ℕ → Direction → List ℕ → List Row
rows_by pdus oldest present at octets d periods =
    home_rows at (dealt pdus oldest present at octets d)
    ++ map (piece_row at present) (option_to_list (due_after pdus oldest present at octets d periods))

-- the direction after a piece, and the periods
abbrev pub direction_by : List Homed → ℕ → ℕ → Origin → List ℕ → Direction → List ℕ → Direction
direction_by pdus oldest present at octets d periods =
    direction_with (due_after pdus oldest present at octets d periods) present (after_piece d at.moment octets)

abbrev pub periods_by : List Homed → ℕ → ℕ → Origin → List ℕ → Direction → List ℕ → List ℕ
periods_by pdus oldest present at octets d periods =
    periods_with (due_after pdus oldest present at octets d periods) present
    (with_homes periods (dealt pdus oldest present at octets d))

-- the connection with one direction changed
abbrev pub with_direction : Dir → Direction → ConnectionValue → ConnectionValue
with_direction FromClient d c = record c { client = d }
with_direction FromCentre d c = record c { centre = d }

-- a connection after a piece that comes while periods from the oldest to the present one are kept
abbrev pub connection_after : Origin → ℕ → ℕ → List ℕ → ConnectionValue → ConnectionValue
connection_after at oldest present octets c =
    let d = direction_of at.sender c in
    record (with_direction at.sender (direction_by c.pdus oldest present at octets d c.periods) c) {
      pdus = c.pdus ++ dealt c.pdus oldest present at octets d;
      periods = periods_by c.pdus oldest present at octets d c.periods;
    }

-- the rows that this piece makes
abbrev pub rows_of_piece : Origin → ℕ → ℕ → List ℕ → ConnectionValue → List Row
rows_of_piece at oldest present octets c =
    rows_by c.pdus oldest present at octets (direction_of at.sender c) c.periods
