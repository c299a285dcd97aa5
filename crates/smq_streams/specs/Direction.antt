-- A direction of a connection: what came of it, what was given, and what waits.
use Rattle.std.specs.Prelude.{◌≡◌, ℕ, ◌+◌, ◌<◌, ◌≤◌, nat_lt, min, Bool, true, false, ◌&&◌, ◌||◌, if◌then◌else◌, List, [], ◌∷◌, ◌++◌, length, take, drop, slice_get, Option, Some, None, option_map, unwrap_or}
use Rattle.smq_reassembly.specs.declared.packet.Packet.{Packet}
use Rattle.smq_reassembly.specs.declared.sequence.Place.{Place}
use Rattle.smq_reassembly.specs.declared.sequence.Place.TheVariants.{Ahead}
use Rattle.smq_reassembly.specs.Octet.{Octet}
use Rattle.smq_reassembly.specs.Moment.{IsGiven, Start}
use Rattle.smq_reassembly.specs.Piece.{Piece, first_packet, first_place, octets_in}
use Rattle.smq_reassembly.specs.Segment.{IsTooFarAhead, piece_of}
use Rattle.smq_reassembly.specs.State.{Follows, State}
use Rattle.smq_reassembly.specs.Stream.{IsGap}
use Rattle.smq_streams.specs.declared.acknowledged.Note.{Note}
use Rattle.smq_streams.specs.declared.extent.Extent.{Extent}
use Rattle.smq_streams.specs.declared.stream.Missing.{Missing}
use Rattle.smq_streams.specs.declared.stream.Why.{Why}
use Rattle.smq_streams.specs.declared.stream.Why.TheVariants.{Acknowledged, Old, Full, Ended, End}
use Rattle.smq_streams.specs.Acknowledged.{since}
use Rattle.smq_streams.specs.Extent.{sent_until}
use Rattle.smq_streams.specs.Search.{BeginNone, Search, Stops, counted}

-- a direction: the sequence number of its first octet; its octets in order, and how far they were sent; those of them that weren't given
-- yet; since when something waits, and what the other end acknowledged since; whether octets are passed over until a PDU begins, a gap
-- before them was given up, and nothing more is taken
pub record Direction : Type 0 where
  pub first : Option ℕ
  pub order : State
  pub extent : Extent
  pub held : Search
  pub opened : Option ℕ
  pub notes : List Note
  pub is_searching : Bool
  pub is_behind_gap : Bool
  pub is_stopped : Bool

-- what was given of a part and what is held behind it is the stream so far of the pieces that came, from the part's start on; what is
-- held begins at the place that follows what was given
pub record Gives (pieces : List Piece) (start : Start) (given : List Octet) (d : Direction) : Type 0 where
  pub follows : Follows pieces start (given ++ d.held.octets) d.order
  pub place : 0 < length d.held.octets → d.held.place ≡ start.place + length given

-- a segment was taken, or ends too far ahead and nothing changed
abbrev pub Adds : List Piece → Start → List Octet → Piece → Direction → Direction → Bool → Type 0
Adds pieces start given piece before after true =
    (IsTooFarAhead before.order.next piece → ⊥) × Gives (pieces ++ piece ∷ []) start given after
Adds pieces start given piece before after false =
    IsTooFarAhead before.order.next piece × Gives pieces start given after

-- the octets of a segment are lent where they are the next, none wait or are held, no PDU is looked for and more is taken
pub record IsLent (d : Direction) (place : Place) (packet : Packet) (octets : List ℕ) : Type 0 where
  pub next : place ≡ Ahead 0
  pub some : 0 < length octets
  pub near : IsTooFarAhead d.order.next (piece_of place d.order.next packet octets) → ⊥
  pub closed : d.order.waiting ≡ []
  pub none : d.held.octets ≡ []
  pub searches : d.is_searching ≡ false
  pub stopped : d.is_stopped ≡ false

-- how many octets of it came and weren't given
abbrev pub left_in : Direction → ℕ
left_in d = length d.held.octets + octets_in d.order.waiting

-- whether octets wait behind a gap; and whether others are held behind one that was given up, of which it isn't seen yet where a PDU begins
abbrev pub has_gap : Direction → Bool
has_gap d = nat_lt 0 (length d.order.waiting)

abbrev pub is_unclear : Direction → Bool
is_unclear d = d.is_searching && d.is_behind_gap && nat_lt 0 (length d.held.octets)

abbrev pub is_open : Direction → Bool
is_open d = has_gap d || is_unclear d

-- the packet of the first octet that is held behind a gap that was given up, or else of the first that waits
abbrev pub packet_at : Bool → List Octet → List Piece → Option ℕ
packet_at true held waiting = option_map (λ (o : Octet). o.packet.number) (slice_get held 0)
packet_at false held waiting = option_map (λ (p : Packet). p.number) (first_packet waiting)

abbrev pub packet_of : Direction → Option ℕ
packet_of d = packet_at (is_unclear d) d.held.octets d.order.waiting

-- what is missing from a place up to another, if that is behind it
abbrev pub missing_between : ℕ → ℕ → Option Missing
missing_between from until = if nat_lt from until then Some (record { from = from; until = until }) else None

-- what is missing where the capture ends: up to what waits first, or else to the last octet that was sent; nothing where no more is taken
abbrev pub missing_tail : Direction → Option Missing
missing_tail d =
    if d.is_stopped
    then None
    else missing_between d.order.next (unwrap_or (first_place d.order.waiting) (sent_until d.extent))

-- of what follows in a part octets that begin no PDU were passed over and counted, and the search stopped behind them, where a PDU that
-- is found has its place
pub record Searches (is_end : Bool) (pieces : List Piece) (start : Start) (given : List Octet) (before after : Direction) (is_found : Bool) : Type 0 where
  pub held : List Octet
  pub count : ℕ
  pub whole : IsGiven pieces start (given ++ held)
  pub passed : BeginNone is_end held count
  pub left : after.held.octets ≡ drop count held
  pub gives : Gives pieces start (given ++ take count held) after
  pub stops : Stops is_end after.held.octets is_found
  pub place : is_found ≡ true → after.held.place ≡ start.place + length given + count
  pub counts : after.held.passed ≡ counted before.held.passed count

-- what is missing up to what waits first is a gap of the pieces that came, and the next part begins behind it
pub record Skips (pieces : List Piece) (before after : Direction) (missing : Missing) : Type 0 where
  pub from : missing.from ≡ before.order.next
  pub gap : IsGap pieces before.order.next missing.until
  pub gives :
      Gives pieces (record { place = missing.until; moment = before.order.last.moment }) [] after
  pub searches : after.is_searching ≡ true

-- since when the other end acknowledges what is missing before what waits first
abbrev pub acknowledged_at : Option ℕ → List Note → Option ℕ
acknowledged_at None notes = None
acknowledged_at (Some place) notes = since notes place

abbrev pub acknowledged_since : Direction → Option ℕ
acknowledged_since d = acknowledged_at (first_place d.order.waiting) d.notes

-- what waits is given up 300,000 ms after it opened, and 2,000 ms after the other end acknowledged what is missing
abbrev pub given_up_at : Option ℕ → Option ℕ → Option ℕ
given_up_at None since = None
given_up_at (Some opened) None = Some (counted opened 300000)
given_up_at (Some opened) (Some moment) = Some (min (counted moment 2000) (counted opened 300000))

-- at a moment what waits is lost or isn't yet, and why
abbrev pub IsLost : Option ℕ → Option ℕ → ℕ → Option Why → Type 0
IsLost opened since moment None =
    ((o : ℕ) → opened ≡ Some o → moment < counted o 300000)
    × ((o m : ℕ) → opened ≡ Some o → since ≡ Some m → moment < counted m 2000)
IsLost opened since moment (Some Acknowledged) =
    (o : ℕ) × (m : ℕ) × (opened ≡ Some o) × (since ≡ Some m) × (counted m 2000 ≤ moment)
IsLost opened since moment (Some Old) =
    (o : ℕ) × (opened ≡ Some o) × (counted o 300000 ≤ moment)
    × ((m : ℕ) → since ≡ Some m → moment < counted m 2000)
IsLost opened since moment (Some Full) = ⊥
IsLost opened since moment (Some Ended) = ⊥
IsLost opened since moment (Some End) = ⊥
