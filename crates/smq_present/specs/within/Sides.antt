-- A direction of a session whose PDUs have their partners, and what is noted of it.
use Rattle.std.specs.Prelude.{◌≡◌, ◌&&◌, if◌then◌else◌, Bool, false, List, [], ◌∷◌, Option, Some, None, is_none, not}
use Rattle.std.specs.List.{flat_map}
use Rattle.smq_kit.specs.declared.names.SessionId.{SessionId}
use Rattle.smq_kit.specs.declared.place.Dir.{Dir}
use Rattle.smq_kit.specs.declared.place.Dir.TheVariants.{FromClient, FromCentre}
use Rattle.smq_kit.specs.declared.place.Place.{Place}
use Rattle.smq_pdu.specs.Pairing.{agrees, is_request, is_response}
use Rattle.smq_pair.specs.Pairing.{PairingValue, pair_at}
use Rattle.smq_tally.specs.declared.list.List as l
use Rattle.smq_tally.specs.declared.list.List.TheVariants.{Waiting, StrayAnswers, Mismatched, Unreadable, Undecodable}
use Rattle.smq_tally.specs.declared.list.Listed.{Listed}
use Rattle.smq_tally.specs.Lists.{listed}
use Rattle.smq_present.specs.declared.present.kept.StoredPdu.{StoredPdu}
use Rattle.smq_present.specs.present.Kept.{header_of, is_undecodable, is_unreadable}
use Rattle.smq_present.specs.pairing.Traffic.{Origin, disagrees, pairing_among, place_of}
use Rattle.smq_present.specs.within.Pairs.{Rises, from_session}
use Rattle.smq_present.specs.declared.pairing.sides.Side.{Side}
use Rattle.smq_present.specs.declared.pairing.sides.Kind.TheVariants.{Request, Response}
use Rattle.smq_present.specs.within.Turns.{HasPartners}

-- A side is this direction of a session, whose PDUs are these, with their partners among those of the other direction.
pub record IsSide (number : SessionId) (d : Dir) (mine others : List StoredPdu) (side : Side) : Type 0 where
  pub session : side.session ≡ number
  pub dir : side.dir ≡ d
  pub pdus : side.pdus.now ≡ mine
  pub other : side.other.now ≡ others
  pub rises : Rises 0 mine
  pub responses : HasPartners Request mine others side.responses.items
  pub requests : HasPartners Response mine others side.requests.items

-- a side is what it says of itself
abbrev pub IsPaired : Side → Type 0
IsPaired side = IsSide side.session side.dir side.pdus.now side.other.now side

-- the PDUs of a session, by those of a direction and those of the other
abbrev pub pairing_in : Dir → Origin → List StoredPdu → List StoredPdu → PairingValue
pairing_in FromClient o mine other = pairing_among o mine other
pairing_in FromCentre o mine other = pairing_among o other mine

-- ---- notes

-- whether a response doesn't agree with a request
abbrev pub disagrees_with : StoredPdu → Option StoredPdu → Bool
disagrees_with p None = false
disagrees_with p (Some response) = not (agrees (header_of p) (header_of response))

-- whether a PDU is in a list, by the PDU that responds to it and the one that it responds to
abbrev pub is_noted_by : l.List → Option StoredPdu → Option StoredPdu → StoredPdu → Bool
is_noted_by Waiting response request p = is_request (header_of p) && is_none response
is_noted_by StrayAnswers response request p = is_response (header_of p) && is_none request
is_noted_by Mismatched response request p = is_request (header_of p) && disagrees_with p response
is_noted_by Unreadable response request p = is_unreadable p.content
is_noted_by Undecodable response request p = is_undecodable p.content
is_noted_by _ response request p = false

-- whether a PDU at a place is in a list, by the pair at that place
abbrev pub is_noted : l.List → PairingValue → Place → StoredPdu → Bool
is_noted Waiting v q p = is_request (header_of p) && is_none (pair_at v q)
is_noted StrayAnswers v q p = is_response (header_of p) && is_none (pair_at v q)
is_noted Mismatched v q p = is_request (header_of p) && disagrees (pair_at v q)
is_noted Unreadable v q p = is_unreadable p.content
is_noted Undecodable v q p = is_undecodable p.content
is_noted _ v q p = false

-- a PDU in a list, if it is in it
abbrev pub note_of : l.List → PairingValue → Origin → Dir → StoredPdu → List Listed
note_of list v o d p = if is_noted list v (place_of o d p) p then listed list (place_of o d p) ∷ [] else []

-- the PDUs of a direction that are in a list
abbrev pub noted_in : l.List → Origin → Dir → List StoredPdu → List StoredPdu → List Listed
noted_in list o d mine other = flat_map (note_of list (pairing_in d o mine other) o d) mine

-- those of a side
abbrev pub noted : l.List → Side → List Listed
noted list side = noted_in list (from_session side.session) side.dir side.pdus.now side.other.now
