-- What PDUs more of a session put into the traffic and take out of it.
use Rattle.std.specs.Prelude.{Option, Some, None, List, [], ◌∷◌, ◌++◌, map, if◌then◌else◌, option_to_list}
use Rattle.std.specs.List.{flat_map}
use Rattle.smq_kit.specs.declared.names.LinkId.{LinkId}
use Rattle.smq_kit.specs.declared.place.Dir.{Dir}
use Rattle.smq_kit.specs.declared.place.Dir.TheVariants.{FromClient, FromCentre}
use Rattle.smq_kit.specs.declared.place.Place.{Place}
use Rattle.smq_present.specs.declared.present.kept.StoredPdu.{StoredPdu}
use Rattle.smq_pair.specs.Growth.{made_by, touched}
use Rattle.smq_present.specs.declared.present.session.Session.{Session}
use Rattle.smq_present.specs.present.Batch.{BatchValue, batch_pdus, next_tail}
use Rattle.smq_present.specs.present.Kept.{kept_pdus}
use Rattle.smq_present.specs.pairing.Traffic.{Message, Origin, origin_of, message_at, receipt_at, broken_at, placed, pairing_among, place_of, with_earlier}
use Rattle.smq_present.specs.pairing.Pushes.{is_next_response}
use Rattle.smq_present.specs.join.Moves.{Move, PutMessage, TakeMessage, PutReceipt}

-- the messages to which the next PDU of the centre is the response, with that response
abbrev pub answered : Origin → List StoredPdu → List StoredPdu → StoredPdu → List (Place × Message)
answered origin client centre next =
    flat_map (λ e.
    if is_next_response centre next e.0 e.1 then option_to_list (message_at origin (centre ++ next ∷ []) e.0 e.1) else [])
    (with_earlier [] client)

-- a message that changes is taken out and put in anew
abbrev pub anew : Place × Message → List Move
anew e = TakeMessage e.0 ∷ PutMessage e ∷ []

-- the next PDU of the client puts in the message that it is, if any
abbrev pub client_moves : Origin → List StoredPdu → List StoredPdu → StoredPdu → List Move
client_moves origin client centre next = map PutMessage (option_to_list (message_at origin centre client next))

-- the next PDU of the centre changes the messages to which it is the response, and puts in the delivery receipt that it is
abbrev pub centre_moves : Origin → List StoredPdu → List StoredPdu → StoredPdu → List Move
centre_moves origin client centre next =
    flat_map anew (answered origin client centre next) ++ map PutReceipt (option_to_list (receipt_at origin next))

-- the moves of PDUs more of a direction, in turn
abbrev pub push_moves : Origin → Dir → List StoredPdu → List StoredPdu → List StoredPdu → List Move
push_moves origin dir client centre [] = []
push_moves origin FromClient client centre (next ∷ later) =
    client_moves origin client centre next ++ push_moves origin FromClient (client ++ next ∷ []) centre later
push_moves origin FromCentre client centre (next ∷ later) =
    centre_moves origin client centre next ++ push_moves origin FromCentre client (centre ++ next ∷ []) later

-- the session before octets are appended: a new one has none, and the link that they name
abbrev pub session_before : Option Session → LinkId → Session
session_before None link = record { link = link; client = []; centre = [] }
session_before (Some session) link = session

-- where the PDUs of a batch come from
abbrev pub batch_origin : Option Session → BatchValue → Origin
batch_origin session batch = origin_of (batch.session.0, session_before session batch.link)

-- the moves of the PDUs that a batch completes, for its session, which may be absent
abbrev pub append_moves : Option Session → BatchValue → List Move
append_moves session batch =
    push_moves (batch_origin session batch) batch.dir (kept_pdus (session_before session batch.link).client)
    (kept_pdus (session_before session batch.link).centre) (batch_pdus batch)

-- ---- notes

-- the places at which the next PDU of a direction may change notes: its own, and that of the one with which it is a pair
abbrev pub noted_by : Origin → Dir → List StoredPdu → List StoredPdu → StoredPdu → List Place
noted_by origin dir client centre next =
    touched (place_of origin dir next) (made_by (pairing_among origin client centre) (placed origin dir next))

-- the same of PDUs more of a direction, in turn
abbrev pub noted_in_turn : Origin → Dir → List StoredPdu → List StoredPdu → List StoredPdu → List Place
noted_in_turn origin dir client centre [] = []
noted_in_turn origin FromClient client centre (next ∷ later) =
    noted_by origin FromClient client centre next ++ noted_in_turn origin FromClient (client ++ next ∷ []) centre later
noted_in_turn origin FromCentre client centre (next ∷ later) =
    noted_by origin FromCentre client centre next ++ noted_in_turn origin FromCentre client (centre ++ next ∷ []) later

-- the places at which a batch may change notes: those of the PDUs that it completes and of their pairs, and that of the bad
-- length at which it leaves its direction broken
abbrev pub append_places : Option Session → BatchValue → List Place
append_places session batch =
    noted_in_turn (batch_origin session batch) batch.dir (kept_pdus (session_before session batch.link).client)
    (kept_pdus (session_before session batch.link).centre) (batch_pdus batch)
    ++ option_to_list (broken_at (batch_origin session batch) batch.dir (next_tail batch))
