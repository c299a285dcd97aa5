-- Sessions of which it is known which PDUs are pairs.
use Rattle.std.specs.Prelude.{ℕ, Bool, [], ◌∷◌}
use Rattle.smq_kit.specs.declared.place.Dir.TheVariants.{FromClient, FromCentre}
use Rattle.smq_kit.specs.declared.place.Place.{Place}
use Rattle.smq_pair.specs.declared.pairing.Pair.{Pair}
use Rattle.smq_pair.specs.Pairing.{PlacedHeader, PairingValue, placed_header}

-- places of session 1
abbrev pub client_at : ℕ → Place
client_at offset = record { session = record { 0 = 1 }; dir = FromClient; offset = offset }

abbrev pub centre_at : ℕ → Place
centre_at offset = record { session = record { 0 = 1 }; dir = FromCentre; offset = offset }

-- a pair
abbrev pub pair_at_places : Place → Place → Bool → ℕ → Pair
pair_at_places request response agrees status =
    record { request = request; response = response; agrees = agrees; status = status }

-- PDUs by their place and sequence number
abbrev pub submit : Place → ℕ → PlacedHeader
submit place seq = placed_header place 0x0000_0004 0 seq

abbrev pub submit_response : Place → ℕ → PlacedHeader
submit_response place seq = placed_header place 0x8000_0004 0x0000_0045 seq

abbrev pub enquiry : Place → ℕ → PlacedHeader
enquiry place seq = placed_header place 0x0000_0015 0 seq

abbrev pub enquiry_response : Place → ℕ → PlacedHeader
enquiry_response place seq = placed_header place 0x8000_0015 0 seq

abbrev pub nack : Place → ℕ → PlacedHeader
nack place seq = placed_header place 0x8000_0000 3 seq

abbrev pub outbind : Place → ℕ → PlacedHeader
outbind place seq = placed_header place 0x0000_000b 0 seq

abbrev pub alert : Place → ℕ → PlacedHeader
alert place seq = placed_header place 0x0000_0102 0 seq

-- two requests of one number, and one response
abbrev pub two_requests : PairingValue
two_requests = record {
  client = submit (client_at 0) 7 ∷ submit (client_at 16) 7 ∷ [];
  centre = submit_response (centre_at 0) 7 ∷ [];
}

-- a response whose request isn't read yet
abbrev pub early_response : PairingValue
early_response = record { client = []; centre = submit_response (centre_at 0) 7 ∷ [] }

-- a request of each side, of one number
abbrev pub two_sides : PairingValue
two_sides = record { client = enquiry (client_at 0) 7 ∷ []; centre = enquiry (centre_at 0) 7 ∷ [] }

-- PDUs that are no requests and no responses
abbrev pub notices : PairingValue
notices = record { client = []; centre = outbind (centre_at 0) 1 ∷ alert (centre_at 16) 2 ∷ [] }

-- a request whose response is generic_nack
abbrev pub refused : PairingValue
refused = record { client = submit (client_at 0) 7 ∷ []; centre = nack (centre_at 0) 7 ∷ [] }

-- a request, and a response of its number to another command
abbrev pub other_command : PairingValue
other_command = record { client = submit (client_at 0) 7 ∷ []; centre = enquiry_response (centre_at 0) 7 ∷ [] }

-- a request, and a response of another number
abbrev pub other_number : PairingValue
other_number = record { client = submit (client_at 0) 7 ∷ []; centre = submit_response (centre_at 0) 8 ∷ [] }

-- two requests of the client and a response between them, and two responses of the centre
abbrev pub both_ways : PairingValue
both_ways = record {
  client = submit (client_at 0) 7 ∷ enquiry_response (client_at 16) 7 ∷ submit (client_at 32) 7 ∷ [];
  centre = submit_response (centre_at 0) 7 ∷ submit_response (centre_at 16) 7 ∷ [];
}

-- the first place of another session
abbrev pub elsewhere : Place
elsewhere = record { session = record { 0 = 2 }; dir = FromClient; offset = 0 }
