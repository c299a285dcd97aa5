-- What one PDU more of the centre changes: the messages to which it is the response.
use Rattle.std.specs.Prelude.{◌==◌, ◌&&◌, Bool, List, [], ◌∷◌, count_by, if◌then◌else◌}
use Rattle.std.specs.List.{flat_map}
use Rattle.smq_kit.specs.declared.place.Dir.TheVariants.{FromClient}
use Rattle.smq_kit.specs.declared.place.Place.{Place}
use Rattle.smq_pdu.specs.Pairing.{is_response_of}
use Rattle.smq_present.specs.declared.present.kept.StoredPdu.{StoredPdu}
use Rattle.smq_present.specs.present.Kept.{header_of, headers_of}
use Rattle.smq_present.specs.pairing.Traffic.{Origin, place_of, rank_after, with_earlier}

-- the next PDU of the centre is the response to a PDU of the client, after these: by sequence number and rank
abbrev pub is_next_response : List StoredPdu → StoredPdu → List StoredPdu → StoredPdu → Bool
is_next_response centre next earlier p =
    is_response_of p.seq (header_of next) && rank_after earlier p.seq == count_by (is_response_of p.seq) (headers_of centre)

-- the places of the PDUs of the client to which it is the response
abbrev pub requests_of : Origin → List StoredPdu → List StoredPdu → StoredPdu → List Place
requests_of origin client centre next =
    flat_map (λ e. if is_next_response centre next e.0 e.1 then place_of origin FromClient e.1 ∷ [] else [])
    (with_earlier [] client)
