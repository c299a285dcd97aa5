-- What a withdrawal takes out, PDU by PDU: no response is looked at.
use Rattle.std.specs.Prelude.{List, map, option_map, option_to_list}
use Rattle.std.specs.List.{flat_map}
use Rattle.smq_kit.specs.declared.place.Dir.TheVariants.{FromClient, FromCentre}
use Rattle.smq_tally.specs.declared.list.Listed.{Listed}
use Rattle.smq_present.specs.declared.present.kept.StoredPdu.{StoredPdu}
use Rattle.smq_present.specs.present.Kept.{receipt_in, submit_in}
use Rattle.smq_present.specs.pairing.Traffic.{Origin, place_of}
use Rattle.smq_present.specs.join.Moves.{Move, TakeMessage, TakeReceipt, TakeNote}

-- the message that a PDU of the client is, is taken out
abbrev pub submit_take : Origin → StoredPdu → List Move
submit_take origin p = option_to_list (option_map (λ submit. TakeMessage (place_of origin FromClient p)) (submit_in p.content))

-- and those that all of them are
abbrev pub submit_takes : Origin → List StoredPdu → List Move
submit_takes origin client = flat_map (submit_take origin) client

-- the delivery receipt that a PDU of the centre is, is taken out
abbrev pub receipt_take : Origin → StoredPdu → List Move
receipt_take origin p = option_to_list (option_map (λ receipt. TakeReceipt (place_of origin FromCentre p)) (receipt_in p.content))

-- and those that all of them are
abbrev pub receipt_takes : Origin → List StoredPdu → List Move
receipt_takes origin centre = flat_map (receipt_take origin) centre

-- notes are taken out
abbrev pub note_takes : List Listed → List Move
note_takes notes = map TakeNote notes
