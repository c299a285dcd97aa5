-- Which half of an exchange a PDU is (SMPP 3.4, sections 3.2 and 5.1.2.1).
use Rattle.std.specs.Prelude.{ℕ, ◌==◌, ◌&&◌, if◌then◌else◌, Bool, true, false, List, Option, Some, None}
use Rattle.smq_kit.specs.declared.place.Dir.{Dir}
use Rattle.smq_kit.specs.declared.place.Dir.TheVariants.{FromClient, FromCentre}
use Rattle.smq_pdu.specs.Header.{header_at}
use Rattle.smq_pdu.specs.Pairing.{is_request, is_response}
use Rattle.smq_window.specs.declared.exchange.Exchange.{Exchange}
use Rattle.smq_window.specs.declared.exchange.Half.{Half}
use Rattle.smq_window.specs.declared.exchange.Half.TheVariants.{Request, Response}

-- who receives what a side sends
abbrev pub receiver : Dir → Dir
receiver FromClient = FromCentre
receiver FromCentre = FromClient

-- the half that answers this one, or that this one answers
abbrev pub other_half : Half → Half
other_half Request = Response
other_half Response = Request

abbrev pub same_dir : Dir → Dir → Bool
same_dir FromClient FromClient = true
same_dir FromCentre FromCentre = true
same_dir FromClient FromCentre = false
same_dir FromCentre FromClient = false

abbrev pub same_half : Half → Half → Bool
same_half Request Request = true
same_half Response Response = true
same_half Request Response = false
same_half Response Request = false

-- what a PDU of a sender is: a request that the sender asked, a response to one that the receiver asked, or neither, as an outbind or an
-- alert_notification
unfoldable pub exchange_of : Dir → List ℕ → Option Exchange
exchange_of sender octets =
    if is_response (header_at octets)
    then Some (record { asker = receiver sender; sequence_number = (header_at octets).seq; half = Response })
    else (if is_request (header_at octets)
    then Some (record { asker = sender; sequence_number = (header_at octets).seq; half = Request })
    else None)

-- whether a PDU is this half of the exchange of an asker and a sequence_number
abbrev pub is_half : Dir → ℕ → Half → Option Exchange → Bool
is_half asker number half None = false
is_half asker number half (Some e) =
    same_dir asker e.asker && number == e.sequence_number && same_half e.half half
