-- What stands in the lines of a report.
use Rattle.std.specs.Prelude.{ℕ, List, ◌++◌, codes}
use Rattle.std.specs.Fmt.{decimal}
use Rattle.smq_kit.specs.declared.error_code.ErrorCode.{ErrorCode}
use Rattle.smq_kit.specs.declared.error_code.ErrorCode.TheVariants as c
use Rattle.smq_kit.specs.declared.place.Dir.{Dir}
use Rattle.smq_kit.specs.declared.place.Dir.TheVariants.{FromClient, FromCentre}
use Rattle.smq_tally.specs.declared.value.SubmitError.{SubmitError}
use Rattle.smq_tally.specs.declared.value.SubmitError.TheVariants as e
use Rattle.smq_tally.specs.declared.value.Value.{Value}
use Rattle.smq_tally.specs.declared.value.Value.TheVariants as v
use Rattle.smq_tally.specs.Names.{band_name}

-- the error of a receipt as it is printed: network type and code in decimal, the octets of its text, or a word
abbrev pub code_text : ErrorCode → List ℕ
code_text (c.Network kind code) = codes "net:" ++ decimal kind ++ codes ":" ++ decimal code
code_text (c.Text octets) = codes "text:" ++ octets
code_text c.Unstated = codes "unstated"

-- the error of a submit as it is printed: command_status in decimal, or the error of its receipt
abbrev pub error_text : SubmitError → List ℕ
error_text (e.Refused status) = codes "status:" ++ decimal status
error_text (e.Failed code) = code_text code

-- a value as it is printed: a link or a route in decimal, a network by the digits of its code, a word where there is
-- none, an error, or a band of delays by its name
abbrev pub value_text : Value → List ℕ
value_text (v.Link link) = decimal link.0
value_text (v.Route route) = decimal route.0
value_text v.NoRoute = codes "none"
value_text (v.Network network) = network
value_text v.NoNetwork = codes "none"
value_text (v.Error error) = error_text error
value_text (v.Band band) = band_name band

-- a direction as it is printed: who sent what goes there
abbrev pub dir_text : Dir → List ℕ
dir_text FromClient = codes "client"
dir_text FromCentre = codes "centre"
