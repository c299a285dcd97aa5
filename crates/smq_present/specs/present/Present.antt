-- What is present in a book.
use Rattle.std.specs.Prelude.{ℕ, List, [], Option, Some, None, option_map, refl}
use Rattle.std.specs.Coded.{Coded, code_by, coded×, coded_ℕ}
use Rattle.std.specs.FinMap as map
use Rattle.std.specs.Ordering.{nat_cmp}
use Rattle.smq_kit.specs.declared.names.LinkId.{LinkId}
use Rattle.smq_kit.specs.declared.place.Dir.{Dir}
use Rattle.smq_kit.specs.declared.place.Dir.TheVariants.{FromClient, FromCentre}
use Rattle.smq_frame.specs.Stream.{Octet, values}
use Rattle.smq_frame.specs.Tail.{TailValue, tail_of}
use Rattle.smq_present.specs.contracts.present.session.Session as session_block
use Rattle.smq_present.specs.declared.present.session.Session.{Session}
use Rattle.smq_present.specs.present.Settings.{SettingsValue, settings_code, opening_settings}

-- the sessions, by their numbers, and what is set
pub record PresentValue : Type 0 where
  pub sessions : map.FinMap nat_cmp Session
  pub settings : SettingsValue

-- what is present is stored as these two
abbrev pub present_code : Coded PresentValue
present_code =
    code_by (map.FinMap nat_cmp Session × SettingsValue)
    (coded× (map.code coded_ℕ (session_block.the_row).coded) settings_code)
    (λ p. (p.sessions, p.settings)) (λ m. record { sessions = m.0; settings = m.1 }) (λ _. refl)

-- nothing is present, and nothing is set
abbrev pub empty : PresentValue
empty = record { sessions = map.empty; settings = opening_settings }

-- the session of a number, where it is present
abbrev pub session_of : PresentValue → ℕ → Option Session
session_of p number = map.get p.sessions number

-- its link
abbrev pub link_of : PresentValue → ℕ → Option LinkId
link_of p number = option_map (λ session. session.link) (session_of p number)

-- the octets of one direction of a session
abbrev pub direction : Dir → Session → List Octet
direction FromClient session = session.client
direction FromCentre session = session.centre

-- the same of a session that may be absent: it has none
abbrev pub octets_in : Dir → Option Session → List Octet
octets_in dir None = []
octets_in dir (Some session) = direction dir session

-- the octets of one direction of the session of a number
abbrev pub octets_of : PresentValue → ℕ → Dir → List Octet
octets_of p number dir = octets_in dir (session_of p number)

-- the tail of that direction
abbrev pub tail_in : PresentValue → ℕ → Dir → TailValue
tail_in p number dir = tail_of (values (octets_of p number dir))
