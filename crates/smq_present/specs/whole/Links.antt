-- What is present of some of the links.
use Rattle.std.specs.Prelude.{ℕ, not, Bool, if◌then◌else◌, Option, Some, None}
use Rattle.smq_kit.specs.Maps.{chosen}
use Rattle.smq_kit.specs.declared.names.LinkId.{LinkId}
use Rattle.smq_present.specs.declared.present.session.Session.{Session}
use Rattle.smq_present.specs.present.Present.{PresentValue}

-- the session of a number, where a test takes its link
abbrev pub session_there : (LinkId → Bool) → ℕ → Session → Option Session
session_there here number session = if here session.link then Some session else None

-- what is present of the links that a test takes: their sessions, under the same settings
abbrev pub of_links : (LinkId → Bool) → PresentValue → PresentValue
of_links here p = record p { sessions = chosen (session_there here) p.sessions }

-- the links that a test doesn't take
abbrev pub other_links : (LinkId → Bool) → LinkId → Bool
other_links here link = not (here link)
