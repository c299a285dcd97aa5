-- What an edit leaves present.
use Rattle.std.specs.Prelude.{◌≡◌, ◌≢◌, ◌==◌, ℕ, Bool, true, false, List, [], ◌++◌, filter, fold, not, Option, Some, None, option_map, unwrap_or}
use Rattle.std.specs.FinMap as map
use Rattle.std.specs.List.{list_all}
use Rattle.smq_kit.specs.declared.message_id.Form.{Form}
use Rattle.smq_kit.specs.declared.names.LinkId.{LinkId}
use Rattle.smq_kit.specs.declared.names.RouteId.{RouteId}
use Rattle.smq_kit.specs.declared.names.SessionId.{SessionId}
use Rattle.smq_kit.specs.declared.place.Dir.{Dir}
use Rattle.smq_kit.specs.declared.place.Dir.TheVariants.{FromClient, FromCentre}
use Rattle.smq_kit.specs.declared.refusal.Refusal.{Refusal}
use Rattle.smq_frame.specs.Stream.{Octet, handed_in}
use Rattle.smq_route.specs.declared.version.Version.{Version}
use Rattle.smq_route.specs.declared.version.VersionKey.{VersionKey}
use Rattle.smq_route.specs.Edits.{added, changed, ending, corrected}
use Rattle.smq_route.specs.Versions.{key_at, version_of}
use Rattle.smq_present.specs.declared.present.edit.Edit.{Edit}
use Rattle.smq_present.specs.declared.present.edit.Edit.TheVariants.{Append, Withdraw, SetForm, SetWindow, AddRoute, EndRoute, CorrectRoute, Advance}
use Rattle.smq_present.specs.declared.present.session.Session.{Session}
use Rattle.smq_present.specs.present.Batch.{BatchValue}
use Rattle.smq_present.specs.declared.present.forms.Forms.{Forms}
use Rattle.smq_present.specs.present.Present.{PresentValue, session_of, link_of, octets_of}
use Rattle.smq_present.specs.present.Settings.{SettingsValue, forms_if_set, window_if_set, with_windows, with_versions, with_clock}
use Rattle.smq_present.specs.present.Replies.{reply}

-- a session with octets put after one direction
abbrev pub session_with : Dir → List Octet → Session → Session
session_with FromClient octets session = record session { client = session.client ++ octets }
session_with FromCentre octets session = record session { centre = session.centre ++ octets }

-- the batch's session once its octets are put after their direction; a new one gets the batch's link
abbrev pub session_after : Option Session → BatchValue → Session
session_after None batch =
    session_with batch.dir (handed_in batch.moment batch.octets) (record { link = batch.link; client = []; centre = [] })
session_after (Some session) batch =
    session_with batch.dir (handed_in batch.moment batch.octets) session

-- settings with these forms of a link
abbrev pub with_forms : SettingsValue → LinkId → Forms → SettingsValue
with_forms s link forms = record s { forms = map.insert s.forms link.0 forms }

-- settings with this window of a link
abbrev pub with_window : SettingsValue → LinkId → ℕ → SettingsValue
with_window s link window = with_windows s (map.insert s.windows link.0 window)

-- the plain change that an edit is
abbrev pub change : PresentValue → Edit → PresentValue
change p (Append batch) =
    record p { sessions = map.insert p.sessions batch.session.0 (session_after (session_of p batch.session.0) batch) }
change p (Withdraw session) = record p { sessions = map.remove p.sessions session.0 }
change p (SetForm link response receipt) =
    record p { settings = with_forms p.settings link (record { response = response; receipt = receipt }) }
change p (SetWindow link window) = record p { settings = with_window p.settings link window }
change p (AddRoute prefix from route network) =
    record p { settings = with_versions p.settings (added p.settings.versions prefix from route network) }
change p (EndRoute prefix from until) =
    record p { settings = with_versions p.settings (changed p.settings.versions prefix from (ending until)) }
change p (CorrectRoute prefix from route network) =
    record p { settings = with_versions p.settings (changed p.settings.versions prefix from (corrected route network)) }
change p (Advance clock) = record p { settings = with_clock p.settings clock }

-- the plain change, or none where there is a refusal
abbrev pub step_unless : Option Refusal → PresentValue → Edit → PresentValue
step_unless None p edit = change p edit
step_unless (Some refusal) p edit = p

-- what is present after an edit that wasn't refused for lack of memory
abbrev pub step : PresentValue → Edit → PresentValue
step p edit = step_unless (reply p edit) p edit

-- what is present after a list of such edits
abbrev pub steps : PresentValue → List Edit → PresentValue
steps p edits = fold step p edits

-- The batch's octets, each with its moment, are put after their direction. Nothing else changes, but that a new session
-- gets the batch's link.
pub record Appends (old new : PresentValue) (batch : BatchValue) : Type 0 where
  pub grown : octets_of new batch.session.0 batch.dir
      ≡ octets_of old batch.session.0 batch.dir ++ handed_in batch.moment batch.octets
  pub other_direction : (dir : Dir) → dir ≢ batch.dir
      → octets_of new batch.session.0 dir ≡ octets_of old batch.session.0 dir
  pub link : link_of new batch.session.0 ≡ Some (unwrap_or (link_of old batch.session.0) batch.link)
  pub elsewhere : (number : ℕ) → number ≢ batch.session.0 → session_of new number ≡ session_of old number
  pub rest : new ≡ record old { sessions = new.sessions }

-- The session is absent, with both its directions. Nothing else changes: no other session, and nothing that is set.
pub record Withdraws (old new : PresentValue) (session : SessionId) : Type 0 where
  pub absent : session_of new session.0 ≡ None
  pub elsewhere : (number : ℕ) → number ≢ session.0 → session_of new number ≡ session_of old number
  pub rest : new ≡ record old { sessions = new.sessions }

-- The link has these forms. Nothing else changes.
pub record SetsForm (old new : PresentValue) (link : LinkId) (response receipt : Form) : Type 0 where
  pub there : forms_if_set new.settings link.0 ≡ Some (record { response = response; receipt = receipt })
  pub elsewhere : (number : ℕ) → number ≢ link.0 → forms_if_set new.settings number ≡ forms_if_set old.settings number
  pub rest : new ≡ record old { settings = record old.settings { forms = new.settings.forms } }

-- The link has this window. Nothing else changes.
pub record SetsWindow (old new : PresentValue) (link : LinkId) (window : ℕ) : Type 0 where
  pub there : window_if_set new.settings link.0 ≡ Some window
  pub elsewhere : (number : ℕ) → number ≢ link.0 → window_if_set new.settings number ≡ window_if_set old.settings number
  pub rest : new ≡ record old { settings = record old.settings { windows = new.settings.windows } }

-- A version of the prefix begins then, open, with this route and network. Every other version is as it was, and nothing
-- else changes.
pub record AddsRoute (old new : PresentValue) (prefix : List ℕ) (from : ℕ) (route : RouteId) (network : List ℕ)
    : Type 0 where
  pub there : version_of new.settings.versions prefix from
      ≡ Some (record { until = None; route = route; network = network })
  pub elsewhere : (key : VersionKey) → key ≢ key_at prefix from
      → map.get new.settings.versions key ≡ map.get old.settings.versions key
  pub rest : new ≡ record old { settings = record old.settings { versions = new.settings.versions } }

-- The version has this end, and the route and network that it had. Every other version is as it was, and nothing else
-- changes.
pub record EndsRoute (old new : PresentValue) (prefix : List ℕ) (from until : ℕ) : Type 0 where
  pub there : version_of new.settings.versions prefix from
      ≡ option_map {T = Version} (λ v. record v { until = Some until }) (version_of old.settings.versions prefix from)
  pub elsewhere : (key : VersionKey) → key ≢ key_at prefix from
      → map.get new.settings.versions key ≡ map.get old.settings.versions key
  pub rest : new ≡ record old { settings = record old.settings { versions = new.settings.versions } }

-- The version has this route and network, and the dates that it had. Every other version is as it was, and nothing else
-- changes.
pub record CorrectsRoute (old new : PresentValue) (prefix : List ℕ) (from : ℕ) (route : RouteId) (network : List ℕ)
    : Type 0 where
  pub there : version_of new.settings.versions prefix from
      ≡ option_map {T = Version} (λ v. record { until = v.until; route = route; network = network })
      (version_of old.settings.versions prefix from)
  pub elsewhere : (key : VersionKey) → key ≢ key_at prefix from
      → map.get new.settings.versions key ≡ map.get old.settings.versions key
  pub rest : new ≡ record old { settings = record old.settings { versions = new.settings.versions } }

-- The clock is this one. Nothing else changes: no session, and nothing else that is set.
pub record Advances (old new : PresentValue) (clock : ℕ) : Type 0 where
  pub there : new.settings.clock ≡ clock
  pub rest : new ≡ record old { settings = record old.settings { clock = new.settings.clock } }

-- ---- edits of one session, and of two

-- whether an edit puts octets into a session
abbrev pub is_append_to : SessionId → Edit → Bool
is_append_to session (Append batch) = batch.session.0 == session.0
is_append_to session (Withdraw other) = false
is_append_to session (SetForm link response receipt) = false
is_append_to session (SetWindow link window) = false
is_append_to session (AddRoute prefix from route network) = false
is_append_to session (EndRoute prefix from until) = false
is_append_to session (CorrectRoute prefix from route network) = false
is_append_to session (Advance clock) = false

-- whether an edit puts octets into a session or takes it back
abbrev pub is_of_session : SessionId → Edit → Bool
is_of_session session (Append batch) = batch.session.0 == session.0
is_of_session session (Withdraw other) = other.0 == session.0
is_of_session session (SetForm link response receipt) = false
is_of_session session (SetWindow link window) = false
is_of_session session (AddRoute prefix from route network) = false
is_of_session session (EndRoute prefix from until) = false
is_of_session session (CorrectRoute prefix from route network) = false
is_of_session session (Advance clock) = false

-- the edits that aren't of a session: those of other sessions, of forms, of windows, of routes and of the clock
abbrev pub edits_without : SessionId → List Edit → List Edit
edits_without session edits = filter (λ edit. not (is_of_session session edit)) edits

-- A session that is withdrawn leaves nothing, whatever edits were made before: what is present is then what withdrawing it
-- leaves after those of these edits that aren't of it.
abbrev pub LeavesNoTrace : Type 0
LeavesNoTrace = (p : PresentValue) (session : SessionId) (edits : List Edit)
    → step (steps p edits) (Withdraw session) ≡ step (steps p (edits_without session edits)) (Withdraw session)

-- Where it was absent before the edits, everything is as though it had never been: what is present is what the edits that
-- aren't of it leave, and these leave it absent.
pub record IsAsNeverThere (p : PresentValue) (session : SessionId) (edits : List Edit) : Type 0 where
  pub left : step (steps p edits) (Withdraw session) ≡ steps p (edits_without session edits)
  pub absent : session_of (steps p (edits_without session edits)) session.0 ≡ None

-- Octets that are appended to an absent session, withdrawn and appended again leave what they left.
abbrev pub AreAppendedAgain : Type 0
AreAppendedAgain = (p : PresentValue) (session : SessionId) (edits : List Edit)
    → session_of p session.0 ≡ None → list_all (is_append_to session) edits ≡ true
    → steps (step (steps p edits) (Withdraw session)) edits ≡ steps p edits

-- Batches of different sessions are answered and leave what they do, whichever of them is made first.
pub record AppendsCommute (p : PresentValue) (one two : BatchValue) : Type 0 where
  pub replies : reply (step p (Append one)) (Append two) ≡ reply p (Append two)
  pub left : step (step p (Append one)) (Append two) ≡ step (step p (Append two)) (Append one)
