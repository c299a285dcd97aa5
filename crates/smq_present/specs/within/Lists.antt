-- What is known of the messages that are present, as lists over all sessions: stated apart from the definitions by place,
-- and the same.
use Rattle.std.specs.Prelude.{ℕ, List, ◌++◌, map as map_list}
use Rattle.std.specs.List.{flat_map}
use Rattle.std.specs.FinMap as map
use Rattle.smq_kit.specs.declared.place.Place.{Place}
use Rattle.smq_tally.specs.declared.list.Listed.{Listed}
use Rattle.smq_tally.specs.declared.fact.Fact.{Fact}
use Rattle.smq_present.specs.declared.pairing.pairs.SessionForms.{SessionForms}
use Rattle.smq_present.specs.declared.present.session.Session.{Session}
use Rattle.smq_present.specs.present.Kept.{kept_pdus}
use Rattle.smq_present.specs.present.Present.{PresentValue}
use Rattle.smq_present.specs.present.Settings.{SettingsValue, forms_of}
use Rattle.smq_tally.specs.Lists.{listed_set}
use Rattle.smq_tally.specs.Tables.{TablesValue, tables_of}
use Rattle.smq_present.specs.pairing.Traffic.{session_notes}
use Rattle.smq_present.specs.within.Messages.{SubmittedMessage, submits_among}
use Rattle.smq_present.specs.within.Receipts.{KeyedReceipt, receipts_among}
use Rattle.smq_present.specs.within.Outcomes.{facts_among}
use Rattle.smq_present.specs.within.Listings.{note_of}

-- a session with its link and that link's forms
abbrev pub source_of : SettingsValue → ℕ × Session → SessionForms
source_of s e = record { session = record { 0 = e.0 }; link = e.1.link; forms = forms_of s e.1.link }

-- the submitted messages of a session
abbrev pub session_submits : SettingsValue → ℕ × Session → List SubmittedMessage
session_submits s e = submits_among (source_of s e) (kept_pdus e.1.client) (kept_pdus e.1.centre)

-- the delivery receipts of a session
abbrev pub session_receipts : SettingsValue → ℕ × Session → List KeyedReceipt
session_receipts s e = receipts_among (source_of s e) (kept_pdus e.1.centre)

-- the submitted messages that are present
abbrev pub submits_of : PresentValue → List SubmittedMessage
submits_of p = flat_map (session_submits p.settings) (map.entries p.sessions)

-- the delivery receipts that are present
abbrev pub receipts_of : PresentValue → List KeyedReceipt
receipts_of p = flat_map (session_receipts p.settings) (map.entries p.sessions)

-- the notes of the sessions that are present
abbrev pub notes_of : PresentValue → List Listed
notes_of p = flat_map session_notes (map.entries p.sessions)

-- a fact of each submitted message that is present
abbrev pub facts_listed : PresentValue → List Fact
facts_listed p = facts_among p.settings (submits_of p) (receipts_of p)

-- the delivery receipts that are present and need a look, in their lists
abbrev pub receipt_notes_listed : PresentValue → List Listed
receipt_notes_listed p = flat_map (note_of (submits_of p) (receipts_of p)) (receipts_of p)

-- a fact with its place
abbrev pub placed_fact : Fact → Place × Fact
placed_fact f = (f.place, f)

-- the tables of these facts, of the notes and of these receipts
abbrev pub tables_listed : PresentValue → TablesValue
tables_listed p =
    tables_of (map.from_entries (map_list placed_fact (facts_listed p))) (listed_set (notes_of p ++ receipt_notes_listed p))
