-- Sessions with their sources, and what they say.
use Rattle.std.specs.Prelude.{ℕ, List, map}
use Rattle.std.specs.FinMap as fin
use Rattle.smq_tally.specs.declared.list.Listed.{Listed}
use Rattle.smq_present.specs.declared.pairing.pairs.SessionForms.{SessionForms}
use Rattle.smq_present.specs.declared.present.session.Session.{Session}
use Rattle.smq_present.specs.present.Kept.{kept_pdus}
use Rattle.smq_present.specs.present.Present.{PresentValue}
use Rattle.smq_present.specs.present.Settings.{SettingsValue}
use Rattle.smq_present.specs.pairing.Traffic.{session_notes}
use Rattle.smq_present.specs.within.Lists.{source_of}
use Rattle.smq_present.specs.within.Messages.{SubmittedMessage, submits_among}
use Rattle.smq_present.specs.within.Receipts.{KeyedReceipt, receipts_among}

-- a session, with its number, its link and that link's forms
pub record SessionView : Type 0 where
  pub source : SessionForms
  pub session : Session

-- a session of a number, under what is set
abbrev pub sourced_by : SettingsValue → ℕ × Session → SessionView
sourced_by s e = record { source = source_of s e; session = e.1 }

-- the sessions that are present, in the order of their numbers
abbrev pub sourced_of : PresentValue → List SessionView
sourced_of p = map (sourced_by p.settings) (fin.entries p.sessions)

-- the submitted messages of a session
abbrev pub submits_in : SessionView → List SubmittedMessage
submits_in x = submits_among x.source (kept_pdus x.session.client) (kept_pdus x.session.centre)

-- its delivery receipts
abbrev pub receipts_in : SessionView → List KeyedReceipt
receipts_in x = receipts_among x.source (kept_pdus x.session.centre)

-- its notes
abbrev pub notes_in : SessionView → List Listed
notes_in x = session_notes (x.source.session.0, x.session)
