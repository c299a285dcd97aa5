-- Parts, outcomes and what is settled, written out.
use Rattle.std.specs.Prelude.{◌≡◌, false, true, codes, ℕ, Bool, List, [], ◌∷◌, Some, None, option_to_list}
use Rattle.std.specs.FinMap as fin
use Rattle.smq_kit.specs.declared.link_key.LinkKey.{LinkKey}
use Rattle.smq_kit.specs.declared.message_id.Key.{Key}
use Rattle.smq_kit.specs.declared.message_id.Key.TheVariants.{Number, Text}
use Rattle.smq_kit.specs.declared.names.LinkId.{LinkId}
use Rattle.smq_kit.specs.declared.place.Dir.TheVariants.{FromCentre}
use Rattle.smq_tally.specs.declared.outcome.Outcome.TheVariants as outcome
use Rattle.smq_present.specs.declared.join.lines.ReceiptStanding.TheVariants as standing
use Rattle.smq_present.specs.declared.pairing.pairs.SessionForms.{SessionForms}
use Rattle.smq_present.specs.declared.present.kept.StoredPdu.{StoredPdu}
use Rattle.smq_present.specs.declared.present.session.Session.{Session}
use Rattle.smq_present.specs.join.Circumstances.{window_of}
use Rattle.smq_present.specs.join.Lines.{MessageLineValue, ReceiptLineValue}
use Rattle.smq_present.specs.present.Content.{Content}
use Rattle.smq_present.specs.present.Present.{PresentValue}
use Rattle.smq_present.specs.present.Settings.{SettingsValue}
use Rattle.smq_present.specs.present.Stream.{last_moment}
use Rattle.smq_deal.specs.Keys.{key_with, partner_of}
use Rattle.smq_deal.specs.Open.{awaits, last_known, may_get_message, may_get_receipt, open_message, open_receipt, settled_by, settled_clock, unanswered}
use Rattle.smq_deal.specs.Parts.{by_key}

abbrev pub link : LinkId
link = record { 0 = 1 }

-- Of seven parts: numbers by what is left of them, texts by their octets, and what has no key by its sequence number.
pub record KnownParts : Type 0 where
  pub number : (by_key 7).keyed (record { link = link; key = Number 17 }) ≡ 3
  pub text : (by_key 7).keyed (record { link = link; key = Text (codes "12") }) ≡ 1
  pub paired : (by_key 7).paired 12 ≡ 5
  pub one : (by_key 0).paired 12 ≡ 0

-- Receipts may come for messages that are open, unasked or ambiguous, and for no others.
pub record KnownOutcomes : Type 0 where
  pub waiting : may_get_receipt outcome.Waiting ≡ false
  pub mismatched : may_get_receipt outcome.Mismatched ≡ false
  pub refused : may_get_receipt outcome.Refused ≡ false
  pub no_id : may_get_receipt outcome.NoId ≡ false
  pub ambiguous : may_get_receipt outcome.Ambiguous ≡ true
  pub delivered : may_get_receipt outcome.Delivered ≡ false
  pub failed : may_get_receipt outcome.Failed ≡ false
  pub unasked : may_get_receipt outcome.Unasked ≡ true
  pub lapsed : may_get_receipt outcome.Lapsed ≡ false
  pub is_open : may_get_receipt outcome.Open ≡ true

-- A message may come for a stray receipt, and for no other.
pub record KnownStandings : Type 0 where
  pub stray : may_get_message standing.Stray ≡ true
  pub deciding : may_get_message standing.Deciding ≡ false
  pub extra : may_get_message standing.Extra ≡ false
  pub noted : may_get_message standing.Noted ≡ false
  pub ambiguous : may_get_message standing.Ambiguous ≡ false

-- What came at 1000 on a link whose window is 500 ms is within it at 1499, and no more at 1500.
pub record KnownWindows (s : SettingsValue) (link : LinkId) : Type 0 where
  pub last : window_of s link ≡ 500 → awaits s 1499 link 1000 ≡ true
  pub ended : window_of s link ≡ 500 → awaits s 1500 link 1000 ≡ false

-- The last moment that is known is the clock, or the last moment of a session's client or centre. The clock of what is settled is that one.
pub record KnownMoments (p : PresentValue) (e : ℕ × Session) : Type 0 where
  pub clock : p.settings.clock ≡ 8 → fin.entries p.sessions ≡ [] → last_known p ≡ 8
  pub client : p.settings.clock ≡ 8 → fin.entries p.sessions ≡ e ∷ [] → last_moment e.1.client ≡ 9 → last_moment e.1.centre ≡ 7 → last_known p ≡ 9
  pub centre : p.settings.clock ≡ 8 → fin.entries p.sessions ≡ e ∷ [] → last_moment e.1.client ≡ 7 → last_moment e.1.centre ≡ 9 → last_known p ≡ 9
  pub earlier : p.settings.clock ≡ 8 → fin.entries p.sessions ≡ e ∷ [] → last_moment e.1.client ≡ 7 → last_moment e.1.centre ≡ 6 → last_known p ≡ 8
  pub settled : last_known p ≡ 1 → settled_clock p ≡ Some 1
  pub nothing : last_known p ≡ 0 → settled_clock p ≡ None

-- a PDU of a command that came at 1000, of which nothing else is known
abbrev pub pdu : ℕ → StoredPdu
pdu command = record { offset = 0; moment = 1000; command = command; status = 0; seq = 7; content = Content.Other }

-- What is settled goes to part 0, and the rest to part 1; of PDUs without a key and a partner only requests and responses wait for another
-- (SMPP 3.4, 4.1.7 and 4.12: outbind and alert_notification have none), and only within the window of their link.
pub record KnownSettled (s : SettingsValue) (has : LinkKey → Bool) (key : LinkKey) (source : SessionForms) : Type 0 where
  pub settled : has key ≡ false → (settled_by s 1 has).keyed key ≡ 0
  pub is_open : has key ≡ true → (settled_by s 1 has).keyed key ≡ 1
  pub paired : (settled_by s 1 has).paired 7 ≡ 0
  pub request : awaits s 2 source.link 1000 ≡ true → (settled_by s 2 has).lone source (pdu 0x00000004) ≡ 1
  pub response : awaits s 2 source.link 1000 ≡ true → (settled_by s 2 has).lone source (pdu 0x80000004) ≡ 1
  pub outbind : (settled_by s 2 has).lone source (pdu 0x0000000B) ≡ 0
  pub alert : (settled_by s 2 has).lone source (pdu 0x00000102) ≡ 0
  pub past : awaits s 2 source.link 1000 ≡ false → (settled_by s 2 has).lone source (pdu 0x00000004) ≡ 0

-- The keys that are open: those of a message and of a receipt within the window, and of a receipt of a centre that has no response yet.
pub record KnownOpen (s : SettingsValue) (now : ℕ) (m : MessageLineValue) (r : ReceiptLineValue) (key : Key) : Type 0 where
  pub message : m.fact.outcome ≡ outcome.Open → m.key ≡ Some key → awaits s now m.fact.link m.moment ≡ true
      → open_message s now m ≡ record { link = m.fact.link; key = key } ∷ []
  pub past_message : awaits s now m.fact.link m.moment ≡ false → open_message s now m ≡ []
  pub decided : m.fact.outcome ≡ outcome.Delivered → open_message s now m ≡ []
  pub receipt : r.standing ≡ standing.Stray → awaits s now r.link r.moment ≡ true
      → open_receipt s now r ≡ record { link = r.link; key = r.key } ∷ []
  pub past_receipt : awaits s now r.link r.moment ≡ false → open_receipt s now r ≡ []
  pub matched : r.standing ≡ standing.Deciding → open_receipt s now r ≡ []

pub record KnownUnanswered (s : SettingsValue) (now : ℕ) (source : SessionForms) (other earlier : List StoredPdu) (p q : StoredPdu) : Type 0 where
  pub waits : partner_of other earlier p ≡ None → awaits s now source.link p.moment ≡ true
      → unanswered s now source other earlier p ≡ option_to_list (key_with source FromCentre p None)
  pub answered : partner_of other earlier p ≡ Some q → unanswered s now source other earlier p ≡ []
  pub past : awaits s now source.link p.moment ≡ false → unanswered s now source other earlier p ≡ []
