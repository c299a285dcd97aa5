-- A known book, from octets: three sessions of two links, whose numbers are alike modulo 65,536, and its figures.
use Rattle.std.specs.Prelude.{◌≡◌, ℕ, List, [], ◌∷◌, ◌++◌, codes, Option, Some, None}
use Rattle.std.specs.FinMap as map
use Rattle.smq_kit.specs.declared.message_id.Form.TheVariants.{Decimal}
use Rattle.smq_kit.specs.declared.place.Dir.TheVariants.{FromClient, FromCentre}
use Rattle.smq_frame.specs.Stream.{handed_in}
use Rattle.smq_kit.specs.declared.error_code.ErrorCode.TheVariants as e
use Rattle.smq_route.specs.declared.version.Version.{Version}
use Rattle.smq_route.specs.declared.version.VersionKey.{VersionKey}
use Rattle.smq_tally.specs.declared.list.List.TheVariants as l
use Rattle.smq_tally.specs.declared.band.Band.TheVariants as b
use Rattle.smq_tally.specs.declared.fact.Fact.{Fact}
use Rattle.smq_tally.specs.declared.outcome.Outcome.{Outcome}
use Rattle.smq_tally.specs.declared.outcome.Outcome.TheVariants as o
use Rattle.smq_tally.specs.declared.value.SubmitError.{SubmitError}
use Rattle.smq_tally.specs.declared.value.SubmitError.TheVariants as s
use Rattle.smq_tally.specs.declared.value.Value.TheVariants as w
use Rattle.smq_tally.specs.declared.view.View.TheVariants as view
use Rattle.smq_present.specs.declared.present.session.Session.{Session}
use Rattle.smq_present.specs.present.Present.{PresentValue}
use Rattle.smq_present.specs.pairing.Traffic.{traffic_of}
use Rattle.smq_present.specs.join.Facts.{facts_of}
use Rattle.smq_tally.specs.Tables.{count_at, listed_in}
use Rattle.smq_present.specs.whole.Scratch.{scratch}
use Rattle.smq_present.specs.known.Present.{version}
use Rattle.smq_present.specs.known.Pairing.{place_at, submit_octets, response_octets, receipt_octets}
use Rattle.smq_present.specs.known.Join.{settings_with}

-- session 10 of link 1: two messages to one number, their responses, and a receipt of the first at 5000, with dates
abbrev pub known_session : Session
known_session = record {
  link = record { 0 = 1 };
  client = handed_in 1000 (submit_octets 1 (codes "447700900123")) ++ handed_in 1500 (submit_octets 2 (codes "447700900123"));
  centre = handed_in 1200 (response_octets 1 (codes "07")) ++ handed_in 1700 (response_octets 2 (codes "08"))
      ++ handed_in 5000
      (receipt_octets 90 (codes "id:7 submit date:2502281234 done date:991231235958 stat:DELIVRD"));
}

-- session 11 of link 1: another receipt of the first at 5000 too, and one of the second; the client sends one as well,
-- which is none
abbrev pub other_session : Session
other_session = record {
  link = record { 0 = 1 };
  client = handed_in 100 (receipt_octets 1 (codes "id:08 stat:DELIVRD"));
  centre = handed_in 5000 (receipt_octets 91 (codes "id:007 stat:UNDELIV err:012"))
      ++ handed_in 6500 (receipt_octets 92 (codes "id:008 stat:UNDELIV err:027"));
}

-- session 65,546 of link 65,537: two messages to no number with one id, and a receipt of it, and a third message, after
-- which the client's direction breaks off at a length of 15, and a fourth, which isn't read
abbrev pub far_session : Session
far_session = record {
  link = record { 0 = 65537 };
  client = handed_in 2000 (submit_octets 1 [] ++ submit_octets 2 [] ++ submit_octets 3 [] ++ 0 ∷ 0 ∷ 0 ∷ 15 ∷ [])
      ++ handed_in 2500 (submit_octets 4 []);
  centre = handed_in 2100
      (response_octets 1 (codes "7") ++ response_octets 2 (codes "7") ++ response_octets 3 (codes "9"))
      ++ handed_in 3000 (receipt_octets 90 (codes "id:7 stat:DELIVRD"));
}

-- versions of nested prefixes, of which the second alone holds at 1000 and none at 1500
abbrev pub nested_versions : List (VersionKey × Version)
nested_versions =
    version (codes "4") 0 (Some 1000) 1 (codes "20801")
    ∷ version (codes "44") 1000 (Some 1500) 3 (codes "23410")
    ∷ version (codes "447") 1600 None 2 (codes "23415") ∷ []

-- the book of these sessions and versions, where ids of link 1 are decimal, at the end of the third message's window
abbrev pub known_book : PresentValue
known_book = record {
  sessions = map.from_entries ((10, known_session) ∷ (11, other_session) ∷ (65546, far_session) ∷ []);
  settings =
      record (settings_with Decimal Decimal) { versions = map.from_entries nested_versions; clock = 172802000 };
}

-- a fact of a message of a session and a link, at an offset, that has no route and no delays
abbrev pub known_fact : ℕ → ℕ → ℕ → Outcome → Option SubmitError → Fact
known_fact session link offset outcome error = record {
  place = record { session = record { 0 = session }; dir = FromClient; offset = offset };
  link = record { 0 = link };
  route = None;
  outcome = outcome;
  error = error;
  link_delay = None;
  centre_delay = None;
}

-- What is known and counted of the known book.
pub record KnownFigures : Type 0 where
  pub facts :
      map.values (facts_of known_book.settings (traffic_of known_book.sessions))
      ≡ record (known_fact 10 1 0 o.Delivered None) {
        route = Some (record { 0 = 3 }, codes "23410");
        link_delay = Some b.Under5Seconds;
        centre_delay = Some b.Over;
      }
      ∷ record (known_fact 10 1 45 o.Failed (Some (s.Failed (e.Text (codes "027"))))) {
        link_delay = Some b.Under30Seconds;
      }
      ∷ known_fact 65546 65537 0 o.Ambiguous None ∷ known_fact 65546 65537 33 o.Ambiguous None
      ∷ known_fact 65546 65537 66 o.Lapsed None ∷ []
  pub delivered : count_at (scratch known_book) view.Link (w.Link (record { 0 = 1 })) o.Delivered ≡ 1
  pub failed : count_at (scratch known_book) view.Link (w.Link (record { 0 = 1 })) o.Failed ≡ 1
  pub ambiguous : count_at (scratch known_book) view.Link (w.Link (record { 0 = 65537 })) o.Ambiguous ≡ 2
  pub route : count_at (scratch known_book) view.Route (w.Route (record { 0 = 3 })) o.Delivered ≡ 1
  pub no_route : count_at (scratch known_book) view.Route w.NoRoute o.Failed ≡ 1
  pub no_number : count_at (scratch known_book) view.Route w.NoRoute o.Ambiguous ≡ 2
  pub not_routed : count_at (scratch known_book) view.Route w.NoRoute o.Delivered ≡ 0
  pub network : count_at (scratch known_book) view.Network (w.Network (codes "23410")) o.Delivered ≡ 1
  pub no_network : count_at (scratch known_book) view.Network w.NoNetwork o.Failed ≡ 1
  pub no_number_of_a_network : count_at (scratch known_book) view.Network w.NoNetwork o.Ambiguous ≡ 2
  pub not_ambiguous : count_at (scratch known_book) view.Link (w.Link (record { 0 = 1 })) o.Ambiguous ≡ 0
  pub why : count_at (scratch known_book) view.Error (w.Error (s.Failed (e.Text (codes "027")))) o.Failed ≡ 1
  pub not_so : count_at (scratch known_book) view.Error (w.Error (s.Failed (e.Text (codes "012")))) o.Failed ≡ 0
  pub lapsed : count_at (scratch known_book) view.Link (w.Link (record { 0 = 65537 })) o.Lapsed ≡ 1
  pub soon : count_at (scratch known_book) view.LinkDelay (w.Band b.Under5Seconds) o.Delivered ≡ 1
  pub later : count_at (scratch known_book) view.LinkDelay (w.Band b.Under30Seconds) o.Failed ≡ 1
  pub not_later : count_at (scratch known_book) view.LinkDelay (w.Band b.Under30Seconds) o.Delivered ≡ 0
  pub by_dates : count_at (scratch known_book) view.CentreDelay (w.Band b.Over) o.Delivered ≡ 1
  pub no_dates : count_at (scratch known_book) view.CentreDelay (w.Band b.Under30Seconds) o.Failed ≡ 0
  pub in_waiting :
      listed_in (scratch known_book) l.Waiting
      ≡ place_at 10 FromCentre 38 ∷ place_at 11 FromClient 0 ∷ place_at 11 FromCentre 0 ∷ place_at 11 FromCentre 60
      ∷ place_at 65546 FromCentre 54 ∷ []
  pub in_stray_answers : listed_in (scratch known_book) l.StrayAnswers ≡ []
  pub in_mismatched : listed_in (scratch known_book) l.Mismatched ≡ []
  pub in_stray_receipts : listed_in (scratch known_book) l.StrayReceipts ≡ []
  pub in_ambiguous_receipts : listed_in (scratch known_book) l.AmbiguousReceipts ≡ place_at 65546 FromCentre 54 ∷ []
  pub in_extra_receipts : listed_in (scratch known_book) l.ExtraReceipts ≡ place_at 11 FromCentre 0 ∷ []
  pub in_unreadable : listed_in (scratch known_book) l.Unreadable ≡ []
  pub in_undecodable : listed_in (scratch known_book) l.Undecodable ≡ []
  pub in_broken : listed_in (scratch known_book) l.Broken ≡ place_at 65546 FromClient 99 ∷ []
  pub in_open : listed_in (scratch known_book) l.Open ≡ []
  pub in_lapsed : listed_in (scratch known_book) l.Lapsed ≡ place_at 65546 FromClient 66 ∷ []
