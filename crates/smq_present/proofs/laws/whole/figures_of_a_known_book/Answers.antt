use Rattle.std.proofs.Common.{◌≡◌, List, ap, ◌∙◌}
use Rattle.std.specs.Prelude.{codes, count_by}
use Rattle.std.specs.FinMap.{FinMap, values}
use Rattle.smq_kit.specs.Orders.{place_cmp}
use Rattle.smq_kit.specs.declared.error_code.ErrorCode.TheVariants.{Text}
use Rattle.smq_tally.specs.declared.band.Band.TheVariants as b
use Rattle.smq_tally.specs.declared.fact.Fact.{Fact}
use Rattle.smq_tally.specs.declared.list.List.TheVariants as l
use Rattle.smq_tally.specs.declared.outcome.Outcome.TheVariants as o
use Rattle.smq_tally.specs.declared.value.SubmitError.TheVariants.{Failed}
use Rattle.smq_tally.specs.declared.value.Value.TheVariants.{Link, Route, NoRoute, Network, NoNetwork, Error, Band}
use Rattle.smq_tally.specs.declared.view.View.TheVariants as v
use Rattle.smq_present.specs.known.Whole.{known_book}
use Rattle.smq_present.specs.pairing.Traffic.{traffic_of}
use Rattle.smq_present.specs.join.Facts.{facts_of}
use Rattle.smq_present.specs.join.Listings.{notes_of}
use Rattle.smq_present.specs.whole.Scratch.{scratch}
use Rattle.smq_tally.specs.declared.fact.CountKey.{CountKey}
use Rattle.smq_tally.specs.Rows.{count_key, stands_in}
use Rattle.smq_tally.specs.within.Counting.{count_of}
use Rattle.smq_present.proofs.lemmas.whole.KnownBook.{facts-of-book, lists-of-book}
use Rattle.smq_tally.proofs.Tallies.{count-tables}
use Rattle.smq_present.proofs.laws.whole.figures_of_a_known_book.Goals as goal

abbrev known : FinMap place_cmp Fact
known = facts_of known_book.settings (traffic_of known_book.sessions)

-- a count is the number of these facts that stand there
counted : (key : CountKey) (facts : List Fact) → values known ≡ facts → count_of (scratch known_book) key ≡ count_by (stands_in key) facts
counted key facts is =
    count-tables known (notes_of known_book.settings (traffic_of known_book.sessions)) key ∙ ap (count_by (stands_in key)) is

pub returns : goal.returns
returns c = record {
  facts = facts-of-book;
  delivered = counted (count_key v.Link (Link (record { 0 = 1 })) o.Delivered) _ facts-of-book;
  failed = counted (count_key v.Link (Link (record { 0 = 1 })) o.Failed) _ facts-of-book;
  ambiguous = counted (count_key v.Link (Link (record { 0 = 65537 })) o.Ambiguous) _ facts-of-book;
  route = counted (count_key v.Route (Route (record { 0 = 3 })) o.Delivered) _ facts-of-book;
  no_route = counted (count_key v.Route NoRoute o.Failed) _ facts-of-book;
  no_number = counted (count_key v.Route NoRoute o.Ambiguous) _ facts-of-book;
  not_routed = counted (count_key v.Route NoRoute o.Delivered) _ facts-of-book;
  network = counted (count_key v.Network (Network (codes "23410")) o.Delivered) _ facts-of-book;
  no_network = counted (count_key v.Network NoNetwork o.Failed) _ facts-of-book;
  no_number_of_a_network = counted (count_key v.Network NoNetwork o.Ambiguous) _ facts-of-book;
  not_ambiguous = counted (count_key v.Link (Link (record { 0 = 1 })) o.Ambiguous) _ facts-of-book;
  why = counted (count_key v.Error (Error (Failed (Text (codes "027")))) o.Failed) _ facts-of-book;
  not_so = counted (count_key v.Error (Error (Failed (Text (codes "012")))) o.Failed) _ facts-of-book;
  lapsed = counted (count_key v.Link (Link (record { 0 = 65537 })) o.Lapsed) _ facts-of-book;
  soon = counted (count_key v.LinkDelay (Band b.Under5Seconds) o.Delivered) _ facts-of-book;
  later = counted (count_key v.LinkDelay (Band b.Under30Seconds) o.Failed) _ facts-of-book;
  not_later = counted (count_key v.LinkDelay (Band b.Under30Seconds) o.Delivered) _ facts-of-book;
  by_dates = counted (count_key v.CentreDelay (Band b.Over) o.Delivered) _ facts-of-book;
  no_dates = counted (count_key v.CentreDelay (Band b.Under30Seconds) o.Failed) _ facts-of-book;
  in_waiting = lists-of-book l.Waiting;
  in_stray_answers = lists-of-book l.StrayAnswers;
  in_mismatched = lists-of-book l.Mismatched;
  in_stray_receipts = lists-of-book l.StrayReceipts;
  in_ambiguous_receipts = lists-of-book l.AmbiguousReceipts;
  in_extra_receipts = lists-of-book l.ExtraReceipts;
  in_unreadable = lists-of-book l.Unreadable;
  in_undecodable = lists-of-book l.Undecodable;
  in_broken = lists-of-book l.Broken;
  in_open = lists-of-book l.Open;
  in_lapsed = lists-of-book l.Lapsed;
}
