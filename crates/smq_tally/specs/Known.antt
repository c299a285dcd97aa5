-- Values and places that are written out.
use Rattle.std.specs.Prelude.{◌≡◌, ℕ, pos, neg_ℤ, List, [], ◌∷◌, Option, Some, None, codes}
use Rattle.std.specs.Prelude.{map as map_of}
use Rattle.std.specs.List.Sorted.{IsStrictlySortedBy}
use Rattle.std.specs.FinMap as map
use Rattle.smq_kit.specs.declared.names.LinkId.{LinkId}
use Rattle.smq_kit.specs.declared.names.RouteId.{RouteId}
use Rattle.smq_kit.specs.declared.place.Dir.{Dir}
use Rattle.smq_kit.specs.declared.place.Dir.TheVariants.{FromClient, FromCentre}
use Rattle.smq_kit.specs.declared.place.Place.{Place}
use Rattle.smq_kit.specs.declared.error_code.ErrorCode.TheVariants as e
use Rattle.smq_tally.specs.declared.band.Band.{Band}
use Rattle.smq_tally.specs.declared.band.Band.TheVariants as b
use Rattle.smq_tally.specs.declared.fact.CountKey.{CountKey}
use Rattle.smq_tally.specs.declared.fact.Fact.{Fact}
use Rattle.smq_tally.specs.declared.list.List.TheVariants as l
use Rattle.smq_tally.specs.declared.list.Listed.{Listed}
use Rattle.smq_tally.specs.declared.value.SubmitError.TheVariants as s
use Rattle.smq_tally.specs.declared.value.Value.{Value}
use Rattle.smq_tally.specs.declared.value.Value.TheVariants as w
use Rattle.smq_tally.specs.declared.outcome.Outcome.{Outcome}
use Rattle.smq_tally.specs.declared.outcome.Outcome.TheVariants as o
use Rattle.smq_tally.specs.declared.view.View.TheVariants as v
use Rattle.smq_tally.specs.Bands.{band_of, band_rank}
use Rattle.smq_tally.specs.Lists.{lists, listed, listed_cmp, listed_set}
use Rattle.smq_tally.specs.Names.{view_name, list_name, outcome_name, band_name}
use Rattle.smq_tally.specs.Rows.{views, outcome_rank, count_key}
use Rattle.smq_tally.specs.Tables.{TablesValue, tables_of, count_at, listed_in}

-- ---- outcomes and bands, in their order

abbrev pub known_outcomes : List Outcome
known_outcomes =
    o.Waiting ∷ o.Mismatched ∷ o.Refused ∷ o.NoId ∷ o.Ambiguous ∷ o.Delivered ∷ o.Failed ∷ o.Unasked ∷ o.Lapsed ∷ o.Open ∷ []

abbrev pub known_bands : List Band
known_bands = b.Early ∷ b.Under5Seconds ∷ b.Under30Seconds ∷ b.Under5Minutes ∷ b.Under1Hour ∷ b.Over ∷ []

-- ---- values, in their order: a link, routes and networks, none last, refusals by a status, failures by an error code, bands

abbrev pub known_keys : List CountKey
known_keys =
    count_key v.LinkDelay (w.Band b.Under5Seconds) o.Failed ∷ count_key v.LinkDelay (w.Band b.Over) o.Delivered
    ∷ count_key v.CentreDelay (w.Band b.Early) o.Waiting ∷ []

abbrev pub known_values : LinkId → List Value
known_values link =
    w.Link link
    ∷ w.Route (record { 0 = 2 })
    ∷ w.Route (record { 0 = 10 })
    ∷ w.Route (record { 0 = 65538 })
    ∷ w.NoRoute
    ∷ w.Network (codes "20801")
    ∷ w.Network (codes "23410")
    ∷ w.Network (codes "234100")
    ∷ w.Network (codes "23415")
    ∷ w.Network (codes "90101")
    ∷ w.NoNetwork
    ∷ w.Error (s.Refused 3)
    ∷ w.Error (s.Refused 11)
    ∷ w.Error (s.Failed (e.Network 3 8))
    ∷ w.Error (s.Failed (e.Network 3 9))
    ∷ w.Error (s.Failed (e.Network 4 0))
    ∷ w.Error (s.Failed (e.Text (codes "012")))
    ∷ w.Error (s.Failed (e.Text (codes "1")))
    ∷ w.Error (s.Failed e.Unstated)
    ∷ w.Band b.Early
    ∷ w.Band b.Under5Seconds
    ∷ w.Band b.Under30Seconds
    ∷ w.Band b.Under5Minutes
    ∷ w.Band b.Under1Hour
    ∷ w.Band b.Over
    ∷ []

-- ---- listed places, in their order: by list, then session, then direction, the client's first, then offset

-- a place: a session, a direction and an offset
abbrev pub place_at : ℕ → Dir → ℕ → Place
place_at session dir offset = record { session = record { 0 = session }; dir = dir; offset = offset }

abbrev pub known_listed : List Listed
known_listed =
    listed l.Waiting (place_at 9 FromClient 49)
    ∷ listed l.Waiting (place_at 9 FromCentre 0)
    ∷ listed l.Waiting (place_at 10 FromClient 0)
    ∷ listed l.Waiting (place_at 10 FromClient 65536)
    ∷ listed l.Waiting (place_at 10 FromClient 65537)
    ∷ listed l.StrayAnswers (place_at 9 FromClient 0)
    ∷ listed l.StrayAnswers (place_at 65536 FromCentre 0)
    ∷ listed l.StrayAnswers (place_at 65537 FromClient 0)
    ∷ listed l.Mismatched (place_at 1 FromCentre 16)
    ∷ listed l.StrayReceipts (place_at 1 FromCentre 3)
    ∷ listed l.AmbiguousReceipts (place_at 1 FromCentre 4)
    ∷ listed l.ExtraReceipts (place_at 1 FromCentre 5)
    ∷ listed l.Unreadable (place_at 1 FromCentre 6)
    ∷ listed l.Undecodable (place_at 1 FromClient 7)
    ∷ listed l.Undecodable (place_at 1 FromCentre 7)
    ∷ listed l.Broken (place_at 1 FromClient 8)
    ∷ listed l.Open (place_at 1 FromClient 9)
    ∷ listed l.Lapsed (place_at 1 FromClient 10)
    ∷ []

-- tables without facts in which these are listed
abbrev pub known_tables : TablesValue
known_tables = tables_of map.empty (listed_set known_listed)

-- Places that are written out, by their lists, in order.
pub record KnownLists : Type 0 where
  pub order : IsStrictlySortedBy listed_cmp known_listed
  pub in_waiting :
      listed_in known_tables l.Waiting
      ≡ place_at 9 FromClient 49 ∷ place_at 9 FromCentre 0 ∷ place_at 10 FromClient 0 ∷ place_at 10 FromClient 65536
      ∷ place_at 10 FromClient 65537 ∷ []
  pub in_stray :
      listed_in known_tables l.StrayAnswers
      ≡ place_at 9 FromClient 0 ∷ place_at 65536 FromCentre 0 ∷ place_at 65537 FromClient 0 ∷ []
  pub in_mismatched : listed_in known_tables l.Mismatched ≡ place_at 1 FromCentre 16 ∷ []
  pub in_stray_receipts : listed_in known_tables l.StrayReceipts ≡ place_at 1 FromCentre 3 ∷ []
  pub in_ambiguous_receipts : listed_in known_tables l.AmbiguousReceipts ≡ place_at 1 FromCentre 4 ∷ []
  pub in_extra_receipts : listed_in known_tables l.ExtraReceipts ≡ place_at 1 FromCentre 5 ∷ []
  pub in_unreadable : listed_in known_tables l.Unreadable ≡ place_at 1 FromCentre 6 ∷ []
  pub in_undecodable : listed_in known_tables l.Undecodable ≡ place_at 1 FromClient 7 ∷ place_at 1 FromCentre 7 ∷ []
  pub in_broken : listed_in known_tables l.Broken ≡ place_at 1 FromClient 8 ∷ []
  pub in_open : listed_in known_tables l.Open ≡ place_at 1 FromClient 9 ∷ []
  pub in_lapsed : listed_in known_tables l.Lapsed ≡ place_at 1 FromClient 10 ∷ []

-- ---- names, in the order in which reports print them

-- Views, lists, outcomes and bands in their order, and their names.
pub record KnownNames : Type 0 where
  pub view_order : views ≡ v.Link ∷ v.Route ∷ v.Network ∷ v.Error ∷ v.LinkDelay ∷ v.CentreDelay ∷ []
  pub view_names :
      map_of view_name views
      ≡ codes "link" ∷ codes "route" ∷ codes "network" ∷ codes "error" ∷ codes "link-delay" ∷ codes "centre-delay" ∷ []
  pub list_order :
      lists
      ≡ l.Waiting ∷ l.StrayAnswers ∷ l.Mismatched ∷ l.StrayReceipts ∷ l.AmbiguousReceipts ∷ l.ExtraReceipts ∷ l.Unreadable
      ∷ l.Undecodable ∷ l.Broken ∷ l.Open ∷ l.Lapsed ∷ []
  pub list_names :
      map_of list_name lists
      ≡ codes "waiting" ∷ codes "stray-answers" ∷ codes "mismatched" ∷ codes "stray-receipts" ∷ codes "ambiguous-receipts"
      ∷ codes "extra-receipts" ∷ codes "unreadable" ∷ codes "undecodable" ∷ codes "broken" ∷ codes "open" ∷ codes "lapsed" ∷ []
  pub outcome_order : map_of outcome_rank known_outcomes ≡ 0 ∷ 1 ∷ 2 ∷ 3 ∷ 4 ∷ 5 ∷ 6 ∷ 7 ∷ 8 ∷ 9 ∷ []
  pub outcome_names :
      map_of outcome_name known_outcomes
      ≡ codes "waiting" ∷ codes "mismatched" ∷ codes "refused" ∷ codes "noid" ∷ codes "ambiguous" ∷ codes "delivered"
      ∷ codes "failed" ∷ codes "unasked" ∷ codes "lapsed" ∷ codes "open" ∷ []
  pub band_order : map_of band_rank known_bands ≡ 0 ∷ 1 ∷ 2 ∷ 3 ∷ 4 ∷ 5 ∷ []
  pub band_names :
      map_of band_name known_bands
      ≡ codes "early" ∷ codes "under-5s" ∷ codes "under-30s" ∷ codes "under-5m" ∷ codes "under-1h" ∷ codes "over" ∷ []

-- ---- delays at the ends of bands

-- Delays in milliseconds and their bands.
pub record KnownDelays : Type 0 where
  pub least : band_of (neg_ℤ (pos 9223372036854775808)) ≡ b.Early
  pub early : band_of (neg_ℤ (pos 1)) ≡ b.Early
  pub none : band_of (pos 0) ≡ b.Under5Seconds
  pub below_5_seconds : band_of (pos 4999) ≡ b.Under5Seconds
  pub of_5_seconds : band_of (pos 5000) ≡ b.Under30Seconds
  pub below_30_seconds : band_of (pos 29999) ≡ b.Under30Seconds
  pub of_30_seconds : band_of (pos 30000) ≡ b.Under5Minutes
  pub below_5_minutes : band_of (pos 299999) ≡ b.Under5Minutes
  pub of_5_minutes : band_of (pos 300000) ≡ b.Under1Hour
  pub below_1_hour : band_of (pos 3599999) ≡ b.Under1Hour
  pub of_1_hour : band_of (pos 3600000) ≡ b.Over
  pub most : band_of (pos 9223372036854775807) ≡ b.Over

-- ---- small tables

abbrev pub known_route : List ℕ → Option (RouteId × List ℕ)
known_route network = Some (record { 0 = 65538 }, network)

-- two that were delivered, one of them before it was sent; one that failed; one that is open and one that lapsed
abbrev pub known_facts : List (Place × Fact)
known_facts = (
  place_at 1 FromClient 0,
  record {
    place = place_at 1 FromClient 0;
    link = record { 0 = 7 };
    route = known_route (codes "20801");
    outcome = o.Delivered;
    error = None;
    link_delay = Some b.Under5Seconds;
    centre_delay = Some b.Over;
  },
)
    ∷ (
      place_at 1 FromClient 90,
      record {
        place = place_at 1 FromClient 90;
        link = record { 0 = 7 };
        route = known_route (codes "23415");
        outcome = o.Delivered;
        error = None;
        link_delay = Some b.Early;
        centre_delay = None;
      },
    )
    ∷ (
      place_at 1 FromClient 180,
      record {
        place = place_at 1 FromClient 180;
        link = record { 0 = 7 };
        route = None;
        outcome = o.Open;
        error = None;
        link_delay = None;
        centre_delay = None;
      },
    )
    ∷ (
      place_at 2 FromClient 0,
      record {
        place = place_at 2 FromClient 0;
        link = record { 0 = 70000 };
        route = known_route (codes "20801");
        outcome = o.Failed;
        error = Some (s.Failed (e.Text (codes "012")));
        link_delay = Some b.Under5Seconds;
        centre_delay = None;
      },
    )
    ∷ (
      place_at 2 FromClient 90,
      record {
        place = place_at 2 FromClient 90;
        link = record { 0 = 70000 };
        route = None;
        outcome = o.Lapsed;
        error = None;
        link_delay = None;
        centre_delay = None;
      },
    )
    ∷ []

-- a place before the open one is noted as open, another twice as a stray, and the open one as undecodable
abbrev pub known_notes : List Listed
known_notes =
    listed l.Open (place_at 1 FromClient 0)
    ∷ listed l.StrayAnswers (place_at 3 FromCentre 16)
    ∷ listed l.StrayAnswers (place_at 3 FromCentre 16)
    ∷ listed l.Undecodable (place_at 1 FromClient 180)
    ∷ []

-- their tables
abbrev pub known_whole : TablesValue
known_whole = tables_of (map.from_entries known_facts) (listed_set known_notes)

-- Counts of these in each view, and the places of lists.
pub record KnownTables : Type 0 where
  pub delivered : count_at known_whole v.Link (w.Link (record { 0 = 7 })) o.Delivered ≡ 2
  pub waits : count_at known_whole v.Link (w.Link (record { 0 = 7 })) o.Open ≡ 1
  pub failed : count_at known_whole v.Link (w.Link (record { 0 = 70000 })) o.Failed ≡ 1
  pub not_failed : count_at known_whole v.Link (w.Link (record { 0 = 7 })) o.Failed ≡ 0
  pub other_link : count_at known_whole v.Link (w.Link (record { 0 = 8 })) o.Delivered ≡ 0
  pub route : count_at known_whole v.Route (w.Route (record { 0 = 65538 })) o.Delivered ≡ 2
  pub no_route : count_at known_whole v.Route w.NoRoute o.Lapsed ≡ 1
  pub other_route : count_at known_whole v.Route (w.Route (record { 0 = 2 })) o.Delivered ≡ 0
  pub network : count_at known_whole v.Network (w.Network (codes "20801")) o.Delivered ≡ 1
  pub no_network : count_at known_whole v.Network w.NoNetwork o.Open ≡ 1
  pub error : count_at known_whole v.Error (w.Error (s.Failed (e.Text (codes "012")))) o.Failed ≡ 1
  pub other_error : count_at known_whole v.Error (w.Error (s.Refused 11)) o.Refused ≡ 0
  pub link_delay : count_at known_whole v.LinkDelay (w.Band b.Under5Seconds) o.Delivered ≡ 1
  pub failed_delay : count_at known_whole v.LinkDelay (w.Band b.Under5Seconds) o.Failed ≡ 1
  pub early : count_at known_whole v.LinkDelay (w.Band b.Early) o.Delivered ≡ 1
  pub centre_delay : count_at known_whole v.CentreDelay (w.Band b.Over) o.Delivered ≡ 1
  pub other_delay : count_at known_whole v.CentreDelay (w.Band b.Under5Seconds) o.Delivered ≡ 0
  pub in_open : listed_in known_whole l.Open ≡ place_at 1 FromClient 0 ∷ place_at 1 FromClient 180 ∷ []
  pub in_lapsed : listed_in known_whole l.Lapsed ≡ place_at 2 FromClient 90 ∷ []
  pub in_stray : listed_in known_whole l.StrayAnswers ≡ place_at 3 FromCentre 16 ∷ []
  pub in_undecodable : listed_in known_whole l.Undecodable ≡ place_at 1 FromClient 180 ∷ []
  pub in_waiting : listed_in known_whole l.Waiting ≡ []
