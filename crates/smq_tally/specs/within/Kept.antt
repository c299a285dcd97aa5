-- Maps that can be undone, seen as finite ones, and what a change leaves in them to be taken back.
use Rattle.std.specs.Prelude.{◌≡◌, ℕ, Bool, true, false, List, ◌∷◌, Option, Some, map}
use Rattle.std.specs.FinMap as fin
use Rattle.std.specs.FinSet.{FinSet}
use Rattle.smq_kit.specs.declared.names.LinkId.{LinkId}
use Rattle.smq_kit.specs.declared.names.RouteId.{RouteId}
use Rattle.smq_kit.specs.declared.place.Place.{Place}
use Rattle.smq_kit.specs.Orders.{place_cmp}
use Rattle.smq_shelf.specs.Keeping.{KeepingMap}
use Rattle.smq_shelf.specs.Places.{content_of}
use Rattle.smq_tally.specs.declared.band.Band.{Band}
use Rattle.smq_tally.specs.declared.fact.Fact.{Fact}
use Rattle.smq_tally.specs.declared.fact.RowKey.{RowKey}
use Rattle.smq_tally.specs.declared.list.Listed.{Listed}
use Rattle.smq_tally.specs.declared.outcome.Outcome.{Outcome}
use Rattle.smq_tally.specs.declared.value.SubmitError.{SubmitError}
use Rattle.smq_tally.specs.declared.counts.OutcomeCounts.{OutcomeCounts}
use Rattle.smq_tally.specs.Lists.{listed_cmp}
use Rattle.smq_tally.specs.Tables.{TablesValue, tables_of}
use Rattle.smq_tally.specs.within.Counting.{Counts}
use Rattle.smq_tally.specs.within.RowCounts.{counts_of, rows_in}

-- What a fact says but for its place.
pub record Known : Type 0 where
  pub link : LinkId
  pub route : Option (RouteId × List ℕ)
  pub outcome : Outcome
  pub error : Option SubmitError
  pub link_delay : Option Band
  pub centre_delay : Option Band

-- a fact without its place
abbrev pub known_of : Fact → Known
known_of f = record { link = f.link; route = f.route; outcome = f.outcome; error = f.error; link_delay = f.link_delay; centre_delay = f.centre_delay }

-- the fact of a place
abbrev pub fact_at : Place → Known → Fact
fact_at place k = record {
  place = place;
  link = k.link;
  route = k.route;
  outcome = k.outcome;
  error = k.error;
  link_delay = k.link_delay;
  centre_delay = k.centre_delay;
}

-- entries of what is known by place as a finite map of facts
abbrev pub facts_in : List (Place × Known) → fin.FinMap place_cmp Fact
facts_in es = fin.from_entries (map (λ e. (e.0, fact_at e.0 e.1)) es)

-- entries of rows as counts
abbrev pub counts_in : List (RowKey × OutcomeCounts) → Counts
counts_in es = counts_of (rows_in es)

-- entries of listed places as a finite set
abbrev pub places_in : List (Listed × Unit {0}) → FinSet listed_cmp
places_in es = fin.from_entries es

-- entries of rows and of listed places as tables
abbrev pub tables_in : List (RowKey × OutcomeCounts) → List (Listed × Unit {0}) → TablesValue
tables_in counts places = record { counts = counts_in counts; places = places_in places }

-- What a call left to be taken back: one change, or none where it changed nothing.
abbrev pub IsLogged : {K V : Type 0} → Bool → KeepingMap K V → KeepingMap K V → Type 0
IsLogged true old new = (old.content ≡ content_of old.places) × (new.past ≡ old.places ∷ old.past)
IsLogged false old new = new ≡ old

-- What a call left in two steps, of which each is one change or none.
abbrev pub AreLogged : {K V : Type 0} → Bool × Bool → KeepingMap K V → KeepingMap K V → Type 0
AreLogged {K} {V} steps old new =
    (mid : KeepingMap K V) × IsLogged steps.0 old mid × IsLogged steps.1 mid new × (mid.settled ≡ old.settled)

-- Each fact stands at its own place.
pub record StandAtTheirPlaces (facts : fin.FinMap place_cmp Fact) : Type 0 where
  pub own : (q : Place) (f : Fact) → fin.get facts q ≡ Some f → f.place ≡ q

-- The tables of a tally are those of its facts and notes, now and when it was settled.
pub record Tallies (facts settled_facts : fin.FinMap place_cmp Fact) (notes settled_notes : FinSet listed_cmp) (shown settled : TablesValue) : Type 0
  where
    pub now : shown ≡ tables_of facts notes
    pub before : settled ≡ tables_of settled_facts settled_notes
