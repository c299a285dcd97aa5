-- Lines and sums that are written out.
use Rattle.std.specs.Prelude.{◌≡◌, ℕ, true, false, List, [], ◌∷◌, ◌++◌, Some, None, codes, map}
use Rattle.smq_kit.specs.declared.place.Dir.TheVariants.{FromClient}
use Rattle.smq_tally.specs.declared.list.List.TheVariants as l
use Rattle.smq_tally.specs.declared.outcome.Outcome.{Outcome}
use Rattle.smq_tally.specs.declared.outcome.Outcome.TheVariants as o
use Rattle.smq_tally.specs.declared.value.Value.TheVariants as w
use Rattle.smq_tally.specs.declared.view.View.TheVariants as v
use Rattle.smq_tally.specs.Rows.{count_key}
use Rattle.smq_add.specs.declared.row.Key.TheVariants.{Counted, Listed}
use Rattle.smq_add.specs.declared.row.Row.{Row}
use Rattle.smq_report.specs.declared.pick.Section.TheVariants as section
use Rattle.smq_add.specs.declared.checks.Owner.TheVariants.{Link, Session}
use Rattle.smq_add.specs.Apart.{MayAdd, owners_from, sections_of}
use Rattle.smq_add.specs.Checks.{is_whole}
use Rattle.smq_add.specs.Numbers.{begins_as_number}
use Rattle.smq_add.specs.Rows.{counts_text, row_line}
use Rattle.smq_add.specs.Sums.{as_added, sum_of}

-- a count of messages of a link
abbrev pub linked : ℕ → Outcome → ℕ → Row
linked link outcome count = record { key = Counted (count_key v.Link (w.Link (record { 0 = link })) outcome); count = count }

-- the same of those without a route, and without a network
abbrev pub unrouted : Outcome → ℕ → Row
unrouted outcome count = record { key = Counted (count_key v.Route w.NoRoute outcome); count = count }

abbrev pub unknown : Outcome → ℕ → Row
unknown outcome count = record { key = Counted (count_key v.Network w.NoNetwork outcome); count = count }

-- an open message of the client at the start of a session
abbrev pub opened : ℕ → Row
opened session = record {
  key = Listed l.Open (Some (record { session = record { 0 = session }; dir = FromClient; offset = 0 }));
  count = 1;
}

-- the number of open messages
abbrev pub opened_count : ℕ → Row
opened_count count = record { key = Listed l.Open None; count = count }

-- a report of one open message
abbrev pub report_of : ℕ → ℕ → List Row
report_of link session = linked link o.Open 1 ∷ unrouted o.Open 1 ∷ unknown o.Open 1 ∷ opened session ∷ []

-- Lines of rows.
pub record KnowsLines : Type 0 where
  pub count : row_line (linked 10 o.Failed 4) ≡ codes "view,link,10,failed,4" ++ 10 ∷ []
  pub none : row_line (unrouted o.Open 1) ≡ codes "view,route,none,open,1" ++ 10 ∷ []
  pub place : row_line (opened 9) ≡ codes "list,open,9,client,0" ++ 10 ∷ []
  pub length : row_line (opened_count 17) ≡ codes "count,open,17" ++ 10 ∷ []

-- Sums of two reports of links, and of periods.
pub record KnowsSums : Type 0 where
  pub links :
      counts_text (sum_of (report_of 2 11 ++ report_of 1 10))
      ≡ codes "view,link,1,open,1" ++ 10 ∷ [] ++ codes "view,link,2,open,1" ++ 10 ∷ [] ++ codes "view,route,none,open,2" ++ 10 ∷ []
      ++ codes "view,network,none,open,2" ++ 10 ∷ [] ++ codes "list,open,10,client,0" ++ 10 ∷ [] ++ codes "list,open,11,client,0" ++ 10 ∷ []
  pub periods :
      counts_text (sum_of (map (as_added true) (report_of 1 10 ++ report_of 1 11)))
      ≡ codes "view,link,1,open,2" ++ 10 ∷ [] ++ codes "view,route,none,open,2" ++ 10 ∷ [] ++ codes "view,network,none,open,2" ++ 10 ∷ []
      ++ codes "count,open,2" ++ 10 ∷ []

-- Which reports are whole.
pub record KnowsWholes : Type 0 where
  pub whole : is_whole (report_of 1 10) ≡ true
  pub nothing : is_whole [] ≡ true
  pub view : is_whole (linked 1 o.Open 1 ∷ []) ≡ false
  pub unlisted : is_whole (linked 1 o.Open 1 ∷ unrouted o.Open 1 ∷ unknown o.Open 1 ∷ []) ≡ false
  pub length : is_whole (linked 1 o.Open 2 ∷ unrouted o.Open 2 ∷ unknown o.Open 2 ∷ opened_count 2 ∷ []) ≡ true

-- Which reports can be added: of links not where two have a link, of periods also then, and no part with a whole.
pub record KnowsApart : Type 0 where
  pub owners :
      owners_from 0 (report_of 1 10 ∷ report_of 2 11 ∷ [])
      ≡ (Link (record { 0 = 1 }), 0) ∷ (Session (record { 0 = 10 }), 0) ∷ (Link (record { 0 = 2 }), 1) ∷ (Session (record { 0 = 11 }), 1) ∷ []
  pub sections :
      sections_of (report_of 1 10 ∷ [])
      ≡ section.View v.Link ∷ section.View v.Route ∷ section.View v.Network ∷ section.List l.Open ∷ []
  pub links : MayAdd false (report_of 1 10 ∷ report_of 1 11 ∷ []) → ⊥
  pub periods : MayAdd true (report_of 1 10 ∷ report_of 1 10 ∷ [])
  pub views : MayAdd false ((linked 1 o.Open 1 ∷ []) ∷ (linked 2 o.Open 1 ∷ []) ∷ [])
  pub part : MayAdd true ((linked 1 o.Open 1 ∷ []) ∷ (unrouted o.Open 1 ∷ []) ∷ []) → ⊥

-- Which texts begin as numbers do.
pub record KnowsNumbers : Type 0 where
  pub zero : begins_as_number (codes "0") ≡ true
  pub leading : begins_as_number (codes "01") ≡ false
  pub plus : begins_as_number (codes "+1") ≡ false
  pub nothing : begins_as_number [] ≡ false
