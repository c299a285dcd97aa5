-- Whether reports can be added: which parts of a report each has, whether it is whole, and whose messages and places it has.
use Rattle.std.specs.Prelude.{ℕ, ◌==◌, Bool, false, ◌&&◌, List, [], ◌∷◌, cond, Option, Some, None}
use Rattle.std.specs.List.{list_all, sum_by}
use Rattle.smq_tally.specs.declared.list.List as lists
use Rattle.smq_tally.specs.declared.list.List.TheVariants as l
use Rattle.smq_tally.specs.declared.outcome.Outcome.{Outcome}
use Rattle.smq_tally.specs.declared.outcome.Outcome.TheVariants as o
use Rattle.smq_tally.specs.declared.value.Value.{Value}
use Rattle.smq_tally.specs.declared.value.Value.TheVariants as w
use Rattle.smq_tally.specs.declared.view.View.{View}
use Rattle.smq_tally.specs.declared.view.View.TheVariants as v
use Rattle.smq_tally.specs.Lists.{list_rank}
use Rattle.smq_tally.specs.Rows.{outcome_rank, view_rank}
use Rattle.smq_report.specs.declared.pick.Section.{Section}
use Rattle.smq_report.specs.declared.pick.Section.TheVariants as section
use Rattle.smq_add.specs.declared.row.Key.{Key}
use Rattle.smq_add.specs.declared.row.Key.TheVariants.{Counted, Listed}
use Rattle.smq_add.specs.declared.row.Row.{Row}
use Rattle.smq_add.specs.declared.checks.Owner.{Owner}
use Rattle.smq_add.specs.declared.checks.Owner.TheVariants.{Link, Session}

-- the section of a report in which a key stands
abbrev pub section_of : Key → Section
section_of (Counted at) = section.View at.view
section_of (Listed list place) = section.List list

-- whether a key is of a view and an outcome
abbrev pub is_counted : View → Outcome → Key → Bool
is_counted view outcome (Counted at) = view_rank at.view == view_rank view && outcome_rank at.outcome == outcome_rank outcome
is_counted view outcome (Listed list place) = false

-- whether a key is of a list
abbrev pub is_listed : lists.List → Key → Bool
is_listed list (Counted at) = false
is_listed list (Listed other place) = list_rank other == list_rank list

-- how many messages of an outcome a view counts
abbrev pub number_in : View → Outcome → List Row → ℕ
number_in view outcome rows = sum_by (λ row. cond (is_counted view outcome row.key) row.count 0) rows

-- how many places a list has
abbrev pub length_of : lists.List → List Row → ℕ
length_of list rows = sum_by (λ row. cond (is_listed list row.key) row.count 0) rows

-- the outcomes, in their order
abbrev pub outcomes : List Outcome
outcomes =
    o.Waiting ∷ o.Mismatched ∷ o.Refused ∷ o.NoId ∷ o.Ambiguous ∷ o.Delivered ∷ o.Failed ∷ o.Unasked ∷ o.Lapsed ∷ o.Open ∷ []

-- whether the views that have all messages have the same number of an outcome
abbrev pub is_in_all : List Row → Outcome → Bool
is_in_all rows outcome =
    number_in v.Route outcome rows == number_in v.Link outcome rows && number_in v.Network outcome rows == number_in v.Link outcome rows

-- whether a report is whole: all messages stand in each view that has all, and are listed where their outcome has a list
abbrev pub is_whole : List Row → Bool
is_whole rows =
    list_all (is_in_all rows) outcomes && length_of l.Open rows == number_in v.Link o.Open rows
    && length_of l.Lapsed rows == number_in v.Link o.Lapsed rows

-- the link by which a value counts, if it is one
abbrev pub link_owner : Value → Option Owner
link_owner (w.Link link) = Some (Link link)
link_owner value = None

-- what a key is of that no other report may have, if anything: the link of a count by links, and the session of a place
abbrev pub owner_of : Key → Option Owner
owner_of (Counted at) = link_owner at.value
owner_of (Listed list (Some place)) = Some (Session place.session)
owner_of (Listed list None) = None
