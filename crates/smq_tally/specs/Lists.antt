-- Places in lists, and the order of these.
use Rattle.std.specs.Prelude.{◌≡◌, ◌==◌, ℕ, Bool, Contains, List, [], ◌∷◌, map}
use Rattle.std.specs.declared.cmp.Ordering.{Ordering}
use Rattle.std.specs.Ordering.{nat_cmp, ordering_then}
use Rattle.std.specs.FinMap as fin
use Rattle.std.specs.FinSet.{FinSet}
use Rattle.smq_kit.specs.declared.place.Place.{Place}
use Rattle.smq_kit.specs.Orders.{place_cmp}
use Rattle.smq_tally.specs.declared.list.List as l
use Rattle.smq_tally.specs.declared.list.List.TheVariants as v
use Rattle.smq_tally.specs.declared.list.Listed.{Listed}
use Rattle.smq_tally.specs.declared.fact.Fact.{Fact}
use Rattle.smq_tally.specs.declared.outcome.Outcome.{Outcome}
use Rattle.smq_tally.specs.declared.outcome.Outcome.TheVariants as o

-- the lists, in their order
abbrev pub lists : List l.List
lists =
    v.Waiting ∷ v.StrayAnswers ∷ v.Mismatched ∷ v.StrayReceipts ∷ v.AmbiguousReceipts ∷ v.ExtraReceipts ∷ v.Unreadable
    ∷ v.Undecodable ∷ v.Broken ∷ v.Open ∷ v.Lapsed ∷ []

-- how many lists come before a list
abbrev pub list_rank : l.List → ℕ
list_rank v.Waiting = 0
list_rank v.StrayAnswers = 1
list_rank v.Mismatched = 2
list_rank v.StrayReceipts = 3
list_rank v.AmbiguousReceipts = 4
list_rank v.ExtraReceipts = 5
list_rank v.Unreadable = 6
list_rank v.Undecodable = 7
list_rank v.Broken = 8
list_rank v.Open = 9
list_rank v.Lapsed = 10

-- a place in a list
abbrev pub listed : l.List → Place → Listed
listed list place = record { list = list; place = place }

-- the order of listed places: by list, then by place
abbrev pub listed_cmp : Listed → Listed → Ordering
listed_cmp a b = ordering_then (nat_cmp (list_rank a.list) (list_rank b.list)) (place_cmp a.place b.place)

-- whether a listed place is in a list
abbrev pub in_list : l.List → Listed → Bool
in_list list e = list_rank e.list == list_rank list

-- the lists in which a message stands for its outcome, at its place
abbrev pub listings_by : Outcome → Place → List Listed
listings_by o.Open place = listed v.Open place ∷ []
listings_by o.Lapsed place = listed v.Lapsed place ∷ []
listings_by _ place = []

-- the same of a fact
abbrev pub listings_of_fact : Fact → List Listed
listings_of_fact f = listings_by f.outcome f.place

-- Among the facts is one with this place and this outcome.
abbrev pub HasOutcomeAt : fin.FinMap place_cmp Fact → Outcome → Place → Type 0
HasOutcomeAt facts outcome place =
    (fact : Fact) × Contains (fin.values facts) fact × (fact.place ≡ place) × (fact.outcome ≡ outcome)

-- the set of these listed places
abbrev pub listed_set : List Listed → FinSet listed_cmp
listed_set es = fin.from_entries (map (λ e. (e, tt)) es)
