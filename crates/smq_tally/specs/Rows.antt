-- Where messages are counted: by a view, a value and an outcome; and the order of these.
use Rattle.std.specs.Prelude.{ℕ, Bool, List, [], ◌∷◌, Option, Some, None, option_map, option_to_list}
use Rattle.std.specs.Cmp.Lexicographic.{slice_cmp}
use Rattle.std.specs.List.{flat_map, list_any}
use Rattle.std.specs.declared.cmp.Ordering.{Ordering}
use Rattle.std.specs.Ordering.{nat_cmp, ordering_then, eq_by_cmp}
use Rattle.smq_kit.specs.Orders.{error_numbers}
use Rattle.smq_kit.specs.declared.names.RouteId.{RouteId}
use Rattle.smq_tally.specs.Bands.{band_rank}
use Rattle.smq_tally.specs.declared.view.View.{View}
use Rattle.smq_tally.specs.declared.view.View.TheVariants as v
use Rattle.smq_tally.specs.declared.value.SubmitError.{SubmitError}
use Rattle.smq_tally.specs.declared.value.SubmitError.TheVariants as s
use Rattle.smq_tally.specs.declared.value.Value.{Value}
use Rattle.smq_tally.specs.declared.value.Value.TheVariants as w
use Rattle.smq_tally.specs.declared.outcome.Outcome.{Outcome}
use Rattle.smq_tally.specs.declared.outcome.Outcome.TheVariants as o
use Rattle.smq_tally.specs.declared.fact.Fact.{Fact}
use Rattle.smq_tally.specs.declared.fact.CountKey.{CountKey}

-- ---- views

-- the views, in their order
abbrev pub views : List View
views = v.Link ∷ v.Route ∷ v.Network ∷ v.Error ∷ v.LinkDelay ∷ v.CentreDelay ∷ []

-- how many views come before a view
abbrev pub view_rank : View → ℕ
view_rank v.Link = 0
view_rank v.Route = 1
view_rank v.Network = 2
view_rank v.Error = 3
view_rank v.LinkDelay = 4
view_rank v.CentreDelay = 5

-- what a message is counted by whose number has this route and network, or neither: the route
abbrev pub route_value : Option (RouteId × List ℕ) → Value
route_value None = w.NoRoute
route_value (Some r) = w.Route r.0

-- the same of the network, by the octets of its code
abbrev pub network_value : Option (RouteId × List ℕ) → Value
network_value None = w.NoNetwork
network_value (Some r) = w.Network r.1

-- what a message is counted by in a view, if it has a value there
abbrev pub value_in : View → Fact → Option Value
value_in v.Link f = Some (w.Link f.link)
value_in v.Route f = Some (route_value f.route)
value_in v.Network f = Some (network_value f.route)
value_in v.Error f = option_map w.Error f.error
value_in v.LinkDelay f = option_map w.Band f.link_delay
value_in v.CentreDelay f = option_map w.Band f.centre_delay

-- ---- the order of values: by kind, then by what they say

-- the numbers by which it is ordered why a message failed: refused ones by status, then failed ones by error code
abbrev pub submit_error_numbers : SubmitError → List ℕ
submit_error_numbers (s.Refused status) = 0 ∷ status ∷ []
submit_error_numbers (s.Failed code) = 1 ∷ error_numbers code

-- the same of a value: routes by number, then none; networks by octets, then none
abbrev pub value_numbers : Value → List ℕ
value_numbers (w.Link link) = 0 ∷ link.0 ∷ []
value_numbers (w.Route route) = 1 ∷ route.0 ∷ []
value_numbers w.NoRoute = 2 ∷ []
value_numbers (w.Network network) = 3 ∷ network
value_numbers w.NoNetwork = 4 ∷ []
value_numbers (w.Error error) = 5 ∷ submit_error_numbers error
value_numbers (w.Band band) = 6 ∷ band_rank band ∷ []

-- the order of values: by these numbers, the first that differ deciding
abbrev pub value_cmp : Value → Value → Ordering
value_cmp a b = slice_cmp nat_cmp (value_numbers a) (value_numbers b)

-- ---- the order of outcomes

-- how many outcomes come before an outcome in their table
abbrev pub outcome_rank : Outcome → ℕ
outcome_rank o.Waiting = 0
outcome_rank o.Mismatched = 1
outcome_rank o.Refused = 2
outcome_rank o.NoId = 3
outcome_rank o.Ambiguous = 4
outcome_rank o.Delivered = 5
outcome_rank o.Failed = 6
outcome_rank o.Unasked = 7
outcome_rank o.Lapsed = 8
outcome_rank o.Open = 9

-- ---- where a count stands

-- the key of a count: a view, a value and an outcome
abbrev pub count_key : View → Value → Outcome → CountKey
count_key view value outcome = record { view = view; value = value; outcome = outcome }

-- the order of keys: by view, then by value, then by outcome
abbrev pub count_cmp : CountKey → CountKey → Ordering
count_cmp a b =
    ordering_then (nat_cmp (view_rank a.view) (view_rank b.view))
    (ordering_then (value_cmp a.value b.value) (nat_cmp (outcome_rank a.outcome) (outcome_rank b.outcome)))

-- whether two are one
abbrev pub same_count_key : CountKey → CountKey → Bool
same_count_key a b = eq_by_cmp count_cmp a b

-- where a message is counted in a view, if it has a value there
abbrev pub key_in : View → Fact → Option CountKey
key_in view f = option_map (λ value. count_key view value f.outcome) (value_in view f)

-- where a message is counted: once in each view in which it has a value
abbrev pub keys_of_fact : Fact → List CountKey
keys_of_fact f = flat_map (λ view. option_to_list (key_in view f)) views

-- whether a message is counted there
abbrev pub stands_in : CountKey → Fact → Bool
stands_in key f = list_any (same_count_key key) (keys_of_fact f)
