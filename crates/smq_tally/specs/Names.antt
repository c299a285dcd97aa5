-- The names of views, lists, outcomes and bands in commands and reports.
use Rattle.std.specs.Prelude.{ℕ, List, codes}
use Rattle.smq_tally.specs.declared.view.View.{View}
use Rattle.smq_tally.specs.declared.view.View.TheVariants as v
use Rattle.smq_tally.specs.declared.list.List as lists
use Rattle.smq_tally.specs.declared.list.List.TheVariants as l
use Rattle.smq_tally.specs.declared.band.Band.{Band}
use Rattle.smq_tally.specs.declared.band.Band.TheVariants as b
use Rattle.smq_tally.specs.declared.outcome.Outcome.{Outcome}
use Rattle.smq_tally.specs.declared.outcome.Outcome.TheVariants as o

-- the name of a view
abbrev pub view_name : View → List ℕ
view_name v.Link = codes "link"
view_name v.Route = codes "route"
view_name v.Network = codes "network"
view_name v.Error = codes "error"
view_name v.LinkDelay = codes "link-delay"
view_name v.CentreDelay = codes "centre-delay"

-- the name of a list
abbrev pub list_name : lists.List → List ℕ
list_name l.Waiting = codes "waiting"
list_name l.StrayAnswers = codes "stray-answers"
list_name l.Mismatched = codes "mismatched"
list_name l.StrayReceipts = codes "stray-receipts"
list_name l.AmbiguousReceipts = codes "ambiguous-receipts"
list_name l.ExtraReceipts = codes "extra-receipts"
list_name l.Unreadable = codes "unreadable"
list_name l.Undecodable = codes "undecodable"
list_name l.Broken = codes "broken"
list_name l.Open = codes "open"
list_name l.Lapsed = codes "lapsed"

-- the name of an outcome
abbrev pub outcome_name : Outcome → List ℕ
outcome_name o.Waiting = codes "waiting"
outcome_name o.Mismatched = codes "mismatched"
outcome_name o.Refused = codes "refused"
outcome_name o.NoId = codes "noid"
outcome_name o.Ambiguous = codes "ambiguous"
outcome_name o.Delivered = codes "delivered"
outcome_name o.Failed = codes "failed"
outcome_name o.Unasked = codes "unasked"
outcome_name o.Lapsed = codes "lapsed"
outcome_name o.Open = codes "open"

-- the name of a band
abbrev pub band_name : Band → List ℕ
band_name b.Early = codes "early"
band_name b.Under5Seconds = codes "under-5s"
band_name b.Under30Seconds = codes "under-30s"
band_name b.Under5Minutes = codes "under-5m"
band_name b.Under1Hour = codes "under-1h"
band_name b.Over = codes "over"
