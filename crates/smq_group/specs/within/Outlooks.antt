-- Outlooks: what all standings of a key's members rest on.
use Rattle.std.specs.Prelude.{ℕ, ◌+◌, ◌-◌, ◌^◌, min, ◌==◌, ◌&&◌, Bool, true, not, if◌then◌else◌, List, Option, Some, None, unwrap_or, option_map}
use Rattle.std.specs.Ordering.{eq_by_cmp, is_lt}
use Rattle.std.specs.Map.{lookup}
use Rattle.std.specs.BTreeMap.{is_at}
use Rattle.smq_kit.specs.declared.place.Place.{Place}
use Rattle.smq_kit.specs.declared.link_key.LinkKey.{LinkKey}
use Rattle.smq_kit.specs.Orders.{place_cmp}
use Rattle.smq_kit.specs.Maps.{same_option}
use Rattle.smq_kit.specs.HashedKeys.{hashed_key_cmp}
use Rattle.smq_group.specs.declared.change.Standing.{Standing}
use Rattle.smq_group.specs.declared.change.Standing.TheVariants.{Single, Shared, Stray, Deciding, Extra, Noted}
use Rattle.smq_group.specs.declared.group_summary.Group.{Group}
use Rattle.smq_group.specs.declared.group_summary.More.{More}
use Rattle.smq_group.specs.declared.group_summary.More.TheVariants as more
use Rattle.smq_group.specs.declared.group_summary.GroupSummary.{GroupSummary}
use Rattle.smq_group.specs.declared.group_summary.Earliest.{Earliest}
use Rattle.smq_group.specs.Matching.{candidate_cmp}

-- so many submits, so many receipts, and this receipt the earliest that can decide
abbrev pub an_outlook : ℕ → ℕ → Option Earliest → GroupSummary
an_outlook matches receipts decider = record { matches = matches; receipts = receipts; decider = decider }

-- no submits and no receipts
abbrev pub no_outlook : GroupSummary
no_outlook = record { matches = 0; receipts = 0; decider = None }

-- what is kept of a group with this outlook, whose only submit stands at this place, if it has just one
abbrev pub a_group : ℕ → ℕ → Option Earliest → Option Place → Group
a_group matches receipts decider only = record { outlook = an_outlook matches receipts decider; only = only }

-- a group of no members
abbrev pub no_group : Group
no_group = record { outlook = no_outlook; only = None }

-- what is kept of a key's group
abbrev pub group_at : LinkKey → List (LinkKey × Group) → Group
group_at key kept = unwrap_or (lookup (is_at (hashed_key_cmp key)) kept) no_group

-- its outlook
abbrev pub outlook_at : LinkKey → List (LinkKey × Group) → GroupSummary
outlook_at key kept = (group_at key kept).outlook

-- the place of its only submit, if it has just one
abbrev pub only_at : LinkKey → List (LinkKey × Group) → Option Place
only_at key kept = (group_at key kept).only

-- the place of the receipt that decides
abbrev pub decider_of : GroupSummary → Option Place
decider_of o = option_map (λ earliest. earliest.place) o.decider

-- the standing of submits
abbrev pub submit_standing_of : GroupSummary → Standing
submit_standing_of o = if o.matches == 1 then Single (decider_of o) else Shared

-- the standing of a receipt
abbrev pub receipt_standing_of : GroupSummary → Place → Bool → Standing
receipt_standing_of o place decides =
    if o.matches == 0 then Stray
    else (if not (o.matches == 1) then Shared
    else (if same_option (eq_by_cmp place_cmp) (decider_of o) (Some place) then Deciding
    else (if decides then Extra else Noted)))

-- whether a receipt comes before the one that decides, or none decides
abbrev pub is_before : Earliest → Option Earliest → Bool
is_before receipt None = true
is_before receipt (Some earliest) = is_lt (candidate_cmp (receipt.moment, receipt.place) (earliest.moment, earliest.place))

-- one more, up to the greatest u64
abbrev pub one_more : ℕ → ℕ
one_more n = min (n + 1) (2 ^ 64 - 1)

-- with one submit less
abbrev pub outlook_without : GroupSummary → GroupSummary
outlook_without o = record o { matches = o.matches - 1 }

-- with one receipt more
abbrev pub outlook_with : GroupSummary → Earliest → Bool → GroupSummary
outlook_with o receipt decides = record { matches = o.matches; receipts = one_more o.receipts; decider = if decides && is_before receipt o.decider then Some receipt else o.decider }

-- with one member more
abbrev pub group_with : Group → More → Group
group_with g (more.Submit place) = record {
  outlook = record g.outlook { matches = one_more g.outlook.matches };
  only = if g.outlook.matches == 0 then Some place else None;
}
group_with g (more.Receipt receipt decides) = record g { outlook = outlook_with g.outlook receipt decides }

-- and where it is kept
abbrev pub group_after : More → Option Group → Option Group
group_after m before = Some (group_with (unwrap_or before no_group) m)

-- the later of a receipt and the one that decides, where both can decide
abbrev pub later_candidate : Option Earliest → Earliest → Bool → Option Earliest
later_candidate decider receipt decides = if decides then option_map (λ e. if is_before receipt (Some e) then e else receipt) decider else None

-- whether the receipt at a place decides
abbrev pub is_decided_by : GroupSummary → Place → Bool
is_decided_by o place = same_option (eq_by_cmp place_cmp) (decider_of o) (Some place)
