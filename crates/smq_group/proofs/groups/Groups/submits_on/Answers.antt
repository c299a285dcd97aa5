use Rattle.std.proofs.Common.{◌++◌, ◌+◌, ◌≤◌, arith, length, refl, ap, ◌∙◌}
use Rattle.std.specs.Prelude.{IfOk}
use Rattle.std.specs.FinMap.{keys}
use Rattle.std.proofs.lemmas.Result.{IfOk-weaker}
use Rattle.smq_group.specs.Groups.{GroupsValue}
use Rattle.smq_group.specs.Links.{submits_on}
use Rattle.smq_group.specs.within.Stored.{submit_value}
use Rattle.smq_group.specs.within.Walked.{candidate_key, member_key, vacant_keys}
use Rattle.smq_group.proofs.Linked.{if_ok, parts-none, sorted-places}
use Rattle.smq_group.proofs.groups.Groups.submits_on.Goals as goal

pub returns-clause-value : goal.returns-clause-value
returns-clause-value c = if_ok c.places_on.result c.places_on.ensures.value c.places_on.ensures.by_place (λ places moved sorted.
    sorted-places submit_value (λ k. k) (λ key v. refl) c.args.link c.self.inside.submits.content places.items c.self.invariant.0.submits_once moved sorted
    ∙ ap (λ (v : GroupsValue). keys (submits_on c.args.link v.members)) c.self.view_is)

pub returns-clause-touches : goal.returns-clause-touches
returns-clause-touches c = λ none.
    let submits = vacant_keys member_key c.self.inside.submits.places in
    let receipts = vacant_keys member_key c.self.inside.receipts.places in
    let candidates = vacant_keys candidate_key c.self.inside.candidates.places in
    let all = ap (λ (v : GroupsValue). v.vacant) c.self.view_is ∙ none in
    let told : IfOk c.places_on.result (λ places. c.places_on.new.kept.touches ≤ c.self.inside.submits.touches + 1 + length places.items) = c.places_on.ensures.touches (parts-none submits (receipts ++ candidates) all).0 in
    IfOk-weaker c.places_on.result _ _ (λ places bound. rw (← c.self.view_is) (omega (arith, bound))) told
