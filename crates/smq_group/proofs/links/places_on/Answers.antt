use Rattle.std.proofs.Common.{true, ap, ◌∙◌, arith, length, map, filter, subst}
use Rattle.std.specs.Prelude.{count_by}
use Rattle.std.specs.List.Sorted.{IsPermutation}
use Rattle.std.proofs.lemmas.List.{length-map}
use mathlib.Core.List.{map-map}
use Rattle.smq_kit.specs.declared.link_key.LinkKey.{LinkKey}
use Rattle.smq_group.specs.within.Walked.{is_like, member_key, of_part, placed}
use Rattle.smq_group.proofs.Vacating.{keys-counted}
use Rattle.smq_group.proofs.Walking.{members-fit}
use Rattle.smq_group.proofs.links.places_on.Goals as goal

pub members_of-requires-clause-most : goal.members_of-requires-clause-most
members_of-requires-clause-most g c = rw c.place_count-most.ensures.count (members-fit true c.new.result c.args.kept.now.places c.args.kept.now.content c.place_count-most.ensures.content)

pub returns-clause-value : goal.returns-clause-value
returns-clause-value g c =
    subst (λ ps. IsPermutation ps c.sort_unstable.new.self.items)
    (c.in_ok-places.ensures ∙ ap (map (λ m. m.0)) (c.deref.ensures.value ∙ c.in_ok-members.ensures.value) ∙ map-map (λ m. m.0) placed (filter (of_part true c.new.result) c.args.kept.now.content)
    ∙ ap (λ (k : LinkKey). map (λ e. e.0.place) (filter (of_part true k) c.args.kept.now.content)) c.new.ensures)
    c.sort_unstable.ensures.permutation

pub returns-clause-touches : goal.returns-clause-touches
returns-clause-touches g c = λ none.
    let vacant = keys-counted member_key (is_like true c.new.result) c.args.kept.now.places in
    let no = ap (count_by (is_like true c.new.result)) none in
    let bound = c.in_ok-members.ensures.touches in
    let places = ap length (c.in_ok-places.ensures ∙ ap (map (λ m. m.0)) c.deref.ensures.value) ∙ length-map c.in_ok-members.members.items (λ m. m.0) in
    let sorted = c.sort_unstable.ensures.len in
    omega (arith, vacant, no, bound, places, sorted)
