use Rattle.std.proofs.Common.{List, ap, subst, sym, ◌∙◌}
use Rattle.std.specs.Prelude.{map}
use Rattle.std.specs.List.Sorted.{IsStrictlySortedBy}
use Rattle.smq_kit.specs.declared.place.Place.{Place}
use Rattle.smq_kit.specs.Orders.{place_cmp}
use Rattle.smq_tally.specs.Tables.{TablesKept}
use Rattle.smq_tally.proofs.ListOrders.{Entries, places_sorted, list_parts, list-whole}
use Rattle.smq_tally.proofs.Runs.{run-forward, run-next, run-end}
use Rattle.smq_tally.proofs.tables.Tables.list.Goals as goal

pub range-requires : goal.range-requires
range-requires c = record {
  forward = run-forward list_parts c.args.list c.in-Some.next _ _ c.first_in-first.ensures c.first_in.ensures c.in-Some.ensures;
}

pub returns-in-Some-clause-places : goal.returns-in-Some-clause-places
returns-in-Some-clause-places c =
    ap (λ (es : Entries). map (λ e. e.0.place) es) (c.range.ensures.between ∙ run-next list_parts c.args.list c.in-Some.next _ _
    c.first_in-first.ensures c.first_in.ensures c.in-Some.ensures c.self.inside.places.content)
    ∙ list-whole c.args.self.now.shown c.args.list c.self.inside.places.content (ap (λ (t : TablesKept). t.shown.places) c.self.view_is)
    c.range.ensures.ordered

pub returns-in-Some-clause-in_order : goal.returns-in-Some-clause-in_order
returns-in-Some-clause-in_order c =
    subst (λ (ps : List Place). IsStrictlySortedBy place_cmp ps) (sym (returns-in-Some-clause-places c))
    (places_sorted c.args.self.now.shown c.args.list)

pub returns-in-None-clause-places : goal.returns-in-None-clause-places
returns-in-None-clause-places c =
    ap (λ (es : Entries). map (λ e. e.0.place) es) (c.range_from.ensures.between ∙ run-end list_parts c.args.list _ c.first_in-first.ensures
    c.in-None.ensures c.self.inside.places.content)
    ∙ list-whole c.args.self.now.shown c.args.list c.self.inside.places.content (ap (λ (t : TablesKept). t.shown.places) c.self.view_is)
    c.range_from.ensures.ordered

pub returns-in-None-clause-in_order : goal.returns-in-None-clause-in_order
returns-in-None-clause-in_order c =
    subst (λ (ps : List Place). IsStrictlySortedBy place_cmp ps) (sym (returns-in-None-clause-places c))
    (places_sorted c.args.self.now.shown c.args.list)
