use Rattle.std.proofs.Common.{List, subst, sym, ap, ◌∙◌}
use Rattle.std.specs.FinMap.{insert}
use Rattle.smq_tally.specs.declared.list.Listed.{Listed}
use Rattle.smq_tally.specs.Tables.{TablesValue}
use Rattle.smq_tally.specs.within.Kept.{places_in}
use Rattle.smq_tally.specs.within.Noted.{NotedValue, notes_among, AreApart}
use Rattle.smq_tally.proofs.Stored.{place_more}
use Rattle.smq_tally.proofs.NotesAmong.{apart-more, note-apart, note-among}
use Rattle.std.specs.FinSet.{FinSet}
use Rattle.smq_tally.specs.Lists.{listed_cmp}
use Rattle.smq_tally.proofs.noted.NotedTables.note.Goals as goal

pub returns-then-not-takes_facts-clause-ok : goal.returns-then-not-takes_facts-clause-ok
returns-then-not-takes_facts-clause-ok c =
    let note = c.args.note in
    let apart = places_in c.self.inside.apart.content in
    let ok = c.in_ok-list_place.ensures.ok in
    (λ i. record {
      notes =
          (ap (λ (t : TablesValue). notes_among apart t.places) ok
          ∙ note-among apart c.self.inside.tables.shown.places note (sym c.takes_facts.ensures ∙ c.if-not-takes_facts.true)) i;
      settled_notes = notes_among (places_in c.self.inside.apart.settled) (c.list_place.ensures.settled i).places;
      shown = ok i;
      settled = c.list_place.ensures.settled i;
    })
    ∙ ap (λ (t : NotedValue). record t { notes = insert t.notes note tt; shown = record t.shown { places = insert t.shown.places note tt } })
    c.self.view_is

pub invariant_of-self-in_default : goal.invariant_of-self-in_default
invariant_of-self-in_default c =
    let put = place_more c.self.inside.apart.content c.set.new.self.content c.args.note tt c.in_ok-set.ensures.content in
    let takes = sym c.takes_facts.ensures ∙ c.if-not-takes_facts.false in (
      subst (λ (s : FinSet listed_cmp). AreApart s) (sym put)
          (apart-more (places_in c.self.inside.apart.content) c.args.note takes c.self.invariant.0),
      subst (λ (es : List (Listed × Unit {0})). AreApart (places_in es)) (sym c.set.ensures.settled) c.self.invariant.1,
    )

pub returns-clause-ok : goal.returns-clause-ok
returns-clause-ok c =
    let note = c.args.note in
    let put = place_more c.self.inside.apart.content c.set.new.self.content note tt c.in_ok-set.ensures.content in
    let ok = c.in_default.ensures.ok in
    (λ i. record {
      notes =
          ((λ j. notes_among (put j) (ok j).places)
          ∙ note-apart (places_in c.self.inside.apart.content) c.self.inside.tables.shown.places note) i;
      settled_notes = notes_among (places_in (c.set.ensures.settled i)) (c.list_place-2.ensures.settled i).places;
      shown = ok i;
      settled = c.list_place-2.ensures.settled i;
    })
    ∙ ap (λ (t : NotedValue). record t { notes = insert t.notes note tt; shown = record t.shown { places = insert t.shown.places note tt } })
    c.self.view_is
