use Rattle.std.proofs.Common.{◌≡◌, Bool, true, false, cond, List, subst, refl, sym, ap, ◌∙◌}
use Rattle.std.specs.FinMap.{remove}
use Rattle.smq_tally.specs.declared.list.Listed.{Listed}
use Rattle.smq_tally.specs.Tables.{TablesValue}
use Rattle.smq_tally.specs.within.Kept.{places_in}
use Rattle.smq_tally.specs.within.Noted.{NotedValue, notes_among, AreApart}
use Rattle.smq_tally.proofs.Stored.{place_less, taken-logged}
use Rattle.smq_tally.proofs.NotesAmong.{apart-fewer, apart-less, among-less}
use Rattle.std.specs.Prelude.{IsTrue}
use Rattle.std.specs.FinSet.{FinSet}
use Rattle.smq_shelf.specs.Keeping.{KeepingMap}
use Rattle.smq_tally.specs.Lists.{listed_cmp}
use Rattle.smq_tally.specs.within.ListOrder.{takes_facts}
use Rattle.smq_tally.proofs.noted.NotedTables.forget.Goals as goal
use Rattle.smq_tally.proofs.noted.NotedTables.forget.Goals.{In_ok-taken}

-- where no message stands in the list, the place doesn't stay
not-kept : (b t : Bool) → (IsTrue b → IsTrue t) → t ≡ false → b ≡ false
not-kept true t h none = sym (h refl) ∙ none
not-kept false t h none = refl

-- what is listed once a place stays, or doesn't
listed-so : (t : TablesValue) (note : Listed) (stays b : Bool) → stays ≡ b
    → record t { places = cond b t.places (remove t.places note) } ≡ record t { places = cond stays t.places (remove t.places note) }
listed-so t note stays b e = λ i. record t { places = cond (sym e i) t.places (remove t.places note) }

-- tables without a note, whose place stays or doesn't
abbrev forgotten : Listed → Bool → NotedValue → NotedValue
forgotten note stays t = record t {
  notes = remove t.notes note;
  shown = record t.shown { places = cond stays t.shown.places (remove t.shown.places note) };
}

pub returns-then-not-takes_facts-clause-ok : goal.returns-then-not-takes_facts-clause-ok
returns-then-not-takes_facts-clause-ok c =
    let note = c.args.note.now in
    let apart = places_in c.self.inside.apart.content in
    let before = c.self.inside.tables.shown in
    let none = sym c.takes_facts.ensures ∙ c.if-not-takes_facts.true in
    let ok = c.in_ok-unlist_place.ensures.ok in
    let left = not-kept c.args.stays (takes_facts note.list) c.requires.stays none in
    (λ i. record {
      notes =
          (ap (λ (t : TablesValue). notes_among apart t.places) ok ∙ among-less apart before.places note c.self.invariant.0 none) i;
      settled_notes = notes_among (places_in c.self.inside.apart.settled) (c.unlist_place.ensures.settled i).places;
      shown = (ok ∙ listed-so before note c.args.stays false left) i;
      settled = c.unlist_place.ensures.settled i;
    })
    ∙ ap (forgotten note c.args.stays) c.self.view_is

-- what is kept apart without the note
took : (c : In_ok-taken) → places_in c.take.new.self.content ≡ remove (places_in c.self.inside.apart.content) c.args.note.now
took c =
    place_less c.self.inside.apart.content c.take.new.self.content c.args.note.now c.in_ok-taken.ensures.ordered
    c.in_ok-taken.ensures.content

own : (c : In_ok-taken) → AreApart (places_in c.take.new.self.content) × AreApart (places_in c.take.new.self.settled)
own c = (
  subst (λ (s : FinSet listed_cmp). AreApart s) (sym (took c)) (apart-fewer (places_in c.self.inside.apart.content) c.args.note.now
      c.self.invariant.0),
  subst (λ (es : List (Listed × Unit {0})). AreApart (places_in es)) (sym c.take.ensures.settled) c.self.invariant.1,
)

pub invariant_of-self-then-stays : goal.invariant_of-self-then-stays
invariant_of-self-then-stays c = own (goal.at.invariant_of-self-then-stays c).In_ok-taken

pub returns-then-stays-clause-ok : goal.returns-then-stays-clause-ok
returns-then-stays-clause-ok c =
    let note = c.args.note.now in
    let before = c.self.inside.tables.shown in
    let takes = sym c.takes_facts.ensures ∙ c.if-not-takes_facts.false in
    (λ i. record {
      notes =
          ((λ j. notes_among (took (goal.at.returns-then-stays-clause-ok c).In_ok-taken j) before.places)
          ∙ apart-less (places_in c.self.inside.apart.content) before.places note true takes) i;
      settled_notes = notes_among (places_in (c.take.ensures.settled i)) c.self.inside.tables.settled.places;
      shown = listed-so before note c.args.stays true c.if-stays.true i;
      settled = c.self.inside.tables.settled;
    })
    ∙ ap (forgotten note c.args.stays) c.self.view_is

-- what was kept apart
back : (c : goal.After-take_back) → c.take_back.new.map ≡ c.self.inside.apart
back c =
    let logged = taken-logged c.self.inside.apart c.take.new.self c.in_ok-taken.taken c.is_some.result c.is_some.ensures
    c.in_ok-taken.ensures.shown c.in_ok-taken.ensures.past c.in_ok-taken.ensures.absent in
    c.take_back.ensures c.self.inside.apart logged c.take.ensures.settled

pub invariant_of-self-in-Err : goal.invariant_of-self-in-Err
invariant_of-self-in-Err c =
    subst (λ (m : KeepingMap Listed (Unit {0})). AreApart (places_in m.content) × AreApart (places_in m.settled)) (sym (back c)) c.self.invariant

pub returns-in-Err-clause-err : goal.returns-in-Err-clause-err
returns-in-Err-clause-err c =
    (λ i. record {
      notes = notes_among (places_in (back c i).content) (c.in-Err.ensures.err i).shown.places;
      settled_notes = notes_among (places_in (back c i).settled) (c.in-Err.ensures.err i).settled.places;
      shown = (c.in-Err.ensures.err i).shown;
      settled = (c.in-Err.ensures.err i).settled;
    })
    ∙ c.self.view_is

pub invariant_of-self-in_default : goal.invariant_of-self-in_default
invariant_of-self-in_default c = own (goal.at.invariant_of-self-in_default c).In_ok-taken

pub returns-clause-ok : goal.returns-clause-ok
returns-clause-ok c =
    let note = c.args.note.now in
    let before = c.self.inside.tables.shown in
    let takes = sym c.takes_facts.ensures ∙ c.if-not-takes_facts.false in
    let ok = c.in_default.ensures.ok in
    (λ i. record {
      notes =
          ((λ j. notes_among (took (goal.at.returns-clause-ok c).In_ok-taken j) (ok j).places)
          ∙ apart-less (places_in c.self.inside.apart.content) before.places note false takes) i;
      settled_notes = notes_among (places_in (c.take.ensures.settled i)) (c.unlist_place-2.ensures.settled i).places;
      shown = (ok ∙ listed-so before note c.args.stays false c.if-stays.false) i;
      settled = c.unlist_place-2.ensures.settled i;
    })
    ∙ ap (forgotten note c.args.stays) c.self.view_is
