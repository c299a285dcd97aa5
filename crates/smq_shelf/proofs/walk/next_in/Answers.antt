use Rattle.std.proofs.Common.{Option, Some, ap, ◌∙◌, sym}
use Rattle.smq_shelf.proofs.Stretches.{next-narrows}
use Rattle.smq_shelf.proofs.Walks.{told-found, told-none, told-other}
use Rattle.smq_shelf.proofs.walk.next_in.Goals as goal

pub returns-then-has-clause-value : goal.returns-then-has-clause-value
returns-then-has-clause-value g c =
    ap (λ k. Some (k, c.copied.result)) c.copy.ensures
    ∙ told-found (next-narrows g.met.K.Ord.total g.met.K.ShelfKey.exact c.args.from.now (g.S.Stretch.has c.args.stretch.now) c.requires.from c.requires.beside c.args.after.now c.requires.there)
    c.args.kept.now.places c.in-Some.ensures.ordered (c.in-Some.found.now, c.copied.result)
    (ap (λ (x : Option (Unit {0})). Some (c.in-Some.found.now, x)) c.copied.ensures ∙ c.in-Some.ensures.value) (sym c.has.ensures ∙ c.if-has.true)

pub returns-else-has-clause-value : goal.returns-else-has-clause-value
returns-else-has-clause-value g c =
    told-other (next-narrows g.met.K.Ord.total g.met.K.ShelfKey.exact c.args.from.now (g.S.Stretch.has c.args.stretch.now) c.requires.from c.requires.beside c.args.after.now c.requires.there)
    c.args.kept.now.places c.in-Some.ensures.ordered _ c.in-Some.ensures.value (sym c.has.ensures ∙ c.if-has.false)

pub returns-in-None-clause-value : goal.returns-in-None-clause-value
returns-in-None-clause-value g c =
    told-none (next-narrows g.met.K.Ord.total g.met.K.ShelfKey.exact c.args.from.now (g.S.Stretch.has c.args.stretch.now) c.requires.from c.requires.beside c.args.after.now c.requires.there)
    c.args.kept.now.places c.in-None.ensures.ordered c.in-None.ensures.value
