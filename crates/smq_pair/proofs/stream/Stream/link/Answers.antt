use Rattle.std.proofs.Common.{Some, sym, ap, ◌∙◌, refl}
use Rattle.smq_pair.specs.within.Stream.{StreamValue}
use Rattle.smq_pair.specs.within.Kept.{held_at, linked}
use Rattle.smq_pair.proofs.Held.{IsFound, absent-linked, found-held, found-linked, linked_to, logged-keeps, logged-settled, search-found}
use Rattle.smq_pair.proofs.stream.Stream.link.Goals as goal

pub returns-in_default-clause-content : goal.returns-in_default-clause-content
returns-in_default-clause-content c = absent-linked _ _ c.args.offset c.args.link
    (c.deref.ensures.value ∙ ap (λ (v : StreamValue). v.content) c.self.view_is) c.in_default.ensures.none

found : (c : goal.After-self-1) → IsFound c.self.inside.entries.items c.args.offset c.in-Some.index c.index.result.now
found c =
    search-found c.self.inside.entries.items c.deref.result.now c.args.offset c.in-Some.index c.index.result.now c.deref.ensures.value
    c.in-Some.ensures.within c.in-Some.ensures.found c.index.ensures

pub invariant_of-self-2 : goal.invariant_of-self-2
invariant_of-self-2 c =
    logged-keeps c.self.inside.entries.items c.self.inside.settled c.self.inside.log.items c.in-Some.index c.index.result.now
    (linked_to c.args.link c.index.result.now) c.log_change.new.log.items (found c).at c.in_ok-log_change.ensures.ok refl c.self.invariant

pub returns-clause-content : goal.returns-clause-content
returns-clause-content c =
    found-linked c.self.inside.entries.items c.args.offset c.in-Some.index c.index.result.now c.args.link c.self.invariant.ascend (found c)
    ∙ ap (λ (v : StreamValue). linked (Some c.args.offset) c.args.link v.content) c.self.view_is

pub returns-clause-found : goal.returns-clause-found
returns-clause-found c =
    sym (found-held c.self.inside.entries.items c.args.offset c.in-Some.index c.index.result.now c.self.invariant.ascend (found c))
    ∙ ap (λ (v : StreamValue). held_at c.args.offset v.content) c.self.view_is

pub returns-clause-settled : goal.returns-clause-settled
returns-clause-settled c =
    logged-settled c.self.inside.entries.items c.self.inside.settled c.self.inside.log.items c.in-Some.index c.index.result.now
    (linked_to c.args.link c.index.result.now) c.log_change.new.log.items (found c).at c.in_ok-log_change.ensures.ok
    ∙ ap (λ (v : StreamValue). v.settled) c.self.view_is
