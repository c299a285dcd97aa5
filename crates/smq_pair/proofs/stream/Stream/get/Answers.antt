use Rattle.std.proofs.Common.{ap, sym, ◌∙◌}
use Rattle.smq_pair.specs.within.Stream.{StreamValue}
use Rattle.smq_pair.specs.within.Kept.{held_at}
use Rattle.smq_pair.proofs.Held.{search-found, found-held}
use Rattle.smq_pair.proofs.stream.Stream.get.Goals as goal

pub returns : goal.returns
returns c =
    let es = c.self.inside.entries.items in
    let found = search-found es c.deref.result.now c.args.offset c.in_ok-index.index c.index.result.now c.deref.ensures.value
    c.in_ok-index.ensures.within c.in_ok-index.ensures.found c.index.ensures in
    sym (found-held es c.args.offset c.in_ok-index.index c.index.result.now c.self.invariant.ascend found)
    ∙ ap (λ (v : StreamValue). held_at c.args.offset v.content) c.self.view_is
