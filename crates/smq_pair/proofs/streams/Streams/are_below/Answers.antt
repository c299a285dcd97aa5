use Rattle.std.proofs.Common.{◌∙◌, ◌-◌, ap, length, sym, subst}
use Rattle.std.specs.Prelude.{slice_get}
use Rattle.smq_pair.specs.within.Kept.{entries_in}
use Rattle.smq_pair.specs.within.Stream.{Ascend}
use Rattle.smq_pair.proofs.Nexts.{below-by-last}
use Rattle.smq_pair.proofs.streams.Streams.are_below.Goals as goal

pub returns-in-Some : goal.returns-in-Some
returns-in-Some c =
    below-by-last (entries_in c.args.self.now) c.args.place c.in-Some.last.now (subst Ascend c.from.ensures c.entries.ensures.ordered)
    (ap (λ xs. slice_get xs (length xs - 1)) (sym (c.entries.ensures.content ∙ c.from.ensures)) ∙ sym c.in-Some.ensures.value)
