use Rattle.std.proofs.Common.{◌<◌, Some, ap, sym, ◌∙◌}
use Rattle.std.proofs.lemmas.List.{length-set}
use Rattle.std.proofs.lemmas.List.Elements.{All-pop}
use Rattle.smq_pair.specs.within.Stream.{undone}
use Rattle.smq_pair.proofs.Held.{undone-last}
use Rattle.smq_pair.proofs.stream.Stream.undo.Goals as goal

pub loop-index-preserved : goal.loop-index-preserved
loop-index-preserved c =
    let entries = c.loop-index.self-inside.entries.items in
    let items = c.in-Some.ensures.items in
    record {
      left = sym (undone-last c.pop.new.self.items c.in-Some.index c.in-Some.held entries)
          ∙ ap (λ cs. undone cs entries) (sym items) ∙ c.loop-index.invariant.left;
      ascended = c.loop-index.invariant.ascended;
      settled = c.loop-index.invariant.settled ∙ sym (length-set _ _ _);
      logged = (All-pop (λ l. l.0 < c.loop-index.self-inside.settled) _ _ (Some (c.in-Some.index, c.in-Some.held)) items c.loop-index.invariant.logged).0;
    }
