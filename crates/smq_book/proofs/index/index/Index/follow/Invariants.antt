-- What is said stays, and the facts and the listings of the places so far are set anew.
use Rattle.std.proofs.Common.{◌≤◌, ◌+◌, ◌*◌, take}
use Rattle.std.specs.FinMap as fin
use Rattle.smq_book.specs.index.Anew.{CanFollow, IsAnew, IsDue, KeepsSaid, stored_in}
use Rattle.smq_book.specs.index.Following.{AreTold}
use Rattle.smq_book.specs.index.Held.{facts_anew, notes_anew}
use Rattle.smq_book.specs.index.Touches.{RisesWithFacts, index_cost}
use Rattle.smq_present.specs.join.Facts.{facts_of}
use Rattle.smq_book.proofs.index.index.Index.follow.Given as goal

abbrev pub invariant-loop-change : goal.invariant-loop-change
invariant-loop-change l = record {
  said : KeepsSaid l.fn.self l.self;
  anew : AreTold l.fn.self.groups.members l.changes → CanFollow l.settings l.new l.fn.self
      → IsAnew l.settings l.new l.self
      (facts_anew (fin.get (facts_of l.settings (stored_in l.fn.self))) l.fn.self.tally.facts (take l.change-index l.changes))
      (notes_anew l.fn.self.groups.members l.fn.self.tally.notes (take l.change-index l.changes));
  due : IsDue l.settings.windows l.fn.self → IsDue l.settings.windows l.self;
  touches : index_cost l.self ≤ index_cost l.fn.self + 14 * l.change-index;
  rises : RisesWithFacts l.fn.self l.self;
}
