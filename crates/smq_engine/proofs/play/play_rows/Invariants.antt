-- The rows so far are played, and what is left goes on from there to what all rows come to.
use Rattle.std.proofs.Common.{◌≡◌, ◌+◌, ◌++◌, length, suc}
use Rattle.std.specs.Vec.Iter.{into_iter_items}
use Rattle.smq_engine.specs.Play.{after_rows, refused_from}
use Rattle.smq_engine.proofs.play.play_rows.Given as goal

abbrev pub invariant-loop-row : goal.invariant-loop-row
invariant-loop-row g l =
    let left = g.B.PlayedBook.present in
    record {
      present : after_rows (left l.book) (into_iter_items l.row-iterator) ≡ after_rows (left l.fn.book) l.fn.rows.items;
      refused : l.refused.items ++ refused_from (suc l.number) (left l.book) (into_iter_items l.row-iterator)
          ≡ refused_from 1 (left l.fn.book) l.fn.rows.items;
      numbered : l.number + length (into_iter_items l.row-iterator) ≡ length l.fn.rows.items;
    }
