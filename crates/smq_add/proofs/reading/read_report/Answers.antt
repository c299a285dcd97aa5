use Rattle.std.proofs.Common.{◌≡◌, ◌++◌, ◌∷◌, []}
use Rattle.smq_add.proofs.RowLemmas.{few-more, rises, rows-more, text-more}
use Rattle.smq_add.proofs.reading.read_report.Goals as goal

pub loop-left-preserved : goal.loop-left-preserved
loop-left-preserved c =
    let so_far = c.loop-left.invariant in
    let rows = c.loop-left.rows.items in
    let row = c.in-Some-row_of.row in
    let pushed : c.push.new.self.items ≡ rows ++ row ∷ [] = c.in-Ok.ensures.items in
    let rise = rises rows c.as_slice.result.now row c.as_slice.ensures.value (c.comes_after.ensures c.if-not-comes_after.false) so_far.are.rise in
    record {
      lines = rw pushed (text-more rows row c.args.text.now c.loop-left.left.now c.in-Some.line.now c.in-Some.rest.now so_far.lines
          c.in-Some.ensures.found c.in-Some-row_of.ensures.line);
      are = rw pushed (rows-more c.args.with_lengths rows row so_far.are c.in-Some-row_of.ensures.stands rise);
      few = few-more c.loop-left.number c.args.text.now c.loop-left.left.now c.in-Some.line.now c.in-Some.rest.now c.in-Some.ensures.found so_far.few;
    }
