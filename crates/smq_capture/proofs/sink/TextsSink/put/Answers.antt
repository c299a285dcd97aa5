use Rattle.smq_capture.proofs.Writing.{appends-kept, appends-put}
use Rattle.smq_capture.proofs.sink.TextsSink.put.Goals as goal
use Rattle.smq_capture.proofs.sink.TextsSink.put.Goals.{else-after-gt-BUFFERED, then-after-gt-BUFFERED+in_ok-write_rows}

pub returns : goal.returns
returns g c =
    elim c.if-after-gt-BUFFERED.branch [
      | then-after-gt-BUFFERED+in_ok-write_rows w ↦
          rw (w.self-is)
          (appends-kept _ _ _ _ (appends-put _ _ _ _ c.in_ok-put_row.ensures) w.in_ok-write_rows.ensures)
      | else-after-gt-BUFFERED w ↦ rw (w.self-is) (appends-put _ _ _ _ c.in_ok-put_row.ensures)
    ]
