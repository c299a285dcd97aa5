use Rattle.smq_engine.proofs.StreamLemmas.{all-played}
use Rattle.smq_engine.proofs.row_stream.play_stream.Goals as goal

pub returns-clause-ok : goal.returns-clause-ok
returns-clause-ok g c =
    all-played (g.R.Read.remaining c.args.reader.now) c.args.settings.now c.in_ok-settings_rows.settings_rows.items
    c.in_ok-book.book.value.present c.play_records.new.book.present c.in_ok-refused.refused.items c.in_ok-settings_rows.ensures.ok
    c.in_ok-book.ensures (λ text is. rw c.deref_mut.ensures.value at
    (c.in_ok-refused.ensures.ok text (c.record_reader-records.ensures.start text (rw c.new.ensures is))))
