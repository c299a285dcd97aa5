use Rattle.smq_engine.proofs.PlayLemmas.{rows-played}
use Rattle.smq_engine.proofs.scripts.play_both.Goals as goal

pub returns-clause-present : goal.returns-clause-present
returns-clause-present c =
    let old = c.args.book.now.present in
    let set = c.play_rows.new.book.present in
    let all = c.play_rows-2.new.book.present in
    let present = rows-played old set all c.args.settings_rows.items c.args.rows.items c.in_ok-play_rows.ensures.present c.in_ok-refused.ensures.present in
    rw c.requires at present
