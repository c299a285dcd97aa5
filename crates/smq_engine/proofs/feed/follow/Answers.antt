use Rattle.std.proofs.Common.{◌≡◌, None}
use Rattle.std.specs.Prelude.{IfSome}
use Rattle.smq_present.specs.present.Present.{empty}
use Rattle.smq_load.specs.Settings.{settings_of}
use Rattle.smq_engine.specs.Play.{after_rows}
use Rattle.smq_engine.specs.declared.run_fault.RunFault.TheVariants as fault
use Rattle.smq_engine.specs.Followed.{EndsBy, held}
use Rattle.smq_engine.proofs.AnswerLemmas.{memory-is-another, passed_on}
use Rattle.smq_engine.proofs.FollowLemmas.{all-followed, fault-followed, memory-first}
use Rattle.smq_engine.proofs.feed.follow.Goals as goal

pub returns-in_err-play_rows-clause-fault : goal.returns-in_err-play_rows-clause-fault
returns-in_err-play_rows-clause-fault g c =
    let text = g.R.Read.remaining c.args.reader.now in
    let answered = g.W.Write.contents c.args.writer.now in
    let told = g.E.Write.contents c.args.errors.now in
    passed_on (λ why. IfSome text (EndsBy why c.args.format c.args.settings.now (held answered answered told told)))
    c.from_residual-in_err-play_rows.result fault.Memory c.from_residual-in_err-play_rows.ensures.1
    (memory-first text c.args.format c.args.settings.now answered told)

pub returns-in_err-play_rows-clause-bad_settings : goal.returns-in_err-play_rows-clause-bad_settings
returns-in_err-play_rows-clause-bad_settings g c =
    passed_on (λ why. why ≡ fault.BadSettings → settings_of c.args.settings.now ≡ None) c.from_residual-in_err-play_rows.result
    fault.Memory c.from_residual-in_err-play_rows.ensures.1 (λ is. absurd (memory-is-another is))

pub returns-clause-ok : goal.returns-clause-ok
returns-clause-ok g c =
    let settings_rows = c.in_ok-settings_rows.settings_rows.items in
    let answered = g.W.Write.contents in
    let told = g.E.Write.contents in
    let present : c.play_rows.new.book.present ≡ after_rows empty settings_rows = rw c.new-book.ensures.present at c.in_ok-play_rows.ensures.present in
    all-followed (g.R.Read.remaining c.args.reader.now) c.follow_records-followed.result c.args.format c.args.settings.now settings_rows
    (held (answered c.args.writer.now) (answered c.follow_records-followed.new.writer) (told c.args.errors.now)
    (told c.follow_records-followed.new.errors)) c.in_ok-settings_rows.ensures.ok
    (λ text is. c.follow_records-followed.ensures.ok text settings_rows (c.record_reader-records.ensures.start text (rw c.new.ensures is)) present)

pub returns-clause-fault : goal.returns-clause-fault
returns-clause-fault g c =
    let settings_rows = c.in_ok-settings_rows.settings_rows.items in
    let answered = g.W.Write.contents in
    let told = g.E.Write.contents in
    let present : c.play_rows.new.book.present ≡ after_rows empty settings_rows = rw c.new-book.ensures.present at c.in_ok-play_rows.ensures.present in
    fault-followed (g.R.Read.remaining c.args.reader.now) c.follow_records-followed.result c.args.format c.args.settings.now settings_rows
    (held (answered c.args.writer.now) (answered c.follow_records-followed.new.writer) (told c.args.errors.now)
    (told c.follow_records-followed.new.errors)) c.in_ok-settings_rows.ensures.ok
    (λ text is. c.follow_records-followed.ensures.fault text settings_rows (c.record_reader-records.ensures.start text (rw c.new.ensures is)) present)
