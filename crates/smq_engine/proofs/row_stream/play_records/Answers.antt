use Rattle.std.proofs.Common.{◌++◌, ◌∷◌, []}
use Rattle.smq_load.specs.NextRecord.{HasRead}
use Rattle.smq_engine.specs.declared.runs.Limit.TheVariants.{Unlimited}
use Rattle.smq_engine.specs.IsRun.{TellsRow}
use Rattle.smq_engine.proofs.AnswerLemmas.{passed_on, some_is}
use Rattle.smq_engine.proofs.StreamLemmas.{streamed-all, streamed-more, streamed-none}
use Rattle.smq_engine.proofs.row_stream.play_records.Goals as goal

pub loop-number-init : goal.loop-number-init
loop-number-init g c text given =
    streamed-none g.R.Read.remaining c.args.reader.now text c.args.book.now.present c.new-refused.result.items given
    c.new-refused.ensures.items

pub returns-in_err-row-clause-bad_row : goal.returns-in_err-row-clause-bad_row
returns-in_err-row-clause-bad_row g c text given =
    let h = c.loop-number.invariant text given in
    passed_on (λ why. TellsRow Unlimited why text) c.from_residual.result c.in_err-row.field-0.0 c.from_residual.ensures.1
    (c.in_err-row.ensures.bad_row text h.rows h.read h.numbered)

pub returns-in-None-clause-ok : goal.returns-in-None-clause-ok
returns-in-None-clause-ok g c text given =
    let h = c.loop-number.invariant text given in
    streamed-all g.R.Read.remaining c.loop-number.reader text c.args.book.now.present c.loop-number.book.present
    c.loop-number.refused.items c.loop-number.number h
    (c.in_ok-row.ensures.none text h.rows h.read c.in-None.is)

pub loop-number-preserved : goal.loop-number-preserved
loop-number-preserved g c text given =
    let h = c.loop-number.invariant text given in
    let next = some_is (λ row. HasRead g.R.Read.remaining c.read_next_row.new.reader text (h.rows ++ row ∷ [])) c.in_ok-row.field-0
    c.in-Some.row c.in-Some.is (c.in_ok-row.ensures.some text h.rows h.read) in
    streamed-more g.R.Read.remaining c.loop-number.reader c.read_next_row.new.reader text c.args.book.now.present
    c.loop-number.book.present c.play_next.new.book.present c.loop-number.refused.items c.play_next.new.refused.items
    c.loop-number.number c.in-Some.row h next c.in_ok-play_next-in-Some.ensures.present c.in_ok-play_next-in-Some.ensures.noted
