use Rattle.std.proofs.Common.{◌++◌, ◌∷◌, []}
use Rattle.smq_load.specs.NextRecord.{HasRead}
use Rattle.smq_deal.specs.Texts.{sets_of}
use Rattle.smq_engine.specs.declared.runs.Limit.TheVariants.{Unlimited}
use Rattle.smq_engine.specs.IsRun.{TellsRow}
use Rattle.smq_engine.proofs.AnswerLemmas.{passed_on, some_is}
use Rattle.smq_commands.proofs.PlayedLemmas.{set-all, set-more, set-none}
use Rattle.smq_commands.proofs.played.Played.play_records.Goals as goal

pub loop-number-init : goal.loop-number-init
loop-number-init g c text given none =
    set-none g.R.Read.remaining c.args.reader.now text c.args.self.now.book.present c.args.self.now.refused.items
    (sets_of c.args.self.now.head) given none

pub returns-in_err-row-clause-bad_row : goal.returns-in_err-row-clause-bad_row
returns-in_err-row-clause-bad_row g c text given none =
    let h = (c.loop-number.invariant text given none).played in
    passed_on (λ why. TellsRow Unlimited why text) c.from_residual.result c.in_err-row.field-0.0 c.from_residual.ensures.1
    (c.in_err-row.ensures.bad_row text h.rows h.read h.numbered)

pub returns-in-None-clause-ok : goal.returns-in-None-clause-ok
returns-in-None-clause-ok g c text given none =
    set-all g.R.Read.remaining c.loop-number.reader text c.args.self.now.book.present c.loop-number.self.book.present
    c.loop-number.self.refused.items (sets_of c.args.self.now.head) (sets_of c.loop-number.self.head) c.loop-number.number
    (c.loop-number.invariant text given none)
    (λ rows read. c.in_ok-row.ensures.none text rows read c.in-None.is)

pub loop-number-preserved : goal.loop-number-preserved
loop-number-preserved g c text given none =
    set-more g.R.Read.remaining c.loop-number.reader c.read_next_row.new.reader text c.args.self.now.book.present
    c.loop-number.self.book.present c.play.new.self.book.present c.loop-number.self.refused.items c.play.new.self.refused.items
    (sets_of c.args.self.now.head) (sets_of c.loop-number.self.head) (sets_of c.play.new.self.head)
    c.loop-number.number c.in-Some.row (c.loop-number.invariant text given none)
    (λ rows read. some_is (λ row. HasRead g.R.Read.remaining c.read_next_row.new.reader text (rows ++ row ∷ []))
    c.in_ok-row.field-0 c.in-Some.row c.in-Some.is (c.in_ok-row.ensures.some text rows read))
    c.in_ok-play-in-Some.ensures.present c.in_ok-play-in-Some.ensures.refused c.in_ok-play-in-Some.ensures.sets
