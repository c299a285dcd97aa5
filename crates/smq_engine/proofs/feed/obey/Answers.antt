use Rattle.smq_engine.specs.Followed.{held}
use Rattle.smq_engine.specs.within.Steps.{EndsStep}
use Rattle.smq_engine.proofs.AnswerLemmas.{ends-row, passed_on, played-said_ask, played-said_loss, played-said_row}
use Rattle.smq_engine.proofs.feed.obey.Goals as goal

pub returns-in_err-tell-in-Row-clause-fault : goal.returns-in_err-tell-in-Row-clause-fault
returns-in_err-tell-in-Row-clause-fault g c settings_rows before numbered played =
    let answered = g.W.Write.contents c.args.writer.now in
    let told = g.E.Write.contents in
    passed_on (λ why. EndsStep why c.args.format settings_rows before c.args.said
    (held answered answered (told c.args.errors.now) (told c.tell.new.errors)))
    c.from_residual-in_err-tell-in-Row.result c.in_err-tell-in-Row.field-0.0 c.from_residual-in_err-tell-in-Row.ensures.1
    (ends-row c.args.format settings_rows before c.args.said c.in-Row.row c.args.book.now.present c.args.totals c.args.number
    c.in_ok-refusal-in-Row.refusal answered (told c.args.errors.now) (told c.tell.new.errors) c.in_err-tell-in-Row.field-0.0
    c.in-Row.is numbered played c.in_ok-refusal-in-Row.ensures.0 c.in_err-tell-in-Row.ensures.fault)

pub returns-in_ok-tell-in-Row-clause-played : goal.returns-in_ok-tell-in-Row-clause-played
returns-in_ok-tell-in-Row-clause-played g c settings_rows before numbered played =
    played-said_row settings_rows before c.args.said c.in-Row.row c.args.book.now.present c.play_row.new.book.present c.args.totals
    c.with_row-totals.result c.in_ok-refusal-in-Row.refusal c.in-Row.is c.with_row-totals.ensures played c.in_ok-refusal-in-Row.ensures.0
    c.in_ok-refusal-in-Row.ensures.1

pub returns-in_ok-say-in-Ask-clause-played : goal.returns-in_ok-say-in-Ask-clause-played
returns-in_ok-say-in-Ask-clause-played g c settings_rows before numbered played =
    played-said_ask settings_rows before c.args.said c.in-Ask.question c.args.book.now.present c.args.totals c.in-Ask.is played

pub returns-in-Lost-clause-played : goal.returns-in-Lost-clause-played
returns-in-Lost-clause-played g c settings_rows before numbered played =
    played-said_loss settings_rows before c.args.said c.in-Lost.loss c.args.book.now.present c.args.totals c.with_loss.result c.in-Lost.is
    c.with_loss.ensures played
