use Rattle.std.proofs.Common.{◌++◌, ◌∷◌, [], arith, subst, sym}
use Rattle.smq_engine.specs.Followed.{held}
use Rattle.smq_engine.specs.declared.totals.Totals.{Totals}
use Rattle.smq_engine.specs.within.Steps.{EndsPlay, HasGivenRecords, HasPlayed}
use Rattle.smq_engine.proofs.AnswerLemmas.{passed_on, some_is}
use Rattle.smq_engine.proofs.FollowLemmas.{ends-full, ends-reading, ends-step, played-all, played-more, played-none}
use Rattle.smq_engine.proofs.feed.follow_records.Goals as goal

pub loop-number-init : goal.loop-number-init
loop-number-init g c =
    let none = c.none-totals.ensures in
    let answered = g.W.Write.contents c.args.writer.now in
    let told = g.E.Write.contents c.args.errors.now in
    record {
      few = rw none (record { refused = omega arith; gaps = omega arith; octets = omega arith });
      played = λ text settings_rows given is. subst (λ (totals : Totals). HasPlayed g.R.Read.remaining c.args.reader.now text c.args.format settings_rows
          c.args.book.now.present totals 1 (held answered answered told told)) (sym none)
          (played-none g.R.Read.remaining c.args.reader.now text c.args.format settings_rows c.args.book.now.present answered told given is);
    }

pub returns-in_err-said-clause-fault : goal.returns-in_err-said-clause-fault
returns-in_err-said-clause-fault g c text settings_rows given is =
    let answered = g.W.Write.contents in
    let told = g.E.Write.contents in
    let h = c.loop-number.invariant.played text settings_rows given is in
    passed_on (λ why. EndsPlay why c.args.format settings_rows
    (held (answered c.args.writer.now) (answered c.loop-number.writer) (told c.args.errors.now) (told c.loop-number.errors)) text)
    c.from_residual.result c.in_err-said.field-0.0 c.from_residual.ensures.1
    (ends-reading g.R.Read.remaining c.loop-number.reader text c.args.format settings_rows c.loop-number.book.present c.loop-number.totals
    c.loop-number.number (answered c.args.writer.now) (answered c.loop-number.writer) (told c.args.errors.now) (told c.loop-number.errors)
    c.in_err-said.field-0.0 h (c.in_err-said.ensures.fault text h.records h.given h.numbered))

pub returns-in_err-totals-in-Some-clause-fault : goal.returns-in_err-totals-in-Some-clause-fault
returns-in_err-totals-in-Some-clause-fault g c text settings_rows given is =
    let answered = g.W.Write.contents in
    let told = g.E.Write.contents in
    let h = c.loop-number.invariant.played text settings_rows given is in
    let next = some_is (λ r. HasGivenRecords g.R.Read.remaining c.read_next.new.reader text (h.records ++ r ∷ [])) c.in_ok-said.field-0
    c.in-Some.said c.in-Some.is (c.in_ok-said.ensures.some text h.records h.given) in
    passed_on (λ why. EndsPlay why c.args.format settings_rows
    (held (answered c.args.writer.now) (answered c.obey.new.writer) (told c.args.errors.now) (told c.obey.new.errors)) text)
    c.from_residual-in_err-totals-in-Some.result c.in_err-totals-in-Some.field-0.0 c.from_residual-in_err-totals-in-Some.ensures.1
    (ends-step g.R.Read.remaining c.loop-number.reader c.read_next.new.reader text c.args.format settings_rows c.loop-number.book.present
    c.loop-number.totals c.loop-number.number (answered c.args.writer.now) (answered c.loop-number.writer) (answered c.obey.new.writer)
    (told c.args.errors.now) (told c.loop-number.errors) (told c.obey.new.errors) c.in-Some.said c.in_err-totals-in-Some.field-0.0 h next
    (c.in_err-totals-in-Some.ensures.fault settings_rows h.records h.numbered h.played))

pub returns-in-None-clause-ok : goal.returns-in-None-clause-ok
returns-in-None-clause-ok g c text settings_rows given is =
    let answered = g.W.Write.contents in
    let told = g.E.Write.contents in
    let h = c.loop-number.invariant.played text settings_rows given is in
    played-all g.R.Read.remaining c.loop-number.reader text c.args.format settings_rows c.loop-number.book.present c.loop-number.totals
    c.loop-number.number (answered c.args.writer.now) (answered c.loop-number.writer) (told c.args.errors.now) (told c.loop-number.errors) h
    (c.in_ok-said.ensures.none text h.records h.given c.in-None.is)

pub loop-number-preserved : goal.loop-number-preserved
loop-number-preserved g c =
    let answered = g.W.Write.contents in
    let told = g.E.Write.contents in
    record {
      few = c.in_ok-totals-in-Some.ensures.counted;
      played = λ text settings_rows given is.
          let h = c.loop-number.invariant.played text settings_rows given is in
          let next = some_is (λ r. HasGivenRecords g.R.Read.remaining c.read_next.new.reader text (h.records ++ r ∷ [])) c.in_ok-said.field-0
          c.in-Some.said c.in-Some.is (c.in_ok-said.ensures.some text h.records h.given) in
          played-more g.R.Read.remaining c.loop-number.reader c.read_next.new.reader text c.args.format settings_rows
          c.loop-number.book.present c.obey.new.book.present c.loop-number.totals c.in_ok-totals-in-Some.totals c.loop-number.number
          (answered c.args.writer.now) (answered c.loop-number.writer) (answered c.obey.new.writer)
          (told c.args.errors.now) (told c.loop-number.errors) (told c.obey.new.errors) c.in-Some.said h next
          (c.in_ok-totals-in-Some.ensures.played settings_rows h.records h.numbered h.played)
          (c.in_ok-totals-in-Some.ensures.said settings_rows h.records h.numbered h.played);
    }

pub returns-clause-fault : goal.returns-clause-fault
returns-clause-fault g c text settings_rows given is =
    let answered = g.W.Write.contents in
    let told = g.E.Write.contents in
    ends-full g.R.Read.remaining c.loop-number.reader text c.args.format settings_rows c.loop-number.book.present c.loop-number.totals
    c.loop-number.number (answered c.args.writer.now) (answered c.loop-number.writer) (told c.args.errors.now) (told c.loop-number.errors)
    (c.loop-number.invariant.played text settings_rows given is)
