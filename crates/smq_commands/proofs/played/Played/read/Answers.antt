use Rattle.smq_deal.specs.Texts.{sets_of}
use Rattle.smq_commands.proofs.PlayedLemmas.{all-left, all-set}
use Rattle.smq_commands.proofs.played.Played.read.Goals as goal

pub returns-clause-left : goal.returns-clause-left
returns-clause-left g c =
    all-left (g.R.Read.remaining c.args.reader.now) c.args.settings.now c.in_ok-rows.rows.items
    c.in_ok-played.played.book.present c.play_records.new.self.book.present c.play_records.new.self.refused.items
    (sets_of c.in_ok-played.played.head) (sets_of c.play_records.new.self.head) c.in_ok-rows.ensures.ok
    c.in_ok-played.ensures.present
    (λ text is. c.in_ok-play_records.ensures.ok text (c.record_reader-records.ensures.start text (rw c.new.ensures is))
    c.in_ok-played.ensures.refused)

pub returns-clause-set : goal.returns-clause-set
returns-clause-set g c =
    all-set (g.R.Read.remaining c.args.reader.now) c.args.settings.now c.in_ok-rows.rows.items
    c.in_ok-played.played.book.present c.play_records.new.self.book.present c.play_records.new.self.refused.items
    (sets_of c.in_ok-played.played.head) (sets_of c.play_records.new.self.head) c.in_ok-rows.ensures.ok
    c.in_ok-played.ensures.present c.in_ok-played.ensures.none
    (λ text is. c.in_ok-play_records.ensures.ok text (c.record_reader-records.ensures.start text (rw c.new.ensures is))
    c.in_ok-played.ensures.refused)
