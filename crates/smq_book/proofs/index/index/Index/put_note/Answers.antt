use Rattle.std.proofs.Common.{ap, sym, ◌∙◌}
use Rattle.std.specs.FinMap.{insert}
use Rattle.smq_tally.specs.Lists.{listed}
use Rattle.smq_tally.specs.Tally.{TallyValue}
use Rattle.smq_book.specs.index.Held.{Holding}
use Rattle.smq_book.proofs.lemmas.index.Moves.{note-put}
use Rattle.smq_book.proofs.index.index.Index.put_note.Goals as goal

pub returns-clause-held : goal.returns-clause-held
returns-clause-held c = λ s t held.
    let note = listed c.args.list c.args.place in
    λ i. record {
      messages = (held i).messages;
      receipts = (held i).receipts;
      members = (held i).members;
      facts = (ap (λ (v : TallyValue). v.facts) c.in_ok-note.ensures.ok ∙ ap (λ (h : Holding). h.facts) held) i;
      notes = (ap (λ (v : TallyValue). v.notes) c.in_ok-note.ensures.ok
          ∙ ap (λ (h : Holding). insert h.notes note tt) held ∙ sym (note-put s t note)) i;
      due = (held i).due;
      ends = (held i).ends;
      numbers = (held i).numbers;
    }
