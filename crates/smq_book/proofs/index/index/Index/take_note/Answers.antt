use Rattle.std.proofs.Common.{ap, sym, ◌∙◌}
use Rattle.std.specs.FinMap.{remove}
use Rattle.smq_tally.specs.Lists.{listed}
use Rattle.smq_book.specs.index.Held.{Holding}
use Rattle.smq_book.proofs.lemmas.index.Moves.{note-taken}
use Rattle.smq_book.proofs.index.index.Index.take_note.Goals as goal

pub returns-clause-held : goal.returns-clause-held
returns-clause-held c = λ s t of_traffic held.
    let note = listed c.args.list c.args.place in
    λ i. record {
      messages = (held i).messages;
      receipts = (held i).receipts;
      members = (held i).members;
      facts = (c.in_ok-forget.ensures.facts ∙ ap (λ (h : Holding). h.facts) held) i;
      notes = (c.in_ok-forget.ensures.ok ∙ ap (λ (h : Holding). remove h.notes note) held ∙ sym (note-taken s t note of_traffic)) i;
      due = (held i).due;
      ends = (held i).ends;
      numbers = (held i).numbers;
    }
