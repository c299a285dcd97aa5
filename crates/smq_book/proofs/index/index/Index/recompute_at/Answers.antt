use Rattle.std.proofs.Common.{subst, sym, ap, ◌∙◌}
use Rattle.smq_book.specs.index.Anew.{stored_in}
use Rattle.smq_book.specs.index.Following.{IsInNoOther}
use Rattle.smq_book.specs.index.Held.{with_listing}
use Rattle.smq_book.proofs.lemmas.index.Following.{fact-follows, fact-idle, follow-still, listing-follows, listing-idle, listing-told, said-by}
use Rattle.smq_book.proofs.index.index.Index.recompute_at.Goals as goal

pub returns-in_ok-set_fact-in-FromClient-clause-anew : goal.returns-in_ok-set_fact-in-FromClient-clause-anew
returns-in_ok-set_fact-in-FromClient-clause-anew c = λ told may.
    let i = c.args.self.now in
    let s = c.args.settings.now in
    let g = i.groups.members in
    let q = c.args.place in
    let facts = c.in_ok-set_fact-in-FromClient.ensures.facts c.args.new told may in
    let notes = c.in_ok-set_fact-in-FromClient.ensures.notes in
    record {
      facts = facts;
      notes = notes ∙ listing-idle s (stored_in i) g i.tally.facts i.tally.notes c.args.new may q c.in-FromClient.is;
      follows = follow-still s c.args.new _ _ c.set_fact.ensures.said facts notes
          (fact-follows s (stored_in i) g i.tally.facts i.tally.notes c.args.new may q c.in-FromClient.is);
    }

pub returns-in_ok-list_receipt-in-FromCentre-clause-anew : goal.returns-in_ok-list_receipt-in-FromCentre-clause-anew
returns-in_ok-list_receipt-in-FromCentre-clause-anew c = λ told may.
    let i = c.args.self.now in
    let s = c.args.settings.now in
    let g = i.groups.members in
    let q = c.args.place in
    let list = listing-told s (stored_in i) g i.tally.facts i.tally.notes c.args.new may q c.in-FromCentre.is c.args.standing told in
    let notes = c.in_ok-list_receipt-in-FromCentre.ensures.notes (λ is. subst (IsInNoOther i.tally.notes q) (sym list) (may.alone q is))
    ∙ ap (with_listing i.tally.notes q) list in
    record {
      facts = c.list_receipt.ensures.facts ∙ fact-idle s (stored_in i) g i.tally.facts i.tally.notes c.args.new may q c.in-FromCentre.is;
      notes = notes;
      follows = follow-still s c.args.new _ _ (said-by i c.list_receipt.new.tally c.list_receipt.ensures.settled) c.list_receipt.ensures.facts notes
          (listing-follows s (stored_in i) g i.tally.facts i.tally.notes c.args.new may q c.in-FromCentre.is);
    }
