use Rattle.std.proofs.Common.{◌≡◌, Some, ap, sym, ◌∙◌, rules}
use Rattle.smq_group.specs.declared.change.Standing.TheVariants.{Single}
use Rattle.smq_book.specs.index.Held.{decider_held, receipts_in}
use Rattle.smq_book.proofs.lemmas.index.Stored.{stored-at}
use Rattle.smq_book.proofs.index.index.decider_of.Goals as goal

pub returns-in-Some-Single-Some : goal.returns-in-Some-Single-Some
returns-in-Some-Single-Some c =
    let told : c.args.standing ≡ Some (Single (Some c.in-Some-Single-Some.place)) = search rules in
    c.get.ensures ∙ stored-at c.args.receipts.now.content c.in-Some-Single-Some.place
    ∙ ap (decider_held (receipts_in c.args.receipts.now.content)) (sym told)
