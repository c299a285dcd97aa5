use Rattle.smq_book.proofs.lemmas.edits.KeyMoves.{groups-outside, receipt-groups-outside, move-of, key-facts, key-notes}
use Rattle.smq_book.proofs.laws.edits.moves_change_their_key_alone.Goals as goal

pub returns : goal.returns
returns c = record {
  messages = groups-outside;
  receipts = receipt-groups-outside;
  moves = λ s q t u key move before after. move-of s q t u key move before.message after.message before.receipt after.receipt;
  facts = λ s q t u key move before after. key-facts s q t u key move before.message after.message before.receipt after.receipt;
  notes = λ s q t u key move before after same. key-notes s q t u key move before.message after.message before.receipt after.receipt same;
}
