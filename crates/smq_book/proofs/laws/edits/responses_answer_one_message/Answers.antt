use Rattle.smq_present.specs.present.Kept.{kept_pdus}
use Rattle.smq_book.proofs.lemmas.edits.Answered.{answers-one}
use Rattle.smq_present.proofs.lemmas.pairing.Requests.{kept-ask}
use Rattle.smq_book.proofs.laws.edits.responses_answer_one_message.Goals as goal

pub returns : goal.returns
returns c = λ origin client centre next. answers-one origin (kept_pdus client) centre next (kept-ask client)
