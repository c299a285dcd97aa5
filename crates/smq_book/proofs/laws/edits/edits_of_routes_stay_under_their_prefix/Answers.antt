use Rattle.std.proofs.Common.{refl}
use Rattle.smq_book.proofs.lemmas.edits.RouteEdits.{added-outside, changed-outside}
use Rattle.smq_book.proofs.laws.edits.edits_of_routes_stay_under_their_prefix.Goals as goal

pub returns : goal.returns
returns c = record { added = added-outside; changed = changed-outside; notes = λ s t versions. refl }
