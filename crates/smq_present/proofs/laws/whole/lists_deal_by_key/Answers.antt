use Rattle.smq_present.proofs.lemmas.whole.ListsDealtByKey.{lengths-dealt, list-kept, places-dealt}
use Rattle.smq_present.proofs.laws.whole.lists_deal_by_key.Goals as goal

pub returns-clause-parts : goal.returns-clause-parts
returns-clause-parts c = λ s t here together list. list-kept s t here together list

pub returns-clause-places : goal.returns-clause-places
returns-clause-places c = λ s t here together list place. places-dealt s t here together list place

pub returns-clause-lengths : goal.returns-clause-lengths
returns-clause-lengths c = λ s t here together list. lengths-dealt s t here together list
