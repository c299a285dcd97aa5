use Rattle.smq_present.proofs.lemmas.join.ListedReceipts.{listed-stray, listed-several, listed-extra}
use Rattle.smq_present.proofs.laws.whole.receipts_are_listed_by_their_matches.Goals as goal

pub returns-clause-stray : goal.returns-clause-stray
returns-clause-stray c = listed-stray

pub returns-clause-ambiguous : goal.returns-clause-ambiguous
returns-clause-ambiguous c = listed-several

pub returns-clause-extra : goal.returns-clause-extra
returns-clause-extra c = listed-extra
