use Rattle.smq_present.proofs.lemmas.whole.ListedTables.{shown-stray, shown-several, shown-extra}
use Rattle.smq_present.proofs.laws.whole.tables_list_receipts_by_their_matches.Goals as goal

pub returns-clause-stray : goal.returns-clause-stray
returns-clause-stray c = shown-stray

pub returns-clause-ambiguous : goal.returns-clause-ambiguous
returns-clause-ambiguous c = shown-several

pub returns-clause-extra : goal.returns-clause-extra
returns-clause-extra c = shown-extra
