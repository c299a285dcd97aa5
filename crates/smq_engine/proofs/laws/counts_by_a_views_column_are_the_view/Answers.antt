use Rattle.smq_engine.proofs.ViewLemmas.{counts-view}
use Rattle.smq_engine.proofs.laws.counts_by_a_views_column_are_the_view.Goals as goal

pub returns : goal.returns
returns c = λ p view value outcome. counts-view view p value outcome
