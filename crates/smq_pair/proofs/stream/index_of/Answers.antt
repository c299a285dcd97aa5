use Rattle.std.proofs.Common.{rules}
use Rattle.std.proofs.lemmas.List.Sorted.{answers_always}
use Rattle.std.specs.FinMap.{nat_cmp-IsAntisymmetric}
use Rattle.smq_pair.specs.within.Stream.{Held}
use Rattle.smq_pair.proofs.Held.{search-none}
use Rattle.smq_pair.proofs.stream.index_of.Goals as goal

pub returns-in-Ok-clause-found : goal.returns-in-Ok-clause-found
returns-in-Ok-clause-found c = λ e. nat_cmp-IsAntisymmetric _ _
    (c.in-Ok.ensures.position (λ (e : Held). e.0) (answers_always _ _ _ (λ f a r g called. search rules)) e)

pub returns-in-Err-clause-none : goal.returns-in-Err-clause-none
returns-in-Err-clause-none c = search-none c.args.entries.now c.args.offset c.in-Err.field-0 c.requires
    (c.in-Err.ensures.position (λ (e : Held). e.0) (answers_always _ _ _ (λ f a r g called. search rules)))
