use Rattle.smq_route.proofs.EditLaws.{second-alone, first-after, one-set}
use Rattle.smq_route.proofs.laws.order_of_adding_is_idle.Goals as goal

pub returns : goal.returns
returns c = record {
  second_alone = second-alone;
  first_after = first-after;
  same = λ m p q f g r s n o one two. one-set m p q f g r s n o two;
}
