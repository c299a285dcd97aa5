use Rattle.std.proofs.Common.{refl}
use Rattle.smq_group.proofs.Lawful.{inserted-swapped}
use Rattle.smq_group.proofs.laws.order_of_members_is_idle.Goals as goal

pub returns : goal.returns
returns c = record {
  submits = λ g k l p q ne. λ i. record { submits = inserted-swapped g.submits p q k l ne i; receipts = g.receipts };
  receipts = λ g r s p q ne. λ i. record { submits = g.submits; receipts = inserted-swapped g.receipts p q r s ne i };
  sides = λ g key r p q. refl;
}
