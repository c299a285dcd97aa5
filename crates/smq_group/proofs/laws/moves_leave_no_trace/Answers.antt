use Rattle.smq_group.proofs.Lawful.{inserted-removed}
use Rattle.smq_group.proofs.laws.moves_leave_no_trace.Goals as goal

pub returns : goal.returns
returns c = record {
  submits = λ g key place none. λ i. record { submits = inserted-removed g.submits place key none i; receipts = g.receipts };
  receipts = λ g place r none. λ i. record { submits = g.submits; receipts = inserted-removed g.receipts place r none i };
}
