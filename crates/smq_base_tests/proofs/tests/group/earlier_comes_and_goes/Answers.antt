use Rattle.smq_base_tests.proofs.tests.group.earlier_comes_and_goes.Goals as goal

pub remove_receipt-requires : goal.remove_receipt-requires
remove_receipt-requires c = record { there = c.in_ok-decides.ensures.there }
