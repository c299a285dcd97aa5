-- The order of states.
use Rattle.std.specs.Prelude.{◌≡◌, ◌↔◌, IsTrue}
use Rattle.std.specs.Ordering.{nat_cmp}
use Rattle.smq_receipt.specs.declared.message_state.MessageState.{MessageState}
use Rattle.smq_receipt.specs.States.{row_of}
use Rattle.smq_receipt.specs.contracts.message_state.MessageStateOrd.TheImpl as state_ord
use Rattle.smq_receipt.specs.contracts.message_state.MessageStatePartialEq.TheImpl as state_eq

-- `cmp` of states is by their numbers, and `==` says whether two are one
pub record MessageStatesAreOrdered : Type 0 where
  pub order : (a b : MessageState) → state_ord.ghosts.cmp a b ≡ nat_cmp (row_of a).number (row_of b).number
  pub same : (a b : MessageState) → IsTrue (state_eq.ghosts.eq a b) ↔ (a ≡ b)
