use Rattle.std.proofs.Common.{refl}
use Rattle.smq_deal.proofs.head.Setting.of.Goals.{in-SetForm, in-SetWindow, in-AddRoute+in_ok-route_row-in-AddRoute, in-CorrectRoute+in_ok-route_row-in-CorrectRoute, in-EndRoute+in_ok-end_row-in-EndRoute, in-Advance, in-Append, in-Withdraw}
use Rattle.smq_deal.proofs.head.Setting.of.Goals as goal

pub returns : goal.returns
returns c = elim c.match-edit.branch [
  | in-SetForm w ↦ rw (w.result-is, c.in-Plain.is, w.in-SetForm.is) refl
  | in-SetWindow w ↦ rw (w.result-is, c.in-Plain.is, w.in-SetWindow.is) refl
  | in-AddRoute+in_ok-route_row-in-AddRoute w ↦
      rw (w.result-is, c.in-Plain.is, w.in-AddRoute.is) (_, refl, w.in_ok-route_row-in-AddRoute.ensures)
  | in-CorrectRoute+in_ok-route_row-in-CorrectRoute w ↦
      rw (w.result-is, c.in-Plain.is, w.in-CorrectRoute.is) (_, refl, w.in_ok-route_row-in-CorrectRoute.ensures)
  | in-EndRoute+in_ok-end_row-in-EndRoute w ↦
      rw (w.result-is, c.in-Plain.is, w.in-EndRoute.is) (_, refl, w.in_ok-end_row-in-EndRoute.ensures)
  | in-Advance w ↦ rw (w.result-is, c.in-Plain.is, w.in-Advance.is) refl
  | in-Append w ↦ rw (w.result-is, c.in-Plain.is, w.in-Append.is) refl
  | in-Withdraw w ↦ rw (w.result-is, c.in-Plain.is, w.in-Withdraw.is) refl
]
