use Rattle.std.proofs.Common.{◌≡◌, ◌↔◌, ℕ, drop, length, take}
use Rattle.std.specs.List.{AllByRecursion, AllZip}
use Rattle.std.specs.Prelude.{IsTrue, Some}
use Rattle.smq_capture.specs.Rows.{AllDealt, AllSettle, AreSettledTo, IsSettled, Row, SettlesBefore, SomeEndsIn}
use Rattle.smq_capture.specs.Sessions.{Goes}
use Rattle.smq_capture.proofs.rows.settle_from.Given as goal

abbrev pub invariant-loop-at : goal.invariant-loop-at
invariant-loop-at l = record {
  settles : AllSettle l.side l.initial.direction l.initial.rows.items l.rows.items;
  goes : Goes l.initial.direction l.direction;
  dealt : AllDealt l.side l.initial.direction l.direction (take l.at l.initial.rows.items) (take l.at l.rows.items);
  size : length l.rows.items ≡ length l.initial.rows.items;
  kept : take l.from l.rows.items ≡ take l.from l.initial.rows.items;
  rest : drop l.at l.rows.items ≡ drop l.at l.initial.rows.items;
  so_far : AreSettledTo l.until l.side (take l.at l.initial.rows.items) (take l.at l.rows.items);
  before : (place : ℕ) → l.until ≡ Some place → AllZip (SettlesBefore place) l.initial.rows.items l.rows.items;
  answer : IsTrue l.is_there ↔ SomeEndsIn l.session l.initial.rows.items l.rows.items;
  done : AllByRecursion (λ (row : Row). row.sender ≡ l.side → IsSettled row) (take l.at l.rows.items);
}
