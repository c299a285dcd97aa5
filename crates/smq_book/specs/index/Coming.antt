-- Moves that put messages and delivery receipts in where none stands yet.
use Rattle.std.specs.Prelude.{◌≡◌, ⊤, List, [], ◌∷◌, None}
use Rattle.std.specs.FinMap as fin
use Rattle.smq_present.specs.pairing.Traffic.{TrafficValue}
use Rattle.smq_present.specs.join.Moves.{Move, PutMessage, TakeMessage, PutReceipt, TakeReceipt, PutNote, TakeNote, moved}

-- A message comes where no message stands, and a delivery receipt where no receipt does.
abbrev pub IsNew : TrafficValue → Move → Type 0
IsNew t (PutMessage e) = fin.get t.messages e.0 ≡ None
IsNew t (TakeMessage q) = ⊤
IsNew t (PutReceipt e) = fin.get t.receipts e.0 ≡ None
IsNew t (TakeReceipt q) = ⊤
IsNew t (PutNote note) = ⊤
IsNew t (TakeNote note) = ⊤

-- the same of moves in turn
abbrev pub AreNew : TrafficValue → List Move → Type 0
AreNew t [] = ⊤
AreNew t (move ∷ moves) = IsNew t move × AreNew (moved t move) moves
