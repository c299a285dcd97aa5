-- What a withdrawal takes out of the traffic: what its session's PDUs say.
use Rattle.std.specs.Prelude.{ℕ, List, ◌++◌, map}
use Rattle.smq_present.specs.declared.present.session.Session.{Session}
use Rattle.smq_present.specs.pairing.Traffic.{session_messages, session_receipts, session_notes}
use Rattle.smq_present.specs.join.Moves.{Move, TakeMessage, TakeReceipt, TakeNote}

-- the messages, the delivery receipts and the notes of a session are taken out
abbrev pub withdrawal_moves : ℕ × Session → List Move
withdrawal_moves e =
    map (λ m. TakeMessage m.0) (session_messages e)
    ++ (map (λ r. TakeReceipt r.0) (session_receipts e) ++ map TakeNote (session_notes e))
