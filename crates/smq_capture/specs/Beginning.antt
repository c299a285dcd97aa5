-- When a connection begins: its SYN is answered, and the answer had (RFC 9293, 3.5).
use Rattle.std.specs.Prelude.{ℕ}
use Rattle.smq_capture.specs.declared.half_open.Answer.{Answer}
use Rattle.smq_capture.specs.Numbers.{Reaches, number_behind}

-- a number acknowledges a SYN and all or a part of the octets that came with it (RFC 9293, 3.10.7.3: ISS < SEG.ACK =< SND.NXT)
abbrev pub Answers : ℕ → ℕ → ℕ → Type 0
Answers sequence length acknowledged = Reaches (number_behind sequence 1) acknowledged length

-- the end that called goes on from what an answer acknowledged, and acknowledges the answer (RFC 9293, 3.10.7.3)
abbrev pub IsConfirmed : Answer → ℕ → ℕ → Type 0
IsConfirmed answer sequence acknowledged =
    Reaches answer.acknowledged sequence 16777216 × Reaches (number_behind answer.sequence 1) acknowledged 16777216
